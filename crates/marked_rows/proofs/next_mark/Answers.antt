use mathlib.Core.Path.{◌≡◌, sym, subst}
use mathlib.Core.Bool.{false}
use mathlib.Core.Logic.{⊎_elim}
use Prim.Native.Nat.{◌+◌, ◌≤◌, ◌<◌}
use native.Mathlib.Nat.{le_refl, eq-or-lt_of_le}
use native.Mathlib.Omega.{arith}
use lib.Dec.{T}
use lib.ListN.{get_or}
use Rattle.marked_rows.proofs.next_mark.Goals as goal

pub loop-s-init : goal.loop-s-init
loop-s-init c = λ u a b. absurd (omega arith)

pub returns-then-marks-place : goal.returns-then-marks-place
returns-then-marks-place c =
    let l = c.loop-s in
    record { least = omega arith; most = omega arith; is = λ _. subst T (sym c.if-marks-place.true) tt; none_before = l.invariant }

pub loop-s-preserved : goal.loop-s-preserved
loop-s-preserved c =
    let l = c.loop-s in
    λ u a b.
    ⊎_elim (λ (e : u ≡ l.s). subst (λ n. T (get_or c.args.marks.now (c.args.place + n) false) → ⊥) (sym e) (subst T c.if-marks-place.false)) (λ (k : u < l.s). l.invariant u a k)
    (eq-or-lt_of_le (let k : u ≤ l.s = omega arith in k))

pub returns : goal.returns
returns c =
    let l = c.loop-s in
    record { least = c.requires.from_le_count; most = le_refl _; is = λ k. absurd (omega arith); none_before = λ u a b. l.invariant u a (omega arith) }
