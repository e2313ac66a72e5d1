use mathlib.Core.Path.{◌≡◌, sym, ◌∙◌, subst}
use mathlib.Core.Bool.{Bool, false}
use mathlib.Core.List.{List}
use mathlib.Core.Logic.{⊎_elim}
use Prim.Native.Nat.{ℕ, ◌+◌, ◌*◌, ◌≤◌, ◌<◌}
use native.Mathlib.Nat.{eq-or-lt_of_le}
use native.Mathlib.Omega.{arith}
use lib.Dec.{T}
use lib.ListN.{get_or}
use Rattle.game.proofs.Finite.{test_true, test_false}
use Rattle.payoff_tables.specs.Limits.{max_strategies, max_marks}
use Rattle.marks.specs.Marks.{marked}
use Rattle.marks.proofs.Marks.{mark_at, mark_inside}
use Rattle.survivors.proofs.Foreign.{marked_from_law}
use Rattle.survivors.proofs.marked_from.Goals as goal
use Rattle.survivors.proofs.marked_from.Goals.{In-loop-s}

-- the place that is read
module _ (c : In-loop-s) where
  abbrev marks : List Bool
  marks = c.args.marks.now

  abbrev player : ℕ
  player = c.args.player

  inside : player * max_strategies + c.loop-s.s < max_marks
  inside = mark_inside player c.loop-s.s c.requires.player_lt_max_players c.loop-s-test.true

  read : marked marks player c.loop-s.s ≡ get_or marks (player * max_strategies + c.loop-s.s) false
  read = mark_at marks player c.loop-s.s c.loop-s-test.true

pub overflow_mul-place : goal.overflow_mul-place
overflow_mul-place c = omega (arith, c.requires.player_lt_max_players)

pub loop-s-init : goal.loop-s-init
loop-s-init c = λ t h k. absurd (omega arith)

pub overflow_add-place : goal.overflow_add-place
overflow_add-place c = omega (arith, inside (goal.at.overflow_add-place c).In-loop-s)

pub bounds-marks-place : goal.bounds-marks-place
bounds-marks-place c = rw c.requires.marks_len (inside (goal.at.bounds-marks-place c).In-loop-s)

pub returns-then-marks-place : goal.returns-then-marks-place
returns-then-marks-place c =
    let l = c in
    sym (test_true _ ((marked_from_law (marked (marks (goal.at.returns-then-marks-place l).In-loop-s)) (player (goal.at.returns-then-marks-place l).In-loop-s) l.args.from).1
    (l.loop-s.s, l.loop-s.auto.s, l.loop-s-test.true, subst T (sym (read (goal.at.returns-then-marks-place l).In-loop-s ∙ c.if-marks-place.true)) tt)))

pub loop-s-preserved : goal.loop-s-preserved
loop-s-preserved c =
    let l = c in
    let i = l.loop-s.invariant in
    λ t h k m.
    ⊎_elim (λ (e : t ≡ l.loop-s.s). subst T (read (goal.at.loop-s-preserved l).In-loop-s ∙ c.if-marks-place.false) (rw e at m)) (λ (b : t < l.loop-s.s). i t h b m)
    (eq-or-lt_of_le (let q : t ≤ l.loop-s.s = omega arith in q))

pub returns : goal.returns
returns c =
    let s = c.args in
    sym (test_false _ (λ h.
    let (t, a, b, m) = (marked_from_law (marked s.marks.now) s.player s.from).0 h in
    c.loop-s.invariant t a (omega (arith, b, c.loop-s-test)) m))
