use mathlib.Core.Path.{◌≡◌, ap, ◌∙◌}
use mathlib.Core.List.{List, ◌++◌}
use Prim.Native.Nat.{ℕ}
use native.Mathlib.Omega.{arith}
use lib.Ieee.{nan, binary64, Float, add}
use lib.ListN.{length, get_or, set, take, drop}
use lib.Seq.{length-take-le}
use Rattle.sums.specs.Inner.{added}
use Rattle.sums.proofs.Sums.{added_next, added_head}
use Rattle.sums.proofs.add_terms.Invariants.{terms}
use Rattle.sums.proofs.add_terms.Goals as goal

pub loop-t-preserved : goal.loop-t-preserved
loop-t-preserved c =
    let a = c.args in
    let t = c.loop-t.t in
    let f = terms a.weight a.less a.table.now a.first a.step in
    ap (λ (xs : List Float). set xs t (add binary64 (get_or xs t nan) (f t))) c.loop-t.invariant
    ∙ added_next t f (take a.count a.sums.now) c.loop-t-test.true

pub returns : goal.returns
returns c =
    let a = c.args in
    let f = terms a.weight a.less a.table.now a.first a.step in
    let n : length (take a.count a.sums.now) ≡ a.count = length-take-le a.count a.sums.now c.requires.count_in_bounds in
    let e : c.loop-t.t ≡ a.count = omega (arith, n, c.loop-t.auto.t-end, c.loop-t-test.false) in
    ap (λ (xs : List Float). xs ++ drop a.count a.sums.now) c.loop-t.invariant
    ∙ ap (λ (n : ℕ). added n f (take a.count a.sums.now) ++ drop a.count a.sums.now) e
    ∙ added_head a.count f a.sums.now
