use mathlib.Core.Path.{◌≡◌, sym, ap, ◌∙◌}
use Prim.Native.Nat.{ℕ}
use mathlib.Core.Bool.{Bool, not, ◌&&◌}
use native.Mathlib.Omega.{arith}
use lib.Ieee.{Float, nan, lt}
use lib.ListN.{length, take, get_or}
use lib.Seq.{length-take-le, get_or-take}
use Rattle.game.specs.Finite.{all, below}
use Rattle.payoff_order.proofs.All.{all_below}
use Rattle.mixed_strategies.specs.Inner.{between}
use Rattle.mixed_strategies.proofs.all_between.Goals as goal

pub loop-x-preserved : goal.loop-x-preserved
loop-x-preserved c =
    let a = c.args in
    let i = c.loop-x.x-index in
    let x = get_or (take a.count a.values.now) i nan in
    let n : length (take a.count a.values.now) ≡ a.count = length-take-le a.count a.values.now c.requires in
    let same : x ≡ get_or a.values.now i nan = get_or-take a.count a.values.now i nan (omega (arith, n, c.loop-x-test.true)) in
    ap (λ (b : Bool). c.loop-x.ok && (b && not (lt x a.low) && not (lt a.high x))) c.is_finite.ensures
    ∙ ap (λ (b : Bool). b && between a.low a.high x) c.loop-x.invariant
    ∙ ap (λ (y : Float). all (λ s. between a.low a.high (get_or a.values.now s nan)) (below i) && between a.low a.high y) same
    ∙ sym (all_below (λ s. between a.low a.high (get_or a.values.now s nan)) i)

pub returns : goal.returns
returns c =
    let a = c.args in
    let n : length (take a.count a.values.now) ≡ a.count = length-take-le a.count a.values.now c.requires in
    let e : c.loop-x.x-index ≡ a.count = omega (arith, n, c.loop-x.auto.x-index-end, c.loop-x-test.false) in
    c.loop-x.invariant ∙ ap (λ (n : ℕ). all (λ s. between a.low a.high (get_or a.values.now s nan)) (below n)) e
