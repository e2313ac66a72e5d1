use mathlib.Core.Path.{◌≡◌, sym, ap, ◌∙◌, subst}
use mathlib.Core.List.{List}
use Prim.Native.Nat.{ℕ, ◌+◌, ◌*◌, ◌<◌}
use native.Mathlib.Omega.{arith}
use lib.Ieee.{Float, nan, binary64, sub, mul}
use lib.ListN.{length, take, get_or}
use lib.Seq.{length-take-le, get_or-take}
use Rattle.game.specs.Finite.{below}
use Rattle.game.proofs.Finite.{below_mem}
use Rattle.payoff_order.specs.Order.{finite}
use Rattle.payoff_order.proofs.All.{all_at, all_cong}
use Rattle.sums.specs.Sums.{zero, sum_of_products}
use Rattle.sums.specs.Inner.{strided}
use Rattle.sums.proofs.Sums.{added_cong, SideBySide, side_start, side_below}
use Rattle.sums.proofs.Exact.{less_zero}
use Rattle.candidate_input.specs.Input.{max_actions}
use Rattle.mixed_strategies.specs.Inner.{between}
use Rattle.mixed_strategies.proofs.expectations_between.Goals as goal
use Rattle.mixed_strategies.proofs.expectations_between.Goals.{In-loop-o}

-- the payoffs of every own choice against the others' choice at hand lie within the table
inside : (c : In-loop-o) →
    let a = c.args in (t : ℕ) → t < a.count → t * a.own + c.loop-o.o * a.other < length a.payoffs.now
inside c t h =
    let a = c.args in
    let n : length (take a.others a.vector.now) ≡ a.others = length-take-le a.others a.vector.now c.requires.others_in_bounds in
    c.requires.spans t c.loop-o.o h (omega (arith, n, c.loop-o-test.true))

pub loop-o-init : goal.loop-o-init
loop-o-init c =
    let a = c.args in
    side_start max_actions a.count c.requires.count_nonzero.1 (λ i. get_or a.vector.now i nan) (strided a.payoffs.now a.own a.other)

pub add_terms-requires : goal.add_terms-requires
add_terms-requires c = record { count_in_bounds = omega (arith, c.loop-o.invariant.0, c.requires.count_nonzero.1); by_index = inside (goal.at.add_terms-requires c).In-loop-o }

pub loop-o-preserved : goal.loop-o-preserved
loop-o-preserved c =
    let k = c in
    let a = c.args in
    let l = c.loop-o in
    let v : ℕ → Float = λ i. get_or a.vector.now i nan in
    let b = strided a.payoffs.now a.own a.other in
    let place : ℕ → ℕ = λ t. t * a.own + l.o * a.other in
    let n : length (take a.others a.vector.now) ≡ a.others = length-take-le a.others a.vector.now c.requires.others_in_bounds in
    let share : get_or (take a.others a.vector.now) l.o nan ≡ v l.o = get_or-take a.others a.vector.now l.o nan (omega (arith, n, c.loop-o-test.true)) in
    subst (λ (xs : List Float). SideBySide max_actions a.count v b (below (l.o + 1)) xs)
    (sym
    (c.add_terms.ensures
    ∙ added_cong a.count _ (λ t. mul binary64 (v l.o) (b t l.o)) l.sums
    (λ t h.
    ap (λ (w : Float). mul binary64 w (sub binary64 (b t l.o) zero)) share
    ∙ ap (mul binary64 (v l.o)) (less_zero (b t l.o) (c.type_inv.payoffs (place t)) (all_at finite nan a.payoffs.now (place t) c.requires.payoffs_value (inside (goal.at.loop-o-preserved k).In-loop-o t h))))))
    (side_below max_actions a.count c.requires.count_nonzero.1 v b l.o l.sums l.invariant)

pub returns : goal.returns
returns c =
    let l = c.loop-o in
    let a = c.args in
    let v : ℕ → Float = λ i. get_or a.vector.now i nan in
    let b = strided a.payoffs.now a.own a.other in
    let n : length (take a.others a.vector.now) ≡ a.others = length-take-le a.others a.vector.now c.requires.others_in_bounds in
    let e : l.o ≡ a.others = omega (arith, n, l.auto.o-end, c.loop-o-test.false) in
    c.all_between.ensures
    ∙ all_cong (λ t. between a.low a.high (get_or l.sums t nan)) (λ t. between a.low a.high (sum_of_products v (b t) (below a.others))) (below a.count)
    (λ t k.
    ap (between a.low a.high)
    (l.invariant.1 t ((below_mem a.count t).0 k) ∙ ap (λ (n : ℕ). sum_of_products v (b t) (below n)) e))
