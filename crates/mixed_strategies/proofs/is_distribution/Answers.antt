-- `mixed_strategies::is_distribution` meets its contract: the tests are those of `distribution`.
-- Assumes nothing.
use mathlib.Core.Path.{◌≡◌, sym, ap₂, ◌∙◌}
use mathlib.Core.Bool.{Bool, true, false, not, ◌&&◌}
use mathlib.Core.List.{List}
use lib.Ieee.{Float, neg, lt}
use Rattle.game.specs.Finite.{all}
use Rattle.payoff_order.specs.Order.{finite}
use Rattle.candidate_input.specs.Input.{tolerable}
use Rattle.mixed_strategies.specs.Distribution.{distribution}
use Rattle.mixed_strategies.proofs.is_distribution.Goals as goal
use Rattle.mixed_strategies.proofs.is_distribution.Goals.{After-is_tolerable}

module _ (c : After-is_tolerable) where
  abbrev values : List Float
  values = c.args.values.now

  abbrev tolerance : Float
  tolerance = c.args.tolerance

  -- the first test, of the numbers
  numbers : (all finite values && tolerable tolerance) ≡ (c.all_finite.result && c.is_tolerable.result)
  numbers = sym (ap₂ (λ (a b : Bool). a && b) c.all_finite.ensures c.is_tolerable.ensures)

  abbrev not_low : Bool
  not_low = all (λ x. not (lt x (neg tolerance))) values

pub returns-then-not-all_finite-is_tolerable : goal.returns-then-not-all_finite-is_tolerable
unfolding distribution
returns-then-not-all_finite-is_tolerable c =
    let k = c in
    let e : (all finite (values (goal.at.returns-then-not-all_finite-is_tolerable k).After-is_tolerable) && tolerable (tolerance (goal.at.returns-then-not-all_finite-is_tolerable k).After-is_tolerable)) ≡ false = numbers (goal.at.returns-then-not-all_finite-is_tolerable k).After-is_tolerable ∙ c.if-not-all_finite-is_tolerable.true in
    rw e

pub returns-then-not-none_below : goal.returns-then-not-none_below
unfolding distribution
returns-then-not-none_below c =
    let k = c in
    let e : (all finite (values (goal.at.returns-then-not-none_below k).After-is_tolerable) && tolerable (tolerance (goal.at.returns-then-not-none_below k).After-is_tolerable)) ≡ true = numbers (goal.at.returns-then-not-none_below k).After-is_tolerable ∙ c.if-not-all_finite-is_tolerable.false in
    let f : not_low (goal.at.returns-then-not-none_below k).After-is_tolerable ≡ false = sym c.none_below.ensures ∙ c.if-not-none_below.true in
    rw (e, f)

pub returns : goal.returns
unfolding distribution
returns c =
    let k = c in
    let e : (all finite (values (goal.at.returns k).After-is_tolerable) && tolerable (tolerance (goal.at.returns k).After-is_tolerable)) ≡ true = numbers (goal.at.returns k).After-is_tolerable ∙ c.if-not-all_finite-is_tolerable.false in
    let f : not_low (goal.at.returns k).After-is_tolerable ≡ true = sym c.none_below.ensures ∙ c.if-not-none_below.false in
    c.sums_to_one.ensures ∙ rw (e, f)
