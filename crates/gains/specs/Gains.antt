-- Document 01, "Candidate checks": the gains of a player who changes one strategy for another, and
-- the greatest. Assumes nothing.
use Rattle.std.specs.Prelude.{Bool, false, cond, not, ◌&&◌, ℕ, eqb, Float}
use mathlib.Core.List.{List, [], ◌∷◌, map, flat_map}
use Rattle.std.specs.Float.{inf, binary64}
use Rattle.std.specs.Float.Ieee.{sub, lt}
use Rattle.game.specs.Finite.{all, below, filter}
use Rattle.payoff_order.specs.Order.{finite}
use Rattle.sums.specs.Sums.{zero, sum_of_products}

module _ {A : Type 0} (f : ℕ → ℕ → A) (count : ℕ) where
  -- f(s)(t) for each t ≠ s in place of s, t ascending
  abbrev pub changes_from : ℕ → List A
  changes_from s = map (f s) (filter (λ t. not (eqb t s)) (below count))

  -- the same for every s, s ascending
  abbrev pub changes : List A
  changes = flat_map changes_from (below count)

module _ {I : Type 0} (weight payoff : ℕ → I → Float) (others : List I) where
  -- what a player gains by t in place of s: over the others' choices in their order, the weight of
  -- s times (payoff of t − payoff of s)
  abbrev pub gain : ℕ → ℕ → Float
  gain s t = sum_of_products (weight s) (λ o. sub binary64 (payoff t o) (payoff s o)) others

  -- the gains by each t ≠ s in place of s
  abbrev pub gains_from : ℕ → ℕ → List Float
  gains_from count s = changes_from gain count s

  -- the gains of a player with `count` strategies
  abbrev pub gains_of : ℕ → List Float
  gains_of count = changes gain count

module _ {A : Type 0} (less : A → A → Bool) where
  -- the greatest of a list and b, by a test of less; of equals the first
  abbrev pub greatest_from : A → List A → A
  greatest_from b [] = b
  greatest_from b (x ∷ xs) = greatest_from (cond (less b x) x b) xs

-- the greatest of a list, or +0.0 when none is above 0
abbrev pub greatest : List Float → Float
greatest = greatest_from lt zero

-- infinity for what is not well formed and for a gain that isn't finite, else the greatest gain, or
-- +0.0 when none is above 0
unfoldable pub answer_of : Bool → List Float → Float
answer_of formed gs = cond (formed && all finite gs) (greatest gs) (inf false)
