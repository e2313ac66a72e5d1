-- What the refusals of a table rule out, in quantifiers, and what a slice of payoffs holds. Assumes nothing.
use Rattle.std.specs.Prelude.{◌≡◌, List, ℕ, ◌<◌, ◌≤◌, T, length, get_or, Float}
use Rattle.std.specs.Float.{nan, binary64}
use Rattle.std.specs.Float.Ieee.{fits}
use Rattle.payoff_order.specs.Order.{finite}
use Rattle.payoff_tables.specs.Limits.{max_players, max_strategies, max_cells}
use Rattle.payoff_tables.specs.Table.{cells}

-- counts with none of refusals 1 to 5
pub record Shape (counts : List ℕ) : Type 0 where
  pub some : 0 < length counts
  pub few : length counts ≤ max_players
  pub low : (p : ℕ) → p < length counts → 0 < get_or counts p 0
  pub high : (p : ℕ) → p < length counts → get_or counts p 0 ≤ max_strategies
  pub room : cells counts ≤ max_cells

-- every payoff is finite
abbrev pub Finites : List Float → Type 0
Finites payoffs = (i : ℕ) → i < length payoffs → T (finite (get_or payoffs i nan))

-- each payoff is an f64, as the elements of a slice of payoffs are
abbrev pub Doubles : List Float → Type 0
Doubles payoffs = (i : ℕ) → T (fits binary64 (get_or payoffs i nan))

-- a table with none of refusals 1 to 7
pub record Table (counts : List ℕ) (payoffs : List Float) : Type 0 where
  pub shape : Shape counts
  pub full : length payoffs ≡ cells counts
  pub finites : Finites payoffs
