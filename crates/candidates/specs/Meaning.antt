-- What the minimax check of `Checks` says of every row and column. Assumes nothing.
use Rattle.std.specs.Prelude.{◌≡◌, false, List, ℕ, ◌<◌, T, Float}
use Rattle.std.specs.Float.{binary64}
use Rattle.std.specs.Float.Ieee.{add, sub, lt}
use Rattle.payoff_order.specs.Order.{finite}
use Rattle.candidate_input.specs.Meaning.{Claimed}
use Rattle.candidate_input.specs.declared.Claim.{Claim}
use Rattle.mixed_strategies.specs.Meaning.{Distribution}
use Rattle.candidates.specs.Checks.{column, row}

-- what makes the minimax check say yes
pub record Minimax (m n : ℕ) (payoffs p1 p2 : List Float) (claim : Claim) : Type 0 where
  pub claimed : Claimed m n payoffs p1 p2 claim
  pub first : Distribution p1 claim.tolerance
  pub second : Distribution p2 claim.tolerance
  pub columns : (j : ℕ) → j < n
      → T (finite (column m n payoffs p1 j)) × (lt (column m n payoffs p1 j) (sub binary64 claim.value claim.tolerance) ≡ false)
  pub rows : (i : ℕ) → i < m
      → T (finite (row n payoffs p2 i)) × (lt (add binary64 claim.value claim.tolerance) (row n payoffs p2 i) ≡ false)
