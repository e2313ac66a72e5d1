-- Document 01, "Candidate checks". Tables and weights are flat by rows, of m rows and n columns.
-- Assumes nothing.
use Rattle.std.specs.Prelude.{Bool, not, ◌&&◌, List, ◌++◌, ℕ, ◌+◌, ◌*◌, get_or, Float}
use Rattle.std.specs.Float.{nan, binary64}
use Rattle.std.specs.Float.Ieee.{add, sub, lt}
use Rattle.game.specs.Finite.{all, below}
use Rattle.payoff_order.specs.Order.{finite}
use Rattle.sums.specs.Sums.{sum_of_products}
use Rattle.candidate_input.specs.Input.{well_formed, tolerable, claimed}
use Rattle.candidate_input.specs.declared.Claim.{Claim}
use Rattle.gains.specs.Gains.{gains_of, answer_of}
use Rattle.mixed_strategies.specs.Distribution.{distribution}

-- the number of a flat table in row i and column j
abbrev pub entry : ℕ → List Float → ℕ → ℕ → Float
entry n table i j = get_or table (i * n + j) nan

-- ---- the gain

module _ (m n : ℕ) (u1 u2 weights : List Float) where
  -- both players' gains: player 1 changes rows, player 2 columns
  unfoldable pub gains : List Float
  gains =
      gains_of (λ i j. entry n weights i j) (λ i j. entry n u1 i j) (below n) m
      ++ gains_of (λ j i. entry n weights i j) (λ j i. entry n u2 i j) (below m) n

  -- the answer of the correlated check
  unfoldable pub incentives : Float
  incentives = answer_of (well_formed m n u1 u2 weights) gains

-- ---- the verdict, document 01's term

-- yes exactly when the tolerance is finite and not below 0, and the answer above is not over it
unfoldable pub verdict_of : ℕ → ℕ → List Float → List Float → List Float → Float → Bool
verdict_of m n u1 u2 weights tolerance = tolerable tolerance && not (lt tolerance (incentives m n u1 u2 weights))

-- ---- the minimax check

-- the expectation of column j, under player 1's vector
abbrev pub column : ℕ → ℕ → List Float → List Float → ℕ → Float
column m n payoffs p1 j = sum_of_products (λ i. get_or p1 i nan) (λ i. entry n payoffs i j) (below m)

-- the expectation of row i, under player 2's vector
abbrev pub row : ℕ → List Float → List Float → ℕ → Float
row n payoffs p2 i = sum_of_products (λ j. get_or p2 j nan) (λ j. entry n payoffs i j) (below n)

module _ (m n : ℕ) (payoffs p1 p2 : List Float) (claim : Claim) where
  -- column j's expectation is finite and not below value − tolerance
  abbrev pub column_holds : ℕ → Bool
  column_holds j = finite (column m n payoffs p1 j) && not (lt (column m n payoffs p1 j) (sub binary64 claim.value claim.tolerance))

  -- row i's expectation is finite and not above value + tolerance
  abbrev pub row_holds : ℕ → Bool
  row_holds i = finite (row n payoffs p2 i) && not (lt (add binary64 claim.value claim.tolerance) (row n payoffs p2 i))

  -- no in each of document 01's cases, else yes
  unfoldable pub minimax : Bool
  minimax =
      claimed m n payoffs p1 p2 claim
      && distribution p1 claim.tolerance
      && distribution p2 claim.tolerance
      && all column_holds (below n)
      && all row_holds (below m)
