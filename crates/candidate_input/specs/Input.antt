-- Document 01, "Candidate checks": what is handed in. Tables and weights are flat by rows, of m
-- rows and n columns. Assumes nothing.
use Rattle.std.specs.Prelude.{Bool, not, ◌&&◌, List, ℕ, ◌*◌, leb, eqb, length, Float}
use Rattle.std.specs.Float.Ieee.{lt}
use Rattle.game.specs.Finite.{all}
use Rattle.payoff_order.specs.Order.{finite}
use Rattle.sums.specs.Sums.{zero}
use Rattle.candidate_input.specs.declared.Claim.{Claim}

-- the most rows and the most columns, a limit of the candidate checks' own
abbrev pub max_actions : ℕ
max_actions = 64

-- 1 to 64 rows and 1 to 64 columns
abbrev pub sized : ℕ → ℕ → Bool
sized m n = leb 1 m && leb m max_actions && leb 1 n && leb n max_actions

-- finite and not below 0
abbrev pub tolerable : Float → Bool
tolerable tolerance = finite tolerance && not (lt tolerance zero)

module _ (m n : ℕ) (u1 u2 weights : List Float) where
  -- no size zero or over 64, no length other than m × n, no non-finite number and no negative
  -- weight
  unfoldable pub well_formed : Bool
  well_formed =
      sized m n
      && eqb (length u1) (m * n)
      && eqb (length u2) (m * n)
      && eqb (length weights) (m * n)
      && all finite u1
      && all finite u2
      && all finite weights
      && all (λ w. not (lt w zero)) weights

module _ (m n : ℕ) (payoffs p1 p2 : List Float) (claim : Claim) where
  -- right sizes and lengths, finite numbers, and no negative tolerance
  unfoldable pub claimed : Bool
  claimed =
      sized m n
      && eqb (length payoffs) (m * n)
      && eqb (length p1) m
      && eqb (length p2) n
      && all finite payoffs
      && all finite p1
      && all finite p2
      && finite claim.value
      && tolerable claim.tolerance
