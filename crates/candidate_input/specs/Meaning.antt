-- What the tests of `Input` say of every number. Assumes nothing.
use Rattle.std.specs.Prelude.{◌≡◌, false, List, ℕ, ◌*◌, ◌≤◌, ◌<◌, T, length, get_or, Float}
use Rattle.std.specs.Float.{nan}
use Rattle.std.specs.Float.Ieee.{lt}
use Rattle.payoff_order.specs.Order.{finite}
use Rattle.sums.specs.Sums.{zero}
use Rattle.candidate_input.specs.Input.{max_actions}
use Rattle.candidate_input.specs.declared.Claim.{Claim}

-- 1 to 64 rows and 1 to 64 columns
pub record Sized (m n : ℕ) : Type 0 where
  pub rows : 1 ≤ m
  pub few_rows : m ≤ max_actions
  pub columns : 1 ≤ n
  pub few_columns : n ≤ max_actions

-- a list of that length, of finite numbers
pub record Finites (number : ℕ) (xs : List Float) : Type 0 where
  pub long : length xs ≡ number
  pub each : (i : ℕ) → i < length xs → T (finite (get_or xs i nan))

-- no number of a list is below the bound
abbrev pub NoneBelow : Float → List Float → Type 0
NoneBelow bound xs = (i : ℕ) → i < length xs → lt (get_or xs i nan) bound ≡ false

-- finite and not below 0
pub record Tolerable (tolerance : Float) : Type 0 where
  pub number : T (finite tolerance)
  pub not_negative : lt tolerance zero ≡ false

-- two tables and weights of the right sizes and lengths, of finite numbers, and no negative weight
pub record WellFormed (m n : ℕ) (u1 u2 weights : List Float) : Type 0 where
  pub size : Sized m n
  pub first : Finites (m * n) u1
  pub second : Finites (m * n) u2
  pub weighted : Finites (m * n) weights
  pub not_negative : NoneBelow zero weights

-- a table, two vectors and a claim of the right sizes and lengths, of finite numbers, and no
-- negative tolerance
pub record Claimed (m n : ℕ) (payoffs p1 p2 : List Float) (claim : Claim) : Type 0 where
  pub size : Sized m n
  pub table : Finites (m * n) payoffs
  pub first : Finites m p1
  pub second : Finites n p2
  pub value : T (finite claim.value)
  pub tolerance : Tolerable claim.tolerance
