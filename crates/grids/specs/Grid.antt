-- Whole-number grids, change N1 of the scope: two tables of whole-number payoffs with weights in
-- parts of 1/65,536; their gains in whole numbers; the two-player table with those payoffs; and
-- what it is that weights put nothing on a strategy. Assumes nothing.
use Rattle.std.specs.Prelude.{◌≡◌, true, List, [], ◌∷◌, ◌++◌, ℕ, ◌*◌, ◌<◌, ℤ, length, get_or, Float}
use Rattle.std.specs.Float.{nan}
use Rattle.std.specs.Float.Ieee.{eq}
use Rattle.game.specs.Finite.{below}
use Rattle.game.specs.Game.{Game, choice, Profile}
use Rattle.payoff_tables.specs.Table.{offset, table_game}
use Rattle.sums.specs.Sums.{zero}
use Rattle.candidate_input.specs.Meaning.{Sized}
use Rattle.gains.specs.Gains.{changes}
use Rattle.candidates.specs.Checks.{entry}
use Rattle.whole_numbers.specs.Gains.{GridPayoff, GridWeight, whole_gain}

-- 1 to 64 rows and columns, payoffs that are the whole numbers U1(i,j) and U2(i,j), and weights
-- that are W(i,j)/65,536
pub record Grid (m n : ℕ) (u1 u2 weights : List Float) (U1 U2 : ℕ → ℕ → ℤ) (W : ℕ → ℕ → ℕ) : Type 0 where
  pub size : Sized m n
  pub long_first : length u1 ≡ m * n
  pub long_second : length u2 ≡ m * n
  pub long_weights : length weights ≡ m * n
  pub first : (i j : ℕ) → i < m → j < n → GridPayoff (entry n u1 i j) (U1 i j)
  pub second : (i j : ℕ) → i < m → j < n → GridPayoff (entry n u2 i j) (U2 i j)
  pub weighted : (i j : ℕ) → i < m → j < n → GridWeight (entry n weights i j) (W i j)

-- 65,536 times both players' gains, in whole numbers: player 1 changes rows, player 2 columns
abbrev pub whole_gains : ℕ → ℕ → (ℕ → ℕ → ℤ) → (ℕ → ℕ → ℤ) → (ℕ → ℕ → ℕ) → List ℤ
whole_gains m n U1 U2 W = changes (whole_gain W U1 (below n)) m ++ changes (whole_gain (λ j i. W i j) (λ j i. U2 i j) (below m)) n

-- at each profile the first player's payoff and then the second's, as far as both lists go
abbrev pub paired : List Float → List Float → List Float
paired [] ys = []
paired (x ∷ xs) [] = []
paired (x ∷ xs) (y ∷ ys) = x ∷ y ∷ paired xs ys

-- the two-player table with those payoffs, as a game, whatever the limits of tables are: player 0
-- has the rows and u1, player 1 the columns and u2
abbrev pub two_players : ℕ → ℕ → List Float → List Float → Game
two_players m n u1 u2 = table_game (m ∷ n ∷ []) (paired u1 u2)

-- weights, one for each profile in profile order, put nothing on strategy s of player p: at every
-- profile where p chooses s the weight equals 0.0, as −0.0 does. p is meant to be a player
abbrev pub Unweighted : List ℕ → List Float → ℕ → ℕ → Type 0
Unweighted counts weights p s = (x : List ℕ) → Profile counts x → choice x p ≡ s → eq (get_or weights (offset counts x) nan) zero ≡ true
