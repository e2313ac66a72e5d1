-- What stands in an output before an entry. Assumes nothing.
use Rattle.std.specs.Prelude.{◌≡◌, List, [], ℕ, ◌-◌, ◌≤◌, ◌<◌, length, get_or, take, drop}
use Rattle.game.specs.Game.{profiles}

-- The P choices before `at` are those of the profile before the k-th.
pub record Before (counts : List ℕ) (k : ℕ) (choices : List ℕ) (at : ℕ) : Type 0 where
  pub later : 0 < k
  pub room : length counts ≤ at
  pub stands : take (length counts) (drop (at - length counts) choices) ≡ get_or (profiles counts) (k - 1) []
