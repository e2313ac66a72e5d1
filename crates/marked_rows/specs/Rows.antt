-- The rows that a strategy is tested in: the profiles in which the player chooses 0 and every other choice is marked, by their offsets, and
-- what it is to go on to the next mark and to the next row. Assumes nothing.
use Rattle.std.specs.Prelude.{◌≡◌, Bool, false, List, [], ◌≢◌, ℕ, ◌+◌, ◌≤◌, ◌<◌, T, length, get_or}
use Rattle.game.specs.Finite.{product}
use Rattle.game.specs.Game.{choice, profiles, Marks}
use Rattle.payoff_tables.specs.Limits.{max_players}

-- r is the first of the strategies a to n - 1 that has a mark among those that start at a place, or n where there is none
pub record NextMark (marks : List Bool) (place a n r : ℕ) : Type 0 where
  pub least : a ≤ r
  pub most : r ≤ n
  pub is : r < n → T (get_or marks (place + r) false)
  pub none_before : (t : ℕ) → a ≤ t → t < r → T (get_or marks (place + t) false) → ⊥

-- `choices` keeps what each player from q on, but p, chooses in the k-th profile
pub record Kept (cs : List ℕ) (p q : ℕ) (choices : List ℕ) (k : ℕ) : Type 0 where
  pub full : length choices ≡ max_players
  pub each : (i : ℕ) → q ≤ i → i < length cs → i ≢ p → get_or choices i 0 ≡ choice (get_or (profiles cs) k []) i

module _ (cs : List ℕ) (m : Marks) (p : ℕ) where
  -- the choices of all but p in the k-th profile are marked
  abbrev pub Seen : ℕ → Type 0
  Seen k = (q : ℕ) → q < length cs → q ≢ p → T (m q (choice (get_or (profiles cs) k []) q))

  -- and p chooses 0 in it
  pub record MarkedRow (k : ℕ) : Type 0 where
    pub inside : k < product cs
    pub own : choice (get_or (profiles cs) k []) p ≡ 0
    pub seen : Seen k

  -- r is the first such offset from a on, or the number of profiles where there is none
  pub record NextRow (a r : ℕ) : Type 0 where
    pub least : a ≤ r
    pub most : r ≤ product cs
    pub is : r < product cs → MarkedRow r
    pub none_before : (k : ℕ) → a ≤ k → k < r → MarkedRow k → ⊥
