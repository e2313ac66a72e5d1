-- Change N3 of the scope: a mark for each cell, whether the profile's choice is a best response of that player. A mark is a byte, 1 or 0, and
-- stands where the cell does. Assumes nothing.
use Rattle.std.specs.Prelude.{Bool, not, ℕ, ◌+◌, ◌*◌, eqb, length, get_or}
use mathlib.Core.List.{List, map, flat_map}
use Rattle.game.specs.Finite.{all, below, filter}
use Rattle.game.specs.Game.{Game, players, choice, profiles, Marks}
use Rattle.game.specs.Solution.{best_response}
use Rattle.refusal.specs.Told.{byte_of}
use Rattle.payoff_tables.specs.Table.{offset}

module _ (g : Game) (m : Marks) where
  -- player p's choice in x is a best response to the others'
  unfoldable pub settled : List ℕ → ℕ → Bool
  settled x p = best_response g m p x (choice x p)

  -- the marks of one profile, in player order
  unfoldable pub profile_marks : List ℕ → List ℕ
  profile_marks x = map (λ p. byte_of (settled x p)) (below (players g))

  -- the marks of all profiles, in profile order
  unfoldable pub response_marks : List ℕ
  response_marks = flat_map profile_marks (profiles g.counts)

-- how many bytes are 1
unfoldable pub ones : List ℕ → ℕ
ones bs = length (filter (λ b. eqb b 1) bs)

-- ---- profiles by their marks

-- none of the n marks from `at` on is 0
abbrev pub no_zero : List ℕ → ℕ → ℕ → Bool
no_zero marks at n = all (λ i. not (eqb (get_or marks (at + i) 0) 0)) (below n)

-- none of the P marks of the profile x is 0: they stand where its cells do
abbrev pub all_marked : List ℕ → List ℕ → List ℕ → Bool
all_marked counts marks x = no_zero marks (offset counts x * length counts) (length counts)

-- the profiles of which none of the marks is 0, in profile order
unfoldable pub marked_profiles : List ℕ → List ℕ → List (List ℕ)
marked_profiles counts marks = filter (all_marked counts marks) (profiles counts)
