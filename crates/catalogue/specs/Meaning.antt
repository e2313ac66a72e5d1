-- What the definitions mean, in quantifiers. Assumes nothing.
use Rattle.std.specs.Prelude.{◌≡◌, List, [], ◌∷◌, ◌≢◌, ℕ, ◌/◌, ◌%◌, ◌^◌, ◌<◌, T, ℤ, length, get_or, Float}
use Rattle.std.proofs.Math.Option.{none}
use Rattle.std.specs.Int.Signed.{lt_z}
use Rattle.game.specs.Finite.{filter}
use Rattle.game.specs.Game.{Game, Profile, profiles}
use Rattle.payoff_order.specs.Order.{key as orderKey}
use Rattle.payoff_tables.specs.Table.{payoff_at}
use Rattle.payoff_tables.specs.Checks.{table_refusal}
use Rattle.bimatrix.specs.declared.Bimatrix.{Bimatrix}
use Rattle.bimatrix.specs.Matrices.{bimatrix}
use Rattle.bimatrix.specs.Keys.{ranks, strictly_ranked, least_key}
use Rattle.catalogue.specs.Answers.{two_by_two}

-- k is the least key of a strictly ranked table
abbrev pub LeastKey : ℕ → Type 0
LeastKey k = (b : Bimatrix) × T (strictly_ranked b) × (least_key (ranks b) ≡ k)

-- a strictly ranked 2 × 2 game
abbrev pub Strict : Game → Type 0
Strict g = T (two_by_two g.counts) × T (strictly_ranked (bimatrix g))

-- k stands at place n of a list of keys
abbrev pub Stands : List ℕ → ℕ → ℕ → Type 0
Stands ks k n = (n < length ks) × (get_or ks n 0 ≡ k)

-- the bimatrix whose eight numbers, player 0's first, are the base-4 digits of k
unfoldable pub key_digits : ℕ → Bimatrix
key_digits k =
    record {
      first = record { at00 = k / 4 ^ 7 % 4; at01 = k / 4 ^ 6 % 4; at10 = k / 4 ^ 5 % 4; at11 = k / 4 ^ 4 % 4 };
      second = record { at00 = k / 4 ^ 3 % 4; at01 = k / 4 ^ 2 % 4; at10 = k / 4 % 4; at11 = k % 4 };
    }

-- ---- by order keys

-- at how many of the four profiles of a 2 × 2 table player p's payoff has a lesser order key than at x
abbrev pub key_rank : List Float → ℕ → List ℕ → ℕ
key_rank payoffs p x =
    let key_at : List ℕ → ℤ = λ y. orderKey (payoff_at (2 ∷ 2 ∷ []) payoffs p y) in
    length (filter (λ y. lt_z (key_at y) (key_at x)) (profiles (2 ∷ 2 ∷ [])))

module _ (counts : List ℕ) (payoffs : List Float) where
  -- a player's payoffs at different profiles have different order keys
  abbrev pub DifferentKeys : Type 0
  DifferentKeys = (p : ℕ) (x y : List ℕ) → p < 2 → Profile counts x → Profile counts y → x ≢ y
      → orderKey (payoff_at counts payoffs p x) ≢ orderKey (payoff_at counts payoffs p y)

  -- a strictly ranked table: none of refusals 1 to 7 applies, there are two players with 2 strategies each, and each player's four
  -- payoffs have four different order keys
  pub record StrictlyRanked : Type 0 where
    pub accepted : table_refusal counts payoffs ≡ none
    pub two_by_two_counts : counts ≡ 2 ∷ 2 ∷ []
    pub different_keys : DifferentKeys
