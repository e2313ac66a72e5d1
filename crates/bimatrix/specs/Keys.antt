-- Document 01, "The catalogue": ranks, keys and the least key. Assumes nothing.
use Rattle.std.specs.Prelude.{Bool, true, not, cond, ◌&&◌, ℕ, ◌+◌, ◌*◌, min, ltb, eqb, length}
use mathlib.Core.List.{List, [], ◌∷◌, ◌++◌, map, foldl, foldr}
use Rattle.game.specs.Finite.{all, filter}
use Rattle.bimatrix.specs.declared.Matrix.{Matrix}
use Rattle.bimatrix.specs.declared.Bimatrix.{Bimatrix}
use Rattle.bimatrix.specs.Matrices.{in_order, both, swaps}

-- ---- ranks

-- the rank of x among the numbers xs, the least one's being 0: how many of them are less
unfoldable pub rank_among : List ℕ → ℕ → ℕ
rank_among xs x = length (filter (λ y. ltb y x) xs)

-- 1 where a is less than b, else 0: a rank is the sum of these
unfoldable pub one_if_less : ℕ → ℕ → ℕ
one_if_less a b = cond (ltb a b) 1 0

-- the ranks of a player's four numbers
abbrev pub ranked : Matrix → Matrix
ranked q =
    record {
      at00 = rank_among (in_order q) q.at00;
      at01 = rank_among (in_order q) q.at01;
      at10 = rank_among (in_order q) q.at10;
      at11 = rank_among (in_order q) q.at11;
    }

-- each player's ranks
abbrev pub ranks : Bimatrix → Bimatrix
ranks = both ranked

-- each number passes the test with every later one
abbrev pub pairwise : (ℕ → ℕ → Bool) → List ℕ → Bool
pairwise test [] = true
pairwise test (x ∷ xs) = all (test x) xs && pairwise test xs

-- no two of the numbers are equal
unfoldable pub different : List ℕ → Bool
different = pairwise (λ x y. not (eqb x y))

-- strictly ranked, document 01's "four different order keys": no two of a player's four numbers are equal
unfoldable pub strictly_ranked : Bimatrix → Bool
strictly_ranked b = different (in_order b.first) && different (in_order b.second)

-- ---- keys

-- the number whose base-4 digits these are, the first one highest
abbrev pub base4 : List ℕ → ℕ
base4 = foldl (λ n d. n * 4 + d) 0

-- the key of a table of ranks, document 01's term: player 0's digits at the four profiles in order, then player 1's
unfoldable pub key : Bimatrix → ℕ
key r = base4 (in_order r.first ++ in_order r.second)

-- the least of a list, and 0 of an empty one
abbrev pub least : List ℕ → ℕ
least [] = 0
least (x ∷ xs) = foldr min x xs

-- the least key among the four tables got by swapping rows, columns or both
unfoldable pub least_key : Bimatrix → ℕ
least_key r = least (map key (swaps r))
