-- Document 01, "The catalogue": the least keys of all strictly ranked tables, and the place of a key in a list of keys. Assumes nothing.
use mathlib.Core.List.{List, [], ◌∷◌, map, flat_map}
use Rattle.std.proofs.Math.Option.{Option}
use Rattle.std.specs.Prelude.{ℕ, eqb, length, get_or}
use Rattle.game.specs.Finite.{below, filter, first}
use Rattle.game.specs.Game.{choice, profiles}
use Rattle.bimatrix.specs.declared.Matrix.{Matrix}
use Rattle.bimatrix.specs.declared.Bimatrix.{Bimatrix}
use Rattle.bimatrix.specs.Matrices.{in_order, bimatrix_of}
use Rattle.bimatrix.specs.Keys.{different, key, least_key}

-- ---- the constant table

-- four digits as a matrix
abbrev pub digit_matrix : List ℕ → Matrix
digit_matrix x = record { at00 = choice x 0; at01 = choice x 1; at10 = choice x 2; at11 = choice x 3 }

-- a player's ranks in a strictly ranked table, the digits 0 to 3 in every order: of all lists of four digits below 4, in lexicographic order,
-- those with no two equal
unfoldable pub orders : List Matrix
orders = filter (λ q. different (in_order q)) (map digit_matrix (profiles (4 ∷ 4 ∷ 4 ∷ 4 ∷ [])))

-- the ranks of every strictly ranked table: an order for each player
unfoldable pub rankings : List Bimatrix
unfolding flat_map
rankings = flat_map (λ a. map (bimatrix_of a) orders) orders

-- the catalogue, document 01's term: the keys of those tables of ranks whose key is the least of their four
unfoldable pub catalogue : List ℕ
catalogue = map key (filter (λ r. eqb (key r) (least_key r)) rankings)

-- ---- the place of a key

-- the first place, numbered from 0, at which k stands in a list of keys, or none
unfoldable pub place : List ℕ → ℕ → Option ℕ
place ks k = first (filter (λ i. eqb (get_or ks i 0) k) (below (length ks)))
