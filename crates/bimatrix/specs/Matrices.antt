-- Document 01, "The catalogue": 2 × 2 tables as numbers at the four profiles, and swapping their rows and columns. Rows are player 0's
-- strategies, columns player 1's. Assumes nothing.
use Rattle.std.specs.Prelude.{List, [], ◌∷◌, ℕ}
use Rattle.game.specs.Game.{Game}
use Rattle.bimatrix.specs.declared.Matrix.{Matrix}
use Rattle.bimatrix.specs.declared.Bimatrix.{Bimatrix}

-- ---- one player's matrix: a number at each profile

-- what f gives at the four profiles
abbrev pub matrix_of : (List ℕ → ℕ) → Matrix
matrix_of f = record { at00 = f (0 ∷ 0 ∷ []); at01 = f (0 ∷ 1 ∷ []); at10 = f (1 ∷ 0 ∷ []); at11 = f (1 ∷ 1 ∷ []) }

-- the four numbers, the profiles in order
abbrev pub in_order : Matrix → List ℕ
in_order q = q.at00 ∷ q.at01 ∷ q.at10 ∷ q.at11 ∷ []

-- the rows swapped
abbrev pub swap_rows : Matrix → Matrix
swap_rows q = record { at00 = q.at10; at01 = q.at11; at10 = q.at00; at11 = q.at01 }

-- the columns swapped
abbrev pub swap_columns : Matrix → Matrix
swap_columns q = record { at00 = q.at01; at01 = q.at00; at10 = q.at11; at11 = q.at10 }

-- ---- a bimatrix: a matrix for each of the two players

abbrev pub bimatrix_of : Matrix → Matrix → Bimatrix
bimatrix_of a b = record { first = a; second = b }

-- what a game of two players with two strategies each pays
abbrev pub bimatrix : Game → Bimatrix
bimatrix g = bimatrix_of (matrix_of (g.pay 0)) (matrix_of (g.pay 1))

-- each player's matrix changed by f
abbrev pub both : (Matrix → Matrix) → Bimatrix → Bimatrix
both f b = bimatrix_of (f b.first) (f b.second)

-- the four tables got by swapping neither, rows, columns or both
abbrev pub swaps : Bimatrix → List Bimatrix
swaps b = b ∷ both swap_rows b ∷ both swap_columns b ∷ both (λ q. swap_rows (swap_columns q)) b ∷ []
