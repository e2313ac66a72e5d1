-- What `number` answers: the definition that its contract names. Assumes nothing.
use Rattle.std.specs.Prelude.{Bool, cond, ◌&&◌, List, ℕ, ◌+◌, eqb, length, get_or, Result, Option as Answered, Float}
use Rattle.std.proofs.Math.Option.{Option, none}
use Rattle.game.specs.Game.{Game}
use Rattle.refusal.specs.Told.{Told, unless, told_of, told, optional}
use Rattle.refusal.specs.declared.NormalFormError.{NormalFormError}
use Rattle.payoff_tables.specs.Table.{cell_rank, table_game}
use Rattle.payoff_tables.specs.Checks.{table_refusal}
use Rattle.bimatrix.specs.declared.Matrix.{Matrix}
use Rattle.bimatrix.specs.Matrices.{bimatrix}
use Rattle.bimatrix.specs.Keys.{ranks, strictly_ranked, least_key}
use Rattle.catalogue.specs.Catalogue.{place, catalogue}

-- two players, 2 strategies each
unfoldable pub two_by_two : List ℕ → Bool
two_by_two counts = eqb (length counts) 2 && eqb (get_or counts 0 0) 2 && eqb (get_or counts 1 0) 2

-- a game's number in a list of keys: for a strictly ranked 2 × 2 game the place of its least key, for any other none
unfoldable pub game_number : List ℕ → Game → Option ℕ
game_number ks g = cond (two_by_two g.counts && strictly_ranked (bimatrix g)) (place ks (least_key (ranks (bimatrix g)))) none

-- the number in the catalogue of the game that a table is, or a refusal of 1 to 7
unfoldable pub number_answer : List ℕ → List Float → Told (Option ℕ)
number_answer counts payoffs = unless (table_refusal counts payoffs) (game_number catalogue (table_game counts payoffs))

-- what the code's answer tells
abbrev pub told_number : Result (Answered ℕ) NormalFormError → Told (Option ℕ)
told_number r = told_of optional (told r)

-- ---- for the code

-- player p's cells at the four profiles, each by its order key plus 2^63
abbrev pub cell_matrix : List Float → ℕ → Matrix
cell_matrix payoffs p =
    record {
      at00 = cell_rank payoffs p;
      at01 = cell_rank payoffs (2 + p);
      at10 = cell_rank payoffs (4 + p);
      at11 = cell_rank payoffs (6 + p);
    }
