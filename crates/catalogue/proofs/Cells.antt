-- A table's number by its cells: they stand one profile after the other, so the ranks of a player's cells are those of the game. Assumes
-- nothing.
use mathlib.Core.Path.{◌≡◌, refl, ap, sym, ◌∙◌}
use mathlib.Core.Bool.{Bool, false, cond, ◌&&◌}
use mathlib.Core.List.{List, [], ◌∷◌}
use mathlib.Core.Option.{none}
use Prim.Native.Nat.{ℕ}
use native.Mathlib.Omega.{arith}
use lib.Dec.{T, eqb}
use lib.ListN.{length}
use lib.Ieee.{Float}
use Rattle.game.proofs.Finite.{and_T, eqb_T}
use Rattle.payoff_tables.specs.Table.{offset, payoff_at, cell_rank, table_game}
use Rattle.payoff_tables.specs.Meaning.{Finites, Table}
use Rattle.bimatrix.specs.declared.Bimatrix.{Bimatrix}
use Rattle.bimatrix.specs.Matrices.{bimatrix_of, bimatrix}
use Rattle.bimatrix.specs.Keys.{ranked, ranks, strictly_ranked, least_key}
use Rattle.catalogue.specs.Catalogue.{place}
use Rattle.catalogue.specs.Answers.{two_by_two, game_number, cell_matrix}
use Rattle.bimatrix.proofs.Ranks.{strict_ranks}

-- two players, 2 strategies each
pub pair_law : (counts : List ℕ) → T (two_by_two counts) → counts ≡ 2 ∷ 2 ∷ []
unfolding two_by_two
pair_law [] h = absurd h
pair_law (a ∷ []) h = absurd h
pair_law (a ∷ b ∷ []) h = let t = (and_T (eqb a 2) (eqb b 2)).0 h in rw ((eqb_T a 2).0 t.0, (eqb_T b 2).0 t.1)
pair_law (a ∷ b ∷ c ∷ cs) h =
    let n = length (a ∷ b ∷ c ∷ cs) in
    absurd (omega (arith, (eqb_T n 2).0 ((and_T (eqb n 2) (eqb a 2)).0 ((and_T (eqb n 2 && eqb a 2) (eqb b 2)).0 h).0).0))

-- each player's ranks, from its cells
abbrev pub found_ranks : List Float → Bimatrix
found_ranks payoffs = bimatrix_of (ranked (cell_matrix payoffs 0)) (ranked (cell_matrix payoffs 1))

cells_pay : (payoffs : List Float) → ranks (bimatrix (table_game (2 ∷ 2 ∷ []) payoffs)) ≡ found_ranks payoffs
unfolding table_game payoff_at offset cell_rank
cells_pay payoffs = refl

module _ (ks counts : List ℕ) (payoffs : List Float) where
  pub other_number : two_by_two counts ≡ false → game_number ks (table_game counts payoffs) ≡ none
  unfolding game_number table_game
  other_number h = rw h

  -- of two players with 2 strategies each
  literal : game_number ks (table_game (2 ∷ 2 ∷ []) payoffs)
      ≡ cond (strictly_ranked (found_ranks payoffs)) (place ks (least_key (found_ranks payoffs))) none
  unfolding game_number table_game two_by_two
  literal =
      let b = bimatrix (table_game (2 ∷ 2 ∷ []) payoffs) in
      ap (λ (t : Bool). cond t (place ks (least_key (ranks b))) none) (sym (strict_ranks b))
      ∙ ap (λ (r : Bimatrix). cond (strictly_ranked r) (place ks (least_key r)) none) (cells_pay payoffs)

  pub pair_number : counts ≡ 2 ∷ 2 ∷ []
      → game_number ks (table_game counts payoffs)
      ≡ cond (strictly_ranked (found_ranks payoffs)) (place ks (least_key (found_ranks payoffs))) none
  pair_number e = ap (λ (cs : List ℕ). game_number ks (table_game cs payoffs)) e ∙ literal

-- what the code asks of the payoffs
pub eight : (counts : List ℕ) (payoffs : List Float) → Table counts payoffs → counts ≡ 2 ∷ 2 ∷ [] → (length payoffs ≡ 8) × Finites payoffs
eight counts payoffs t e = (rw e at t.full, t.finites)
