-- `catalogue::table_number` meets its contract: the ranks that are found are those of the game that the table is, and these are strict
-- exactly where its payoffs' keys differ. Assumes nothing.
use Rattle.std.proofs.Common.{◌≡◌, sym, ap, ◌∙◌, Bool, true, false, cond, List, [], ◌∷◌, ℕ, length, arith}
use mathlib.Core.Path.{ap₂}
use mathlib.Core.Option.{none}
use lib.Ieee.{Float}
use Rattle.payoff_tables.specs.Table.{table_game}
use Rattle.payoff_tables.specs.Meaning.{Finites, Table}
use Rattle.bimatrix.specs.declared.Matrix.{Matrix}
use Rattle.bimatrix.specs.declared.Bimatrix.{Bimatrix}
use Rattle.bimatrix.specs.Matrices.{bimatrix_of}
use Rattle.bimatrix.specs.Keys.{ranked, strictly_ranked, least_key}
use Rattle.catalogue.specs.Catalogue.{place, catalogue}
use Rattle.catalogue.specs.Answers.{two_by_two, cell_matrix, game_number}
use Rattle.catalogue.proofs.Cells.{pair_law, found_ranks, other_number, pair_number, eight}
use Rattle.catalogue.proofs.table_number.Goals as goal

-- the arm where there are two players with 2 strategies each
module _ (counts : List ℕ) (payoffs : List Float) (two : two_by_two counts ≡ true) where
  pair : counts ≡ 2 ∷ 2 ∷ []
  pair = pair_law counts (rw two tt)

  known : Table counts payoffs → (length payoffs ≡ 8) × Finites payoffs
  known t = eight counts payoffs t pair

  -- and both players' ranks are found
  told : (a b : Matrix) → a ≡ ranked (cell_matrix payoffs 0) → b ≡ ranked (cell_matrix payoffs 1) → (t : Bool) → strictly_ranked (bimatrix_of a b) ≡ t
      → game_number catalogue (table_game counts payoffs) ≡ cond t (place catalogue (least_key (bimatrix_of a b))) none
  told a b first second t e =
      let found-is : bimatrix_of a b ≡ found_ranks payoffs = ap₂ bimatrix_of first second in
      pair_number catalogue counts payoffs pair
      ∙ sym (ap (λ (r : Bimatrix). cond (strictly_ranked r) (place catalogue (least_key r)) none) found-is)
      ∙ ap (λ (t : Bool). cond t (place catalogue (least_key (bimatrix_of a b))) none) e

pub returns-then-not-two_by_two : goal.returns-then-not-two_by_two
returns-then-not-two_by_two c = sym (other_number catalogue c.args.counts.now c.args.payoffs.now (sym c.two_by_two.ensures ∙ c.if-not-two_by_two.true))

pub player_ranks-requires-clause-payoffs_len : goal.player_ranks-requires-clause-payoffs_len
player_ranks-requires-clause-payoffs_len c = ((known c.args.counts.now c.args.payoffs.now (sym c.two_by_two.ensures ∙ c.if-not-two_by_two.false) c.requires).0, omega arith)

pub player_ranks-requires-2-clause-payoffs_len : goal.player_ranks-requires-2-clause-payoffs_len
player_ranks-requires-2-clause-payoffs_len c = ((known c.args.counts.now c.args.payoffs.now (sym c.two_by_two.ensures ∙ c.if-not-two_by_two.false) c.requires).0, omega arith)

pub returns-then-strictly_ranked : goal.returns-then-strictly_ranked
returns-then-strictly_ranked c =
    c.place.ensures
    ∙ ap₂ place c.keys.ensures c.least_key.ensures
    ∙ sym (told c.args.counts.now c.args.payoffs.now (sym c.two_by_two.ensures ∙ c.if-not-two_by_two.false) c.player_ranks.result c.player_ranks-2.result
    c.player_ranks.ensures c.player_ranks-2.ensures true (sym c.strictly_ranked.ensures ∙ c.if-strictly_ranked.true))

pub returns-else-strictly_ranked : goal.returns-else-strictly_ranked
returns-else-strictly_ranked c =
    sym (told c.args.counts.now c.args.payoffs.now (sym c.two_by_two.ensures ∙ c.if-not-two_by_two.false) c.player_ranks.result c.player_ranks-2.result
    c.player_ranks.ensures c.player_ranks-2.ensures false (sym c.strictly_ranked.ensures ∙ c.if-strictly_ranked.false))
