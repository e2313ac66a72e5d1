-- The equilibria over survivors, computed on a table of document 01: the listing reads their marks.
-- `games` has lists of strikes. Assumes nothing.
use mathlib.Core.Path.{◌≡◌, refl}
use mathlib.Core.List.{[], ◌∷◌, flat_map}
use lib.Ieee as Ieee
use Rattle.game.specs.Game.{strategy, strategies, profiles, whole, inside}
use Rattle.game.specs.Solution.{gains, deviations, equilibrium, equilibria}
use Rattle.refusal.specs.Told.{values}
use Rattle.written_lists.specs.Listing.{listed_of}
use Rattle.payoff_order.specs.Order.{finite, key, rank}
use Rattle.payoff_tables.specs.Table.{offset, payoff_at, profile_part, table_game}
use Rattle.payoff_tables.specs.Checks.{count_refusal, counts_refusal, payoffs_refusal, table_refusal}
use Rattle.payoff_tables.proofs.Examples.{one, pair, twice}
use Rattle.marks.specs.Marks.{marked}
use Rattle.equilibria.specs.Answers.{listing_answer, listed_choices, listed_utilities}
use Rattle.survivors.specs.declared.Survivors.{Survivors}
use Rattle.survivors.specs.Survivors.{without_mark, all_marks, fresh_of, marked_from, foreign}
use Rattle.strikes.specs.Answers.{surviving_answer, surviving_choices, surviving_utilities}

-- all strategies but the first player's 0
abbrev left : Survivors
left = without_mark (fresh_of pair) (strategy 0 0)

record Computed : Type 0 where
  -- of the table's equilibria 0 0 and 1 1 the second is left, and outputs of two elements hold it
  left_told : surviving_answer pair twice left 2 2 ≡ values (record { total = 1; written = 1 })
  left_choices : surviving_choices pair twice left 2 2 ≡ 1 ∷ 1 ∷ []
  left_utilities : surviving_utilities pair twice left 2 2 ≡ one ∷ one ∷ []
  -- an output of one element does not
  left_short : surviving_answer pair twice left 1 2 ≡ values (record { total = 1; written = 0 })

computed : Computed
unfolding flat_map strategies profiles whole inside gains deviations equilibrium equilibria finite key rank Ieee.to_bits Ieee.of_bits offset payoff_at profile_part table_game marked count_refusal counts_refusal payoffs_refusal table_refusal listed_of listing_answer listed_choices listed_utilities without_mark all_marks fresh_of marked_from foreign
computed =
    record {
      left_told = refl;
      left_choices = refl;
      left_utilities = refl;
      left_short = refl;
    }
