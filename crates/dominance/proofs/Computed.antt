-- Small games computed: each is true by the definitions alone. Assumes nothing.
use mathlib.Core.Path.{◌≡◌, refl}
use mathlib.Core.List.{[], ◌∷◌, flat_map}
use Prim.Native.Nat.{ℕ}
use lib.Ieee as Ieee
use lib.Ieee.{nan}
use Rattle.game.specs.Game.{profiles, whole, others}
use Rattle.game.specs.Solution.{dominates, dominators, dominator}
use Rattle.refusal.specs.Told.{values, refused}
use Rattle.written_lists.specs.Outputs.{room_refusal}
use Rattle.payoff_order.specs.Order.{finite, key, rank}
use Rattle.payoff_tables.specs.Table.{offset, payoff_at, table_game}
use Rattle.payoff_tables.specs.Checks.{count_refusal, counts_refusal, payoffs_refusal, table_refusal, player_refusal}
use Rattle.payoff_tables.proofs.Examples.{zeros, ties, pair, dilemma}
use Rattle.dominance.specs.Answers.{DominatedStrategy, dominated_of, dominated_strategies, dominated_answer, dominated_written}

-- a strategy and its lowest dominator
by : ℕ → ℕ → DominatedStrategy
by s t = record { strategy = s; dominated_by = t }

record Computed : Type 0 where
  -- each player's 0 is dominated by its 1
  first_player : dominated_strategies pair dilemma 0 ≡ by 0 1 ∷ []
  second_player : dominated_strategies pair dilemma 1 ≡ by 0 1 ∷ []
  -- the lowest of two dominators; a tie dominates nothing, and the zeros are equal
  lowest : dominated_strategies (3 ∷ []) ties 0 ≡ by 0 1 ∷ []
  tie : dominated_strategies (2 ∷ []) zeros 0 ≡ []
  -- outputs that just hold the list, one that does not, and none needed
  told : dominated_answer pair dilemma 0 1 1 ≡ values 1
  first_short : dominated_answer pair dilemma 0 0 1 ≡ refused 13
  second_short : dominated_answer pair dilemma 0 1 0 ≡ refused 13
  none_needed : dominated_answer (2 ∷ []) zeros 0 0 0 ≡ values 0
  -- a refusal of the table, then 8, and nothing is written
  table_first : dominated_answer (2 ∷ []) (nan ∷ []) 7 0 0 ≡ refused 6
  no_such_player : dominated_answer pair dilemma 2 0 0 ≡ refused 8
  written : dominated_written pair dilemma 1 2 2 ≡ by 0 1 ∷ []
  not_written : dominated_written pair dilemma 1 1 0 ≡ []

computed : Computed
unfolding flat_map by profiles whole others dominates dominators dominator finite key rank Ieee.to_bits Ieee.of_bits offset payoff_at table_game count_refusal counts_refusal payoffs_refusal table_refusal player_refusal room_refusal dominated_of dominated_strategies dominated_answer
computed =
    record {
      first_player = refl;
      second_player = refl;
      lowest = refl;
      tie = refl;
      told = refl;
      first_short = refl;
      second_short = refl;
      none_needed = refl;
      table_first = refl;
      no_such_player = refl;
      written = refl;
      not_written = refl;
    }
