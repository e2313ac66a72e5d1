-- Small tables, their payoffs given by their bits, computed: each line is true by the contract's own definitions. Assumes nothing.
use mathlib.Core.Path.{◌≡◌, refl}
use mathlib.Core.List.{[], ◌∷◌}
use lib.Ieee as Ieee
use Rattle.game.specs.Game.{whole}
use Rattle.game.specs.Solution.{gains, best_response, best_responses}
use Rattle.refusal.specs.Told.{values, refused}
use Rattle.written_lists.specs.Outputs.{room_refusal, over}
use Rattle.payoff_order.specs.Order.{finite, key, rank}
use Rattle.payoff_tables.specs.Table.{offset, payoff_at, table_game}
use Rattle.payoff_tables.specs.Checks.{count_refusal, counts_refusal, payoffs_refusal, table_refusal, player_refusal}
use Rattle.payoff_tables.proofs.Examples.{five, zeros, ties, pair, dilemma}
use Rattle.responses.specs.Answers.{opponents_refusal, responses, response_utilities, responses_answer, responses_written}

record Computed : Type 0 where
  -- of 1 5 5 the last two are; an output longer than needed keeps its rest
  ties_listed : responses (3 ∷ []) ties 0 [] ≡ 1 ∷ 2 ∷ []
  ties_told : responses_answer (3 ∷ []) ties 0 [] 2 3 ≡ values 2
  ties_written : over (responses_written (3 ∷ []) ties 0 [] 3 2) (7 ∷ 8 ∷ 9 ∷ []) ≡ 1 ∷ 2 ∷ 9 ∷ []
  ties_paid : response_utilities (3 ∷ []) ties 0 [] (1 ∷ 2 ∷ []) ≡ five ∷ five ∷ []
  -- an output too short by one: 13, and nothing is written
  too_short : responses_answer (3 ∷ []) ties 0 [] 2 1 ≡ refused 13
  nothing_written : over (responses_written (3 ∷ []) ties 0 [] 2 1) (7 ∷ 8 ∷ 9 ∷ []) ≡ 7 ∷ 8 ∷ 9 ∷ []
  -- each prisoner defects, whatever the other does
  first_prisoner : responses pair dilemma 0 (0 ∷ []) ≡ 1 ∷ []
  second_prisoner : responses pair dilemma 1 (1 ∷ []) ≡ 1 ∷ []
  -- refusals 1 to 7 first, then 8, 9, 10, and last 13
  table_first : responses_answer pair zeros 2 [] 0 0 ≡ refused 6
  player_next : responses_answer pair dilemma 2 [] 0 0 ≡ refused 8
  number_next : responses_answer pair dilemma 1 pair 0 0 ≡ refused 9
  choice_next : responses_answer pair dilemma 1 (2 ∷ []) 0 0 ≡ refused 10
  room_last : responses_answer pair dilemma 1 (1 ∷ []) 0 0 ≡ refused 13

computed : Computed
unfolding count_refusal counts_refusal payoffs_refusal table_refusal player_refusal opponents_refusal room_refusal responses response_utilities responses_answer whole gains best_response best_responses table_game payoff_at offset finite key rank Ieee.of_bits Ieee.to_bits
computed =
    record {
      ties_listed = refl;
      ties_told = refl;
      ties_written = refl;
      ties_paid = refl;
      too_short = refl;
      nothing_written = refl;
      first_prisoner = refl;
      second_prisoner = refl;
      table_first = refl;
      player_next = refl;
      number_next = refl;
      choice_next = refl;
      room_last = refl;
    }
