-- Document 01's term (d): the games that it marks P ("Games to hold in hand"), all of them, at the definitions that the contracts name, their
-- payoffs given by their bits. Shown true together by computing the definitions. Assumes nothing.
use mathlib.Core.Path.{◌≡◌, refl}
use mathlib.Core.List.{List, [], ◌∷◌, ◌++◌, flat_map}
use mathlib.Core.Option.{some}
use Prim.Native.Nat.{ℕ}
use lib.ListN.{replicate}
use lib.Ieee as Ieee
use lib.Ieee.{Float}
use Rattle.game.specs.Game.{strategy, strategies, profiles, whole, inside, others}
use Rattle.game.specs.Solution.{dominates, dominators, dominator, gains, deviations, best_response, best_responses, equilibrium, equilibria}
use Rattle.game.specs.Strikes.{answer}
use Rattle.refusal.specs.Told.{values, refused}
use Rattle.written_lists.specs.Outputs.{room_refusal}
use Rattle.written_lists.specs.Listing.{listed_of}
use Rattle.payoff_order.specs.Order.{finite, key as orderKey, rank}
use Rattle.payoff_tables.specs.Table.{offset, cell, payoff_at, profile_part, table_game}
use Rattle.payoff_tables.specs.Checks.{count_refusal, counts_refusal, payoffs_refusal, table_refusal, player_refusal, profile_refusal}
use Rattle.payoff_tables.specs.Answers.{offset_answer, payoff_answer}
use Rattle.payoff_tables.proofs.Examples.{minus_zero, zero, five, zeros, ties, pair, dilemma, pennies, twice, after}
use Rattle.marks.specs.Marks.{marked}
use Rattle.responses.specs.Answers.{opponents_refusal, responses, response_utilities, responses_answer, responses_written}
use Rattle.equilibria.specs.Answers.{listing_answer, listed_choices, equilibria_answer, equilibria_choices}
use Rattle.survivors.specs.declared.Survivors.{Survivors}
use Rattle.survivors.specs.Survivors.{without_mark, all_marks, fresh_of, marked_from, foreign}
use Rattle.strikes.specs.Answers.{strike_answer, strike_leaves}
use Rattle.bimatrix.specs.Matrices.{bimatrix}
use Rattle.bimatrix.specs.Keys.{rank_among, ranks, different, strictly_ranked, key, least_key}
use Rattle.catalogue.specs.Catalogue.{orders, rankings, catalogue, place}
use Rattle.catalogue.specs.Answers.{two_by_two, game_number, number_answer}

-- three players, of 2, 3 and 4 strategies: 72 payoffs, the last one 5
abbrev three : List ℕ
three = 2 ∷ 3 ∷ 4 ∷ []

abbrev last_five : List Float
last_five = replicate 71 zero ++ (five ∷ [])

-- the survivors that a strike of player p's s on the survivors v hands back
abbrev left : List ℕ → List Float → Survivors → ℕ → ℕ → Survivors
left counts payoffs v p s = strike_leaves counts payoffs v (strategy p s)

record Games : Type 0 where
  -- (2,2) (0,3) (3,0) (1,1): equilibrium 1 1; key 10212, number 71
  dilemma_told : equilibria_answer pair dilemma 2 2 ≡ values (record { total = 1; written = 1 })
  dilemma_choices : equilibria_choices pair dilemma 2 2 ≡ 1 ∷ 1 ∷ []
  dilemma_key : least_key (ranks (bimatrix (table_game pair dilemma))) ≡ 10212
  dilemma_number : number_answer pair dilemma ≡ values (some 71)
  -- matching pennies: none
  pennies_told : equilibria_answer pair pennies 0 0 ≡ values (record { total = 0; written = 0 })
  -- (2,2) (0,0) (0,0) (1,1): 0 0 and 1 1
  twice_told : equilibria_answer pair twice 4 4 ≡ values (record { total = 2; written = 2 })
  twice_choices : equilibria_choices pair twice 4 4 ≡ 0 ∷ 0 ∷ 1 ∷ 1 ∷ []
  -- one player, 1 5 5: equilibria 1, 2; strike 0 answers 1; strike 1 gives 15
  ties_told : equilibria_answer (3 ∷ []) ties 2 2 ≡ values (record { total = 2; written = 2 })
  ties_choices : equilibria_choices (3 ∷ []) ties 2 2 ≡ 1 ∷ 2 ∷ []
  ties_0 : strike_answer (3 ∷ []) ties (fresh_of (3 ∷ [])) (strategy 0 0) ≡ values 1
  ties_1 : strike_answer (3 ∷ []) ties (fresh_of (3 ∷ [])) (strategy 0 1) ≡ refused 15
  -- one player, −0.0 and 0.0: both best
  zeros_told : responses_answer (2 ∷ []) zeros 0 [] 2 2 ≡ values 2
  zeros_best : responses_written (2 ∷ []) zeros 0 [] 2 2 ≡ 0 ∷ 1 ∷ []
  zeros_paid : response_utilities (2 ∷ []) zeros 0 [] (responses_written (2 ∷ []) zeros 0 [] 2 2) ≡ minus_zero ∷ zero ∷ []
  -- counts 2 3 4, profile 1 2 3: offset 23; player 2's cell 71
  three_offset : offset_answer three last_five (1 ∷ 2 ∷ 3 ∷ []) ≡ values 23
  three_cell : cell three (1 ∷ 2 ∷ 3 ∷ []) 2 ≡ 71
  three_payoff : payoff_answer three last_five (1 ∷ 2 ∷ 3 ∷ []) 2 ≡ values five
  -- (1,1) (0,0) (0,1) (1,0): striking player 0's 1 gives 15; after player 1's 1 is struck it answers 0
  after_first : strike_answer pair after (fresh_of pair) (strategy 0 1) ≡ refused 15
  after_other : strike_answer pair after (fresh_of pair) (strategy 1 1) ≡ values 0
  after_then : strike_answer pair after (left pair after (fresh_of pair) 1 1) (strategy 0 1) ≡ values 0
  -- an accepted strike, repeated on the survivors it handed back, gives 14
  repeated_ties : strike_answer (3 ∷ []) ties (left (3 ∷ []) ties (fresh_of (3 ∷ [])) 0 0) (strategy 0 0) ≡ refused 14
  repeated_after : strike_answer pair after (left pair after (fresh_of pair) 1 1) (strategy 1 1) ≡ refused 14

games : Games
unfolding flat_map strategies profiles whole inside others dominates dominators dominator gains deviations best_response best_responses equilibrium equilibria answer finite orderKey rank Ieee.to_bits Ieee.of_bits offset payoff_at profile_part table_game marked count_refusal counts_refusal payoffs_refusal table_refusal player_refusal profile_refusal room_refusal opponents_refusal responses response_utilities responses_answer listed_of listing_answer listed_choices without_mark all_marks fresh_of marked_from foreign strike_answer strike_leaves rank_among different strictly_ranked key least_key orders rankings catalogue place two_by_two game_number number_answer
games =
    record {
      dilemma_told = refl;
      dilemma_choices = refl;
      dilemma_key = refl;
      dilemma_number = refl;
      pennies_told = refl;
      twice_told = refl;
      twice_choices = refl;
      ties_told = refl;
      ties_choices = refl;
      ties_0 = refl;
      ties_1 = refl;
      zeros_told = refl;
      zeros_best = refl;
      zeros_paid = refl;
      three_offset = refl;
      three_cell = refl;
      three_payoff = refl;
      after_first = refl;
      after_other = refl;
      after_then = refl;
      repeated_ties = refl;
      repeated_after = refl;
    }
