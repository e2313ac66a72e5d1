-- Lists of strikes, survivors and refusals on document 01's games, computed: each is true by the definitions alone. Assumes nothing.
use mathlib.Core.Path.{◌≡◌, refl}
use mathlib.Core.Bool.{false}
use mathlib.Core.List.{List, [], ◌∷◌, flat_map}
use Prim.Native.Nat.{ℕ}
use lib.Ieee as Ieee
use lib.Ieee.{Float, nan}
use lib.ListN.{replicate}
use Rattle.game.specs.Game.{Strategy, strategy, strategies, profiles, whole, inside, others}
use Rattle.game.specs.Solution.{dominates, dominators, dominator, gains, deviations, equilibrium, equilibria}
use Rattle.game.specs.Strikes.{answer}
use Rattle.refusal.specs.Told.{Told, values, refused}
use Rattle.written_lists.specs.Outputs.{room_refusal}
use Rattle.written_lists.specs.Listing.{listed_of}
use Rattle.payoff_order.specs.Order.{finite, key, rank}
use Rattle.payoff_tables.specs.Limits.{max_players, max_marks}
use Rattle.payoff_tables.specs.Table.{offset, payoff_at, profile_part, table_game}
use Rattle.payoff_tables.specs.Checks.{count_refusal, counts_refusal, payoffs_refusal, table_refusal}
use Rattle.payoff_tables.proofs.Examples.{ties, pair, dilemma, after}
use Rattle.marks.specs.Marks.{marked}
use Rattle.equilibria.specs.Answers.{listing_answer, listed_choices}
use Rattle.survivors.specs.declared.Survivors.{Survivors}
use Rattle.survivors.specs.Survivors.{without_mark, mark_count, all_marks, fresh_of, no_survivors, marked_from, foreign}
use Rattle.strikes.specs.Answers.{strike_answer, strike_leaves, surviving_answer, surviving_choices}
use Rattle.strike_chains.specs.Answers.{chain, strikes_answer}

-- the answers to a list of calls
abbrev answers : List ℕ → List Float → List Strategy → List (Told ℕ)
answers counts payoffs cs = (chain counts payoffs cs).answers

-- the calls that strike the prisoner's dilemma, and what they leave of it
abbrev both : List Strategy
both = strategy 0 0 ∷ strategy 1 0 ∷ []

abbrev left : Survivors
left = (chain pair dilemma both).survivors

record Computed : Type 0 where
  -- lists of strikes, accepted and refused mixed
  tied : answers (3 ∷ []) ties (strategy 0 0 ∷ strategy 0 1 ∷ strategy 0 0 ∷ []) ≡ values 1 ∷ refused 15 ∷ refused 14 ∷ []
  in_turn : answers pair after (strategy 0 1 ∷ strategy 1 1 ∷ strategy 0 1 ∷ []) ≡ refused 15 ∷ values 0 ∷ values 0 ∷ []
  -- the prisoner's dilemma: what is left, and the equilibria over it
  dilemma_struck : answers pair dilemma both ≡ values 1 ∷ values 1 ∷ []
  dilemma_left : mark_count left ≡ 2
  dilemma_listed : surviving_answer pair dilemma left 2 2 ≡ values (record { total = 1; written = 1 })
  dilemma_choices : surviving_choices pair dilemma left 2 2 ≡ 1 ∷ 1 ∷ []
  dilemma_short : surviving_answer pair dilemma left 1 2 ≡ values (record { total = 1; written = 0 })
  -- no such player, and no such strategy
  no_such : answers pair dilemma (strategy 2 0 ∷ strategy 0 2 ∷ []) ≡ refused 8 ∷ refused 14 ∷ []
  -- refused fresh survivors have P 0, counts 0 and no mark, and are foreign to a table; a refusal of the table comes first
  none_players : no_survivors.players ≡ 0
  none_counts : no_survivors.counts ≡ replicate max_players 0
  none_marks : no_survivors.marks ≡ replicate max_marks false
  none_foreign : strike_answer pair dilemma no_survivors (strategy 7 0) ≡ refused 16
  table_first : strike_answer (2 ∷ []) (nan ∷ []) no_survivors (strategy 7 0) ≡ refused 6
  -- a list of strikes: how many are accepted, and an output that is too short
  list_told : strikes_answer pair dilemma both 2 2 ≡ values 2
  list_short : strikes_answer pair dilemma both 2 1 ≡ refused 13

computed : Computed
unfolding flat_map strategies profiles whole inside others dominates dominators dominator gains deviations equilibrium equilibria answer finite key rank Ieee.to_bits Ieee.of_bits offset payoff_at profile_part table_game marked count_refusal counts_refusal payoffs_refusal table_refusal room_refusal listed_of listing_answer listed_choices without_mark mark_count all_marks fresh_of marked_from foreign strike_answer strike_leaves strikes_answer
computed =
    record {
      tied = refl;
      in_turn = refl;
      dilemma_struck = refl;
      dilemma_left = refl;
      dilemma_listed = refl;
      dilemma_choices = refl;
      dilemma_short = refl;
      no_such = refl;
      none_players = refl;
      none_counts = refl;
      none_marks = refl;
      none_foreign = refl;
      table_first = refl;
      list_told = refl;
      list_short = refl;
    }
