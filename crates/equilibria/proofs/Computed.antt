-- Small tables computed: each line is true by the contracts' own definitions. `games` has document 01's. Assumes nothing.
use mathlib.Core.Path.{◌≡◌, refl}
use mathlib.Core.Bool.{true, false}
use mathlib.Core.List.{[], ◌∷◌, flat_map}
use Prim.Native.Nat.{ℕ}
use lib.Ieee as Ieee
use lib.Ieee.{nan}
use Rattle.game.specs.Game.{strategies, profiles, whole, inside}
use Rattle.game.specs.Solution.{gains, deviations, equilibrium, equilibria}
use Rattle.refusal.specs.Told.{values, refused}
use Rattle.refusal.specs.declared.Listed.{Listed}
use Rattle.written_lists.specs.Outputs.{over}
use Rattle.written_lists.specs.Listing.{listed_of}
use Rattle.payoff_order.specs.Order.{finite, key, rank}
use Rattle.payoff_tables.specs.Table.{offset, payoff_at, profile_part, table_game}
use Rattle.payoff_tables.specs.Checks.{count_refusal, counts_refusal, payoffs_refusal, table_refusal, profile_refusal}
use Rattle.payoff_tables.proofs.Examples.{minus_zero, zero, one, two, zeros, pair, dilemma, pennies, twice}
use Rattle.equilibria.specs.Answers.{table_equilibria, is_equilibrium_answer, listing_answer, listed_choices, listed_utilities, equilibria_answer, equilibria_choices, equilibria_utilities}

-- so many in all, and so many written
abbrev listed : ℕ → ℕ → Listed
listed n k = record { total = n; written = k }

record Computed : Type 0 where
  -- one player: every best strategy is one, and both zeros are best
  zeros_listed : table_equilibria (2 ∷ []) zeros ≡ (0 ∷ []) ∷ (1 ∷ []) ∷ []
  -- what the calls tell: empty outputs are for a count
  dilemma_counted : equilibria_answer pair dilemma 0 0 ≡ values (listed 1 0)
  pennies_counted : equilibria_answer pair pennies 0 0 ≡ values (listed 0 0)
  both_one : is_equilibrium_answer pair dilemma (1 ∷ 1 ∷ []) ≡ values true
  both_zero : is_equilibrium_answer pair dilemma (0 ∷ 0 ∷ []) ≡ values false
  -- P choices and P payoffs of each; an output longer than needed keeps its rest
  twice_told : equilibria_answer pair twice 4 5 ≡ values (listed 2 2)
  twice_choices : over (equilibria_choices pair twice 5 4) (7 ∷ 7 ∷ 7 ∷ 7 ∷ 7 ∷ []) ≡ 0 ∷ 0 ∷ 1 ∷ 1 ∷ 7 ∷ []
  twice_utilities : equilibria_utilities pair twice 4 4 ≡ two ∷ two ∷ one ∷ one ∷ []
  zeros_utilities : equilibria_utilities (2 ∷ []) zeros 2 2 ≡ minus_zero ∷ zero ∷ []
  -- one element too short in either output: the first one is written in both, and the rest is kept
  short_choices : equilibria_answer pair twice 3 4 ≡ values (listed 2 1)
  short_utilities : equilibria_answer pair twice 4 3 ≡ values (listed 2 1)
  first_choices : over (equilibria_choices pair twice 4 3) (7 ∷ 7 ∷ 7 ∷ 7 ∷ []) ≡ 0 ∷ 0 ∷ 7 ∷ 7 ∷ []
  first_utilities : equilibria_utilities pair twice 4 3 ≡ two ∷ two ∷ []
  -- one element for two players: nothing is written
  half_told : equilibria_answer pair twice 1 4 ≡ values (listed 2 0)
  half_choices : equilibria_choices pair twice 1 4 ≡ []
  half_utilities : equilibria_utilities pair twice 1 4 ≡ []
  -- 1 to 7, and before 11 and 12
  table_first : equilibria_answer (2 ∷ []) (one ∷ []) 0 0 ≡ refused 6
  finite_first : is_equilibrium_answer (1 ∷ []) (nan ∷ []) [] ≡ refused 7
  no_choice : is_equilibrium_answer pair dilemma (0 ∷ []) ≡ refused 11
  choice_at_count : is_equilibrium_answer pair dilemma (0 ∷ 2 ∷ []) ≡ refused 12

computed : Computed
unfolding flat_map Ieee.to_bits Ieee.of_bits strategies profiles whole inside gains deviations equilibrium equilibria finite key rank offset payoff_at profile_part table_game count_refusal counts_refusal payoffs_refusal table_refusal profile_refusal listed_of is_equilibrium_answer listing_answer listed_choices listed_utilities
computed =
    record {
      zeros_listed = refl;
      dilemma_counted = refl;
      pennies_counted = refl;
      both_one = refl;
      both_zero = refl;
      twice_told = refl;
      twice_choices = refl;
      twice_utilities = refl;
      zeros_utilities = refl;
      short_choices = refl;
      short_utilities = refl;
      first_choices = refl;
      first_utilities = refl;
      half_told = refl;
      half_choices = refl;
      half_utilities = refl;
      table_first = refl;
      finite_first = refl;
      no_choice = refl;
      choice_at_count = refl;
    }
