-- A table of 2, 3 and 4 strategies, and the refusals' order at the limits, computed: each is true by the definitions alone.
-- Assumes nothing.
use mathlib.Core.Path.{◌≡◌, refl}
use mathlib.Core.Bool.{true, false}
use mathlib.Core.List.{List, [], ◌∷◌, map}
use Prim.Native.Nat.{ℕ, suc}
use lib.IntN.{pos}
use lib.ListN.{replicate}
use lib.Ieee.{Float, nan, inf, fin}
use Rattle.game.specs.Finite.{below}
use Rattle.refusal.specs.Told.{values, refused}
use Rattle.payoff_order.specs.Order.{finite}
use Rattle.payoff_tables.specs.Limits.{max_players, max_strategies}
use Rattle.payoff_tables.specs.Table.{cells, offset, stride, cell, payoff_at, profile_part}
use Rattle.payoff_tables.specs.Checks.{count_refusal, counts_refusal, payoffs_refusal, table_refusal, player_refusal, profile_refusal}
use Rattle.payoff_tables.specs.Answers.{counts_answer, table_answer, offset_answer, payoff_answer, profile_payoffs, part_first}

-- three players, of 2, 3 and 4 strategies
counts : List ℕ
counts = 2 ∷ 3 ∷ 4 ∷ []

-- a count over the limit
many : ℕ
many = suc max_strategies

-- 1.0
one : Float
one = fin false 1 (pos 0)

record Computed : Type 0 where
  -- 24 profiles
  all_cells : cells counts ≡ 72
  first_offset : offset counts (0 ∷ 0 ∷ 0 ∷ []) ≡ 0
  -- a profile's cells stand side by side
  inner_cell : cell counts (0 ∷ 1 ∷ 2 ∷ []) 1 ≡ 19
  -- the last player's choice runs fastest
  strides : map (stride counts) (below 3) ≡ 12 ∷ 4 ∷ 1 ∷ []
  -- 1, 2, then 3 and 4 player by player, then 5; 65,536 cells are accepted
  no_players : counts_answer [] ≡ refused 1
  nine_players : counts_answer (replicate (suc max_players) 0) ≡ refused 2
  none_then_many : counts_answer (0 ∷ many ∷ []) ≡ refused 3
  many_then_none : counts_answer (many ∷ 0 ∷ []) ≡ refused 4
  many_and_too_many_cells : counts_answer (max_strategies ∷ max_strategies ∷ max_strategies ∷ many ∷ []) ≡ refused 4
  largest_count : counts_answer (max_strategies ∷ []) ≡ values max_strategies
  largest_table : counts_answer (8 ∷ 8 ∷ 16 ∷ 16 ∷ []) ≡ values 16384
  larger_table : counts_answer (8 ∷ 8 ∷ 16 ∷ 17 ∷ []) ≡ refused 5
  -- 6, then 7
  too_few : table_answer (2 ∷ []) (nan ∷ []) ≡ refused 6
  too_many : table_answer (1 ∷ []) (nan ∷ nan ∷ []) ≡ refused 6
  not_finite : table_answer (2 ∷ []) (one ∷ inf true ∷ []) ≡ refused 7
  accepted : table_answer (2 ∷ []) (one ∷ one ∷ []) ≡ values 2
  -- then 8, 11, 12
  no_such_player : payoff_answer (1 ∷ []) (one ∷ []) [] 1 ≡ refused 8
  no_choice : payoff_answer (1 ∷ []) (one ∷ []) [] 0 ≡ refused 11
  choice_at_count : payoff_answer (1 ∷ []) (one ∷ []) (1 ∷ []) 0 ≡ refused 12
  payoff_told : payoff_answer (1 ∷ []) (one ∷ []) (0 ∷ []) 0 ≡ values one
  offset_refused : offset_answer (1 ∷ []) (one ∷ []) (1 ∷ []) ≡ refused 12
  offset_without_payoffs : offset_answer (1 ∷ []) [] (0 ∷ []) ≡ refused 6
  part_told : profile_payoffs (1 ∷ []) (one ∷ []) (0 ∷ []) ≡ one ∷ []
  part_refused : profile_payoffs (1 ∷ []) (one ∷ []) (1 ∷ []) ≡ []
  -- the second profile's part starts at the second cell, and a refused call's at the first
  part_place : part_first (2 ∷ []) (one ∷ one ∷ []) (1 ∷ []) ≡ 1
  no_part_place : part_first (2 ∷ []) (one ∷ one ∷ []) (2 ∷ []) ≡ 0

computed : Computed
unfolding counts many one offset stride count_refusal counts_refusal payoffs_refusal table_refusal player_refusal profile_refusal finite payoff_at profile_part
computed =
    record {
      all_cells = refl;
      first_offset = refl;
      inner_cell = refl;
      strides = refl;
      no_players = refl;
      nine_players = refl;
      none_then_many = refl;
      many_then_none = refl;
      many_and_too_many_cells = refl;
      largest_count = refl;
      largest_table = refl;
      larger_table = refl;
      too_few = refl;
      too_many = refl;
      not_finite = refl;
      accepted = refl;
      no_such_player = refl;
      no_choice = refl;
      choice_at_count = refl;
      payoff_told = refl;
      offset_refused = refl;
      offset_without_payoffs = refl;
      part_told = refl;
      part_refused = refl;
      part_place = refl;
      no_part_place = refl;
    }
