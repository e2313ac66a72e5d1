-- The best responses along the row of a whole table: the law `row-responses` says that they are what `best_responses` lists. Assumes nothing.
use Rattle.std.specs.Prelude.{true, List, map, ℕ, ◌+◌, ◌*◌, length, get_or, take, replicate, Float}
use Rattle.std.specs.Float.{nan}
use Rattle.refusal.specs.Told.{Told, unless}
use Rattle.written_lists.specs.Outputs.{room_refusal, written}
use Rattle.payoff_tables.specs.Limits.{max_strategies, max_marks}
use Rattle.payoff_tables.specs.Table.{stride}
use Rattle.strategy_row.specs.Row.{row_bests}

-- The row of player p in a table, from the offset of the profile in which p chooses 0, with every strategy marked.
module _ (counts : List ℕ) (payoffs : List Float) (p at : ℕ) where
  -- the best of them
  unfoldable pub row_responses : List ℕ
  row_responses =
      row_bests payoffs (replicate max_marks true) (p * max_strategies) (at * length counts + p) (stride counts p * length counts) (get_or counts p 0)

  -- their number, for outputs of lengths a and b, or 13
  unfoldable pub row_answer : ℕ → ℕ → Told ℕ
  row_answer a b = unless (room_refusal (length row_responses) a b) (length row_responses)

  -- those that are written, for outputs of lengths a and b
  abbrev pub row_written : ℕ → ℕ → List ℕ
  row_written a b = take (written (row_answer a b)) row_responses

  -- the payoff of each
  unfoldable pub row_utilities : List ℕ → List Float
  row_utilities = map (λ t. get_or payoffs (at * length counts + p + t * (stride counts p * length counts)) nan)
