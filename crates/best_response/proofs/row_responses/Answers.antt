-- `best_response::row_responses` meets its contract: those that reach the lowest best one are the best of the row, and nothing is written
-- where an output is too short for them. Assumes nothing.
use mathlib.Core.List.{List}
use mathlib.Core.Path.{◌≡◌, refl, ap, ◌∙◌}
use Prim.Native.Nat.{ℕ, ◌+◌, ◌*◌, ◌<◌, ◌≤◌}
use native.Mathlib.Omega.{arith}
use lib.ListN.{length, get_or}
use lib.Seq.{take-length}
use mathlib.Core.Option.{some}
use Rattle.refusal.specs.declared.NormalFormError.TheVariants.{OutputTooShort}
use Rattle.refusal.specs.Told.{values}
use Rattle.written_lists.specs.Outputs.{room_refusal}
use Rattle.written_lists.proofs.Outputs.{first_short, second_short, room_fits}
use Rattle.payoff_tables.specs.Limits.{max_strategies, max_marks}
use Rattle.payoff_tables.proofs.Walk.{step_room}
use Rattle.strategy_row.proofs.Row.{lowest_below}
use Rattle.best_response.specs.Row.{row_responses, row_answer, row_utilities}
use Rattle.best_response.proofs.Responses.{found_responses, found_whole}
use Rattle.best_response.proofs.row_responses.Goals as goal
use Rattle.best_response.proofs.row_responses.Goals.{After-best, After-count_best-number, After-stride, Start, then-strategies-number-via-then-strategies-number, then-strategies-number-via-else-strategies-number+then-utilities-number}

module _ (c : Start) where
  abbrev players : ℕ
  players = length c.args.counts.now

  abbrev count : ℕ
  count = get_or c.args.counts.now c.args.player 0

  marks : c.args.player * max_strategies + count ≤ max_marks
  marks = let s = c.requires.table.shape in omega (arith, s.few, s.high c.args.player c.requires.player_in_bounds, c.requires.player_in_bounds)

-- the cells, as the code has the step
row : (c : After-stride) →
    let n = length c.args.counts.now in
    (t : ℕ) → t < get_or c.args.counts.now c.args.player 0 → c.args.at * n + c.args.player + t * (c.stride.result * n) < length c.args.payoffs.now
row c t l = rw c.stride.ensures (c.requires.by_index t l)

-- the cell of the lowest best one
top : (c : After-best) →
    let n = length c.args.counts.now in
    c.args.at * n + c.args.player + c.best.result * (c.stride.result * n) < length c.args.payoffs.now
top c =
    rw c.stride.ensures (c.requires.by_index c.best.result
    (rw c.best.ensures (lowest_below _ _ _ _ _ _ (c.requires.table.shape.low c.args.player c.requires.player_in_bounds))))

module _ (c : After-count_best-number) where
  abbrev all : List ℕ
  all =
      let a = c.args in
      row_responses a.counts.now a.payoffs.now a.player a.at

  -- the outputs' lengths
  abbrev room : ℕ
  room = length c.args.strategies.now

  abbrev room' : ℕ
  room' = length c.args.utilities.now

  number : c.count_best-number.result ≡ length all
  number =
      c.count_best-number.ensures
      ∙ ap length (found_responses _ _ _ _ c.stride.ensures c.best.ensures)

pub overflow_mul-step : goal.overflow_mul-step
overflow_mul-step c =
    omega (arith, step_room c.requires.table.shape c.args.player, ap (λ (n : ℕ). n * players (goal.at.overflow_mul-step c).Start) c.stride.ensures)

pub overflow_mul-top : goal.overflow_mul-top
overflow_mul-top c = omega (arith, top (goal.at.overflow_mul-top c).After-best)

pub overflow_add-top : goal.overflow_add-top
overflow_add-top c = omega (arith, top (goal.at.overflow_add-top c).After-best)

pub count_best-number-requires : goal.count_best-number-requires
count_best-number-requires c =
    record {
      finites = c.requires.table.finites;
      count_in_bounds = marks (goal.at.count_best-number-requires c).Start;
      by_index = row (goal.at.count_best-number-requires c).After-stride;
      top_in_bounds = top (goal.at.count_best-number-requires c).After-best;
    }

pub returns-then-strategies-number : goal.returns-then-strategies-number
unfolding row_answer row_utilities
returns-then-strategies-number c =
    let k = (goal.at.returns-then-strategies-number c).After-count_best-number in
    let n = length (all k) in
    let short : room_refusal n (room k) (room' k) ≡ some OutputTooShort =
    elim c.then-strategies-number.branch [
      | then-strategies-number-via-then-strategies-number w ↦ first_short n (room k) (room' k) (rw (← number k) w.if-strategies-number.true)
      | then-strategies-number-via-else-strategies-number+then-utilities-number w ↦
          second_short n (room k) (room' k) (rw (← number k) w.if-strategies-number.false) (rw (← number k) w.if-utilities-number.true)
    ] in
    rw short (record { result_value = refl; strategies_after = refl; utilities_after = refl })

pub write_best-requires : goal.write_best-requires
write_best-requires c =
    let e = c.count_best-number.ensures in
    record {
      finites = c.requires.table.finites;
      count_in_bounds = marks (goal.at.write_best-requires c).Start;
      by_index = row (goal.at.write_best-requires c).After-stride;
      top_in_bounds = top (goal.at.write_best-requires c).After-best;
      top_in_bounds_2 = rw (← e) c.if-strategies-number.false;
      top_in_bounds_3 = rw (← e) c.if-utilities-number.false;
    }

pub returns : goal.returns
unfolding row_answer row_utilities
returns c =
    let k = (goal.at.returns c).After-count_best-number in
    let n = number k in
    let a = c.args in
    let w = found_whole a.counts.now a.payoffs.now a.player a.at c.stride.ensures c.best.ensures a.strategies.now a.utilities.now
    (c.write_best.ensures.strategies_after, c.write_best.ensures.utilities_after) in
    rw (
      room_fits (length (all k)) (room k) (room' k) (rw (← n) c.if-strategies-number.false) (rw (← n) c.if-utilities-number.false),
      take-length,
    )
    (record { result_value = ap values n; strategies_after = w.0; utilities_after = w.1 })
