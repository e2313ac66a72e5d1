-- What the test of one player's choice needs: the row of the choice lies within the table, and the two tests say whether it is a best response.
-- Assumes nothing.
use mathlib.Core.Path.{◌≡◌, ap, ◌∙◌, subst⁻¹}
use mathlib.Core.Bool.{Bool, false, ◌&&◌}
use mathlib.Core.List.{List, []}
use mathlib.Core.Logic.{◌↔◌}
use Prim.Native.Nat.{ℕ, ◌+◌, ◌*◌, ◌-◌, ◌/◌, ◌%◌, ◌≤◌, ◌<◌}
use native.Mathlib.Nat.{mod-lt, zero-mul, add-zero}
use lib.Arith.{digits_lt}
use lib.Dec.{T}
use lib.ListN.{length, get_or}
use lib.Ieee.{Float}
use Rattle.game.specs.Finite.{product}
use Rattle.game.specs.Game.{profiles}
use Rattle.game.proofs.Finite.{and_T}
use Rattle.payoff_tables.specs.Limits.{max_players, max_strategies, max_cells}
use Rattle.payoff_tables.specs.Table.{stride, table_game}
use Rattle.payoff_tables.specs.Meaning.{Table}
use Rattle.payoff_tables.proofs.Offsets.{stride_positive, walk_at_most}
use Rattle.payoff_tables.proofs.Walk.{shape_some, step_room}
use Rattle.marks.specs.Marks.{marked}
use Rattle.strategy_row.specs.Row.{row_unexceeded, row_best}
use Rattle.strategy_row.proofs.Change.{change_inside, own_cell, best_row}
use Rattle.response_marks.specs.Marks.{settled}

pub record Change (counts : List ℕ) (payoffs : List Float) (marks : List Bool) (k p s : ℕ) : Type 0 where
  pub low : 0 < get_or counts p 0
  pub high : get_or counts p 0 ≤ max_strategies
  pub wide : 0 < s
  pub few : length counts ≤ max_players
  pub room : length payoffs ≤ max_cells
  pub choice_below : k / s % get_or counts p 0 < get_or counts p 0
  pub choice_part : k / s % get_or counts p 0 * s ≤ k
  pub own : k * length counts + p < length payoffs
  pub first : (k - k / s % get_or counts p 0 * s) * length counts + p < length payoffs
  pub step : s * length counts ≤ max_cells
  pub inside : (t : ℕ) → t < get_or counts p 0 → (k - k / s % get_or counts p 0 * s) * length counts + p + t * (s * length counts) < length payoffs
  pub tests : T (settled (table_game counts payoffs) (marked marks) (get_or (profiles counts) k []) p)
      ↔ (T (get_or marks (p * max_strategies + k / s % get_or counts p 0) false)
      × T (row_unexceeded payoffs marks (p * max_strategies) ((k - k / s % get_or counts p 0 * s) * length counts + p) (s * length counts) (get_or counts p 0) (k * length counts + p)))

pub change : (counts : List ℕ) (payoffs : List Float) (marks : List Bool) (k p s : ℕ) → Table counts payoffs → k < product counts → p < length counts
    → s ≡ stride counts p → Change counts payoffs marks k p s
unfolding settled row_best
change counts payoffs marks k p s table h mine e =
    let shape = table.shape in
    let t : ℕ = k / stride counts p % get_or counts p 0 in
    let start : ℕ = (k - t * stride counts p) * length counts + p in
    let step : ℕ = stride counts p * length counts in
    let inside : (t : ℕ) → t < get_or counts p 0 → start + t * step < length payoffs = λ t l. rw table.full (change_inside shape k p h mine t l) in
    let is = best_row shape k p h mine payoffs marks
    ∙ ap (λ (n : ℕ). get_or marks (p * max_strategies + t) false && row_unexceeded payoffs marks (p * max_strategies) start step (get_or counts p 0) n) (own_cell shape k p h mine) in
    subst⁻¹ (Change counts payoffs marks k p) e
    (record {
      low = shape.low p mine;
      high = shape.high p mine;
      wide = stride_positive counts p (shape_some shape);
      few = shape.few;
      room = rw table.full shape.room;
      choice_below = mod-lt (k / stride counts p) (shape.low p mine);
      choice_part = walk_at_most counts k p;
      own = rw table.full (digits_lt h mine);
      first = rw (zero-mul, add-zero) at (inside 0 (shape.low p mine));
      step = step_room shape p;
      inside = inside;
      tests = rw is (and_T (get_or marks (p * max_strategies + t) false) (row_unexceeded payoffs marks (p * max_strategies) start step (get_or counts p 0) (k * length counts + p)));
    })
