-- The row of the k-th profile and a player: its cells are those of the player's changes, and whether the player's choice is a best response is
-- whether it is a best one of the row. Assumes nothing.
use mathlib.Core.Path.{◌≡◌, sym, ap, ap₂, ◌∙◌}
use mathlib.Core.Bool.{Bool}
use mathlib.Core.List.{List, []}
use Prim.Native.Nat.{ℕ, ◌+◌, ◌*◌, ◌-◌, ◌/◌, ◌%◌, ◌<◌}
use native.Mathlib.Nat.{mod-lt}
use lib.ListN.{length, get_or, set}
use lib.Seq.{set-get_or}
use lib.Ieee.{Float}
use Rattle.game.specs.Finite.{product}
use Rattle.game.specs.Game.{choice, profiles}
use Rattle.game.specs.Solution.{best_response}
use Rattle.game.proofs.Game.{set_profile}
use Rattle.payoff_tables.specs.Limits.{max_strategies}
use Rattle.payoff_tables.specs.Table.{cells, stride, cell, table_game}
use Rattle.payoff_tables.specs.Meaning.{Shape}
use Rattle.payoff_tables.proofs.Offsets.{cell_below, nth_profile, offset_nth, nth_choice}
use Rattle.payoff_tables.proofs.Walk.{row_cell, row_start_lem}
use Rattle.marks.specs.Marks.{marked}
use Rattle.strategy_row.specs.Row.{row_best}
use Rattle.strategy_row.proofs.Row.{row_best_lem}

module _ {counts : List ℕ} (shape : Shape counts) (k p : ℕ) (h : k < product counts) (mine : p < length counts) where
  abbrev x : List ℕ
  x = get_or (profiles counts) k []

  -- what the player chooses
  abbrev pub chosen : ℕ
  chosen = k / stride counts p % get_or counts p 0

  -- the cell of strategy 0
  abbrev pub first : ℕ
  first = (k - chosen * stride counts p) * length counts + p

  -- The cell of each change,
  change_cell : (t : ℕ) → t < get_or counts p 0 → first + t * (stride counts p * length counts) ≡ cell counts (set x p t) p
  change_cell t l =
      ap (λ (n : ℕ). n * length counts + p + t * (stride counts p * length counts)) (row_start_lem counts k p h mine (shape.low p mine))
      ∙ row_cell p (nth_profile counts k h) mine (shape.low p mine) t l

  -- which is within the table,
  pub change_inside : (t : ℕ) → t < get_or counts p 0 → first + t * (stride counts p * length counts) < cells counts
  change_inside t l = rw (change_cell t l) (cell_below p (set_profile counts x (nth_profile counts k h) p t mine l) mine)

  -- and that of the choice itself.
  pub own_cell : first + chosen * (stride counts p * length counts) ≡ k * length counts + p
  own_cell =
      change_cell chosen (mod-lt (k / stride counts p) (shape.low p mine))
      ∙ ap (λ (n : ℕ). cell counts (set x p n) p) (sym (nth_choice counts k p h mine))
      ∙ ap (λ (y : List ℕ). cell counts y p) (set-get_or x p 0)
      ∙ ap (λ (n : ℕ). n * length counts + p) (offset_nth counts k h)

  -- Whether the choice is a best response, by the row.
  pub best_row : (payoffs : List Float) (marks : List Bool)
      → best_response (table_game counts payoffs) (marked marks) p x (choice x p) ≡ row_best payoffs marks (p * max_strategies) first (stride counts p * length counts) (get_or counts p 0) chosen
  best_row payoffs marks =
      sym (row_best_lem shape payoffs marks (nth_profile counts k h) p mine (choice x p) ((nth_profile counts k h).fits p mine))
      ∙ ap₂ (λ (b t : ℕ). row_best payoffs marks (p * max_strategies) (b * length counts + p) (stride counts p * length counts) (get_or counts p 0) t)
      (sym (row_start_lem counts k p h mine (shape.low p mine))) (nth_choice counts k p h mine)
