-- `mark_responses::mark_pair` meets its contract: the cells before the i-th of both rows are marked, where a cell that the greatest does not
-- exceed is one that no cell of its row exceeds. Assumes nothing.
use mathlib.Core.Path.{◌≡◌}
use mathlib.Core.Bool.{Bool}
use Prim.Native.Nat.{ℕ, ◌≤◌}
use lib.ListN.{length}
use Rattle.mark_responses.specs.Sweep.{Spaced, CellOf, BytesMarked, Wants}
use Rattle.mark_responses.proofs.mark_pair.Given as goal

abbrev pub invariant-loop-step : goal.invariant-loop-step
invariant-loop-step l =
    (l.step-index ≤ length l.steps)
    × (length l.marks ≡ length l.initial.marks)
    × ((want : ℕ → Bool) → Wants l.payoffs l.steps (Spaced l.start l.gap 2) want → BytesMarked want (CellOf l.steps l.step-index (Spaced l.start l.gap 2)) l.initial.marks l.marks)
