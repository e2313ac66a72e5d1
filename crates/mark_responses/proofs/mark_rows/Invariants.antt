-- `mark_responses::mark_rows` meets its contract: the rows before the i-th are marked. Assumes nothing.
use mathlib.Core.Path.{◌≡◌}
use Prim.Native.Nat.{◌+◌, ◌-◌, ◌≤◌}
use lib.ListN.{length}
use Rattle.mark_responses.specs.Sweep.{RowsMarked}
use Rattle.mark_responses.proofs.Rows.{First}
use Rattle.mark_responses.proofs.mark_rows.Given as goal

abbrev pub invariant-loop-i : goal.invariant-loop-i
invariant-loop-i l = (l.i ≤ l.number + 1) × (length l.marks ≡ length l.initial.marks) × RowsMarked l.payoffs l.steps (First l.payoffs l.steps l.start l.gap l.number l.i) l.initial.marks l.marks

abbrev pub decreases-loop-i : goal.decreases-loop-i
decreases-loop-i l = l.number - l.i
