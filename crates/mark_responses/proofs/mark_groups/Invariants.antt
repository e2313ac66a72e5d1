-- `mark_responses::mark_groups` meets its contract: the groups before the o-th are marked. Assumes nothing.
use mathlib.Core.Path.{◌≡◌}
use Prim.Native.Nat.{◌≤◌}
use lib.ListN.{length}
use Rattle.mark_responses.specs.Sweep.{Nested, RowsMarked}
use Rattle.mark_responses.proofs.mark_groups.Given as goal

abbrev pub invariant-loop-o : goal.invariant-loop-o
invariant-loop-o l = (l.o ≤ l.others) × (length l.marks ≡ length l.initial.marks) × RowsMarked l.payoffs l.steps (Nested l.start l.far l.o l.gap l.number) l.initial.marks l.marks
