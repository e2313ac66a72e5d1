-- `mark_responses::count_run` meets its contract: so many of the bytes before the i-th are 1. Assumes nothing.
use mathlib.Core.Path.{◌≡◌}
use lib.ListN.{take}
use Rattle.response_marks.specs.Marks.{ones}
use Rattle.mark_responses.proofs.count_run.Given as goal

abbrev pub invariant-loop-mark : goal.invariant-loop-mark
invariant-loop-mark l = l.number ≡ ones (take l.mark-index l.marks)
