-- `report::read_input` is safe, ends and gives a number of bytes at the start of the file. The
-- loop's invariant: the file keeps its length, and the number is at most that. The measure is the
-- room that is left and the interrupted reads that are allowed: a turn that goes on has moved a
-- byte or counted one of these. Assumes nothing.
use Rattle.std.proofs.Common.{◌≡◌, ◌+◌, ◌-◌, ◌≤◌, length}
use Rattle.report.proofs.read_input.Given as goal

abbrev pub invariant-loop-size : goal.invariant-loop-size
invariant-loop-size g l = (length l.file ≡ length l.initial.file) × (l.size ≤ length l.initial.file)

abbrev pub decreases-loop-size : goal.decreases-loop-size
decreases-loop-size g l = (length l.initial.file - l.size) + l.again
