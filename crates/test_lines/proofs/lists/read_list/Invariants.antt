-- `test_lines::lists::read_list`: there is never room for more than `most`. Assumes nothing.
use Rattle.std.proofs.Common.{◌≤◌}
use Rattle.test_lines.specs.Room.{spoken_for}
use Rattle.test_lines.proofs.lists.read_list.Given as goal

abbrev pub invariant-loop-word : goal.invariant-loop-word
invariant-loop-word g l = spoken_for l.reading ≤ l.initial.most
