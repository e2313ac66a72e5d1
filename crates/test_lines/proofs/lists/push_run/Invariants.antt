-- `test_lines::lists::push_run`: an element is added in each round. Assumes nothing.
use Rattle.std.proofs.Common.{◌≡◌, ◌+◌}
use Rattle.std.specs.Vec.{vec_len}
use Rattle.test_lines.proofs.lists.push_run.Given as goal

abbrev pub invariant-loop-place : goal.invariant-loop-place
invariant-loop-place g l = vec_len l.list ≡ vec_len l.initial.list + l.place
