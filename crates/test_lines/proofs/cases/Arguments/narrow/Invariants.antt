-- `test_lines::cases::Arguments::narrow`: a number is added in each round. Assumes nothing.
use Rattle.std.proofs.Common.{◌≡◌}
use Rattle.std.specs.Vec.{vec_len}
use Rattle.test_lines.proofs.cases.Arguments.narrow.Given as goal

abbrev pub invariant-loop-n : goal.invariant-loop-n
invariant-loop-n g l = vec_len l.narrow ≡ l.n-index
