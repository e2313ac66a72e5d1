-- `test_print::tell_all`: the text only grows. Assumes nothing.
use Rattle.std.specs.String.{string_bytes}
use Rattle.test_print.specs.Told.{IsAdded}
use Rattle.test_print.proofs.tell_all.Given as goal

abbrev pub invariant-loop-x : goal.invariant-loop-x
invariant-loop-x g l = IsAdded (string_bytes l.initial.out) (string_bytes l.out)
