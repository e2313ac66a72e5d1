-- `test_survivors::tell_marks`: the text only grows. Assumes nothing.
use Rattle.std.specs.String.{string_bytes}
use Rattle.test_print.specs.Told.{IsAdded}
use Rattle.test_survivors.proofs.tell_marks.Given as goal

abbrev pub invariant-loop-player : goal.invariant-loop-player
invariant-loop-player l = IsAdded (string_bytes l.initial.out) (string_bytes l.out)

abbrev pub invariant-loop-strategy : goal.invariant-loop-strategy
invariant-loop-strategy l = IsAdded (string_bytes l.initial.out) (string_bytes l.out)
