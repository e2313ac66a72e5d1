-- `test_lines::cases::run`: the call may be made again. Assumes nothing.
use Rattle.test_lines.proofs.cases.run.Given as goal

abbrev pub invariant-loop : goal.invariant-loop
invariant-loop g l = goal.F-IsAlwaysCallable g l.call
