-- `mark_responses::greatest` meets its contract: `one` and `other` are the greatest of the two rows' cells up to that of the index. Assumes nothing.
use Prim.Native.Nat.{◌+◌, ◌<◌}
use lib.ListN.{length}
use Rattle.mark_responses.specs.Sweep.{Greatest}
use Rattle.mark_responses.proofs.greatest.Given as goal

abbrev pub invariant-loop-step : goal.invariant-loop-step
invariant-loop-step l =
    (l.step-index < length l.steps)
    × Greatest l.payoffs l.steps l.start (l.step-index + 1) l.one
    × Greatest l.payoffs l.steps (l.start + l.gap) (l.step-index + 1) l.other
