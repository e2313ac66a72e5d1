-- `mark_responses::count_ones` meets its contract: so many of the bytes before the parts that are left are 1. Assumes nothing.
use mathlib.Core.Path.{◌≡◌}
use Prim.Native.Nat.{◌+◌}
use lib.ListN.{take}
use Rattle.std.specs.Slice.Iter.{chunks_rest, chunks_size}
use Rattle.response_marks.specs.Marks.{ones}
use Rattle.mark_responses.specs.Sweep.{run}
use Rattle.mark_responses.proofs.count_ones.Given as goal

abbrev pub invariant-loop-part : goal.invariant-loop-part
invariant-loop-part l =
    (chunks_size l.part-iterator ≡ run)
    × (l.number + ones (chunks_rest l.part-iterator) ≡ ones (take l.cells l.marks))
