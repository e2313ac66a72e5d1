-- `response_list::write_list` meets its contract: of the records to be written the first i stand in the
-- list. Assumes nothing.
use mathlib.Core.Path.{◌≡◌}
use lib.ListN.{take}
use Rattle.written_lists.specs.Outputs.{over}
use Rattle.response_list.proofs.write_list.Given as goal

abbrev pub invariant-loop-i : goal.invariant-loop-i
invariant-loop-i l = l.out ≡ over (take l.i l.found.records) l.initial.out
