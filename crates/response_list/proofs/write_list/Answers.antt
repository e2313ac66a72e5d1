-- `response_list::write_list` meets its contract: what is written is the next of the records. Assumes
-- nothing.
use native.Mathlib.Omega.{arith}
use lib.Ieee.{nan}
use Rattle.written_lists.proofs.Outputs.{over_next}
use Rattle.response_list.specs.Responses.{response}
use Rattle.response_list.proofs.write_list.Goals as goal

pub loop-i-preserved : goal.loop-i-preserved
loop-i-preserved c =
    rw c.loop-i.invariant
    (over_next c.args.found.records c.args.out.now c.loop-i.i (response 0 nan) (omega (arith, c.requires.0)) (omega (arith, c.requires.1)))
