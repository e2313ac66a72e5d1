-- `outputs::put` meets its contract: past the end nothing is stored. Assumes nothing.
use Rattle.outputs.proofs.Puts.{past_end}
use Rattle.outputs.proofs.put.Goals as goal

pub returns-else-at-out : goal.returns-else-at-out
returns-else-at-out g c =
    let p = past_end c.args.out.now c.args.at c.args.x c.if-at-out.false in
    record { value = p.0; out_after = p.1 }
