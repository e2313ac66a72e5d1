-- `table::StrategySpace::padded` meets its contract. Assumes nothing.
use native.Mathlib.Omega.{arith}
use Rattle.table.specs.Space.{space_of}
use Rattle.table.proofs.Space.{filled_none, filled_more, filled_past, filled_all}
use Rattle.table.proofs.StrategySpace.padded.Goals.{then-p-counts, else-p-counts}
use Rattle.table.proofs.StrategySpace.padded.Goals as goal

pub loop-p-init : goal.loop-p-init
loop-p-init c = filled_none _

pub loop-p-preserved : goal.loop-p-preserved
loop-p-preserved c =
    let l = c.loop-p in
    let cs = c.args.counts.now in
    elim c.if-p-counts.branch [
      | then-p-counts w ↦ rw w.places-is (filled_more cs l.p l.places (omega arith) l.invariant)
      | else-p-counts w ↦ rw w.places-is (filled_past cs l.p l.places w.if-p-counts.false l.invariant)
    ]

pub returns : goal.returns
unfolding space_of
returns c = rw (filled_all _ c.loop-p.p _ (omega arith) c.loop-p.invariant)
