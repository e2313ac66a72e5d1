use mathlib.Core.Path.{refl}
use native.Mathlib.Omega.{arith}
use Rattle.survivors.proofs.Marks.{filled_none, filled_past, filled_stays, filled_all}
use Rattle.survivors.proofs.all_marked.Goals as goal
use Rattle.survivors.proofs.all_marked.Goals.{then-counts-player, else-counts-player}

pub loop-i-init : goal.loop-i-init
loop-i-init c = filled_none _

pub loop-i-preserved : goal.loop-i-preserved
loop-i-preserved c =
    let l = c.loop-i in
    let cs = c.args.space.counts in
    elim c.if-counts-player.branch [
      | then-counts-player w ↦ rw w.marks-is (filled_past cs l.i l.marks c.loop-i-test.true l.invariant w.if-counts-player.true)
      | else-counts-player w ↦ rw w.marks-is (filled_stays cs l.i l.marks c.loop-i-test.true l.invariant w.if-counts-player.false)
    ]

pub returns : goal.returns
returns c = (refl, refl, filled_all _ c.loop-i.i _ (omega arith) c.loop-i.invariant)
