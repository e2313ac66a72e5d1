use mathlib.Core.Path.{sym}
use native.Mathlib.Omega.{arith}
use borrow.Author.Count.{below_more}
use Rattle.game.proofs.Finite.{test_true, test_false}
use Rattle.profile_listing.proofs.Write.{marked_T}
use Rattle.profile_listing.proofs.all_marked.Goals as goal

pub loop-p-init : goal.loop-p-init
loop-p-init c = (omega arith, λ q h. absurd (omega arith))

pub returns-then-marks-at-eq0 : goal.returns-then-marks-at-eq0
returns-then-marks-at-eq0 c =
    let k = c in
    let a = k.args in
    sym (test_false _ (λ h. (marked_T a.marks.now a.at a.number).0 h k.loop-p.p k.loop-p-test.true c.if-marks-at-eq0.true))

pub loop-p-preserved : goal.loop-p-preserved
loop-p-preserved c = (omega arith, below_more _ _ c.loop-p.invariant.1 c.if-marks-at-eq0.false)

pub returns : goal.returns
returns c =
    let a = c.args in
    sym (test_true _ ((marked_T a.marks.now a.at a.number).1 (λ q l. c.loop-p.invariant.1 q (omega arith))))
