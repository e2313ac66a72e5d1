use mathlib.Core.Path.{◌≡◌, refl, ◌∙◌}
use native.Mathlib.Omega.{arith}
use lib.Dec.{eqb}
use lib.ListN.{get_or}
use Rattle.refusal.specs.Told.{byte_of}
use Rattle.refusal.proofs.Told.{byte_is, byte_most}
use Rattle.response_marks.specs.Marks.{ones}
use Rattle.response_marks.proofs.Counting.{ones_more, ones_few}
use Rattle.mark_responses.proofs.count_run.Goals as goal
use Rattle.mark_responses.proofs.count_run.Goals.{After-from-number}

pub loop-mark-init : goal.loop-mark-init
unfolding ones
loop-mark-init c = refl

-- what is added for the mark at hand, and that the number with it is that of one byte more
added : (c : After-from-number) → let l = c.loop-mark in c.from-number.result ≡ byte_of (eqb (get_or c.args.marks.now l.mark-index 0) 1)
added c = c.from-number.ensures ∙ byte_is _

pub overflow_add-number : goal.overflow_add-number
overflow_add-number c =
    let l = c.loop-mark in
    let marks = c.args.marks.now in
    omega (arith, l.invariant, ones_few marks l.mark-index (omega arith), added (goal.at.overflow_add-number c).After-from-number, byte_most (eqb (get_or marks l.mark-index 0) 1))

pub loop-mark-preserved : goal.loop-mark-preserved
loop-mark-preserved c =
    let l = c.loop-mark in
    omega (arith, l.invariant, added (goal.at.loop-mark-preserved c).After-from-number, ones_more c.args.marks.now l.mark-index c.loop-mark-test.true)
