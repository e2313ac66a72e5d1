use mathlib.Core.Path.{sym, ap, ◌∙◌}
use mathlib.Core.Bool.{Bool, ◌&&◌}
use lib.Ieee.{nan}
use lib.ListN.{get_or}
use Rattle.payoff_order.proofs.All.{all_next}
use Rattle.candidate_input.proofs.none_below.Invariants.{passes}
use Rattle.candidate_input.proofs.none_below.Goals as goal

pub loop-value-preserved : goal.loop-value-preserved
loop-value-preserved c =
    let a = c.args in
    let i = c.loop-value.value-index in
    ap (λ (b : Bool). b && passes a.bound (get_or a.values.now i nan)) c.loop-value.invariant
    ∙ sym (all_next (passes a.bound) nan a.values.now i c.loop-value-test.true)
