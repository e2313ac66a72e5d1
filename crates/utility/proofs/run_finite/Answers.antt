use mathlib.Core.Path.{sym, ap, ◌∙◌}
use mathlib.Core.Bool.{Bool, ◌&&◌}
use lib.Ieee.{nan}
use lib.ListN.{get_or}
use Rattle.payoff_order.specs.Order.{finite}
use Rattle.payoff_order.proofs.All.{all_next}
use Rattle.utility.proofs.run_finite.Goals as goal

pub loop-value-preserved : goal.loop-value-preserved
loop-value-preserved c =
    let l = c.loop-value in
    let xs = c.args.values.now in
    ap (λ (t : Bool). l.ok && t) c.is_finite-ok.ensures
    ∙ ap (λ (t : Bool). t && finite (get_or xs l.value-index nan)) l.invariant
    ∙ sym (all_next finite nan xs l.value-index c.loop-value-test.true)
