use mathlib.Core.Path.{sym, ap, ◌∙◌}
use lib.Ieee.{Float, nan, binary64, add}
use lib.ListN.{get_or}
use Rattle.sums.proofs.Sums.{sum_next}
use Rattle.sums.proofs.sum.Goals as goal

pub loop-value-preserved : goal.loop-value-preserved
loop-value-preserved c =
    let xs = c.args.values.now in
    let i = c.loop-value.value-index in
    ap (λ (s : Float). add binary64 s (get_or xs i nan)) c.loop-value.invariant ∙ sym (sum_next xs i c.loop-value-test.true)
