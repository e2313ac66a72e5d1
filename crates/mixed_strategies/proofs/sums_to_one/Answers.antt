-- `mixed_strategies::sums_to_one` meets its contract: the distance of the sum from 1.0 is compared
-- as `distance` is. Assumes nothing.
use mathlib.Core.Path.{ap, ◌∙◌}
use mathlib.Core.Bool.{not}
use lib.Ieee.{Float, binary64, sub, lt}
use Rattle.sums.specs.Sums.{one, distance}
use Rattle.mixed_strategies.specs.Distribution.{sums_to_one}
use Rattle.mixed_strategies.proofs.sums_to_one.Goals as goal

pub returns : goal.returns
unfolding sums_to_one
returns c =
    let e = c.sum.ensures in
    ap not (c.magnitude-far.ensures c.args.tolerance)
    ∙ ap (λ (s : Float). not (lt c.args.tolerance (distance (sub binary64 s one)))) e
