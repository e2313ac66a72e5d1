-- `mixed_strategies::magnitude` meets its contract: below 0 the negation is the distance, and else
-- nothing tells the two apart. Assumes nothing.
use mathlib.Core.Path.{ap}
use lib.Ieee.{lt}
use Rattle.sums.proofs.Floats.{far_below, far_above}
use Rattle.mixed_strategies.proofs.magnitude.Goals as goal

pub returns-then-x : goal.returns-then-x
returns-then-x c = λ y. ap (lt y) (far_below c.args.x c.if-x.true)

pub returns-else-x : goal.returns-else-x
returns-else-x c = λ y. far_above c.args.x y c.if-x.false
