-- `candidate_input::is_tolerable` meets its contract: the tests are those of `tolerable`. Assumes
-- nothing.
use mathlib.Core.Path.{ap}
use mathlib.Core.Bool.{Bool, not, ◌&&◌}
use lib.Ieee.{lt}
use Rattle.sums.specs.Sums.{zero}
use Rattle.candidate_input.proofs.is_tolerable.Goals as goal

pub returns : goal.returns
returns c = ap (λ (b : Bool). b && not (lt c.args.tolerance zero)) c.is_finite.ensures
