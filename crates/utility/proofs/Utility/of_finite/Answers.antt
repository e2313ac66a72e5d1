-- `utility::Utility::of_finite` meets its contract: the utility holds the value. Assumes nothing.
use mathlib.Core.Path.{refl}
use Rattle.utility.specs.Value.{value_of}
use Rattle.utility.proofs.Utility.of_finite.Goals as goal

pub returns : goal.returns
unfolding value_of
returns c = refl
