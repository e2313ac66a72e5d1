-- `utility::Utility::value` meets its contract: the field is what the utility holds. Assumes
-- nothing.
use mathlib.Core.Path.{refl}
use Rattle.utility.proofs.Utility.value.Goals as goal

pub returns : goal.returns
returns c = refl
