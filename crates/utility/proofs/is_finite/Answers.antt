-- `utility::is_finite` meets its contract: x - x is 0 exactly where x is finite. Assumes nothing.
use Rattle.utility.proofs.Finite.{is_finite}
use Rattle.utility.proofs.is_finite.Goals as goal

pub returns : goal.returns
returns c = is_finite c.args.x
