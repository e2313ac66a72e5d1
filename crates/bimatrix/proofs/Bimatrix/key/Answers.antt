-- `bimatrix::Bimatrix::key` meets its contract: four base-4 digits are worth 256 where four more follow. Assumes nothing.
use Rattle.std.proofs.Common.{rules}
use Rattle.bimatrix.specs.Keys.{key}
use Rattle.bimatrix.proofs.Bimatrix.key.Goals as goal

pub returns : goal.returns
unfolding key
returns c = search rules
