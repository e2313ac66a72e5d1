-- `bimatrix::Bimatrix::strictly_ranked` meets its contract: both players' tests. Assumes nothing.
use Rattle.bimatrix.specs.Keys.{strictly_ranked}
use Rattle.bimatrix.proofs.Bimatrix.strictly_ranked.Goals as goal

pub returns : goal.returns
unfolding strictly_ranked
returns c = cc
