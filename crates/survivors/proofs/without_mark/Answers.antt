-- `survivors::without_mark` meets its contract. Assumes nothing.
use mathlib.Core.Path.{refl}
use Rattle.survivors.specs.Survivors.{without_mark}
use Rattle.survivors.proofs.without_mark.Goals as goal

pub returns : goal.returns
unfolding without_mark
returns c = refl
