-- `table::StrategySpace::none` meets its contract: both are P 0 and eight zeros. Assumes nothing.
use mathlib.Core.Path.{refl}
use Rattle.table.specs.Space.{space_of}
use Rattle.table.proofs.StrategySpace.none.Goals as goal

pub returns : goal.returns
unfolding space_of
returns c = refl
