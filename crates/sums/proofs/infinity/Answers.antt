-- `sums::infinity` meets its contract: 1.0 / 0.0 is infinity, by the definition of the division.
-- Assumes nothing.
use mathlib.Core.Path.{refl}
use lib.Ieee.{div, of_bits}
use Rattle.sums.proofs.infinity.Goals as goal

pub returns : goal.returns
unfolding div of_bits
returns c = refl
