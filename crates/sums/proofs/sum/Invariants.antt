-- `sums::sum` meets its contract. The loop's invariant: `total` is the sum of the values passed.
-- Assumes nothing.
use mathlib.Core.Path.{◌≡◌}
use lib.ListN.{take}
use Rattle.sums.specs.Sums.{rounded_sum}
use Rattle.sums.proofs.sum.Given as goal

abbrev pub invariant-loop-value : goal.invariant-loop-value
invariant-loop-value l = l.total ≡ rounded_sum (take l.value-index l.values)
