-- `utility::run_finite` meets its contract. The loop's invariant: `ok` says whether every value
-- passed is finite. Assumes nothing.
use mathlib.Core.Path.{◌≡◌}
use lib.ListN.{take}
use Rattle.game.specs.Finite.{all}
use Rattle.payoff_order.specs.Order.{finite}
use Rattle.utility.proofs.run_finite.Given as goal

abbrev pub invariant-loop-value : goal.invariant-loop-value
invariant-loop-value l = l.ok ≡ all finite (take l.value-index l.values)
