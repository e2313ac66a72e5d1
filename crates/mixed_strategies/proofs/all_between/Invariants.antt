-- `mixed_strategies::all_between` meets its contract. The loop's invariant: `ok` says whether every
-- value passed is finite and within the bounds. Assumes nothing.
use mathlib.Core.Path.{◌≡◌}
use lib.Ieee.{nan}
use lib.ListN.{get_or}
use Rattle.game.specs.Finite.{all, below}
use Rattle.mixed_strategies.specs.Inner.{between}
use Rattle.mixed_strategies.proofs.all_between.Given as goal

abbrev pub invariant-loop-x : goal.invariant-loop-x
invariant-loop-x l = l.ok ≡ all (λ s. between l.low l.high (get_or l.values s nan)) (below l.x-index)
