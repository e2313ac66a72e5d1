-- `gains::raised_player` meets its contract. The loop's invariant: `top` is the best, raised by the
-- gains from the strategies passed. Infinity stays infinity. Assumes nothing.
use mathlib.Core.Path.{◌≡◌}
use mathlib.Core.List.{flat_map}
use Rattle.game.specs.Finite.{below}
use Rattle.gains.specs.Inner.{raise_all}
use mathlib.Core.List.{List}
use Prim.Native.Nat.{ℕ}
use lib.Ieee.{Float}
use Rattle.sums.specs.Inner.{strided}
use Rattle.gains.specs.Gains.{gains_from}
use Rattle.gains.proofs.raised_player.Given as goal

-- the gains from strategy s
abbrev pub from : List Float → List Float → ℕ → ℕ → ℕ → ℕ → ℕ → List Float
from payoffs weights count own others other = gains_from (strided weights own other) (strided payoffs own other) (below others) count

abbrev pub invariant-loop-s : goal.invariant-loop-s
invariant-loop-s l = l.top ≡ raise_all l.best (flat_map (from l.payoffs l.weights l.count l.own l.others l.other) (below l.s))
