-- `candidate_input::none_below` meets its contract. The loop's invariant: `ok` says whether no
-- value passed is below the bound. Assumes nothing.
use mathlib.Core.Path.{◌≡◌}
use mathlib.Core.Bool.{Bool, not}
use lib.Ieee.{Float, lt}
use lib.ListN.{take}
use Rattle.game.specs.Finite.{all}
use Rattle.candidate_input.proofs.none_below.Given as goal

-- the test of one value
abbrev pub passes : Float → Float → Bool
passes bound x = not (lt x bound)

abbrev pub invariant-loop-value : goal.invariant-loop-value
invariant-loop-value l = l.ok ≡ all (passes l.bound) (take l.value-index l.values)
