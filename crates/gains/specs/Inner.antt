-- What the inner functions compute: the best so far, raised by gains. Assumes nothing.
use Rattle.std.specs.Prelude.{false, cond, List, [], ◌∷◌, Float}
use Rattle.std.specs.Float.{inf}
use Rattle.std.specs.Float.Ieee.{lt}
use Rattle.payoff_order.specs.Order.{finite}

-- the greater of the best so far and a gain, or infinity where the gain isn't finite
abbrev pub raise : Float → Float → Float
raise best x = cond (finite x) (cond (lt best x) x best) (inf false)

-- the best so far, raised by each gain of a list
abbrev pub raise_all : Float → List Float → Float
raise_all best [] = best
raise_all best (x ∷ xs) = raise_all (raise best x) xs
