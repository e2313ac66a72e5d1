-- What the inner functions compute: expectations within bounds. Assumes nothing.
use Rattle.std.specs.Prelude.{Bool, not, ◌&&◌, List, ℕ, get_or, Float}
use Rattle.std.specs.Float.{nan}
use Rattle.std.specs.Float.Ieee.{lt}
use Rattle.game.specs.Finite.{all, below}
use Rattle.payoff_order.specs.Order.{finite}
use Rattle.sums.specs.Sums.{sum_of_products}
use Rattle.sums.specs.Inner.{strided}

-- a finite number, not below `low` and not above `high`
abbrev pub between : Float → Float → Float → Bool
between low high x = finite x && not (lt x low) && not (lt high x)

-- the expectations of all own choices, under a vector over the others' choices, are such numbers
abbrev pub within : List Float → List Float → ℕ → ℕ → ℕ → ℕ → Float → Float → Bool
within payoffs vector count own others other low high =
    all (λ t. between low high (sum_of_products (λ o. get_or vector o nan) (strided payoffs own other t) (below others))) (below count)
