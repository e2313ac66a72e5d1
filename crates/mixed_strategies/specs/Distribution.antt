-- Document 01, "Candidate checks": whether a vector is a distribution up to a tolerance. Assumes
-- nothing.
use Rattle.std.specs.Prelude.{Bool, not, ◌&&◌, List, Float}
use Rattle.std.specs.Float.{binary64}
use Rattle.std.specs.Float.Ieee.{neg, sub, lt}
use Rattle.game.specs.Finite.{all}
use Rattle.payoff_order.specs.Order.{finite}
use Rattle.sums.specs.Sums.{one, rounded_sum, distance}
use Rattle.candidate_input.specs.Input.{tolerable}

-- a vector's sum taken left to right, less 1.0 and rounded, is no further from 0 than the tolerance
unfoldable pub sums_to_one : List Float → Float → Bool
sums_to_one p tolerance = not (lt tolerance (distance (sub binary64 (rounded_sum p) one)))

-- every entry and the tolerance is finite, the tolerance is not negative, no entry is below
-- −tolerance, and the sum is 1.0 up to the tolerance
unfoldable pub distribution : List Float → Float → Bool
distribution p tolerance =
    all finite p && tolerable tolerance && all (λ x. not (lt x (neg tolerance))) p && sums_to_one p tolerance
