-- What the test of `Distribution` says of every number. Assumes nothing.
use Rattle.std.specs.Prelude.{◌≡◌, false, List, length, Float}
use Rattle.std.specs.Float.{binary64}
use Rattle.std.specs.Float.Ieee.{neg, sub, lt}
use Rattle.sums.specs.Sums.{one, rounded_sum, distance}
use Rattle.candidate_input.specs.Meaning.{Finites, NoneBelow, Tolerable}

-- a distribution up to the tolerance
pub record Distribution (p : List Float) (tolerance : Float) : Type 0 where
  pub finites : Finites (length p) p
  pub tolerable : Tolerable tolerance
  pub entries : NoneBelow (neg tolerance) p
  pub whole : lt tolerance (distance (sub binary64 (rounded_sum p) one)) ≡ false
