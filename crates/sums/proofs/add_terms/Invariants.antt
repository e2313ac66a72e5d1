-- `sums::add_terms` meets its contract. The loop's invariant: the sums passed have their term, the
-- others are as before. Assumes nothing.
use mathlib.Core.Path.{◌≡◌}
use mathlib.Core.List.{List}
use Prim.Native.Nat.{ℕ, ◌+◌, ◌*◌}
use lib.Ieee.{Float, nan, binary64, sub, mul}
use lib.ListN.{get_or}
use Rattle.sums.specs.Inner.{added}
use Rattle.sums.proofs.add_terms.Given as goal

-- the term of sum t
abbrev pub terms : Float → Float → List Float → ℕ → ℕ → ℕ → Float
terms weight less table first step t = mul binary64 weight (sub binary64 (get_or table (t * step + first) nan) less)

abbrev pub invariant-loop-t : goal.invariant-loop-t
invariant-loop-t l = l.sum-items ≡ added l.t (terms l.weight l.less l.table l.first l.step) l.initial.sum-items
