-- `gains::raised_by` meets its contract. The loop's invariant: `top` is the best, raised by the
-- gains passed. Assumes nothing.
use mathlib.Core.Path.{◌≡◌}
use Rattle.gains.specs.Inner.{raise_all}
use mathlib.Core.Bool.{not}
use mathlib.Core.List.{List, map}
use Prim.Native.Nat.{ℕ}
use lib.Dec.{eqb}
use lib.Ieee.{Float, nan}
use lib.ListN.{get_or}
use Rattle.game.specs.Finite.{below, filter}
use Rattle.gains.proofs.raised_by.Given as goal

-- the gains but the one at `own`
abbrev pub passed : List Float → ℕ → ℕ → List Float
passed gains own t = map (λ i. get_or gains i nan) (filter (λ i. not (eqb i own)) (below t))

abbrev pub invariant-loop-t : goal.invariant-loop-t
invariant-loop-t l = l.top ≡ raise_all l.best (passed l.gains l.own l.t)
