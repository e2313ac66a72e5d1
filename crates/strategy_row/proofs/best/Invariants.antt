-- `strategy_row::best` meets its contract. The invariant: `best` is the lowest best one of the strategies before t, with the utility of its cell,
-- or none of them is marked (`Found`). Assumes nothing.
use mathlib.Core.Bool.{true, false}
use mathlib.Core.List.{List}
use mathlib.Core.Path.{◌≡◌}
use Prim.Native.Nat.{ℕ, ◌+◌, ◌*◌}
use lib.ListN.{get_or}
use lib.Ieee.{Float, nan}
use mathlib.Core.Bool.{Bool}
use Rattle.std.specs.Prelude.{Option, Some, None}
use Rattle.utility.specs.Value.{value_of}
use Rattle.utility.specs.declared.Utility.{Utility}
use Rattle.strategy_row.proofs.Row.{Found}
use Rattle.strategy_row.proofs.best.Given as goal

module _ (payoffs : List Float) (marks : List Bool) (place start step : ℕ) where
  abbrev pub Best : Option (ℕ × Utility) → ℕ → Type 0
  Best None n = Found payoffs marks place start step false 0 n
  Best (Some (b, top)) n = (value_of top ≡ get_or payoffs (start + b * step) nan) × Found payoffs marks place start step true b n

abbrev pub invariant-loop-t : goal.invariant-loop-t
invariant-loop-t l = Best l.payoffs l.marks l.place l.start l.step l.best l.t
