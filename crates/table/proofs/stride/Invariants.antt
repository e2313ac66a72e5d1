-- `table::stride` meets its contract: what is multiplied so far times the product of the counts left is that of all after the player.
use mathlib.Core.Path.{◌≡◌}
use Prim.Native.Nat.{◌*◌}
use lib.ListN.{drop}
use Rattle.game.specs.Finite.{product}
use Rattle.table.proofs.stride.Given as goal

abbrev pub invariant-loop-count : goal.invariant-loop-count
invariant-loop-count l = l.stride * product (drop l.count-index l.count-items) ≡ product l.count-items
