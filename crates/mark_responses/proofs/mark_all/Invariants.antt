-- `mark_responses::mark_all` meets its contract: down from the last player, stride is the product of the counts from p on, the players from p on
-- are marked, and those before are as they were. Assumes nothing.
use mathlib.Core.Path.{◌≡◌}
use Prim.Native.Nat.{◌≤◌}
use lib.ListN.{length, drop}
use Rattle.game.specs.Finite.{product}
use Rattle.payoff_tables.specs.Limits.{max_strategies}
use Rattle.mark_responses.specs.Sweep.{PlayersMarked}
use Rattle.mark_responses.proofs.mark_all.Given as goal

abbrev pub invariant-loop-p : goal.invariant-loop-p
invariant-loop-p l = (l.p ≤ length l.counts) × (l.stride ≡ product (drop l.p l.counts)) × (length l.steps ≡ max_strategies) × PlayersMarked l.counts l.payoffs l.survivors l.p l.initial.marks l.marks
