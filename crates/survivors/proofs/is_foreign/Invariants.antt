-- `survivors::is_foreign` meets its contract. The invariant: the players before p have the table's counts, a mark where they are below P, and
-- no mark at or past their counts. Assumes nothing.
use Prim.Native.Nat.{◌-◌, ◌≤◌}
use Rattle.payoff_tables.specs.Limits.{max_players}
use Rattle.survivors.proofs.Foreign.{OwnTo}
use Rattle.survivors.proofs.is_foreign.Given as goal

abbrev pub invariant-loop-p : goal.invariant-loop-p
invariant-loop-p l = OwnTo l.counts l.held l.marks l.p
