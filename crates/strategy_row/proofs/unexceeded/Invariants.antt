-- `strategy_row::unexceeded` meets its contract. The invariant: no marked strategy before t exceeds the cell `own`. One that does ends the walk.
-- Assumes nothing.
use Prim.Native.Nat.{ℕ, ◌<◌, ◌≤◌}
use Rattle.payoff_tables.specs.Table.{cell_rank}
use Rattle.strategy_row.proofs.Row.{On, at}
use Rattle.strategy_row.proofs.unexceeded.Given as goal

abbrev pub invariant-loop-t : goal.invariant-loop-t
invariant-loop-t l = (u : ℕ) → u < l.t → On l.payoffs l.marks l.place l.start l.step u → at l.payoffs l.marks l.place l.start l.step u ≤ cell_rank l.payoffs l.own
