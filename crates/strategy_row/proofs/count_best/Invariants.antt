-- `strategy_row::count_best` meets its contract. The invariant: `number` is how many strategies before t reach the cell `top`.
-- Assumes nothing.
use mathlib.Core.Path.{◌≡◌}
use lib.ListN.{length}
use Rattle.strategy_row.specs.Row.{row_reaching}
use Rattle.strategy_row.proofs.count_best.Given as goal

abbrev pub invariant-loop-t : goal.invariant-loop-t
invariant-loop-t l = l.number ≡ length (row_reaching l.payoffs l.marks l.place l.start l.step l.t l.top)
