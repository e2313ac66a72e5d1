-- `strategy_row::write_best` meets its contract. The invariant: those before t that reach the cell `top` are written, with their payoffs, and
-- then comes what stood in the outputs (`Listed`). Assumes nothing.
use Rattle.strategy_row.proofs.Listing.{Listed}
use Rattle.strategy_row.proofs.write_best.Given as goal

abbrev pub invariant-loop-t : goal.invariant-loop-t
invariant-loop-t l = Listed l.payoffs l.marks l.place l.start l.step l.top l.initial.strategies l.initial.utilities l.t l.number l.strategies l.utilities
