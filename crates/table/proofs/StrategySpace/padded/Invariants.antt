-- `table::StrategySpace::padded` meets its contract. The invariant: the places of the first p players
-- are filled, and the others hold 0. Assumes nothing.
use Rattle.table.proofs.Space.{Filled}
use Rattle.table.proofs.StrategySpace.padded.Given as goal

abbrev pub invariant-loop-p : goal.invariant-loop-p
invariant-loop-p l = Filled l.counts l.p l.places
