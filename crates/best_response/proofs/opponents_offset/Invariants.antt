-- `best_response::opponents_offset` meets its contract. The invariant: `at` is the offset of the choices before player p, all of which are below
-- their counts, and `next` is the opponent to be read next (`Walked`). Assumes nothing.
use Rattle.best_response.proofs.Walk.{Walked}
use Rattle.best_response.proofs.opponents_offset.Given as goal

abbrev pub invariant-loop-p : goal.invariant-loop-p
invariant-loop-p l = Walked l.counts l.player l.opponents l.p l.at l.next
