-- `strike_each` meets its contract. The invariant: the first i calls were run, and the rest leads
-- from where they led to where all calls lead. Assumes nothing.
use Rattle.strike_chains.specs.Answers.{calls_of}
use Rattle.test_strikes_and_listings.proofs.Calls.{Far}
use Rattle.test_strikes_and_listings.proofs.strike_each.Given as goal

abbrev pub invariant-loop-i : goal.invariant-loop-i
invariant-loop-i l = Far l.counts l.payoffs l.initial.left (calls_of l.players l.strategies) l.i l.left l.accepted
