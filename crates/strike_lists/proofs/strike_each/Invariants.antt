-- The invariant of `strike_lists::strike_each`: the first i calls were run, and their answers are written.
use Rattle.strike_chains.specs.Answers.{calls_of}
use Rattle.strike_chains.proofs.Written.{Written}
use Rattle.strike_lists.proofs.strike_each.Given as goal

abbrev pub invariant-loop-i : goal.invariant-loop-i
invariant-loop-i l = Written l.counts l.payoffs (calls_of l.players l.strategies) l.initial.answers l.initial.dominators l.i l.left l.accepted l.answers l.dominators
