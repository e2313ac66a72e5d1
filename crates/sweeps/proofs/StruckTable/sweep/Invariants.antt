-- The invariant of `sweeps::StruckTable::sweep`: the calls that name the strategies of the players before p were made.
use Rattle.sweeps.specs.Progress.{Runs}
use Rattle.sweeps.proofs.Firsts.{firsts}
use Rattle.sweeps.proofs.StruckTable.sweep.Given as goal

abbrev pub invariant-loop-p : goal.invariant-loop-p
invariant-loop-p l = Runs l.self.counts.now l.self.payoffs.now (firsts l.self.counts.now l.p) l.initial.progress l.initial.struck l.progress l.struck
