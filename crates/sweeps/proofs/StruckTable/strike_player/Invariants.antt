-- The invariant of `sweeps::StruckTable::strike_player`: the calls that name the strategies before s were made.
use Rattle.std.proofs.Common.{map}
use Rattle.game.specs.Finite.{below}
use Rattle.game.specs.Game.{strategy}
use Rattle.sweeps.specs.Progress.{Runs}
use Rattle.sweeps.proofs.StruckTable.strike_player.Given as goal

abbrev pub invariant-loop-s : goal.invariant-loop-s
invariant-loop-s l =
    Runs l.self.counts.now l.self.payoffs.now (map (strategy l.player) (below l.s)) l.initial.progress l.initial.struck l.progress l.struck
