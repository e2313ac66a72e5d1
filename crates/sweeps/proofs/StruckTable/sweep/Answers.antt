-- `sweeps::StruckTable::sweep` meets its contract. Assumes nothing.
use Rattle.std.proofs.Common.{◌≡◌, sym, ap, length, arith}
use mathlib.Core.List.{flat_map}
use Rattle.game.specs.Game.{strategies}
use Rattle.payoff_tables.specs.Table.{table_game}
use Rattle.sweeps.proofs.Runs.{runs_none, runs_ready, runs_as, runs_append}
use Rattle.sweeps.proofs.Firsts.{firsts, firsts_more}
use Rattle.sweeps.proofs.StruckTable.sweep.Goals as goal

pub loop-p-init : goal.loop-p-init
unfolding flat_map
loop-p-init c = runs_none c.args.self.counts.now c.args.self.payoffs.now c.args.from c.args.struck.now c.requires.inside

pub strike_player-progress-requires-clause-ready : goal.strike_player-progress-requires-clause-ready
strike_player-progress-requires-clause-ready c = runs_ready c.args.self.counts.now c.args.self.payoffs.now c.loop-p.invariant c.args.self.profiles c.requires

pub loop-p-preserved : goal.loop-p-preserved
loop-p-preserved c =
    let cs = c.args.self.counts.now in
    let ps = c.args.self.payoffs.now in
    runs_as cs ps (runs_append cs ps c.loop-p.invariant c.strike_player-progress.ensures) (sym (firsts_more cs c.loop-p.p))

pub returns : goal.returns
unfolding strategies table_game
returns c =
    let cs = c.args.self.counts.now in
    let all : c.loop-p.p ≡ length cs = omega arith in
    runs_as cs c.args.self.payoffs.now c.loop-p.invariant (ap (firsts cs) all)
