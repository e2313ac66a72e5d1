-- `sweeps::StruckTable::strike_player` meets its contract. Assumes nothing.
use Rattle.std.proofs.Common.{◌≡◌, sym, ap, ◌∙◌, [], ◌∷◌, ◌++◌, map, ℕ, ◌+◌, get_or, arith}
use mathlib.Core.List.{map-append}
use native.Mathlib.Numerals.{add-one}
use Rattle.game.specs.Finite.{below}
use Rattle.game.specs.Game.{strategy}
use Rattle.game.proofs.Finite.{below_last}
use Rattle.sweeps.proofs.Runs.{runs_none, runs_ready, runs_as, runs_append}
use Rattle.sweeps.proofs.StruckTable.strike_player.Goals as goal

-- one call more
calls-more : (p s : ℕ) → map (strategy p) (below (s + 1)) ≡ map (strategy p) (below s) ++ (strategy p s ∷ [])
calls-more p s = ap (λ (n : ℕ). map (strategy p) (below n)) (add-one s) ∙ ap (map (strategy p)) (below_last s) ∙ map-append (strategy p) (below s) (s ∷ [])

pub loop-s-init : goal.loop-s-init
loop-s-init c = runs_none c.args.self.counts.now c.args.self.payoffs.now c.args.from c.args.struck.now c.requires.ready.inside

pub strike_one-progress-requires : goal.strike_one-progress-requires
strike_one-progress-requires c = runs_ready c.args.self.counts.now c.args.self.payoffs.now c.loop-s.invariant c.args.self.profiles c.requires.ready

pub loop-s-preserved : goal.loop-s-preserved
loop-s-preserved c =
    let cs = c.args.self.counts.now in
    let ps = c.args.self.payoffs.now in
    runs_as cs ps (runs_append cs ps c.loop-s.invariant c.strike_one-progress.ensures) (sym (calls-more c.args.player c.loop-s.s))

pub returns : goal.returns
returns c =
    let cs = c.args.self.counts.now in
    let p = c.args.player in
    let all : c.loop-s.s ≡ get_or cs p 0 = omega arith in
    runs_as cs c.args.self.payoffs.now c.loop-s.invariant (ap (λ (n : ℕ). map (strategy p) (below n)) all)
