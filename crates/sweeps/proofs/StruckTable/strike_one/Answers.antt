-- `sweeps::StruckTable::strike_one` meets its contract, by what the strike answered. Assumes nothing.
use Rattle.std.proofs.Common.{◌≡◌, refl, sym, ap, ◌∙◌, not, ◌||◌, List, [], ◌∷◌, ℕ, arith}
use mathlib.Core.List.{flat_map}
use lib.Ieee.{Float}
use Rattle.game.specs.Finite.{empty}
use Rattle.game.specs.Game.{Strategy, strategy}
use Rattle.game.specs.Strikes.{answer}
use Rattle.refusal.specs.Refusal.{number_of}
use Rattle.refusal.specs.Told.{Told, values, refused, told}
use Rattle.payoff_tables.specs.Meaning.{Table}
use Rattle.payoff_tables.specs.Table.{table_game}
use Rattle.survivors.specs.declared.Survivors.{Survivors}
use Rattle.survivors.specs.Survivors.{marks_of}
use Rattle.strikes.specs.Answers.{handed_back, told_answer}
use Rattle.strike_chains.proofs.Chain.{told as chain_told}
use Rattle.outputs.specs.Put.{Puts}
use Rattle.outputs.proofs.Puts.{puts_none}
use Rattle.sweeps.specs.declared.Progress.{Progress}
use Rattle.strike_sweeps.specs.Sweeps.{strikes_numbers}
use Rattle.sweeps.specs.Progress.{Runs, Reached}
use Rattle.strike_sweeps.proofs.Strikes.{strike_of}
use Rattle.sweeps.proofs.Runs.{reached_good, runs_one}
use Rattle.sweeps.proofs.StruckTable.strike_one.Goals as goal

-- where the strike's answer tells a
runs : (cs : List ℕ) (ps : List Float) (from : Progress) (old : List ℕ) (call : Strategy) → Table cs ps → Reached cs ps from.survivors
    → (b : Told ℕ) → b ≡ told_answer (answer (table_game cs ps) (marks_of from.survivors) call)
    → (left : Survivors) → left ≡ handed_back from.survivors call b
    → (a : Told ℕ) → b ≡ a → (r : Progress) (new : List ℕ) → r.survivors ≡ left
    → r.any ≡ not (empty (strike_of call a)) || from.any
    → Puts old from.end (strikes_numbers (strike_of call a)) r.end new
    → Runs cs ps (call ∷ []) from old r new
runs cs ps from old call table reached b is left leaves a e r new kept any put =
    let answers = is ∙ sym (chain_told cs ps table from.survivors (reached_good cs ps table from.survivors reached) call) in
    runs_one cs ps from r old new call a (sym answers ∙ e) (kept ∙ leaves ∙ ap (handed_back from.survivors call) e) any put

pub returns-in-Ok : goal.returns-in-Ok
unfolding strikes_numbers flat_map
returns-in-Ok c =
    let s = c.strike_marked-answer in
    runs c.args.self.counts.now c.args.self.payoffs.now c.args.from c.args.struck.now (strategy c.args.player c.args.strategy) c.requires.table c.requires.reached
    (told s.result.answer) s.ensures.answer_value s.result.survivors s.ensures.survivors_value
    (values c.in-Ok.t) (ap told c.in-Ok.is) _ _ refl refl c.put_strike.ensures

pub returns-in-Err : goal.returns-in-Err
unfolding strikes_numbers flat_map
returns-in-Err c =
    let s = c.strike_marked-answer in
    runs c.args.self.counts.now c.args.self.payoffs.now c.args.from c.args.struck.now (strategy c.args.player c.args.strategy) c.requires.table c.requires.reached
    (told s.result.answer) s.ensures.answer_value s.result.survivors s.ensures.survivors_value
    (refused (number_of c.in-Err.field-0)) (ap told c.in-Err.is) _ _ refl refl
    (puts_none c.args.struck.now c.args.from.end (omega (arith, c.requires.inside)))
