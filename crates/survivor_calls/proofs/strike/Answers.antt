-- `survivor_calls::strike` meets its contract, by what the check told and whether the survivors are foreign. Assumes nothing.
use Rattle.std.proofs.Common.{◌≡◌, sym, ap, ◌∙◌, List, ℕ}
use lib.Ieee.{Float}
use Rattle.game.specs.Game.{Strategy, strategy}
use Rattle.refusal.specs.Told.{refused}
use Rattle.refusal.specs.Refusal.{number_of}
use Rattle.refusal.specs.declared.NormalFormError.TheVariants.{ForeignSurvivors}
use Rattle.refusal.proofs.Told.{told_refused}
use Rattle.payoff_tables.specs.Checks.{table_refusal}
use Rattle.payoff_tables.specs.Answers.{table_answer}
use Rattle.payoff_tables.proofs.Table.{table_told}
use Rattle.survivors.specs.declared.Survivors.{Survivors}
use Rattle.strikes.specs.Answers.{handed_back, strike_answer, strike_leaves}
use Rattle.strikes.proofs.Cases.{strike_refused, strike_told, table_first, then_foreign, not_foreign}
use Rattle.survivor_calls.proofs.strike.Goals as goal

-- where the table is refused
refused_first : (cs : List ℕ) (ps : List Float) (v : Survivors) (call : Strategy) (n : ℕ) → refused n ≡ table_answer cs ps
    → (refused n ≡ strike_answer cs ps v call) × (v ≡ strike_leaves cs ps v call)
refused_first cs ps v call n h =
    let (e, is, number) = told_refused (table_refusal cs ps) _ _ h in
    let kept = strike_refused cs ps v call e (table_first cs ps v e is) in
    (ap (λ (n : ℕ). refused n) number ∙ kept.0, kept.1)

pub returns-then-is_foreign : goal.returns-then-is_foreign
returns-then-is_foreign c =
    let cs = c.args.counts.now in
    let ps = c.args.payoffs.now in
    let v = c.args.survivors in
    let checked = table_told cs ps c.in-Ok.profiles c.in-Ok.ensures in
    let r = c.refuse-then-is_foreign.ensures in
    let is = strike_refused cs ps v (strategy c.args.player c.args.strategy) ForeignSurvivors (then_foreign cs ps v checked.none_applies (sym c.is_foreign.ensures ∙ c.if-is_foreign.true)) in
    record { answer_value = r.0 ∙ is.0; survivors_value = r.1 ∙ is.1 }

pub strike_marked-requires-clause-table : goal.strike_marked-requires-clause-table
strike_marked-requires-clause-table c = (table_told _ _ _ c.in-Ok.ensures).table

pub returns-in-Err : goal.returns-in-Err
returns-in-Err c =
    let r = c.refuse.ensures in
    let kept = refused_first c.args.counts.now c.args.payoffs.now c.args.survivors (strategy c.args.player c.args.strategy) (number_of c.in-Err.e) c.in-Err.ensures in
    record { answer_value = r.0 ∙ kept.0; survivors_value = r.1 ∙ kept.1 }

pub returns-else-is_foreign : goal.returns-else-is_foreign
unfolding strike_leaves
returns-else-is_foreign c =
    let cs = c.args.counts.now in
    let ps = c.args.payoffs.now in
    let v = c.args.survivors in
    let call = strategy c.args.player c.args.strategy in
    let checked = table_told cs ps c.in-Ok.profiles c.in-Ok.ensures in
    let own = not_foreign cs ps v checked.none_applies (sym c.is_foreign.ensures ∙ c.if-is_foreign.false) in
    let told = c.strike_marked.ensures.answer_value ∙ sym (strike_told cs ps v call own) in
    record { answer_value = told; survivors_value = c.strike_marked.ensures.survivors_value ∙ ap (handed_back v call) told }
