-- `survivor_calls::surviving_equilibria` meets its contract: the listing among the survivors' marks, where neither the table nor the survivors
-- are refused. Assumes nothing.
use Rattle.std.proofs.Common.{◌≡◌, sym, ap, ◌∙◌, List, ℕ}
use lib.Ieee.{Float}
use mathlib.Core.Option.{some}
use Rattle.refusal.specs.Refusal.{number_of}
use Rattle.refusal.specs.Told.{refused}
use Rattle.refusal.specs.declared.NormalFormError.{NormalFormError}
use Rattle.refusal.specs.declared.NormalFormError.TheVariants.{ForeignSurvivors}
use Rattle.refusal.proofs.Told.{told_refused, handed_on}
use Rattle.payoff_tables.specs.Checks.{table_refusal}
use Rattle.payoff_tables.specs.Answers.{table_answer}
use Rattle.payoff_tables.proofs.Table.{table_told}
use Rattle.equilibria.proofs.Listing.{Answered, listing_told, listing_refused}
use Rattle.survivors.specs.declared.Survivors.{Survivors}
use Rattle.strikes.specs.Answers.{survivors_refusal, surviving_equilibria}
use Rattle.strikes.proofs.Cases.{table_first, then_foreign, not_foreign}
use Rattle.survivor_calls.proofs.surviving_equilibria.Goals as goal

module _ (cs : List ℕ) (ps : List Float) (v : Survivors) (out : List ℕ) (paid : List Float) where
  -- what refuses is told, and nothing is written
  kept : (e : NormalFormError) → survivors_refusal cs ps v ≡ some e → Answered cs ps (surviving_equilibria cs ps v) out out paid paid (survivors_refusal cs ps v) (refused (number_of e))
  kept = listing_refused cs ps (surviving_equilibria cs ps v) out paid (survivors_refusal cs ps v)

  -- so where the table is refused
  refused_first : (n : ℕ) → refused n ≡ table_answer cs ps → Answered cs ps (surviving_equilibria cs ps v) out out paid paid (survivors_refusal cs ps v) (refused n)
  refused_first n h =
      let (e, is, number) = told_refused (table_refusal cs ps) _ _ h in
      let r = kept e (table_first cs ps v e is) in
      (ap (λ (n : ℕ). refused n) number ∙ r.0, r.1)

pub returns-then-is_foreign : goal.returns-then-is_foreign
returns-then-is_foreign c =
    let cs = c.args.counts.now in
    let ps = c.args.payoffs.now in
    let v = c.args.survivors in
    let checked = table_told cs ps c.in_ok-profiles.profiles c.in_ok-profiles.ensures in
    let r = kept cs ps v c.args.choices.now c.args.utilities.now ForeignSurvivors (then_foreign cs ps v checked.none_applies (sym c.is_foreign.ensures ∙ c.if-is_foreign.true)) in
    record { result_value = r.0; choices_after = r.1.0; utilities_after = r.1.1 }

pub marked_equilibria-requires-clause-table : goal.marked_equilibria-requires-clause-table
marked_equilibria-requires-clause-table c = (table_told _ _ _ c.in_ok-profiles.ensures).table

pub returns-in_err-profiles : goal.returns-in_err-profiles
returns-in_err-profiles c =
    let r = refused_first c.args.counts.now c.args.payoffs.now c.args.survivors c.args.choices.now c.args.utilities.now (number_of c.in_err-profiles.field-0.0) c.in_err-profiles.ensures in
    record { result_value = handed_on _ _ c.from_residual.ensures.1 ∙ r.0; choices_after = r.1.0; utilities_after = r.1.1 }

pub returns : goal.returns
returns c =
    let cs = c.args.counts.now in
    let ps = c.args.payoffs.now in
    let v = c.args.survivors in
    let checked = table_told cs ps c.in_ok-profiles.profiles c.in_ok-profiles.ensures in
    let own = not_foreign cs ps v checked.none_applies (sym c.is_foreign.ensures ∙ c.if-is_foreign.false) in
    let r = listing_told cs ps (surviving_equilibria cs ps v) c.args.choices.now c.marked_equilibria.new.choices c.args.utilities.now c.marked_equilibria.new.utilities (survivors_refusal cs ps v) own c.marked_equilibria.result c.marked_equilibria.ensures in
    record { result_value = r.0; choices_after = r.1.0; utilities_after = r.1.1 }
