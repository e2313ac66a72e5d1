-- `pure_nash::marked_profiles` meets its contract, by the two arms of the check and by whether there are enough marks. Assumes nothing.
use mathlib.Core.Path.{◌∙◌}
use Prim.Native.Nat.{◌≤◌}
use lib.ListN.{length}
use Rattle.refusal.specs.declared.NormalFormError.TheVariants.{OutputTooShort}
use Rattle.refusal.proofs.Told.{told_refused, handed_on}
use Rattle.payoff_tables.specs.Checks.{table_refusal}
use Rattle.payoff_tables.proofs.Table.{table_told}
use Rattle.equilibria.proofs.Listing.{listing_told, listing_refused}
use Rattle.response_marks.specs.Marks.{marked_profiles}
use Rattle.response_marks.specs.Answers.{marks_refusal}
use Rattle.response_marks.proofs.Marks.{marks_table, marks_few, marks_enough}
use Rattle.pure_nash.proofs.marked_profiles.Goals as goal

pub returns-then-marks-payoffs : goal.returns-then-marks-payoffs
returns-then-marks-payoffs c =
    let a = c.args in
    let f = table_told a.counts.now a.payoffs.now c.in_ok-profiles.profiles c.in_ok-profiles.ensures in
    let r = listing_refused a.counts.now a.payoffs.now (marked_profiles a.counts.now a.marks.now) a.choices.now a.utilities.now (marks_refusal a.counts.now a.payoffs.now (length a.marks.now)) OutputTooShort
    (marks_few a.counts.now a.payoffs.now (length a.marks.now) f.none_applies (rw (← f.table.full) c.if-marks-payoffs.true)) in
    record { result_value = r.0; choices_after = r.1.0; utilities_after = r.1.1 }

pub list_marked-requires : goal.list_marked-requires
list_marked-requires c =
    let f = table_told c.args.counts.now c.args.payoffs.now c.in_ok-profiles.profiles c.in_ok-profiles.ensures in
    record { table = f.table; profiles_value = (f.is, c.if-marks-payoffs.false) }

pub returns-in_err-profiles : goal.returns-in_err-profiles
returns-in_err-profiles c =
    let a = c.args in
    let (e, is, number) = told_refused (table_refusal a.counts.now a.payoffs.now) _ _ c.in_err-profiles.ensures in
    let r = listing_refused a.counts.now a.payoffs.now (marked_profiles a.counts.now a.marks.now) a.choices.now a.utilities.now (marks_refusal a.counts.now a.payoffs.now (length a.marks.now)) e
    (marks_table a.counts.now a.payoffs.now (length a.marks.now) e is) in
    record { result_value = handed_on _ _ c.from_residual.ensures.1 ∙ rw number r.0; choices_after = r.1.0; utilities_after = r.1.1 }

pub returns : goal.returns
returns c =
    let a = c.args in
    let call = c.list_marked in
    let f = table_told a.counts.now a.payoffs.now c.in_ok-profiles.profiles c.in_ok-profiles.ensures in
    let enough : length a.payoffs.now ≤ length a.marks.now = c.if-marks-payoffs.false in
    let r = listing_told a.counts.now a.payoffs.now (marked_profiles a.counts.now a.marks.now) a.choices.now call.new.choices a.utilities.now call.new.utilities (marks_refusal a.counts.now a.payoffs.now (length a.marks.now))
    (marks_enough a.counts.now a.payoffs.now (length a.marks.now) f.none_applies (rw (← f.table.full) enough)) call.result call.ensures in
    record { result_value = r.0; choices_after = r.1.0; utilities_after = r.1.1 }
