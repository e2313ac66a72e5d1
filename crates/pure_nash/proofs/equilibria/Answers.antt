-- `pure_nash::equilibria` meets its contract, by the two arms of the check; with a mark on every place the equilibria are the whole table's.
-- Assumes nothing.
use mathlib.Core.Path.{refl, ◌∙◌, subst}
use mathlib.Core.List.{List}
use Prim.Native.Nat.{ℕ}
use Rattle.refusal.proofs.Told.{told_refused, handed_on}
use Rattle.payoff_tables.specs.Checks.{table_refusal}
use Rattle.payoff_tables.proofs.Table.{table_told}
use Rattle.equilibria.specs.Answers.{Wrote, table_equilibria}
use Rattle.equilibria.proofs.Laws.{whole_equilibria}
use Rattle.equilibria.proofs.Listing.{listing_told, listing_refused}
use Rattle.pure_nash.proofs.equilibria.Goals as goal

pub marked_equilibria-requires : goal.marked_equilibria-requires
marked_equilibria-requires c =
    let f = table_told c.args.counts.now c.args.payoffs.now c.in_ok-profiles.profiles c.in_ok-profiles.ensures in
    record { table = f.table; survivors_len = refl; profiles_value = f.is }

pub returns-in_err-profiles : goal.returns-in_err-profiles
returns-in_err-profiles c =
    let a = c.args in
    let counts = a.counts.now in
    let payoffs = a.payoffs.now in
    let (e, is, number) = told_refused (table_refusal counts payoffs) _ _ c.in_err-profiles.ensures in
    let r = listing_refused counts payoffs (table_equilibria counts payoffs) a.choices.now a.utilities.now (table_refusal counts payoffs) e is in
    record { result_value = handed_on _ _ c.from_residual.ensures.1 ∙ rw number r.0; choices_after = r.1.0; utilities_after = r.1.1 }

pub returns : goal.returns
returns c =
    let a = c.args in
    let counts = a.counts.now in
    let payoffs = a.payoffs.now in
    let call = c.marked_equilibria in
    let f = table_told counts payoffs c.in_ok-profiles.profiles c.in_ok-profiles.ensures in
    let wrote : Wrote counts payoffs (table_equilibria counts payoffs) a.choices.now call.new.choices a.utilities.now call.new.utilities call.result =
    subst (λ (es : List (List ℕ)). Wrote counts payoffs es a.choices.now call.new.choices a.utilities.now call.new.utilities call.result) (whole_equilibria counts payoffs f.table.shape) call.ensures in
    let r = listing_told counts payoffs (table_equilibria counts payoffs) a.choices.now call.new.choices a.utilities.now call.new.utilities (table_refusal counts payoffs) f.none_applies call.result wrote in
    record { result_value = r.0; choices_after = r.1.0; utilities_after = r.1.1 }
