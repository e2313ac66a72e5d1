-- `catalogue::number` meets its contract: the table's refusal, or else the number of a table that has none. Assumes nothing.
use Rattle.std.proofs.Common.{sym, ap, ◌∙◌, ℕ}
use mathlib.Core.Option.{Option}
use Rattle.refusal.specs.Refusal.{Refusal}
use Rattle.refusal.specs.Told.{values, unless, told_of, optional}
use Rattle.refusal.proofs.Told.{refused_again, handed_on}
use Rattle.payoff_tables.specs.Table.{table_game}
use Rattle.payoff_tables.specs.Checks.{table_refusal}
use Rattle.payoff_tables.proofs.Table.{table_told}
use Rattle.catalogue.specs.Catalogue.{catalogue}
use Rattle.catalogue.specs.Answers.{game_number, number_answer}
use Rattle.catalogue.proofs.number.Goals as goal

pub table_number-requires : goal.table_number-requires
table_number-requires c = (table_told _ _ _ c.in_ok-table_profile_count.ensures).table

pub returns-in_err-table_profile_count : goal.returns-in_err-table_profile_count
unfolding number_answer
returns-in_err-table_profile_count c =
    ap (told_of optional) (handed_on _ _ c.from_residual.ensures.1)
    ∙ refused_again (table_refusal c.args.counts.now c.args.payoffs.now) _ _ _ c.in_err-table_profile_count.ensures

pub returns : goal.returns
unfolding number_answer
returns c =
    let cs = c.args.counts.now in
    let ps = c.args.payoffs.now in
    let checked = table_told cs ps _ c.in_ok-table_profile_count.ensures in
    ap (λ (n : Option ℕ). values n) c.table_number.ensures
    ∙ sym (ap (λ (r : Refusal). unless r (game_number catalogue (table_game cs ps))) checked.none_applies)
