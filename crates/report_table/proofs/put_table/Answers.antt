-- `report_table::put_table` meets its contract: its parts one after the other. Assumes nothing.
use mathlib.Core.List.{[], ◌∷◌, ◌++◌, map}
use lib.ListN.{length}
use Rattle.payoff_tables.specs.Table.{table_game}
use Rattle.catalogue.specs.Catalogue.{catalogue}
use Rattle.catalogue.specs.Answers.{game_number}
use Rattle.outputs.proofs.Puts.{puts_more}
use Rattle.digits_and_lines.specs.Text.{decimal, line}
use Rattle.report_layout.specs.Table.{codes, number_line, catalogue_line, equilibria_text, struck_text, table_report}
use Rattle.report_table.proofs.put_table.Goals as goal

pub returns : goal.returns
unfolding table_report number_line
returns c =
    let old = c.args.out.now in
    let counts = c.args.counts.now in
    let payoffs = c.args.payoffs.now in
    let a = line (codes "players" ∷ decimal (length counts) ∷ []) in
    let b = line (codes "counts" ∷ map decimal counts) in
    let e = equilibria_text counts payoffs in
    let s = struck_text counts payoffs in
    let f1 = c.put_number_line-place.ensures in
    let f2 = c.put_labelled-place.ensures in
    let f3 = c.put_equilibria-place.ensures in
    let f4 = c.put_struck-place.ensures in
    let f5 = c.put_catalogue.ensures in
    let p =
    puts_more old 0 (a ++ b ++ e ++ s) (catalogue_line (game_number catalogue (table_game counts payoffs)))
    (puts_more old 0 (a ++ b ++ e) s
    (puts_more old 0 (a ++ b) e (puts_more old 0 a b (f1.value, f1.out_after) (f2.value, f2.out_after)) (f3.value, f3.out_after))
    (f4.value, f4.out_after))
    (f5.value, f5.out_after) in
    record { value = p.0; out_after = p.1 }
