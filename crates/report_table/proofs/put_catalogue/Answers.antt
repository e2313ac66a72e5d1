-- `report_table::put_catalogue` meets its contract: the table has no refusal, so a number or none was told. Assumes nothing.
use mathlib.Core.Path.{◌≡◌, sym, ap, ◌∙◌}
use mathlib.Core.List.{List, flat_map}
use mathlib.Core.Option.{Option, none, some}
use Prim.Native.Nat.{ℕ}
use lib.Ieee.{Float}
use Rattle.refusal.specs.Refusal.{Refusal}
use Rattle.refusal.specs.Told.{values, unless}
use Rattle.refusal.proofs.Told.{apart, told_values}
use Rattle.payoff_tables.specs.Table.{table_game}
use Rattle.payoff_tables.specs.Meaning.{Table}
use Rattle.payoff_tables.proofs.Checks.{table_law}
use Rattle.catalogue.specs.Catalogue.{catalogue}
use Rattle.catalogue.specs.Answers.{game_number, number_answer}
use Rattle.outputs.proofs.Puts.{puts_same}
use Rattle.digits_and_lines.specs.Text.{spaced, joined, line}
use Rattle.report_layout.specs.Table.{number_line, catalogue_line}
use Rattle.report_table.proofs.put_catalogue.Goals as goal

module _ (counts : List ℕ) (payoffs : List Float) (t : Table counts payoffs) where
  abbrev number : Option ℕ
  number = game_number catalogue (table_game counts payoffs)

  told : number_answer counts payoffs ≡ values number
  unfolding number_answer
  told = ap (λ (r : Refusal). unless r number) ((table_law counts payoffs).1 t)

  number_is : (o : Option ℕ) → values o ≡ number_answer counts payoffs → o ≡ number
  number_is o e = (told_values none number o (e ∙ told)).1

pub returns-in-Err : goal.returns-in-Err
returns-in-Err c =
    let a = c.args in
    absurd (apart (number a.counts.now a.payoffs.now c.requires) _ (sym (told a.counts.now a.payoffs.now c.requires) ∙ sym c.in-Err.ensures))

pub returns-in-Ok-None : goal.returns-in-Ok-None
unfolding catalogue_line line joined spaced flat_map
returns-in-Ok-None c =
    let a = c.args in
    let e = c.put.ensures in
    let is = number_is a.counts.now a.payoffs.now c.requires none (rw c.in-Ok-None.field-0-is at c.in-Ok-None.ensures) in
    let p = puts_same a.out.now a.at (ap catalogue_line is) (e.value, e.out_after) in
    record { value = p.0; out_after = p.1 }

pub returns-in-Ok-Some : goal.returns-in-Ok-Some
unfolding catalogue_line number_line
returns-in-Ok-Some c =
    let a = c.args in
    let e = c.put_number_line.ensures in
    let is = number_is a.counts.now a.payoffs.now c.requires (some c.in-Ok-Some.n) (rw c.in-Ok-Some.field-0-is at c.in-Ok-Some.ensures) in
    let p = puts_same a.out.now a.at (ap catalogue_line is) (e.value, e.out_after) in
    record { value = p.0; out_after = p.1 }
