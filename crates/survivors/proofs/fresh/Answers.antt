-- `survivors::fresh` meets its contract: the space that the check hands back has the table's counts. Assumes nothing.
use mathlib.Core.Path.{◌≡◌, refl, ap, ◌∙◌}
use mathlib.Core.List.{List, []}
use mathlib.Core.Option.{none, some}
use Rattle.refusal.specs.Told.{refused}
use Rattle.refusal.proofs.Told.{told_values, told_refused}
use Rattle.payoff_tables.specs.Checks.{table_refusal}
use Rattle.table.specs.Space.{space_of}
use Rattle.payoff_tables.proofs.Checks.{table_law}
use Rattle.survivors.specs.Survivors.{all_marks}
use Rattle.survivors.proofs.Marks.{fresh_is}
use Rattle.survivors.proofs.fresh.Goals as goal

pub returns-in-Ok : goal.returns-in-Ok
unfolding space_of
returns-in-Ok c =
    let cs = c.args.counts.now in
    let t = told_values (table_refusal cs c.args.payoffs.now) (space_of cs) c.in-Ok.space c.in-Ok.ensures.told in
    let (a, b, d) = c.all_marked.ensures in
    let is = fresh_is cs c.all_marked.result ((table_law cs c.args.payoffs.now).0 t.0).shape.few
    (a ∙ ap (λ w. w.players) t.1) (b ∙ ap (λ w. w.counts) t.1) (d ∙ ap (λ w. all_marks w.counts) t.1) in
    rw t.0 record { answer_value = refl; survivors_value = is }

pub returns-in-Err : goal.returns-in-Err
returns-in-Err c =
    let t = told_refused (table_refusal c.args.counts.now c.args.payoffs.now) _ _ c.in-Err.ensures.told in
    rw t.1 record { answer_value = ap refused t.2; survivors_value = c.none.ensures }
