-- `view_fields::responses_of` meets its contract: more players than the limit are refused by 2 and no record is written, and else the counts that
-- are lent are the view's first. Assumes nothing.
use mathlib.Core.Path.{sym, ap, ◌∙◌}
use native.Mathlib.Omega.{arith}
use lib.Seq.{length-take-le}
use Rattle.refusal.specs.Refusal.{Refusal}
use Rattle.refusal.specs.Told.{unless, told}
use Rattle.written_lists.specs.Outputs.{written}
use Rattle.best_response.proofs.Responses.{refused_table}
use Rattle.view_fields.proofs.Laws.{first_counts_take, first_counts_many}
use Rattle.response_list.proofs.Records.{refused_records}
use Rattle.view_fields.proofs.responses_of.Goals as goal

pub returns-then-players-gt-MAX_PLAYERS : goal.returns-then-players-gt-MAX_PLAYERS
returns-then-players-gt-MAX_PLAYERS c =
    let a = c.args in
    let many = first_counts_many a.players a.counts a.payoffs.now c.if-players-gt-MAX_PLAYERS.true in
    let e = c.refused.ensures in
    let r = refused_records _ _ _ _ _ _ _ e.records_value (refused_table _ _ a.player a.opponents.now a.room a.room 2 0 (sym (ap (λ (r : Refusal). unless r 0) many))) in
    record { answer_value = ap told e.answer_value ∙ r.0; number_value = e.number_value ∙ sym (ap (λ a. written (told a)) e.answer_value); records_value = r.1.1 }

pub slice_bounds-find_responses-end : goal.slice_bounds-find_responses-end
slice_bounds-find_responses-end c = sym (length-take-le c.args.players c.args.counts (omega arith))

pub returns : goal.returns
returns c =
    rw (first_counts_take c.args.players c.args.counts (omega arith)) c.find_responses.ensures
