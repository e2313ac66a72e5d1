-- `response_list::find_responses` meets its contract: the two arrays have room for every answer, so a refusal of the call is the list's, and 13 is
-- told where the list is too short. Assumes nothing.
use mathlib.Core.Path.{◌≡◌, sym, ap, ◌∙◌}
use Prim.Native.Nat.{◌<◌, ◌≤◌}
use Rattle.std.specs.Prelude.{Ok}
use Rattle.refusal.specs.Told.{told}
use Rattle.written_lists.specs.Outputs.{written}
use native.Mathlib.Omega.{arith}
use Rattle.payoff_tables.specs.Limits.{max_strategies}
use Rattle.response_list.proofs.Records.{NumberTold, told_number_lem, told_refusal, refused_records, short_records, listed_records, number_few, utility_finite, next_record}
use Rattle.response_list.proofs.find_responses.Goals as goal
use Rattle.response_list.proofs.find_responses.Goals.{In-loop-i}

-- one turn of the loop, where a number was told
module _ (c : In-loop-i) where
  numbered : NumberTold c.args.counts.now c.args.payoffs.now c.args.player c.args.opponents.now c.in-Ok-2.number
  numbered = told_number_lem _ _ _ _ _ c.in-Ok-2.ensures.result_value

  within : c.loop-i.i < max_strategies
  within = omega (arith, number_few _ _ _ _ numbered, c.loop-i-test.true)

pub returns-in-Ok : goal.returns-in-Ok
returns-in-Ok c =
    let e = c.refused-in-Ok.ensures in
    let r = short_records _ _ _ _ (told_number_lem _ _ _ _ _ c.in-Ok.ensures.result_value) _ _ e.records_value c.if-room-number.true in
    record { answer_value = ap told e.answer_value ∙ r.0; number_value = e.number_value ∙ sym (ap (λ a. written (told a)) e.answer_value); records_value = r.1.1 }

pub offset_bounds-strategies-i : goal.offset_bounds-strategies-i
offset_bounds-strategies-i c = omega (arith, within (goal.at.offset_bounds-strategies-i c).In-loop-i)

pub bounds-strategies-i : goal.bounds-strategies-i
bounds-strategies-i c = omega (arith, within (goal.at.bounds-strategies-i c).In-loop-i)

pub offset_bounds-utilities-i : goal.offset_bounds-utilities-i
offset_bounds-utilities-i c = omega (arith, within (goal.at.offset_bounds-utilities-i c).In-loop-i)

pub bounds-utilities-i : goal.bounds-utilities-i
bounds-utilities-i c = omega (arith, within (goal.at.bounds-utilities-i c).In-loop-i)

pub of_finite-requires : goal.of_finite-requires
of_finite-requires c =
    utility_finite _ _ _ _ (numbered (goal.at.of_finite-requires c).In-loop-i) _ _ (c.in-Ok-2.ensures.strategies_after, c.in-Ok-2.ensures.utilities_after) _
    c.loop-i-test.true

pub offset_bounds-records-i : goal.offset_bounds-records-i
offset_bounds-records-i c = omega (arith, within (goal.at.offset_bounds-records-i c).In-loop-i)

pub bounds-records-i : goal.bounds-records-i
bounds-records-i c = omega (arith, within (goal.at.bounds-records-i c).In-loop-i)

pub loop-i-preserved : goal.loop-i-preserved
loop-i-preserved c =
    next_record _ _ _ _ (numbered (goal.at.loop-i-preserved c).In-loop-i) _ _ (c.in-Ok-2.ensures.strategies_after, c.in-Ok-2.ensures.utilities_after) _
    c.loop-i-test.true _ _ c.loop-i.invariant c.of_finite.ensures

pub returns-in-Err : goal.returns-in-Err
returns-in-Err c =
    let e = c.refused.ensures in
    let r = refused_records _ _ _ _ _ _ _ e.records_value (told_refusal _ _ _ _ _ _ c.in-Err.ensures.result_value) in
    record { answer_value = ap told e.answer_value ∙ r.0; number_value = e.number_value ∙ sym (ap (λ a. written (told a)) e.answer_value); records_value = r.1.1 }

pub returns-after-loop-i : goal.returns-after-loop-i
returns-after-loop-i c =
    let same : Ok c.in-Ok-2.number ≡ Ok c.in-Ok.number = sym c.in-Ok-2.is ∙ c.in-Ok.is in
    let fits : c.in-Ok-2.number ≤ c.args.room = let e : c.in-Ok-2.number ≡ c.in-Ok.number = cc in rw e c.if-room-number.false in
    let r = listed_records _ _ _ _ (told_number_lem _ _ _ _ _ c.in-Ok-2.ensures.result_value) _ c.loop-i.i _ fits
    (omega (arith, c.loop-i-test.false)) c.loop-i.invariant in
    record { answer_value = ap told c.in-Ok-2.is ∙ r.0; number_value = sym (ap (λ a. written (told a)) c.in-Ok-2.is); records_value = r.1.1 }
