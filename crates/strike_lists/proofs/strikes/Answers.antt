-- `strike_lists::strikes` meets its contract: what the check told, whether the outputs hold the answers, and the chain that was run; and demand 3,
-- of what it tells, hands back and has written. Assumes nothing.
use Rattle.std.proofs.Common.{◌≡◌, sym, ap, ◌∙◌, List, map, ℕ, length, arith}
use mathlib.Core.Path.{ap₂}
use mathlib.Core.Option.{none, some}
use lib.Ieee.{Float}
use Rattle.game.specs.Game.{Strategy}
use Rattle.refusal.specs.Refusal.{Refusal, number_of, ◌then◌}
use Rattle.refusal.specs.Told.{Told, values, refused, unless, told, status, unless_refused}
use Rattle.refusal.specs.declared.NormalFormError.{NormalFormError}
use Rattle.refusal.specs.declared.NormalFormError.TheVariants.{OutputTooShort}
use Rattle.refusal.proofs.Told.{apart, told_values, told_refused}
use Rattle.written_lists.specs.Outputs.{room_refusal, over}
use Rattle.written_lists.proofs.Outputs.{first_short, second_short, room_fits}
use Rattle.payoff_tables.specs.Checks.{table_refusal}
use Rattle.payoff_tables.proofs.Checks.{table_law}
use Rattle.survivors.specs.declared.Survivors.{Survivors}
use Rattle.survivors.specs.Survivors.{fresh_of, no_survivors}
use Rattle.strike_chains.specs.Answers.{calls_of, dominator_of, answers_said, strikes_refusal, strikes_answer, strikes_leave, strikes_written}
use Rattle.strike_chains.specs.Demand3.{Demand3}
use Rattle.strike_chains.proofs.Demand3.{demand_3_told}
use Rattle.strike_chains.proofs.Written.{calls_length, strikes_refused, strikes_run}
use Rattle.strike_lists.proofs.strikes.Goals as goal

-- what is shown at each return: the answer r and the survivors v are due, and so are the outputs
record Due (cs : List ℕ) (ps : List Float) (calls : List Strategy) (said by : List ℕ) (r : Told ℕ) (v : Survivors) (out out' : List ℕ) : Type 0 where
  answer : r ≡ strikes_answer cs ps calls (length said) (length by)
  survivors : v ≡ strikes_leave cs ps calls (length said) (length by)
  first : out ≡ over (map status (strikes_written cs ps calls (length said) (length by))) said
  second : out' ≡ over (map dominator_of (strikes_written cs ps calls (length said) (length by))) by
  demand : (n : ℕ) → r ≡ values n → Demand3 cs ps calls n (answers_said (length calls) out out') v

module _ (cs : List ℕ) (ps : List Float) (calls : List Strategy) (said by : List ℕ) where
  due-refused : (e : NormalFormError) → strikes_refusal cs ps calls (length said) (length by) ≡ some e
      → (r : Told ℕ) → r ≡ refused (number_of e) → (v : Survivors) → v ≡ no_survivors → Due cs ps calls said by r v said by
  due-refused e h r x v y =
      let (a, b, c) = strikes_refused cs ps calls (length said) (length by) e h in
      record {
        answer = x ∙ a;
        survivors = y ∙ b;
        first = ap (λ (xs : List (Told ℕ)). over (map status xs) said) c;
        second = ap (λ (xs : List (Told ℕ)). over (map dominator_of xs) by) c;
        demand = λ n h. absurd (apart n (number_of e) (sym h ∙ x));
      }

  -- where the table is refused
  due-first : (n : ℕ) → ◌≡◌ {A = Told (Unit {0})} (refused n) (unless (table_refusal cs ps) tt) → (r : Told ℕ) → r ≡ refused n
      → (v : Survivors) → v ≡ unless_refused (table_refusal cs ps) (fresh_of cs) no_survivors → Due cs ps calls said by r v said by
  due-first m h r x v y =
      let (e, is, n) = told_refused (table_refusal cs ps) tt m h in
      due-refused e (ap (λ (r : Refusal). r then room_refusal (length calls) (length said) (length by)) is) r (x ∙ ap (λ (m : ℕ). refused m) n) v
      (y ∙ ap (λ (r : Refusal). unless_refused r (fresh_of cs) no_survivors) is)

  -- and else whether there is room decides
  module _ (none_applies : table_refusal cs ps ≡ none) where
    by-room : (r : Refusal) → room_refusal (length calls) (length said) (length by) ≡ r → strikes_refusal cs ps calls (length said) (length by) ≡ r
    by-room r h = ap₂ (λ (a b : Refusal). a then b) none_applies h

no_refusal : (cs : List ℕ) (ps : List Float) → ◌≡◌ {A = Told (Unit {0})} (values tt) (unless (table_refusal cs ps) tt) → table_refusal cs ps ≡ none
no_refusal cs ps h = (told_values (table_refusal cs ps) tt tt h).0

pub returns-then-answers-number : goal.returns-then-answers-number
returns-then-answers-number c =
    let cs = c.args.counts.now in
    let ps = c.args.payoffs.now in
    let calls = calls_of c.args.players.now c.args.strategies.now in
    let said = c.args.answers.now in
    let by = c.args.dominators.now in
    let many = calls_length c.args.players.now c.args.strategies.now in
    let free = no_refusal cs ps (sym (ap told c.in-Ok.is) ∙ c.fresh-made.ensures.answer_value) in
    let e = c.too_short.ensures in
    let d = due-refused cs ps calls said by OutputTooShort
    (by-room cs ps calls said by free (some OutputTooShort) (first_short (length calls) (length said) (length by) (omega (arith, many, c.min-number.ensures, c.if-answers-number.true))))
    (told c.too_short.result.answer) e.0 c.too_short.result.survivors e.1 in
    record { answer_value = d.answer; survivors_value = d.survivors; answers_after = d.first; dominators_after = d.second; demand3 = d.demand }

pub returns-then-dominators-number : goal.returns-then-dominators-number
returns-then-dominators-number c =
    let cs = c.args.counts.now in
    let ps = c.args.payoffs.now in
    let calls = calls_of c.args.players.now c.args.strategies.now in
    let said = c.args.answers.now in
    let by = c.args.dominators.now in
    let many = calls_length c.args.players.now c.args.strategies.now in
    let free = no_refusal cs ps (sym (ap told c.in-Ok.is) ∙ c.fresh-made.ensures.answer_value) in
    let e = c.too_short-then-dominators-number.ensures in
    let d = due-refused cs ps calls said by OutputTooShort
    (by-room cs ps calls said by free (some OutputTooShort) (second_short (length calls) (length said) (length by)
    (omega (arith, many, c.min-number.ensures, c.if-answers-number.false)) (omega (arith, many, c.min-number.ensures, c.if-dominators-number.true))))
    (told c.too_short-then-dominators-number.result.answer) e.0 c.too_short-then-dominators-number.result.survivors e.1 in
    record { answer_value = d.answer; survivors_value = d.survivors; answers_after = d.first; dominators_after = d.second; demand3 = d.demand }

pub strike_each-requires : goal.strike_each-requires
strike_each-requires c =
    let cs = c.args.counts.now in
    let ps = c.args.payoffs.now in
    let many = calls_length c.args.players.now c.args.strategies.now in
    let free = no_refusal cs ps (sym (ap told c.in-Ok.is) ∙ c.fresh-made.ensures.answer_value) in
    record {
      table = (table_law cs ps).0 free;
      survivors_value = c.fresh-made.ensures.survivors_value ∙ ap (λ (r : Refusal). unless_refused r (fresh_of cs) no_survivors) free;
      strategies_in_bounds = omega (arith, many, c.min-number.ensures, c.if-answers-number.false);
      strategies_in_bounds_2 = omega (arith, many, c.min-number.ensures, c.if-dominators-number.false);
    }

pub returns-in-Err : goal.returns-in-Err
returns-in-Err c =
    let cs = c.args.counts.now in
    let ps = c.args.payoffs.now in
    let calls = calls_of c.args.players.now c.args.strategies.now in
    let said = c.args.answers.now in
    let by = c.args.dominators.now in
    let r = c.refuse.ensures in
    let d = due-first cs ps calls said by (number_of c.in-Err.e) (sym (ap told c.in-Err.is) ∙ c.fresh-made.ensures.answer_value)
    (told c.refuse.result.answer) r.0 c.refuse.result.survivors (r.1 ∙ c.fresh-made.ensures.survivors_value) in
    record { answer_value = d.answer; survivors_value = d.survivors; answers_after = d.first; dominators_after = d.second; demand3 = d.demand }

pub returns-else-dominators-number : goal.returns-else-dominators-number
returns-else-dominators-number c =
    let cs = c.args.counts.now in
    let ps = c.args.payoffs.now in
    let calls = calls_of c.args.players.now c.args.strategies.now in
    let said = c.args.answers.now in
    let by = c.args.dominators.now in
    let many = calls_length c.args.players.now c.args.strategies.now in
    let free = no_refusal cs ps (sym (ap told c.in-Ok.is) ∙ c.fresh-made.ensures.answer_value) in
    let run = strikes_run cs ps calls (length said) (length by) (by-room cs ps calls said by free none (room_fits (length calls) (length said) (length by)
    (omega (arith, many, c.min-number.ensures, c.if-answers-number.false)) (omega (arith, many, c.min-number.ensures, c.if-dominators-number.false)))) in
    let e = c.strike_each.ensures in
    record {
      answer_value = e.answer_value ∙ run.0;
      survivors_value = e.survivors_value_2 ∙ run.1;
      answers_after = e.answers_after ∙ ap (λ (xs : List (Told ℕ)). over (map status xs) said) run.2;
      dominators_after = e.dominators_after ∙ ap (λ (xs : List (Told ℕ)). over (map dominator_of xs) by) run.2;
      demand3 = demand_3_told cs ps ((table_law cs ps).0 free) calls _ _ said by _ _ e.answer_value e.survivors_value_2 e.answers_after e.dominators_after;
    }
