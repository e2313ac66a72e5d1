-- `strike_lists::strike_each` meets its contract, by the chain of the first i calls. Assumes nothing.
use Rattle.std.proofs.Common.{◌≡◌, sym, ap, ◌∙◌, Bool, true, false, cond, List, map, ℕ, ◌+◌, ◌≤◌, ◌<◌, length, get_or, take, arith}
use mathlib.Core.Path.{subst⁻¹}
use lib.Seq.{take_all}
use lib.Ieee.{Float}
use Rattle.game.specs.Game.{Strategy, strategy}
use Rattle.refusal.specs.Told.{Told, values, refused, told, status, tells}
use Rattle.written_lists.specs.Outputs.{over}
use Rattle.payoff_tables.specs.Meaning.{Table}
use Rattle.survivors.specs.declared.Survivors.{Survivors}
use Rattle.strikes.specs.Answers.{handed_back, strike_answer, strike_leaves, told_answer}
use Rattle.survivors.specs.Survivors.{marks_of}
use Rattle.game.specs.Strikes.{answer}
use Rattle.payoff_tables.specs.Table.{table_game}
use Rattle.strike_chains.specs.Answers.{calls_of, Chain, chain, accepted_of, dominator_of}
use Rattle.strike_chains.proofs.Chain.{Good, told as strike_told}
use Rattle.strike_chains.proofs.Demand3.{from_fresh}
use Rattle.strike_chains.proofs.Written.{calls_length, calls_at, Written, written_few, written_more}
use Rattle.strike_lists.proofs.strike_each.Goals as goal
use Rattle.strike_lists.proofs.strike_each.Goals.{then-taken-gt0, else-taken-gt0}

-- what a strike answers and hands back is the next of the chain
module _ (cs : List ℕ) (ps : List Float) (calls : List Strategy) (old old' : List ℕ) (i : ℕ) (v : Survivors) (accepted : ℕ) (answers dominators : List ℕ)
    (table : Table cs ps) (w : Written cs ps calls old old' i v accepted answers dominators) (call : Strategy) (a : Told ℕ) (left : Survivors)
    (is : a ≡ told_answer (answer (table_game cs ps) (marks_of v) call)) (leaves : left ≡ handed_back v call a) where
  good : Good cs ps v
  good = subst⁻¹ (Good cs ps) w.survivors (from_fresh cs ps table (take i calls)).stays

  answers-so : a ≡ strike_answer cs ps v call
  answers-so = is ∙ sym (strike_told cs ps table v good call)

  leaves-so : left ≡ strike_leaves cs ps v call
  unfolding strike_leaves
  leaves-so = leaves ∙ ap (handed_back v call) answers-so

-- a strike whose answer is not counted was refused, and hands back what it was given
not_taken : (v : Survivors) (call : Strategy) (a : Told ℕ) (left : Survivors) (taken : ℕ) → left ≡ handed_back v call a → taken ≡ cond (tells a) 1 0 → taken ≡ 0 → v ≡ left
not_taken v call (values t) left taken leaves is n = absurd (omega arith)
not_taken v call (refused e) left taken leaves is n = sym leaves

one : (t : Bool) → cond t 1 0 ≤ 1
one true = omega arith
one false = omega arith

pub write_answer-taken-requires : goal.write_answer-taken-requires
write_answer-taken-requires c =
    let e = calls_length c.args.players.now c.args.strategies.now in (
      omega (arith, e, c.min-number.ensures, c.loop-i.auto.answers, c.requires.strategies_in_bounds, c.loop-i-test.true),
      omega (arith, e, c.min-number.ensures, c.loop-i.auto.dominators, c.requires.strategies_in_bounds_2, c.loop-i-test.true),
    )

pub overflow_add-accepted : goal.overflow_add-accepted
overflow_add-accepted c =
    let few = written_few c.args.counts.now c.args.payoffs.now _ c.args.answers.now c.args.dominators.now c.loop-i.invariant in
    omega (arith, few, c.write_answer-taken.ensures.value, one (tells (told c.strike_marked-struck.result.answer)), c.loop-i-test.true)

pub loop-i-preserved : goal.loop-i-preserved
loop-i-preserved c =
    let cs = c.args.counts.now in
    let ps = c.args.payoffs.now in
    let players = c.args.players.now in
    let strategies = c.args.strategies.now in
    let calls = calls_of players strategies in
    let old = c.args.answers.now in
    let old' = c.args.dominators.now in
    let i = c.loop-i.i in
    let v = c.loop-i.left in
    let w = c.loop-i.invariant in
    let s = c.strike_marked-struck in
    let call = strategy (get_or players i 0) (get_or strategies i 0) in
    let a = told s.result.answer in
    let e = c.write_answer-taken.ensures in
    let under : i < length calls = omega (arith, calls_length players strategies, c.min-number.ensures, c.loop-i-test.true) in
    let so = answers-so cs ps calls old old' i v c.loop-i.accepted c.loop-i.answers c.loop-i.dominators c.requires.table w call a s.result.survivors s.ensures.answer_value s.ensures.survivors_value in
    let leaves : s.result.survivors ≡ strike_leaves cs ps v call =
    leaves-so cs ps calls old old' i v c.loop-i.accepted c.loop-i.answers c.loop-i.dominators c.requires.table w call a s.result.survivors s.ensures.answer_value s.ensures.survivors_value in
    let left_so : c.if-taken-gt0.left ≡ strike_leaves cs ps v call = elim c.if-taken-gt0.branch [
      | then-taken-gt0 b ↦ b.left-is ∙ leaves
      | else-taken-gt0 b ↦ b.left-is ∙ not_taken v call a s.result.survivors c.write_answer-taken.result s.ensures.survivors_value e.value (omega arith) ∙ leaves
    ] in
    written_more cs ps calls old old' w under c.requires.strategies_in_bounds c.requires.strategies_in_bounds_2
    call (λ d. calls_at players strategies i d under) a so c.if-taken-gt0.left left_so
    (c.loop-i.accepted + c.write_answer-taken.result) (ap (λ (n : ℕ). c.loop-i.accepted + n) e.value)
    c.write_answer-taken.new.answers c.write_answer-taken.new.dominators e.answers_after e.dominators_after

pub returns : goal.returns
returns c =
    let cs = c.args.counts.now in
    let ps = c.args.payoffs.now in
    let calls = calls_of c.args.players.now c.args.strategies.now in
    let i = c.loop-i.i in
    let w = c.loop-i.invariant in
    let many = calls_length c.args.players.now c.args.strategies.now in
    let all : take i calls ≡ calls = take_all i calls (omega (arith, c.loop-i-test.false, many, c.min-number.ensures)) in
    let is : chain cs ps (take i calls) ≡ chain cs ps calls = ap (chain cs ps) all in
    record {
      answer_value = ap (λ (n : ℕ). values n) (w.number ∙ ap (λ (x : Chain). accepted_of x.answers) is);
      survivors_value_2 = w.survivors ∙ ap (λ (x : Chain). x.survivors) is;
      answers_after = w.first ∙ ap (λ (x : Chain). over (map status x.answers) c.args.answers.now) is;
      dominators_after = w.second ∙ ap (λ (x : Chain). over (map dominator_of x.answers) c.args.dominators.now) is;
    }
