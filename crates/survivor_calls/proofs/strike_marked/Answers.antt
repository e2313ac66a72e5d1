-- `survivor_calls::strike_marked` meets its contract, by the cases of the rule. Assumes nothing.
use Rattle.std.proofs.Common.{sym, ◌∙◌, subst, List, ℕ, ◌+◌, ◌*◌, ◌<◌, length, get_or, arith}
use lib.Dec.{T}
use Rattle.refusal.specs.Told.{optional}
use Rattle.std.specs.Prelude.{None, Some}
use Rattle.payoff_tables.specs.Limits.{max_players, max_strategies, max_marks}
use Rattle.payoff_tables.specs.Meaning.{Shape}
use Rattle.marks.specs.Marks.{marked}
use Rattle.marks.proofs.Marks.{mark_at, mark_inside}
use Rattle.strikes.proofs.Cases.{told_player, told_struck, told_by}
use Rattle.survivor_calls.proofs.strike_marked.Goals as goal

-- a strategy of the table has its place
module _ (cs : List ℕ) (shape : Shape cs) (p s : ℕ) (l : p < length cs) (h : s < get_or cs p 0) where
  few : p < max_players
  few = omega (arith, shape.few)

  low : s < max_strategies
  low = omega (arith, shape.high p l)

  inside : p * max_strategies + s < max_marks
  inside = mark_inside p s few low

pub returns-then-counts-player-clause-answer_value : goal.returns-then-counts-player-clause-answer_value
returns-then-counts-player-clause-answer_value c =
    c.refuse.ensures.0 ∙ told_player c.args.counts.now c.args.payoffs.now (marked c.args.survivors.marks) c.args.player c.args.strategy c.if-counts-player.true

pub returns-then-counts-player-2-clause-answer_value : goal.returns-then-counts-player-2-clause-answer_value
returns-then-counts-player-2-clause-answer_value c =
    c.refuse-then-counts-player-2.ensures.0
    ∙ told_struck c.args.counts.now c.args.payoffs.now (marked c.args.survivors.marks) c.args.player c.args.strategy c.if-counts-player.false
    (λ h. absurd (omega (arith, h, c.if-counts-player-2.true)))

pub returns-then-not-marks-player-clause-answer_value : goal.returns-then-not-marks-player-clause-answer_value
returns-then-not-marks-player-clause-answer_value c =
    let p = c.args.player in
    let s = c.args.strategy in
    let least = low c.args.counts.now c.requires.table.shape p s c.if-counts-player.false c.if-counts-player-2.false in
    c.refuse-then-not-marks-player.ensures.0
    ∙ told_struck c.args.counts.now c.args.payoffs.now (marked c.args.survivors.marks) p s c.if-counts-player.false
    (λ _ m. subst T (mark_at c.args.survivors.marks p s least ∙ c.if-not-marks-player.true) m)

pub returns-in-None-clause-answer_value : goal.returns-in-None-clause-answer_value
returns-in-None-clause-answer_value c =
    let p = c.args.player in
    let s = c.args.strategy in
    let least = low c.args.counts.now c.requires.table.shape p s c.if-counts-player.false c.if-counts-player-2.false in
    c.refuse-in-None.ensures.0
    ∙ told_by c.args.counts.now c.args.payoffs.now (marked c.args.survivors.marks) p s c.if-counts-player.false c.if-counts-player-2.false
    (subst T (sym (mark_at c.args.survivors.marks p s least ∙ c.if-not-marks-player.false)) tt) (optional None) c.in-None.ensures

pub returns-in-Some-clause-answer_value : goal.returns-in-Some-clause-answer_value
returns-in-Some-clause-answer_value c =
    let p = c.args.player in
    let s = c.args.strategy in
    let least = low c.args.counts.now c.requires.table.shape p s c.if-counts-player.false c.if-counts-player-2.false in
    told_by c.args.counts.now c.args.payoffs.now (marked c.args.survivors.marks) p s c.if-counts-player.false c.if-counts-player-2.false
    (subst T (sym (mark_at c.args.survivors.marks p s least ∙ c.if-not-marks-player.false)) tt) (optional (Some c.in-Some.t)) c.in-Some.ensures
