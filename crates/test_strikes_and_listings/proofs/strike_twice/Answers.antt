-- `strike_twice` meets its contract, by the law of a repeated strike. Assumes nothing.
use mathlib.Core.Path.{sym, ap, ◌∙◌}
use borrow.Author.Rules.{rules}
use Rattle.game.specs.Game.{strategy}
use Rattle.survivors.specs.declared.Survivors.{Survivors}
use Rattle.survivors.proofs.Marks.{Full}
use Rattle.strikes.specs.Answers.{strike_answer}
use Rattle.strike_chains.proofs.Chain.{struck_again}
use Rattle.test_strikes_and_listings.proofs.strike_twice.Goals as goal

pub returns : goal.returns
returns c =
    let s = c.args in
    let cs = s.counts.now in
    let ps = s.payoffs.now in
    let call = strategy s.player s.strategy in
    -- the marks are an array
    let full : Full s.survivors = search rules in
    let first = c.strike-struck.ensures in
    let second = c.strike-repeated.ensures.answer_value ∙ ap (λ (v : Survivors). strike_answer cs ps v call) first.survivors_value in
    record {
      first_value = first.answer_value;
      second_value = second;
      by_index = λ t h. second ∙ struck_again cs ps s.survivors full call t (sym first.answer_value ∙ h);
    }
