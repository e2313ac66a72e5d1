-- `response_list::best_responses` meets its contract: that the records have room, and are those of the contract, is `Delivered.antt`'s. Assumes nothing.
use mathlib.Core.Path.{ap, ◌∙◌}
use borrow.Author.Rules.{rules}
use Rattle.refusal.specs.Told.{told}
use Rattle.response_list.proofs.Delivered.{number_few, number_fits, delivered}
use Rattle.response_list.proofs.best_responses.Goals as goal

pub write_list-requires : goal.write_list-requires
write_list-requires c =
    let e = c.find_responses-found.ensures in (
      number_few c.args.counts.now c.args.payoffs.now c.args.player c.args.opponents.now _ c.find_responses-found.result e.answer_value e.number_value e.records_value (search rules),
      number_fits c.args.counts.now c.args.payoffs.now c.args.player c.args.opponents.now _ c.find_responses-found.result e.answer_value e.number_value e.records_value,
    )

pub returns : goal.returns
returns c =
    let e = c.find_responses-found.ensures in (
      ap told c.write_list.ensures.0 ∙ e.answer_value,
      c.write_list.ensures.1
          ∙ delivered c.args.counts.now c.args.payoffs.now c.args.player c.args.opponents.now _ c.find_responses-found.result e.answer_value e.number_value
          e.records_value c.args.out.now,
    )
