-- `view_fields::dominated_of` meets its contract: more players than the limit are refused by 2 and nothing is written, and else the counts that
-- are lent are the view's first. Assumes nothing.
use mathlib.Core.Path.{refl, sym}
use native.Mathlib.Omega.{arith}
use lib.Seq.{length-take-le}
use Rattle.dominance.specs.Answers.{dominated_answer}
use Rattle.view_fields.proofs.Laws.{first_counts_take, first_counts_many}
use Rattle.view_fields.proofs.dominated_of.Goals as goal

pub returns-then-players-gt-MAX_PLAYERS : goal.returns-then-players-gt-MAX_PLAYERS
unfolding dominated_answer
returns-then-players-gt-MAX_PLAYERS c =
    let a = c.args in
    rw (first_counts_many a.players a.counts a.payoffs.now c.if-players-gt-MAX_PLAYERS.true) record { result_value = refl; dominated_after = refl; dominators_after = refl }

pub slice_bounds-strictly_dominated_strategies-end : goal.slice_bounds-strictly_dominated_strategies-end
slice_bounds-strictly_dominated_strategies-end c = sym (length-take-le c.args.players c.args.counts (omega arith))

pub returns : goal.returns
returns c =
    rw (first_counts_take c.args.players c.args.counts (omega arith)) c.strictly_dominated_strategies.ensures
