-- `view_fields::fresh_of` meets its contract: more players than the limit are refused by 2, with the survivors of no players, and else the counts
-- that are lent are the view's first. Assumes nothing.
use mathlib.Core.Path.{refl, sym}
use native.Mathlib.Omega.{arith}
use lib.Seq.{length-take-le}
use Rattle.view_fields.proofs.Laws.{first_counts_take, first_counts_many}
use Rattle.view_fields.proofs.fresh_of.Goals as goal

pub returns-then-players-gt-MAX_PLAYERS : goal.returns-then-players-gt-MAX_PLAYERS
returns-then-players-gt-MAX_PLAYERS c =
    let a = c.args in
    rw (first_counts_many a.players a.counts a.payoffs.now c.if-players-gt-MAX_PLAYERS.true)
    record { answer_value = refl; survivors_value = c.none.ensures }

pub slice_bounds-fresh-end : goal.slice_bounds-fresh-end
slice_bounds-fresh-end c = sym (length-take-le c.args.players c.args.counts (omega arith))

pub returns : goal.returns
returns c =
    rw (first_counts_take c.args.players c.args.counts (omega arith)) c.fresh.ensures
