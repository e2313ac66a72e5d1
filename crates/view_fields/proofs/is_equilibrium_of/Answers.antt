-- `view_fields::is_equilibrium_of` meets its contract: more players than the limit are refused by 2, and else the counts that are lent are the view's
-- first. Assumes nothing.
use mathlib.Core.Path.{sym}
use native.Mathlib.Omega.{arith}
use lib.Seq.{length-take-le}
use Rattle.equilibria.specs.Answers.{is_equilibrium_answer}
use Rattle.view_fields.proofs.Laws.{first_counts_take, first_counts_many}
use Rattle.view_fields.proofs.is_equilibrium_of.Goals as goal

pub returns-then-players-gt-MAX_PLAYERS : goal.returns-then-players-gt-MAX_PLAYERS
unfolding is_equilibrium_answer
returns-then-players-gt-MAX_PLAYERS c = let a = c.args in rw (first_counts_many a.players a.counts a.payoffs.now c.if-players-gt-MAX_PLAYERS.true)

pub slice_bounds-is_equilibrium-end : goal.slice_bounds-is_equilibrium-end
slice_bounds-is_equilibrium-end c = sym (length-take-le c.args.players c.args.counts (omega arith))

pub returns : goal.returns
returns c =
    rw (first_counts_take c.args.players c.args.counts (omega arith)) c.is_equilibrium.ensures
