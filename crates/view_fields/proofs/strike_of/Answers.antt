-- `view_fields::strike_of` meets its contract: more players than the limit are refused by 2 and the survivors handed back unchanged, and else the
-- counts that are lent are the view's first. Assumes nothing.
use mathlib.Core.Path.{sym, ◌∙◌}
use native.Mathlib.Omega.{arith}
use lib.Seq.{length-take-le}
use Rattle.refusal.specs.declared.NormalFormError.TheVariants.{TooManyPlayers}
use Rattle.strikes.proofs.Cases.{strike_refused, table_first}
use Rattle.view_fields.proofs.Laws.{first_counts_take, first_counts_many}
use Rattle.view_fields.proofs.strike_of.Goals as goal

pub returns-then-players-gt-MAX_PLAYERS : goal.returns-then-players-gt-MAX_PLAYERS
returns-then-players-gt-MAX_PLAYERS c =
    let a = c.args in
    let many = first_counts_many a.players a.counts a.payoffs.now c.if-players-gt-MAX_PLAYERS.true in
    let t = strike_refused _ _ a.survivors _ TooManyPlayers (table_first _ _ a.survivors TooManyPlayers many) in
    record { answer_value = c.refuse.ensures.0 ∙ t.0; survivors_value = c.refuse.ensures.1 ∙ t.1 }

pub slice_bounds-strike-end : goal.slice_bounds-strike-end
slice_bounds-strike-end c = sym (length-take-le c.args.players c.args.counts (omega arith))

pub returns : goal.returns
returns c =
    rw (first_counts_take c.args.players c.args.counts (omega arith)) c.strike.ensures
