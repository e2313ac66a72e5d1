-- `view_fields::equilibria_of` meets its contract: more players than the limit are refused by 2 and nothing is written, and else the counts that
-- are lent are the view's first. Assumes nothing.
use mathlib.Core.Path.{sym}
use mathlib.Core.List.{List}
use Prim.Native.Nat.{ℕ}
use native.Mathlib.Omega.{arith}
use lib.Seq.{length-take-le}
use Rattle.refusal.specs.declared.NormalFormError.TheVariants.{TooManyPlayers}
use Rattle.payoff_tables.specs.Checks.{table_refusal}
use Rattle.equilibria.specs.Answers.{table_equilibria}
use Rattle.equilibria.proofs.Listing.{listing_refused}
use Rattle.view_fields.specs.Counts.{first_counts}
use Rattle.view_fields.proofs.Laws.{first_counts_take, first_counts_many}
use Rattle.view_fields.proofs.equilibria_of.Goals as goal

pub returns-then-players-gt-MAX_PLAYERS : goal.returns-then-players-gt-MAX_PLAYERS
returns-then-players-gt-MAX_PLAYERS c =
    let a = c.args in
    let counts : List ℕ = first_counts a.players a.counts in
    let r = listing_refused counts a.payoffs.now (table_equilibria counts a.payoffs.now) a.choices.now a.utilities.now (table_refusal counts a.payoffs.now) TooManyPlayers
    (first_counts_many a.players a.counts a.payoffs.now c.if-players-gt-MAX_PLAYERS.true) in
    record { result_value = r.0; choices_after = r.1.0; utilities_after = r.1.1 }

pub slice_bounds-equilibria-end : goal.slice_bounds-equilibria-end
slice_bounds-equilibria-end c = sym (length-take-le c.args.players c.args.counts (omega arith))

pub returns : goal.returns
returns c =
    rw (first_counts_take c.args.players c.args.counts (omega arith)) c.equilibria.ensures
