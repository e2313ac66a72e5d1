-- `marked_rows::next_row` meets its contract. The invariant: from player q on `base` has each player's last choice and `at` each one's
-- first, before q the two agree, and `choices` keeps those of `at`; what is multiplied so far is the product of the counts from q on.
-- Assumes nothing.
use mathlib.Core.Path.{◌≡◌}
use lib.ListN.{drop}
use Rattle.game.specs.Finite.{product}
use Rattle.marks.specs.Marks.{marked}
use Rattle.marked_rows.specs.Rows.{Kept}
use Rattle.marked_rows.proofs.Next.{Firsts, Lasts}
use Rattle.marked_rows.proofs.next_row.Given as goal

abbrev pub invariant-loop-q : goal.invariant-loop-q
invariant-loop-q l =
    (l.stride ≡ product (drop l.q l.counts))
    × Firsts l.counts (marked l.marks) l.player l.base l.q l.at
    × Lasts l.counts (marked l.marks) l.player l.base l.q
    × Kept l.counts l.player 0 l.choices l.at
