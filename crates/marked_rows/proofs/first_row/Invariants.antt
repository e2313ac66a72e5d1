-- `marked_rows::first_row` meets its contract. The invariant: from player q on `at` has each player's first choice, which `choices`
-- keeps, and before q it has 0; what is multiplied so far is the product of the counts from q on. Assumes nothing.
use mathlib.Core.Path.{◌≡◌}
use lib.ListN.{drop}
use Rattle.game.specs.Finite.{product}
use Rattle.marks.specs.Marks.{marked}
use Rattle.marked_rows.specs.Rows.{Kept}
use Rattle.marked_rows.proofs.Next.{Firsts}
use Rattle.marked_rows.proofs.first_row.Given as goal

abbrev pub invariant-loop-q : goal.invariant-loop-q
invariant-loop-q l =
    (l.stride ≡ product (drop l.q l.counts))
    × Firsts l.counts (marked l.marks) l.player 0 l.q l.at
    × Kept l.counts l.player l.q l.choices l.at
