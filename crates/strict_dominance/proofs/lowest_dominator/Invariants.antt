-- `strict_dominance::lowest_dominator` meets its contract. The outer invariant: no strategy below t is a dominator. The inner one: in every row
-- of the player's cells that starts before `base`, where the others' choices are marked, the strategy pays less than t; and a row starts at
-- `base`, which, where marks are read, has the others' choices marked, and `choices` keeps them. A row that denies it ends the candidate;
-- after the last row t is the lowest dominator. Assumes nothing.
use Prim.Native.Nat.{ℕ, ◌-◌, ◌<◌}
use lib.Dec.{T}
use lib.ListN.{get_or}
use Rattle.game.specs.Finite.{product}
use Rattle.game.specs.Meaning.{Dominator}
use Rattle.payoff_tables.specs.Table.{table_game}
use Rattle.marks.specs.Marks.{marked}
use Rattle.marked_rows.specs.Rows.{MarkedRow, Kept}
use Rattle.strict_dominance.proofs.Rows.{Start, LessTo}
use Rattle.strict_dominance.proofs.lowest_dominator.Given as goal

abbrev pub invariant-loop-base : goal.invariant-loop-base
invariant-loop-base l =
    LessTo l.counts l.payoffs l.marks l.player l.stride l.strategy l.t l.base
    × (T l.whole → Start l.stride (get_or l.counts l.player 0) l.base l.within)
    × ((T l.whole → ⊥) → l.base < product l.counts → MarkedRow l.counts (marked l.marks) l.player l.base × Kept l.counts l.player 0 l.choices l.base)

abbrev pub decreases-loop-base : goal.decreases-loop-base
decreases-loop-base l = l.profiles - l.base

abbrev pub invariant-candidates : goal.invariant-candidates
invariant-candidates l = (u : ℕ) → u < l.t → Dominator (table_game l.counts l.payoffs) (marked l.marks) l.player l.strategy u → ⊥
