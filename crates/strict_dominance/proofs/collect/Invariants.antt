-- `strict_dominance::collect` meets its contract. The invariant: the dominated strategies below s are written, each with its lowest dominator.
-- Marks on every place are the whole game's. Assumes nothing.
use Prim.Native.Nat.{◌≤◌}
use lib.ListN.{get_or}
use Rattle.game.specs.Game.{whole}
use Rattle.payoff_tables.specs.Table.{table_game}
use Rattle.strict_dominance.proofs.Dominated.{dominated_below, Collected}
use Rattle.strict_dominance.proofs.collect.Given as goal

abbrev pub invariant-loop-s : goal.invariant-loop-s
invariant-loop-s l =
    let g = table_game l.counts l.payoffs in
    (l.s ≤ get_or l.counts l.player 0) × Collected (dominated_below g (whole g) l.player l.s) l.number l.initial.strategies l.initial.lowest l.strategies l.lowest
