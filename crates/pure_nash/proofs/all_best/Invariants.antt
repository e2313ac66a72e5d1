-- `pure_nash::all_best` meets its contract: down from the last player, stride is the product of the counts from p on, and every choice from p on
-- is a best response. Assumes nothing.
use mathlib.Core.Path.{◌≡◌}
use mathlib.Core.List.{[]}
use Prim.Native.Nat.{ℕ, ◌≤◌, ◌<◌}
use lib.Dec.{T}
use lib.ListN.{length, get_or, drop}
use Rattle.game.specs.Finite.{product}
use Rattle.game.specs.Game.{profiles}
use Rattle.payoff_tables.specs.Table.{table_game}
use Rattle.marks.specs.Marks.{marked}
use Rattle.response_marks.specs.Marks.{settled}
use Rattle.pure_nash.proofs.all_best.Given as goal

abbrev pub invariant-loop-p : goal.invariant-loop-p
invariant-loop-p l =
    (l.p ≤ length l.counts)
    × (l.stride ≡ product (drop l.p l.counts))
    × ((q : ℕ) → l.p ≤ q → q < length l.counts → T (settled (table_game l.counts l.payoffs) (marked l.survivors) (get_or (profiles l.counts) l.k []) q))
