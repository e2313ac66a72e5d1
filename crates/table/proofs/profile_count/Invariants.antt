-- `table::profile_count` meets its contract. The invariant: the product so far times that of the counts left is that of all, and no
-- count so far is refused. Assumes nothing.
use mathlib.Core.Path.{◌≡◌}
use mathlib.Core.Option.{none}
use Prim.Native.Nat.{ℕ, ◌*◌, ◌^◌, ◌<◌, ◌≤◌}
use lib.ListN.{get_or, drop}
use Rattle.game.specs.Finite.{product}
use Rattle.payoff_tables.specs.Limits.{max_strategies}
use Rattle.payoff_tables.specs.Checks.{count_refusal}
use Rattle.table.proofs.profile_count.Given as goal

abbrev pub invariant-loop-count : goal.invariant-loop-count
invariant-loop-count l =
    (l.profiles ≤ max_strategies ^ l.count-index)
    × (l.profiles * product (drop l.count-index l.counts) ≡ product l.counts)
    × ((q : ℕ) → q < l.count-index → count_refusal (get_or l.counts q 0) ≡ none)
