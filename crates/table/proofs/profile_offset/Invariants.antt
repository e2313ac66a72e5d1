-- `table::profile_offset` meets its contract. The invariant: the offset of what is left, from `at` on, is that of the profile; `at` is below
-- the product of the counts so far; and the choices so far are below their counts. Assumes nothing.
use mathlib.Core.Path.{◌≡◌}
use Prim.Native.Nat.{ℕ, ◌<◌}
use lib.ListN.{length, get_or, take, drop}
use Rattle.game.specs.Finite.{product}
use Rattle.game.specs.Game.{choice}
use Rattle.payoff_tables.specs.Table.{offset, offset_from}
use Rattle.table.proofs.profile_offset.Given as goal

abbrev pub invariant-loop-count : goal.invariant-loop-count
invariant-loop-count l =
    (l.at < product (take (length l.yielded) l.counts))
    × (offset_from l.at (drop (length l.yielded) l.counts) (drop (length l.yielded) l.profile) ≡ offset l.counts l.profile)
    × ((q : ℕ) → q < length l.yielded → choice l.profile q < get_or l.counts q 0)
