-- `profile_listing::put_utilities` meets its contract: from the last player to the first, what is before at + p is as it was, and then the
-- payoffs from p on. Assumes nothing.
use mathlib.Core.Path.{◌≡◌}
use mathlib.Core.List.{[]}
use Prim.Native.Nat.{◌≤◌}
use lib.ListN.{length, get_or}
use Rattle.game.specs.Game.{profiles}
use Rattle.payoff_tables.specs.Table.{profile_part}
use Rattle.profile_listing.proofs.Write.{filled}
use Rattle.profile_listing.proofs.put_utilities.Given as goal

abbrev pub invariant-loop-p : goal.invariant-loop-p
invariant-loop-p l = (l.p ≤ length l.counts) × (l.utilities ≡ filled (profile_part l.counts l.payoffs (get_or (profiles l.counts) l.k [])) l.initial.utilities (length l.counts) l.at l.p)
