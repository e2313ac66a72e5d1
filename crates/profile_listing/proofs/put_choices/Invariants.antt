-- `profile_listing::put_choices` meets its contract: from the last player to the first, what is before at + p is as it was, and then the
-- choices from p on. Assumes nothing.
use mathlib.Core.Path.{◌≡◌}
use mathlib.Core.List.{[]}
use Prim.Native.Nat.{◌/◌, ◌≤◌}
use lib.ListN.{length, get_or, drop}
use Rattle.game.specs.Finite.{product}
use Rattle.game.specs.Game.{profiles}
use Rattle.profile_listing.proofs.Write.{filled}
use Rattle.profile_listing.proofs.put_choices.Given as goal

abbrev pub invariant-loop-p : goal.invariant-loop-p
invariant-loop-p l = (l.p ≤ length l.counts) × (l.rest ≡ l.k / product (drop l.p l.counts)) × (l.choices ≡ filled (get_or (profiles l.counts) l.k []) l.initial.choices (length l.counts) l.at l.p)
