-- `profile_listing::put_next_choices` meets its contract: from the last player to the first, what is before at + p is as it was, then the
-- choices from p on, and `up` says that the players from p on have all begun again. Assumes nothing.
use mathlib.Core.Path.{◌≡◌}
use mathlib.Core.Bool.{not}
use mathlib.Core.List.{[]}
use Prim.Native.Nat.{◌-◌, ◌≤◌}
use lib.ListN.{length, get_or, drop}
use Rattle.game.specs.Game.{profiles}
use Rattle.profile_step.specs.Step.{step}
use Rattle.profile_listing.proofs.Write.{filled}
use Rattle.profile_listing.proofs.put_next_choices.Given as goal

abbrev pub invariant-loop-p : goal.invariant-loop-p
invariant-loop-p l =
    (l.p ≤ length l.counts)
    × (l.up ≡ not (step (drop l.p l.counts) (drop l.p (get_or (profiles l.counts) (l.k - 1) []))).more)
    × (l.choices ≡ filled (get_or (profiles l.counts) l.k []) l.initial.choices (length l.counts) l.at l.p)
