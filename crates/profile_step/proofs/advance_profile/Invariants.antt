-- `profile_step::advance_profile` meets its contract. The invariant: the step of the first p players from what the choices are now is the step of
-- all from what they were. Assumes nothing.
use mathlib.Core.Path.{◌≡◌}
use Prim.Native.Nat.{◌≤◌}
use lib.ListN.{length, take}
use Rattle.payoff_tables.specs.Limits.{max_players}
use Rattle.profile_step.specs.Step.{step}
use Rattle.profile_step.proofs.advance_profile.Given as goal

abbrev pub invariant-loop-p : goal.invariant-loop-p
invariant-loop-p l = (l.p ≤ length l.counts) × (l.p ≤ max_players) × (length l.next ≡ max_players) × (step l.counts l.initial.next ≡ step (take l.p l.counts) l.next)
