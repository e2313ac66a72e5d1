-- `mark_responses::put_steps` meets its contract: the first `number` places hold the steps of the marked strategies before t. Assumes nothing.
use mathlib.Core.Path.{◌≡◌}
use mathlib.Core.List.{map}
use Prim.Native.Nat.{◌*◌, ◌≤◌}
use lib.ListN.{length, take}
use Rattle.mark_responses.specs.Sweep.{marked_of}
use Rattle.mark_responses.proofs.put_steps.Given as goal

abbrev pub invariant-loop-t : goal.invariant-loop-t
invariant-loop-t l =
    (l.t ≤ l.count)
    × (length l.steps ≡ length l.initial.steps)
    × (l.number ≡ length (marked_of l.survivors l.place l.t))
    × (take l.number l.steps ≡ map (λ s. s * l.step) (marked_of l.survivors l.place l.t))
