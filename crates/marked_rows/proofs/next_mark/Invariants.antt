-- `marked_rows::next_mark` meets its contract. The invariant: none of the strategies passed is marked. Assumes nothing.
use mathlib.Core.Bool.{false}
use Prim.Native.Nat.{ℕ, ◌+◌, ◌≤◌, ◌<◌}
use lib.Dec.{T}
use lib.ListN.{get_or}
use Rattle.marked_rows.proofs.next_mark.Given as goal

abbrev pub invariant-loop-s : goal.invariant-loop-s
invariant-loop-s l = (u : ℕ) → l.from ≤ u → u < l.s → T (get_or l.marks (l.place + u) false) → ⊥
