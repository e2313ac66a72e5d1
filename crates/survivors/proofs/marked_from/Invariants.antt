-- `survivors::marked_from` meets its contract. The invariant: from `from` on no place before s is marked. Assumes nothing.
use Prim.Native.Nat.{ℕ, ◌-◌, ◌≤◌, ◌<◌}
use lib.Dec.{T}
use Rattle.payoff_tables.specs.Limits.{max_strategies}
use Rattle.marks.specs.Marks.{marked}
use Rattle.survivors.proofs.marked_from.Given as goal

abbrev pub invariant-loop-s : goal.invariant-loop-s
invariant-loop-s l = ((t : ℕ) → l.from ≤ t → t < l.s → T (marked l.marks l.player t) → ⊥)
