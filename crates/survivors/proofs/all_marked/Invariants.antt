-- `survivors::all_marked` meets its contract. The invariant: the places before i are filled, and the others hold a mark. Assumes nothing.
use Prim.Native.Nat.{◌≤◌, ◌-◌}
use Rattle.payoff_tables.specs.Limits.{max_marks}
use Rattle.survivors.proofs.Marks.{Filled}
use Rattle.survivors.proofs.all_marked.Given as goal

abbrev pub invariant-loop-i : goal.invariant-loop-i
invariant-loop-i l = Filled l.counts l.i l.marks
