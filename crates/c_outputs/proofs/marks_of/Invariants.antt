-- `c_outputs::marks_of` meets its contract. The invariant: the first i are made. Assumes nothing.
use mathlib.Core.Bool.{false, not}
use lib.Dec.{eqb}
use Rattle.payoff_tables.specs.Limits.{max_marks}
use Rattle.c_answers.proofs.Outputs.{Made}
use Rattle.c_outputs.proofs.marks_of.Given as goal

abbrev pub invariant-loop-i : goal.invariant-loop-i
invariant-loop-i l = Made (λ b. not (eqb b 0)) l.bytes 0 false max_marks l.i l.marks
