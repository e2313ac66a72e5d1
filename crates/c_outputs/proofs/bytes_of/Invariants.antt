-- `c_outputs::bytes_of` meets its contract. The invariant: the first i are made. Assumes nothing.
use mathlib.Core.Bool.{false}
use Rattle.payoff_tables.specs.Limits.{max_marks}
use Rattle.refusal.specs.Told.{byte_of}
use Rattle.c_answers.proofs.Outputs.{Made}
use Rattle.c_outputs.proofs.bytes_of.Given as goal

abbrev pub invariant-loop-i : goal.invariant-loop-i
invariant-loop-i l = Made (byte_of) l.marks false 0 max_marks l.i l.bytes
