use mathlib.Core.Path.{refl}
use mathlib.Core.Bool.{false, not}
use native.Mathlib.Omega.{arith}
use borrow.Author.Rules.{rules}
use lib.Dec.{eqb}
use Rattle.payoff_tables.specs.Limits.{max_marks}
use Rattle.c_answers.proofs.Outputs.{made_more, made_all}
use Rattle.c_outputs.proofs.marks_of.Goals as goal

pub loop-i-init : goal.loop-i-init
loop-i-init c = record { size = refl; done = λ j h. absurd (omega arith) }

pub loop-i-preserved : goal.loop-i-preserved
loop-i-preserved c = made_more (λ b. not (eqb b 0)) c.args.bytes 0 false max_marks c.loop-i.i c.loop-i.marks c.loop-i-test.true c.loop-i.invariant

pub returns : goal.returns
returns c = made_all (λ b. not (eqb b 0)) c.args.bytes 0 false max_marks c.loop-i.i _ (search rules) c.loop-i-test.false c.loop-i.invariant
