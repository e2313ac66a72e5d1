use mathlib.Core.Path.{refl}
use mathlib.Core.Bool.{false}
use native.Mathlib.Omega.{arith}
use borrow.Author.Rules.{rules}
use lib.ListN.{get_or}
use Rattle.payoff_tables.specs.Limits.{max_marks}
use Rattle.refusal.specs.Told.{byte_of}
use Rattle.refusal.proofs.Told.{byte_is}
use Rattle.c_answers.proofs.Outputs.{made_more, made_all}
use Rattle.c_outputs.proofs.bytes_of.Goals as goal

pub loop-i-init : goal.loop-i-init
loop-i-init c = record { size = refl; done = λ j h. absurd (omega arith) }

pub loop-i-preserved : goal.loop-i-preserved
loop-i-preserved c =
    let l = c.loop-i in
    let marks = c.args.marks in
    rw c.from.ensures (made_more byte_of marks false 0 max_marks l.i l.bytes c.loop-i-test.true l.invariant)

pub returns : goal.returns
returns c = made_all (byte_of) c.args.marks false 0 max_marks c.loop-i.i _ (search rules) c.loop-i-test.false c.loop-i.invariant
