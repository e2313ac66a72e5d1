-- `report_input::reported` meets its contract: the one refusal with the number 13 is replaced.
-- Assumes nothing.
use mathlib.Core.Path.{refl}
use borrow.Author.Tests.{ne_eqb}
use Rattle.refusal.specs.Refusal.{number_of}
use Rattle.refusal.proofs.Refusal.{number_once}
use Rattle.refusal.specs.declared.NormalFormError.TheVariants.{OutputTooShort}
use Rattle.report_input.proofs.reported.Goals as goal

pub returns-in_default : goal.returns-in_default
returns-in_default c = rw (ne_eqb (number_of c.args.refusal) 13 (λ h. c.in_default.not-OutputTooShort (number_once c.args.refusal OutputTooShort h))) refl
