-- `deposit_writer::pair` meets its contract: the sum is the two words, and the test is passed
-- because the caller's payoff is finite. Assumes nothing.
use mathlib.Core.Path.{sym, ◌∙◌, subst}
use lib.Dec.{T}
use Rattle.payoff_order.proofs.Laws.{finite_no_nan}
use native.Mathlib.Omega.{arith}
use Rattle.file_words.specs.Words.{word}
use Rattle.deposit_writer.proofs.pair.Goals as goal

pub float_to_bits-bits : goal.float_to_bits-bits
float_to_bits-bits c = finite_no_nan c.args.x c.requires

pub returns-else-is_finite : goal.returns-else-is_finite
returns-else-is_finite c = absurd (subst T (sym c.is_finite.ensures ∙ c.if-is_finite.false) c.requires)

pub returns-then-is_finite : goal.returns-then-is_finite
unfolding word
returns-then-is_finite c = omega arith
