-- `candidate_input::is_claim` meets its contract: the tests are those of `claimed`. Assumes
-- nothing.
use mathlib.Core.Path.{sym, ◌∙◌}
use native.Mathlib.Omega.{arith}
use Rattle.candidate_input.specs.Input.{claimed}
use Rattle.candidate_input.proofs.Sizes.{is_sized, few_cells}
use Rattle.candidate_input.proofs.is_claim.Goals as goal

pub returns-then-not-is_sized : goal.returns-then-not-is_sized
unfolding claimed
returns-then-not-is_sized c = rw (sym c.is_sized.ensures ∙ c.if-not-is_sized.true)

pub overflow_mul-m : goal.overflow_mul-m
overflow_mul-m c = let a = c.args in omega (arith, few_cells (is_sized a.m a.n (sym c.is_sized.ensures ∙ c.if-not-is_sized.false)))

pub returns-then-not-payoffs-m : goal.returns-then-not-payoffs-m
unfolding claimed
returns-then-not-payoffs-m c =
    let a = c.args in
    rw (sym c.is_sized.ensures ∙ c.if-not-is_sized.false, c.if-not-payoffs-m.true)

pub returns : goal.returns
unfolding claimed
returns c =
    let a = c.args in
    rw (sym c.is_sized.ensures ∙ c.if-not-is_sized.false, c.if-not-payoffs-m.false, c.all_finite.ensures, c.all_finite-2.ensures, c.all_finite-3.ensures, c.is_finite.ensures, c.is_tolerable.ensures)
