-- `candidate_input::is_well_formed` meets its contract: the tests are those of `wellFormed`.
-- Assumes nothing.
use mathlib.Core.Path.{sym, ◌∙◌}
use native.Mathlib.Omega.{arith}
use Rattle.candidate_input.specs.Input.{well_formed}
use Rattle.candidate_input.proofs.Sizes.{is_sized, few_cells}
use Rattle.candidate_input.proofs.is_well_formed.Goals as goal

pub returns-then-not-is_sized : goal.returns-then-not-is_sized
unfolding well_formed
returns-then-not-is_sized c = rw (sym c.is_sized.ensures ∙ c.if-not-is_sized.true)

pub overflow_mul-cells : goal.overflow_mul-cells
overflow_mul-cells c = let a = c.args in omega (arith, few_cells (is_sized a.m a.n (sym c.is_sized.ensures ∙ c.if-not-is_sized.false)))

pub returns-then-not-u1-cells : goal.returns-then-not-u1-cells
unfolding well_formed
returns-then-not-u1-cells c =
    let a = c.args in
    rw (sym c.is_sized.ensures ∙ c.if-not-is_sized.false, c.if-not-u1-cells.true)

pub returns : goal.returns
unfolding well_formed
returns c =
    let a = c.args in
    rw (sym c.is_sized.ensures ∙ c.if-not-is_sized.false, c.if-not-u1-cells.false, c.all_finite.ensures, c.all_finite-2.ensures, c.all_finite-3.ensures, c.none_below.ensures)
