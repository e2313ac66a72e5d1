-- `test_lines::lists::float_of` meets its contract: bits whose exponent's field is not all ones, or
-- whose digits are 0, are no NaN's, and all others are. Assumes nothing.
use Rattle.std.proofs.Common.{refl, eq-eqb, ne_eqb}
use lib.Ieee.{nan_bits, div, of_bits, of_fields}
use Rattle.test_lines.proofs.lists.float_of.Goals as goal

pub float_from_bits-result : goal.float_from_bits-result
unfolding nan_bits
float_from_bits-result c = rw (ne_eqb _ _ c.if-bits-ne2047.true) tt

pub float_from_bits-result-then-bits-eq0 : goal.float_from_bits-result-then-bits-eq0
unfolding nan_bits
float_from_bits-result-then-bits-eq0 c = rw (eq-eqb _ _ c.if-bits-ne2047.false, eq-eqb _ _ c.if-bits-eq0.true) tt

pub returns : goal.returns
unfolding div of_bits of_fields
returns c = rw (c.if-bits-ne2047.false, ne_eqb _ _ c.if-bits-eq0.false) refl
