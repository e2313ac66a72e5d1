-- `text::put_hexadecimal` meets its contract. Assumes nothing.
use mathlib.Core.Path.{◌∙◌}
use native.Mathlib.Omega.{arith}
use Rattle.outputs.proofs.Puts.{puts_same}
use Rattle.digits_and_lines.proofs.Digits.{hexadecimal_fewest}
use Rattle.text.proofs.put_hexadecimal.Goals as goal

pub returns : goal.returns
returns c =
    let h = c.hex-width in
    let a = c.args in
    let e = c.put.ensures in
    let p = puts_same a.out.now a.at (h.ensures.digits ∙ hexadecimal_fewest a.bits h.result (omega (arith, c.ranges.bits)) h.ensures.len) (e.value, e.out_after) in
    record { value = p.0; out_after = p.1 }
