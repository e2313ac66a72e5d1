-- `text::put_decimal` meets its contract. Assumes nothing.
use mathlib.Core.Path.{◌∙◌}
use Rattle.outputs.proofs.Puts.{puts_same}
use Rattle.digits_and_lines.proofs.Digits.{decimal_fewest}
use Rattle.text.proofs.put_decimal.Goals as goal

pub returns : goal.returns
returns c =
    let d = c.decimal-width in
    let a = c.args in
    let e = c.put.ensures in
    let p = puts_same a.out.now a.at (d.ensures.digits ∙ decimal_fewest a.n d.result d.ensures.len) (e.value, e.out_after) in
    record { value = p.0; out_after = p.1 }
