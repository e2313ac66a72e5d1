-- `report_lines::put_line` meets its contract: the numbers, then the line end. Assumes nothing.
use mathlib.Core.List.{[], ◌∷◌, map}
use Rattle.outputs.proofs.Puts.{puts_more}
use Rattle.digits_and_lines.specs.Text.{decimal, line_end, joined, line}
use Rattle.report_layout.specs.Lines.{numbers_line}
use Rattle.report_lines.proofs.put_line.Goals as goal

pub returns : goal.returns
unfolding numbers_line line
returns c =
    let d = c.put_numbers-place.ensures in
    let f = c.put.ensures in
    let p = puts_more c.args.out.now c.args.at (joined (map decimal c.args.numbers.now)) (line_end ∷ []) (d.value, d.out_after) (f.value, f.out_after) in
    record { value = p.0; out_after = p.1 }
