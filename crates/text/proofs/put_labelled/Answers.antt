-- `text::put_labelled` meets its contract. Assumes nothing.
use mathlib.Core.List.{[], ◌∷◌, ◌++◌, map}
use Rattle.outputs.proofs.Puts.{puts_more}
use Rattle.digits_and_lines.specs.Text.{decimal, spaced, joined, line_end, line}
use Rattle.text.proofs.put_labelled.Goals as goal

pub returns : goal.returns
unfolding line joined
returns c =
    let a = c.args in
    let e = c.put-place.ensures in
    let f = c.put_spaced-place.ensures in
    let g = c.put.ensures in
    let numbers = spaced (map decimal a.numbers.now) in
    let p =
    puts_more a.out.now a.at (a.label.now ++ numbers) (line_end ∷ [])
    (puts_more a.out.now a.at a.label.now numbers (e.value, e.out_after) (f.value, f.out_after)) (g.value, g.out_after) in
    record { value = p.0; out_after = p.1 }
