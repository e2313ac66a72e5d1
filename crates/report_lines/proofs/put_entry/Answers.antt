-- `report_lines::put_entry` meets its contract: the choices, the bits after spaces, then the line end. Assumes nothing.
use mathlib.Core.Path.{sym, ap}
use mathlib.Core.List.{List, [], ◌∷◌, ◌++◌, map}
use Prim.Native.Nat.{ℕ}
use Rattle.outputs.proofs.Puts.{puts_more, puts_same}
use Rattle.digits_and_lines.specs.Text.{decimal, line_end, spaced, joined, line}
use Rattle.report_layout.specs.Lines.{bits_word, entry_line}
use Rattle.report_lines.proofs.Lines.{joined_choices}
use Rattle.report_lines.proofs.put_entry.Goals as goal

pub returns : goal.returns
unfolding entry_line line
returns c =
    let old = c.args.out.now in
    let at = c.args.at in
    let ns : List ℕ = c.args.choices.now in
    let ws : List (List ℕ) = map bits_word c.args.utilities.now in
    let d = c.put_numbers-place.ensures in
    let e = c.put_bits-place.ensures in
    let f = c.put.ensures in
    let p =
    puts_same old at (ap (λ (xs : List ℕ). xs ++ (line_end ∷ [])) (sym (joined_choices ns ws c.requires.choices_nonzero)))
    (puts_more old at (joined (map decimal ns) ++ spaced ws) (line_end ∷ [])
    (puts_more old at (joined (map decimal ns)) (spaced ws) (d.value, d.out_after) (e.value, e.out_after)) (f.value, f.out_after)) in
    record { value = p.0; out_after = p.1 }
