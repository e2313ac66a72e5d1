-- `text::put_numbers` meets its contract: of no number the text is empty, else the first number stands with no space before it. Assumes
-- nothing.
use mathlib.Core.Path.{sym, ap}
use mathlib.Core.List.{List, map}
use Prim.Native.Nat.{ℕ}
use Rattle.outputs.proofs.Puts.{puts_none, puts_more, puts_same}
use Rattle.digits_and_lines.specs.Text.{decimal, spaced, joined}
use Rattle.digits_and_lines.proofs.Lines.{joined_none}
use Rattle.text.proofs.put_numbers.Goals as goal

pub returns-in_default : goal.returns-in_default
returns-in_default c =
    let a = c.args in
    let p = puts_same a.out.now a.at (joined_none a.numbers.now c.in_default.ensures.cases) (puts_none a.out.now a.at c.within.ensures) in
    record { value = p.0; out_after = p.1 }

pub returns : goal.returns
unfolding joined
returns c =
    let a = c.args in
    let s = c.in-Some in
    let d = c.put_decimal-place.ensures in
    let e = c.put_spaced.ensures in
    let p =
    puts_same a.out.now a.at (ap (λ (ns : List ℕ). joined (map decimal ns)) (sym s.ensures.cases.0))
    (puts_more a.out.now a.at (decimal s.first.now) (spaced (map decimal s.others.now)) (d.value, d.out_after) (e.value, e.out_after)) in
    record { value = p.0; out_after = p.1 }
