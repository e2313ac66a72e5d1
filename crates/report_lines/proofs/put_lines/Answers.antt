use mathlib.Core.Path.{◌≡◌, ap}
use mathlib.Core.List.{List, flat_map}
use Prim.Native.Nat.{ℕ, ◌-◌, ◌+◌, ◌*◌}
use native.Mathlib.Omega.{arith}
use lib.ListN.{length, take, drop}
use Rattle.game.specs.Finite.{below}
use Rattle.outputs.proofs.Puts.{puts_none, puts_more, puts_same}
use Rattle.report_layout.specs.Lines.{numbers_line, part, numbers_lines}
use Rattle.report_lines.proofs.Lines.{flat_next, entry_within}
use Rattle.report_lines.proofs.put_lines.Goals as goal

abbrev lines_before : List ℕ → ℕ → ℕ → List ℕ
lines_before numbers width i = flat_map (λ j. numbers_line (part width numbers j)) (below i)

pub loop-i-init : goal.loop-i-init
unfolding flat_map
loop-i-init c = puts_none c.args.out.now c.args.at c.within-place.ensures

pub loop-i-preserved : goal.loop-i-preserved
loop-i-preserved c =
    let l = c.loop-i in
    let a = c.args in
    let i = l.i in
    let d = c.put_line-place.ensures in
    let e : i * a.width + a.width - i * a.width ≡ a.width = omega arith in
    let one = puts_same l.out l.place (ap (λ (k : ℕ). numbers_line (take k (drop (i * a.width) a.numbers.now))) e) (d.value, d.out_after) in
    puts_same a.out.now a.at (flat_next (λ j. numbers_line (part a.width a.numbers.now j)) i)
    (puts_more a.out.now a.at (lines_before a.numbers.now a.width i) (numbers_line (part a.width a.numbers.now i)) l.invariant one)

pub returns : goal.returns
unfolding numbers_lines
returns c =
    let l = c.loop-i in
    let a = c.args in
    let e : l.i ≡ a.number = omega arith in
    let p = puts_same a.out.now a.at (ap (lines_before a.numbers.now a.width) e) l.invariant in
    record { value = p.0; out_after = p.1 }
