use mathlib.Core.List.{[], ◌∷◌, map}
use lib.ListN.{get_or, take}
use Rattle.outputs.proofs.Puts.{puts_none, puts_more, puts_same}
use Rattle.digits_and_lines.specs.Text.{decimal, space, spaced}
use Rattle.digits_and_lines.proofs.Lines.{spaced_next}
use Rattle.text.proofs.put_spaced.Goals as goal

pub loop-n-init : goal.loop-n-init
unfolding spaced
loop-n-init c = puts_none c.args.out.now c.args.at c.within-place.ensures

pub loop-n-preserved : goal.loop-n-preserved
loop-n-preserved c =
    let l = c.loop-n in
    let a = c.args in
    let i = l.n-index in
    let ns = a.numbers.now in
    let d = c.put-place.ensures in
    let e = c.put_decimal-place.ensures in
    let n = get_or ns i 0 in
    let one = puts_more l.out l.place (space ∷ []) (decimal n) (d.value, d.out_after) (e.value, e.out_after) in
    puts_same a.out.now a.at (spaced_next decimal ns 0 i c.loop-n-test.true)
    (puts_more a.out.now a.at (spaced (map decimal (take i ns))) (space ∷ decimal n) l.invariant one)
