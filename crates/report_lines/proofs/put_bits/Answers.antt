use mathlib.Core.List.{[], ◌∷◌, map}
use lib.ListN.{get_or, take}
use lib.Ieee.{nan}
use Rattle.payoff_order.proofs.Laws.{finite_no_nan}
use Rattle.outputs.proofs.Puts.{puts_none, puts_more, puts_same}
use Rattle.digits_and_lines.specs.Text.{space, spaced}
use Rattle.digits_and_lines.proofs.Lines.{spaced_next}
use Rattle.report_layout.specs.Lines.{bits_word}
use Rattle.report_lines.proofs.put_bits.Goals as goal

pub loop-utility-init : goal.loop-utility-init
unfolding spaced
loop-utility-init c = puts_none c.args.out.now c.args.at c.within-place.ensures

pub float_to_bits-utility : goal.float_to_bits-utility
float_to_bits-utility c = finite_no_nan (get_or c.args.utilities.now c.loop-utility.utility-index nan) (c.requires c.loop-utility.utility-index c.loop-utility-test.true)

pub loop-utility-preserved : goal.loop-utility-preserved
unfolding bits_word
loop-utility-preserved c =
    let l = c.loop-utility in
    let a = c.args in
    let i = l.utility-index in
    let us = a.utilities.now in
    let d = c.put-place.ensures in
    let e = c.put_hexadecimal-place.ensures in
    let one = puts_more l.out l.place (space ∷ []) (bits_word (get_or us i nan)) (d.value, d.out_after) (e.value, e.out_after) in
    puts_same a.out.now a.at (spaced_next bits_word us nan i c.loop-utility-test.true)
    (puts_more a.out.now a.at (spaced (map bits_word (take i us))) (space ∷ bits_word (get_or us i nan)) l.invariant one)
