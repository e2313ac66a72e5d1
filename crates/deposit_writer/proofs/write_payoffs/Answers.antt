use mathlib.Core.Path.{sym, ap, ◌∙◌}
use mathlib.Core.List.{flat_map}
use Prim.Native.Nat.{◌+◌, ◌*◌}
use native.Mathlib.Omega.{arith}
use lib.ListN.{length, get_or, take}
use lib.Seq.{take_all}
use lib.Ieee.{nan}
use Rattle.deposit_format.specs.Deposit.{payoff_words}
use Rattle.deposit_writer.specs.Put.{words_put}
use Rattle.deposit_writer.proofs.Puts.{put_length, put_none, payoffs_more}
use Rattle.deposit_writer.proofs.write_payoffs.Goals as goal

pub loop-i-init : goal.loop-i-init
unfolding flat_map
loop-i-init c = sym (put_none _ c.args.start)

pub put_payoff-requires : goal.put_payoff-requires
put_payoff-requires c =
    let l = c.loop-i in
    let h = c.loop-i-test.true in
    let kept = ap length l.invariant ∙ put_length c.args.bytes.now c.args.start (flat_map payoff_words (take l.i c.args.payoffs.now)) in
    (c.requires.0 l.i h, omega (arith, h, c.requires.1, kept))

pub loop-i-preserved : goal.loop-i-preserved
loop-i-preserved c =
    let l = c.loop-i in
    let a = c.args in
    c.put_payoff.ensures
    ∙ ap (λ b. words_put b (a.start + 3 * l.i) (payoff_words (get_or a.payoffs.now l.i nan))) l.invariant
    ∙ payoffs_more a.bytes.now a.start a.payoffs.now l.i c.loop-i-test.true

pub returns : goal.returns
returns c =
    let l = c.loop-i in
    l.invariant ∙ ap (λ xs. words_put c.args.bytes.now c.args.start (flat_map payoff_words xs)) (take_all l.i c.args.payoffs.now c.loop-i-test.false)
