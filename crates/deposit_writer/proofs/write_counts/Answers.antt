use mathlib.Core.Path.{sym, ap, ◌∙◌}
use mathlib.Core.List.{[], ◌∷◌, map}
use Prim.Native.Nat.{◌+◌}
use native.Mathlib.Omega.{arith}
use lib.ListN.{length, get_or, take}
use lib.Seq.{take_all}
use Rattle.file_words.specs.Words.{word}
use Rattle.deposit_writer.specs.Put.{words_put}
use Rattle.deposit_writer.proofs.Puts.{put_length, put_none, counts_more}
use Rattle.deposit_writer.proofs.write_counts.Goals as goal

pub loop-p-init : goal.loop-p-init
loop-p-init c = sym (put_none _ 1)

pub overflow_cast-count : goal.overflow_cast-count
overflow_cast-count c = omega (arith, c.requires.0.high c.loop-p.p c.loop-p-test.true)

pub put_word-requires : goal.put_word-requires
put_word-requires c =
    let l = c.loop-p in
    let h = c.loop-p-test.true in
    let kept = ap length l.invariant ∙ put_length c.args.bytes.now 1 (map (word 1) (take l.p c.args.counts.now)) in
    (omega arith, omega (arith, c.requires.0.high l.p h), omega (arith, h, c.requires.1, kept))

pub loop-p-preserved : goal.loop-p-preserved
loop-p-preserved c =
    let l = c.loop-p in
    let a = c.args in
    c.put_word.ensures
    ∙ ap (λ b. words_put b (1 + l.p) (word 1 (get_or a.counts.now l.p 0) ∷ [])) l.invariant
    ∙ counts_more a.bytes.now a.counts.now l.p c.loop-p-test.true

pub returns : goal.returns
returns c =
    let l = c.loop-p in
    l.invariant ∙ ap (λ cs. words_put c.args.bytes.now 1 (map (word 1) cs)) (take_all l.p c.args.counts.now c.loop-p-test.false)
