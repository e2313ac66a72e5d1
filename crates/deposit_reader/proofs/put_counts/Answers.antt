use mathlib.Core.Path.{◌≡◌, sym, ◌∙◌}
use native.Mathlib.Omega.{arith}
use lib.ListN.{length, take}
use lib.Seq.{length-take-le}
use Rattle.file_words.specs.Words.{words_of}
use Rattle.deposit_format.specs.Deposit.{counts_in}
use Rattle.deposit_format.proofs.Tables.{counts_length, counts_at}
use Rattle.deposit_reader.proofs.Written.{next_written, all_written}
use Rattle.deposit_reader.proofs.put_counts.Goals as goal

pub loop-p-preserved : goal.loop-p-preserved
loop-p-preserved c =
    let l = c.loop-p in
    let a = c.args in
    let ws = words_of a.bytes.now in
    let n : length (take a.players a.counts.now) ≡ a.players = length-take-le a.players a.counts.now c.requires.2 in
    next_written 0 (counts_in ws) l.count-items l.p _ (omega (arith, l.auto.count-items, c.loop-p-test.true)) l.invariant
    (c.payload.ensures ∙ sym (counts_at ws l.p (omega (arith, n, c.loop-p-test.true, c.requires.0))))

pub returns : goal.returns
returns c =
    let l = c.loop-p in
    let a = c.args in
    let ws = words_of a.bytes.now in
    let n : length (take a.players a.counts.now) ≡ a.players = length-take-le a.players a.counts.now c.requires.2 in
    all_written 0 (counts_in ws) l.count-items a.counts.now a.players (c.requires.0 ∙ sym (counts_length ws)) (l.auto.count-items ∙ n)
    (λ k h. l.invariant k (omega (arith, h, n, c.loop-p-test.false)))
