-- `deposit_writer::put_word` meets its contract: the bytes copied are the word's. Assumes nothing.
use mathlib.Core.Path.{ap, ◌∙◌}
use mathlib.Core.List.{List}
use Prim.Native.Nat.{ℕ, ◌+◌, ◌*◌, ◌-◌}
use native.Mathlib.Omega.{arith}
use borrow.Rule.Slice.PartMut.{put_mid}
use Rattle.file_words.specs.Words.{word, word_bytes}
use Rattle.deposit_writer.proofs.Puts.{part_stores, word_stores, be_word}
use Rattle.deposit_writer.proofs.put_word.Goals as goal

pub returns : goal.returns
unfolding word word_bytes
returns c =
    let at = 4 * c.args.place in
    let w = word c.args.kind c.args.payload in
    let copied = c.copy_from_slice.ensures.after ∙ c.to_be_bytes.ensures ∙ be_word w (omega (arith, c.requires)) in
    ap (λ (vs : List ℕ). put_mid at (at + 4 - at) c.args.bytes.now vs) copied
    ∙ part_stores c.args.bytes.now at (at + 4 - at) (word_bytes w) (omega arith) (omega (arith, c.requires))
    ∙ word_stores c.args.bytes.now c.args.place w
