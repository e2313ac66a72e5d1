-- `deposit_writer::put_pair` meets its contract: the bytes copied are those of two words. Assumes
-- nothing.
use mathlib.Core.Path.{◌≡◌, ap, ◌∙◌}
use mathlib.Core.List.{List, [], ◌∷◌}
use Prim.Native.Nat.{ℕ, ◌+◌, ◌*◌, ◌-◌, ◌/◌, ◌%◌, ◌^◌}
use native.Mathlib.Omega.{arith}
use lib.ListN.{length}
use borrow.Rule.Slice.PartMut.{put_mid}
use Rattle.file_words.specs.Words.{bytes_of}
use Rattle.file_words.proofs.Words.{bytes_length}
use Rattle.deposit_writer.proofs.Puts.{part_stores, be_pair}
use Rattle.deposit_writer.proofs.put_pair.Goals as goal

pub returns : goal.returns
returns c =
    let at = 4 * c.args.place in
    let n = c.args.pair in
    let ws = n / 2 ^ 32 ∷ n % 2 ^ 32 ∷ [] in
    let size : length (bytes_of ws) ≡ 8 = bytes_length ws in
    let copied = c.copy_from_slice.ensures.after ∙ c.to_be_bytes.ensures ∙ be_pair n (omega (arith, c.ranges.pair.fits)) in
    ap (λ (vs : List ℕ). put_mid at (at + 8 - at) c.args.bytes.now vs) copied
    ∙ part_stores c.args.bytes.now at (at + 8 - at) (bytes_of ws) (omega (arith, size)) (omega (arith, size, c.requires))
