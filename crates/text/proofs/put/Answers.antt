use mathlib.Core.Path.{◌≡◌, sym, ap, ◌∙◌}
use mathlib.Core.List.{[], ◌∷◌, ◌++◌}
use Prim.Native.Nat.{ℕ, ◌+◌}
use native.Mathlib.Numerals.{add-one}
use lib.ListN.{get_or, take}
use lib.Seq.{take-suc}
use Rattle.outputs.proofs.Puts.{puts_more, puts_same}
use Rattle.text.proofs.put.Goals as goal

pub loop-byte-preserved : goal.loop-byte-preserved
loop-byte-preserved c =
    let p = c.put-place.ensures in
    let a = c.args in
    let i = c.loop-byte.byte-index in
    let bs = a.bytes.now in
    let one = get_or bs i 0 ∷ [] in
    let next : take i bs ++ one ≡ take (i + 1) bs = sym (ap (λ (k : ℕ). take k bs) (add-one i) ∙ take-suc bs i 0 c.loop-byte-test.true) in
    puts_same a.out.now a.at next (puts_more a.out.now a.at (take i bs) one c.loop-byte.invariant (p.value, p.out_after))
