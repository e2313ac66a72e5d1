-- `test_print::F64Element::word` meets its contract: the bits of a NaN are those that `to_bits`
-- gives it. Assumes nothing.
use Rattle.std.proofs.Common.{◌≡◌, T, refl, sym}
use lib.Ieee.{Float, nan, inf, fin, binary64, is_nan, to_bits}
use Rattle.test_print.proofs.F64Element.word.Goals as goal

nan-bits : (x : Float) → T (is_nan x) → 0x7ff8000000000000 ≡ to_bits binary64 x
unfolding is_nan to_bits
nan-bits nan h = refl
nan-bits (inf s) h = absurd h
nan-bits (fin s m e) h = absurd h

pub returns-then-is_nan : goal.returns-then-is_nan
returns-then-is_nan c = nan-bits c.args.self (rw (sym c.is_nan.ensures.value, c.if-is_nan.true) tt)
