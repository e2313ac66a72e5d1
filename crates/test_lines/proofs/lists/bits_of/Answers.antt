-- `test_lines::lists::bits_of` meets its contract: a float equals itself unless it is a NaN, whose
-- bits are those that `to_bits` gives it. Assumes nothing.
use Rattle.std.proofs.Common.{◌≡◌, ℕ, ◌*◌, Bool, true, false, not, T, sym, refl, ◌∙◌, subst, true≢false, eq-eqb}
use lib.Ieee.{Float, nan, inf, fin, binary64, up, down, level, eq, is_nan, to_bits}
use Rattle.test_lines.proofs.lists.bits_of.Goals as goal

no_nan : (x : Float) → eq x x ≡ true → T (not (is_nan x))
unfolding eq is_nan
no_nan nan h = subst T (sym h) tt
no_nan (inf s) h = tt
no_nan (fin s m e) h = tt

finite-same : (s : Bool) (a : ℕ) → level s a s a ≡ true
finite-same false a = rw (eq-eqb a a refl) refl
finite-same true a = rw (eq-eqb a a refl) refl

nan-bits : (x : Float) → eq x x ≡ false → 0x7ff8000000000000 ≡ to_bits binary64 x
unfolding eq to_bits
nan-bits nan h = refl
nan-bits (inf false) h = absurd (subst T h tt)
nan-bits (inf true) h = absurd (subst T h tt)
nan-bits (fin s m e) h = absurd (true≢false (sym (finite-same s (m * up e * down e)) ∙ h))

pub float_to_bits-result : goal.float_to_bits-result
float_to_bits-result c = no_nan c.args.x c.if-x.true

pub returns-else-x : goal.returns-else-x
returns-else-x c = nan-bits c.args.x c.if-x.false
