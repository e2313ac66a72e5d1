-- Which whole number an f64 is, times d. Both zeros are 0, and for d above 0 nothing else is
-- (`zero-whole`, `minus-zero-whole`, `nothing-whole`). For n to 1,074 every whole number below 2^53
-- in size is 2^n times some f64 (`some-whole`), where n is 0 the one that it is cast to
-- (`cast-whole`), and, but for 0, of one f64 alone (`one-whole`). An f64 has one such number
-- (`times-once` of `Exact`), and it can be found (`whole-of`). An f64 that has one is finite
-- (`finite-whole`). Assumes nothing.
use mathlib.Core.Path.{◌≡◌, refl, sym, ap, ap₂, ◌∙◌, subst}
use mathlib.Core.Bool.{Bool, true, false}
use Prim.Native.Nat.{ℕ, zero, suc, ◌*◌, ◌/◌, ◌^◌, ◌≤◌, ◌<◌, zero-le}
use native.Mathlib.Nat.{zero-mul, mul-div_cancel, not-suc-le-zero}
use lib.Dec.{T, lit<}
use lib.IntN.{ℤ, pos, negsuc, nat_abs, pos-ne-negsuc}
use lib.Pow.{pow_pos}
use lib.Ieee.{Float, nan, inf, fin, binary64, prec, low, up, down, round, eq, neg, of_bits, of_int, fits}
use lib.Ieee.Exact.{HasValue}
use lib.Ieee.Fits.{down_pos, round-fits}
use Rattle.payoff_order.specs.Order.{finite}
use Rattle.sums.specs.Sums.{zero as nought}
use Rattle.sums.proofs.Exact.{one_value}
use Rattle.whole_numbers.specs.Whole.{signed, Times}
use Rattle.whole_numbers.proofs.Integers.{signed_of}
use Rattle.whole_numbers.proofs.Exact.{to_value, rounded, neg_times}
use Rattle.whole_numbers.proofs.Equal.{eq_whole}

pub finite_whole : (d : ℕ) (x : Float) (z : ℤ) → Times d x z → T (finite x)
unfolding finite
finite_whole d nan z h = h
finite_whole d (inf s) z h = h
finite_whole d (fin s m e) z h = tt

-- the whole number, found from the digits
abbrev pub whole_of : ℕ → Float → ℤ
whole_of d nan = pos 0
whole_of d (inf s) = pos 0
whole_of d (fin s m e) = signed s (m * up e * d / down e)

pub whole_of_lem : (d : ℕ) (x : Float) (z : ℤ) → Times d x z → whole_of d x ≡ z
whole_of_lem d nan z h = absurd h
whole_of_lem d (inf s) z h = absurd h
whole_of_lem d (fin s m e) z h =
    let (t, v, p) = to_value d (fin s m e) z h in
    ap₂ signed v.0 (ap (λ (i : ℕ). i / down e) v.1 ∙ mul-div_cancel (nat_abs z) (down_pos e)) ∙ p

-- ---- 0

pub zero_whole : (d : ℕ) → Times d nought (pos 0)
unfolding of_bits
zero_whole d = ap pos (zero-mul d)

pub minus_zero_whole : (d : ℕ) → Times d (neg nought) (pos 0)
minus_zero_whole d = neg_times d nought (pos 0) (zero_whole d)

-- what is 0 when multiplied is 0.0 or −0.0
pub nothing_whole : (d : ℕ) → 0 < d → (x : Float) → Times d x (pos 0) → eq x nought ≡ true
nothing_whole d D x h = eq_whole d D x nought (pos 0) (pos 0) h (zero_whole d)

-- ---- the others

pub some_whole : (n : ℕ) → n ≤ low binary64 → (z : ℤ) → nat_abs z < 2 ^ prec binary64 → (x : Float) × T (fits binary64 x) × Times (2 ^ n) x z
some_whole n fine z small =
    let (s, p) = signed_of z in
    let x = round binary64 s (nat_abs z) (2 ^ n) in
    (x, round-fits binary64 s (nat_abs z) (2 ^ n), rounded n fine s (nat_abs z) (2 ^ n) (nat_abs z) z (pow_pos n) refl (sym p) small)

-- Rust's `as f64`
pub cast_whole : (z : ℤ) → nat_abs z < 2 ^ prec binary64 → Times 1 (of_int binary64 z) z
unfolding of_int
cast_whole (pos n) small = rounded 0 zero-le false n 1 n (pos n) (lit< tt) refl refl small
cast_whole (negsuc n) small = rounded 0 zero-le true (suc n) 1 (suc n) (negsuc n) (lit< tt) refl refl small

-- the sign of a number other than 0
same_sign : (s t : Bool) (z : ℤ) → 0 < nat_abs z → signed s (nat_abs z) ≡ z → signed t (nat_abs z) ≡ z → s ≡ t
same_sign true true z h p q = refl
same_sign false false z h p q = refl
same_sign true false (pos zero) h p q = absurd (not-suc-le-zero h)
same_sign true false (pos (suc n)) h p q = absurd (pos-ne-negsuc (suc n) n (sym p))
same_sign true false (negsuc n) h p q = absurd (pos-ne-negsuc (suc n) n q)
same_sign false true (pos zero) h p q = absurd (not-suc-le-zero h)
same_sign false true (pos (suc n)) h p q = absurd (pos-ne-negsuc (suc n) n (sym q))
same_sign false true (negsuc n) h p q = absurd (pos-ne-negsuc (suc n) n p)

pub one_whole : (d : ℕ) → 0 < d → (x y : Float) (z : ℤ) → T (fits binary64 x) → T (fits binary64 y) → 0 < nat_abs z → Times d x z → Times d y z → x ≡ y
one_whole d D x y z h k some p q =
    let (s, v, i) = to_value d x z p in
    let (t, w, j) = to_value d y z q in
    one_value x y s (nat_abs z) d h k D v (subst (λ (r : Bool). HasValue y r (nat_abs z) d) (sym (same_sign s t z some i j)) w)
