-- Whole numbers by sign and size: products, sums and order (`signed_mul`, `plus-same`, `plus-less`,
-- `plus-more`, `signed_lt`), sizes (`size-mul`, `size-plus`), and a positive factor cancelled
-- (`cancel`). Less goes one way only (`lt-one-way`), and its denials can be joined
-- (`not-lt-joined`). Assumes nothing.
use mathlib.Core.Path.{◌≡◌, refl, sym, ap, ◌∙◌, subst}
use mathlib.Core.Bool.{Bool, true, false, not, ◌&&◌, true≢false}
use mathlib.Core.Logic.{⊎_elim}
use Prim.Native.Nat.{ℕ, zero, suc, ◌+◌, ◌-◌, ◌*◌, ◌≤◌, ◌<◌, zero-le, suc-le-suc}
use native.Mathlib.Nat.{zero-mul, zero-add, add-zero, add-suc, mul-zero, sub-zero, mul-pos, eq_of_mul-eq-mul_right, not-suc-le-zero}
use native.Mathlib.Omega.{arith}
use borrow.Author.Tests.{le-ltb, lt-ltb, ltb-true}
use lib.Dec.{T, ltb, ltb→lt, nltb→le, leb-suc-suc}
use lib.IntN.{ℤ, pos, negsuc, neg_ℤ, nat_abs, ◌+ℤ◌, ◌-ℤ◌, ◌*ℤ◌, +ℤ_comm, neg_ℤ-+ℤ, neg_ℤ-neg_ℤ, pos-ne-negsuc}
use lib.Signed.{lt_z, lt_z_yes, lt_z_no, <ℤ-≤ℤ_trans}
use lib.Ieee.{unlike, below}
use Rattle.game.proofs.Finite.{le_or_lt, test_false}
use Rattle.whole_numbers.specs.Whole.{signed}

-- ---- sizes and signs

pub size_signed : (s : Bool) (a : ℕ) → nat_abs (signed s a) ≡ a
size_signed false a = refl
size_signed true zero = refl
size_signed true (suc a) = refl

pub size_neg : (z : ℤ) → nat_abs (neg_ℤ z) ≡ nat_abs z
size_neg (pos zero) = refl
size_neg (pos (suc a)) = refl
size_neg (negsuc a) = refl

pub signed_not : (s : Bool) (a : ℕ) → neg_ℤ (signed s a) ≡ signed (not s) a
signed_not false a = refl
signed_not true a = neg_ℤ-neg_ℤ (pos a)

-- every whole number has a sign and its size
pub signed_of : (z : ℤ) → (s : Bool) × (signed s (nat_abs z) ≡ z)
signed_of (pos n) = (false, refl)
signed_of (negsuc n) = (true, refl)

-- ---- products

none_is : (n : ℕ) → n ≡ 0 → neg_ℤ (pos n) ≡ pos n
none_is n h = rw h

pub signed_mul : (s t : Bool) (a b : ℕ) → signed s a *ℤ signed t b ≡ signed (unlike s t) (a * b)
signed_mul false false a b = refl
signed_mul false true a zero = sym (none_is (a * 0) (mul-zero a))
signed_mul false true a (suc b) = refl
signed_mul true false zero b = sym (none_is (0 * b) (zero-mul b))
signed_mul true false (suc a) b = refl
signed_mul true true zero zero = refl
signed_mul true true zero (suc b) = none_is (0 * suc b) (zero-mul (suc b))
signed_mul true true (suc a) zero = none_is (suc a * 0) (mul-zero (suc a))
signed_mul true true (suc a) (suc b) = refl

pub signed_scale : (s : Bool) (a n : ℕ) → signed s a *ℤ pos n ≡ signed s (a * n)
signed_scale false a n = refl
signed_scale true a n = signed_mul true false a n

pub neg_scale : (z : ℤ) (n : ℕ) → neg_ℤ z *ℤ pos n ≡ neg_ℤ (z *ℤ pos n)
neg_scale (pos zero) n = sym (none_is (0 * n) (zero-mul n))
neg_scale (pos (suc a)) n = refl
neg_scale (negsuc a) n = sym (neg_ℤ-neg_ℤ (pos (suc a * n)))

pub size_mul : (x y : ℤ) → nat_abs (x *ℤ y) ≡ nat_abs x * nat_abs y
size_mul (pos a) (pos b) = refl
size_mul (pos a) (negsuc b) = size_signed true (a * suc b)
size_mul (negsuc a) (pos b) = size_signed true (suc a * b)
size_mul (negsuc a) (negsuc b) = refl

-- a number above 0 and a number that is not are different
apart : (a b : ℕ) → 0 < b → pos a ≡ neg_ℤ (pos b) → ⊥
apart a zero h e = not-suc-le-zero h
apart a (suc b) h e = pos-ne-negsuc a b e

-- a positive factor is cancelled
pub cancel : (x y : ℤ) (d : ℕ) → 0 < d → x *ℤ pos d ≡ y *ℤ pos d → x ≡ y
cancel (pos a) (pos b) d h e = ap pos (eq_of_mul-eq-mul_right d h a b (ap nat_abs e))
cancel (pos a) (negsuc b) d h e = absurd (apart (a * d) (suc b * d) (mul-pos (suc-le-suc zero-le) h) e)
cancel (negsuc a) (pos b) d h e = absurd (apart (b * d) (suc a * d) (mul-pos (suc-le-suc zero-le) h) (sym e))
cancel (negsuc a) (negsuc b) d h e =
    ap (λ (n : ℕ). neg_ℤ (pos n))
    (eq_of_mul-eq-mul_right d h (suc a) (suc b) (sym (size_signed true (suc a * d)) ∙ ap nat_abs e ∙ size_signed true (suc b * d)))

-- ---- sums

-- a − b
minus_less : (a b : ℕ) → a < b → pos a +ℤ neg_ℤ (pos b) ≡ neg_ℤ (pos (b - a))
minus_less a zero h = absurd (not-suc-le-zero h)
minus_less a (suc b) h = rw (lt-ltb a (suc b) h, past a b h)
  where
    past : (a b : ℕ) → a < suc b → suc b - a ≡ suc (suc b - suc a)
    past a b h = omega arith

minus_more : (a b : ℕ) → b ≤ a → pos a +ℤ neg_ℤ (pos b) ≡ pos (a - b)
minus_more a zero h = ap pos (add-zero a ∙ sym (sub-zero a))
minus_more a (suc b) h = rw (le-ltb a (suc b) h)

-- a sum of numbers with the same sign
pub plus_same : (s : Bool) (a b : ℕ) → signed s a +ℤ signed s b ≡ signed s (a + b)
plus_same false a b = refl
plus_same true a b = sym (neg_ℤ-+ℤ (pos a) (pos b))

-- a sum of numbers with different signs
pub plus_less : (s : Bool) (a b : ℕ) → a < b → signed s a +ℤ signed (not s) b ≡ signed (not s) (b - a)
plus_less false a b h = minus_less a b h
plus_less true a b h = +ℤ_comm (neg_ℤ (pos a)) (pos b) ∙ minus_more b a (omega arith)

pub plus_more : (s : Bool) (a b : ℕ) → b ≤ a → signed s a +ℤ signed (not s) b ≡ signed (s && ltb b a) (a - b)
plus_more false a b h = minus_more a b h
plus_more true a b h = +ℤ_comm (neg_ℤ (pos a)) (pos b) ∙ go (ltb b a) (ltb→lt b a) (nltb→le b a)
  where
    go : (t : Bool) → (T t → b < a) → (T (not t) → a ≤ b) → pos b +ℤ neg_ℤ (pos a) ≡ signed t (a - b)
    go true l m = minus_less b a (l tt)
    go false l m = minus_more b a (m tt) ∙ ap pos (let k = m tt in omega arith)

size_minus : (a b : ℕ) → nat_abs (pos a +ℤ neg_ℤ (pos b)) ≤ a + b
size_minus a b =
    ⊎_elim (λ (h : b ≤ a). rw (minus_more a b h) (omega arith)) (λ (h : a < b). rw (minus_less a b h, size_signed true (b - a)) (omega arith)) (le_or_lt b a)

pub size_plus : (x y : ℤ) → nat_abs (x +ℤ y) ≤ nat_abs x + nat_abs y
size_plus (pos a) (pos b) = omega arith
size_plus (pos a) (negsuc b) = size_minus a (suc b)
size_plus (negsuc a) (pos b) = let h = size_minus b (suc a) in omega arith
size_plus (negsuc a) (negsuc b) = omega arith

-- ---- order

pub signed_lt : (s t : Bool) (a b : ℕ) → below s a t b ≡ lt_z (signed s a) (signed t b)
signed_lt false false a b = refl
signed_lt false true a zero = sym (le-ltb a 0 zero-le)
signed_lt false true a (suc b) = refl
signed_lt true false zero b = ap (λ (n : ℕ). ltb 0 n) (zero-add b)
signed_lt true false (suc a) b = lt-ltb 0 (suc a + b) (omega arith)
signed_lt true true zero zero = refl
signed_lt true true zero (suc b) = le-ltb (suc b) 0 zero-le
signed_lt true true (suc a) zero = lt-ltb 0 (suc a) (suc-le-suc zero-le)
signed_lt true true (suc a) (suc b) = leb-suc-suc (suc b) a

-- what is greater is greater by 1 at least
pub above : (x y : ℤ) → T (lt_z x y) → (j : ℕ) × (y -ℤ x ≡ pos (suc j))
above (pos a) (pos b) h = let l = ltb→lt a b h in (b - suc a, minus_more b a (omega arith) ∙ ap pos (more a b l))
  where
    more : (a b : ℕ) → a < b → b - a ≡ suc (b - suc a)
    more a b h = omega arith
above (pos a) (negsuc b) h = absurd h
above (negsuc a) (pos b) h = (b + a, ap pos (add-suc b a))
above (negsuc a) (negsuc b) h =
    let l = ltb→lt b a h in
    (a - suc b, +ℤ_comm (neg_ℤ (pos (suc b))) (pos (suc a)) ∙ minus_more (suc a) (suc b) (omega arith) ∙ ap pos (more a b l))
  where
    more : (a b : ℕ) → b < a → suc a - suc b ≡ suc (a - suc b)
    more a b h = omega arith

pub lt_one_way : (x y : ℤ) → lt_z x y ≡ true → lt_z y x ≡ false
lt_one_way (pos a) (pos b) h = le-ltb b a (let l = ltb-true a b h in omega arith)
lt_one_way (pos a) (negsuc b) h = absurd (true≢false (sym h))
lt_one_way (negsuc a) (pos b) h = refl
lt_one_way (negsuc a) (negsuc b) h = le-ltb a b (let l = ltb-true b a h in omega arith)

pub not_lt_joined : (x y z : ℤ) → lt_z x y ≡ false → lt_z y z ≡ false → lt_z x z ≡ false
not_lt_joined x y z h k =
    test_false (lt_z x z)
    (λ l. subst T h (<ℤ-≤ℤ_trans (lt_z_yes {a = x} {b = z} l) (lt_z_no {a = y} {b = z} (subst (λ (t : Bool). T (not t)) (sym k) tt))).lt)
