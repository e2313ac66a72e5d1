-- IEEE 754's `<` and `==` on f64s that are no NaNs are the order and the equality of their ranks (`lt-number`, `eq_number`).
-- True because a value's bits are its sign and the code of its magnitude, codes grow with magnitudes (`code_mono`), and the rank is
-- 2^63 plus the code, or minus it below zero. Assumes nothing.
use mathlib.Core.Path.{◌≡◌, refl, sym, ap, ◌∙◌, subst}
use mathlib.Core.Logic.{inl, inr}
use Prim.Native.Nat.{ℕ, zero, suc, ◌+◌, ◌-◌, ◌*◌, ◌/◌, ◌%◌, ◌^◌, ◌≤◌, ◌<◌}
use native.Mathlib.Nat.{le_trans, le_of_eq, lt_of_lt_of_le, zero-add, zero-mul, add_assoc, add-mul, mul_right_comm, mul-le-mul_right, mul-lt-mul_of_pos_right, lt_of_mul-lt-mul_right, mul-div_cancel, mul-pos, eq-zero-or-pos, eq_of_mul-eq-mul_right, lt_trans}
use native.Mathlib.Omega.{arith}
use mathlib.Core.Bool.{Bool, true, false, not, ◌&&◌, cond, and-false}
use lib.IntN.{ℤ}
use lib.Dec.{T, leb, ltb, eqb, ltb→lt, leb→le, lit<}
use lib.Pow.{pow-add, pow_pos}
use lib.Ieee.{Float, nan, inf, fin, Format, binary64, prec, emax, low, up, down, size, hid, ones, top, fits, to_bits, below, level, lt, eq}
use lib.Ieee.Digits.{size-le}
use lib.Ieee.Fits.{two, reach, two-le_pos, and_l, and_r, down_pos, kept-lt}
use borrow.Author.Tests.{lt-ltb, le-ltb, eq-eqb, ne_eqb}
use Rattle.payoff_order.specs.Order.{number, rank}
use Rattle.payoff_order.proofs.Rank.{rank_of, rank_bits}
use Rattle.payoff_order.proofs.Numbers.{Alike, less, same, more, alike, code, Exact, code_mono, code_zero, exact_zero, exact_shift, place, cross_lt, cross_eq, cross_gt, twice_hid}

-- ---- a finite value that the format holds, in units of the format's smallest value
abbrev Units : Format → ℕ → ℤ → Type 0
Units f m e = (n : ℕ) × (m * up e * 2 ^ low f ≡ n * down e) × Exact (prec f) n × (n < 2 ^ (suc (emax f) + low f))

units_lt : (f : Format) (m : ℕ) (e : ℤ) (n : ℕ)
    → m * up e * 2 ^ low f ≡ n * down e → m * up e < 2 ^ suc (emax f) * down e → n < 2 ^ (suc (emax f) + low f)
units_lt f m e n p h =
    lt_of_mul-lt-mul_right (down e)
    (subst (λ (x : ℕ). x < 2 ^ (suc (emax f) + low f) * down e) p
    (lt_of_lt_of_le (mul-lt-mul_of_pos_right h (pow_pos (low f)))
    (le_of_eq (mul_right_comm (2 ^ suc (emax f)) (down e) (2 ^ low f) ∙ ap (λ (x : ℕ). x * down e) (sym (pow-add 2 (suc (emax f)) (low f)))))))

units : (f : Format) (s : Bool) (m : ℕ) (e : ℤ) → T (fits f (fin s m e)) → Units f m e
unfolding fits
units f s zero e h = (
  0,
  ap (λ (x : ℕ). x * 2 ^ low f) (zero-mul (up e)) ∙ zero-mul (2 ^ low f) ∙ sym (zero-mul (down e)),
  exact_zero (prec f),
  pow_pos (suc (emax f) + low f),
)
units f s (suc m) e h =
    let A = eqb (suc m % 2) 1 in
    let B = ltb (suc m) (2 ^ prec f) in
    let C = leb (down e) (2 ^ low f) in
    let D = ltb (suc m * up e) (2 ^ suc (emax f) * down e) in
    let pl = place (low f) (suc m) e (leb→le (down e) (2 ^ low f) (and_r (A && B) C (and_l (A && B && C) D h))) in (
      suc m * 2 ^ pl.0,
      pl.1,
      exact_shift (prec f) (suc m) pl.0 (ltb→lt (suc m) (2 ^ prec f) (and_r A B (and_l (A && B) C (and_l (A && B && C) D h)))),
      units_lt f (suc m) e (suc m * 2 ^ pl.0) pl.1 (ltb→lt (suc m * up e) (2 ^ suc (emax f) * down e) (and_r (A && B && C) D h)),
    )

bits_fin : (f : Format) (s : Bool) (m : ℕ) (e : ℤ) (n : ℕ)
    → m * up e * 2 ^ low f ≡ n * down e → to_bits f (fin s m e) ≡ cond s (top f) 0 + code (prec f) n
unfolding to_bits
bits_fin f s m e n p =
    ap (λ (x : ℕ). cond s (top f) 0 + (size x - prec f) * hid f + x / 2 ^ (size x - prec f))
    (ap (λ (x : ℕ). x / down e) p ∙ mul-div_cancel n (down_pos e))
    ∙ add_assoc (cond s (top f) 0) ((size n - prec f) * hid f) (n / 2 ^ (size n - prec f))

bits_inf : (f : Format) (s : Bool) → to_bits f (inf s) ≡ cond s (top f) 0 + ones f * hid f
unfolding to_bits
bits_inf f s = refl

-- the code of a finite value is below that of an infinity
field_le : (z p e : ℕ) → 2 ≤ p → p ≤ suc e → z ≤ suc e + (e + p - 2) → z - p + 2 ≤ 2 * e + 1
field_le z p e a b c = omega arith

under : (kh q h w : ℕ) → q < w → w ≡ 2 * h → kh + q < kh + 2 * h
under kh q h w a b = omega arith

code_lt : (f : Format) (n : ℕ) → n < 2 ^ (suc (emax f) + low f) → code (prec f) n < ones f * hid f
code_lt f n h =
    let k = size n - prec f in
    lt_of_lt_of_le
    (under (k * hid f) (n / 2 ^ k) (hid f) (2 ^ prec f) (kept-lt (prec f) n) (twice_hid (prec f) (two-le_pos (prec f) (two f))))
    (le_trans (le_of_eq (sym (add-mul k 2 (hid f))))
    (mul-le-mul_right (hid f) (field_le (size n) (prec f) (emax f) (two f) (reach f) (size-le n (suc (emax f) + low f) h))))

-- ---- a signed magnitude c as a number: w + c or w - c
abbrev signed : ℕ → Bool → ℕ → ℕ
signed w s c = cond s (w - c) (w + c)

data Zero (a c : ℕ) : Type 0 where
  both : a ≡ 0 → c ≡ 0 → Zero a c
  neither : 0 < a → 0 < c → Zero a c

yes_lt : (a b c d : ℕ) → a < b → c < d → ltb a b ≡ ltb c d
yes_lt a b c d h k = lt-ltb a b h ∙ sym (lt-ltb c d k)

no_lt : (a b c d : ℕ) → b ≤ a → d ≤ c → ltb a b ≡ ltb c d
no_lt a b c d h k = le-ltb a b h ∙ sym (le-ltb c d k)

signs_lt : (w : ℕ) (s t : Bool) (a b c d : ℕ)
    → Alike a b c d → Zero a c → Zero b d → c < w → d < w → below s a t b ≡ ltb (signed w s c) (signed w t d)
signs_lt w false false a b c d (less h k) y z C D = yes_lt a b (w + c) (w + d) h (omega arith)
signs_lt w false false a b c d (same h k) y z C D = no_lt a b (w + c) (w + d) (omega arith) (omega arith)
signs_lt w false false a b c d (more h k) y z C D = no_lt a b (w + c) (w + d) (omega arith) (omega arith)
signs_lt w false true a b c d x y z C D = sym (le-ltb (w + c) (w - d) (omega arith))
signs_lt w true false a b c d x (both p q) (both u v) C D = no_lt 0 (a + b) (w - c) (w + d) (omega arith) (omega arith)
signs_lt w true false a b c d x (both p q) (neither u v) C D = yes_lt 0 (a + b) (w - c) (w + d) (omega arith) (omega arith)
signs_lt w true false a b c d x (neither p q) z C D = yes_lt 0 (a + b) (w - c) (w + d) (omega arith) (omega arith)
signs_lt w true true a b c d (less h k) y z C D = no_lt b a (w - c) (w - d) (omega arith) (omega arith)
signs_lt w true true a b c d (same h k) y z C D = no_lt b a (w - c) (w - d) (omega arith) (omega arith)
signs_lt w true true a b c d (more h k) y z C D = yes_lt b a (w - c) (w - d) h (omega arith)

yes_eq : (u : Bool) (a b c d : ℕ) → a ≡ b → u ≡ true → c ≡ d → (eqb a b && u) ≡ eqb c d
yes_eq u a b c d h g k = ap (λ (x : Bool). x && u) (eq-eqb a b h) ∙ g ∙ sym (eq-eqb c d k)

no_eq : (u : Bool) (a b c d : ℕ) → (a ≡ b → ⊥) → (c ≡ d → ⊥) → (eqb a b && u) ≡ eqb c d
no_eq u a b c d h k = ap (λ (x : Bool). x && u) (ne_eqb a b h) ∙ sym (ne_eqb c d k)

-- unlike signs: equal only where both are zero
apart : (a b c d : ℕ) → (a ≡ 0 → ⊥) → (c ≡ d → ⊥) → (eqb a b && eqb a 0) ≡ eqb c d
apart a b c d h k = ap (λ (x : Bool). eqb a b && x) (ne_eqb a 0 h) ∙ and-false (eqb a b) ∙ sym (ne_eqb c d k)

signs_eq : (w : ℕ) (s t : Bool) (a b c d : ℕ)
    → Alike a b c d → Zero a c → Zero b d → c < w → d < w → level s a t b ≡ eqb (signed w s c) (signed w t d)
signs_eq w false false a b c d (less h k) y z C D = no_eq true a b (w + c) (w + d) (omega arith) (omega arith)
signs_eq w false false a b c d (same h k) y z C D = yes_eq true a b (w + c) (w + d) h refl (omega arith)
signs_eq w false false a b c d (more h k) y z C D = no_eq true a b (w + c) (w + d) (omega arith) (omega arith)
signs_eq w false true a b c d x (both p q) (both u v) C D = yes_eq (eqb a 0) a b (w + c) (w - d) (omega arith) (eq-eqb a 0 p) (omega arith)
signs_eq w false true a b c d x (both p q) (neither u v) C D = no_eq (eqb a 0) a b (w + c) (w - d) (omega arith) (omega arith)
signs_eq w false true a b c d x (neither p q) z C D = apart a b (w + c) (w - d) (omega arith) (omega arith)
signs_eq w true false a b c d x (both p q) (both u v) C D = yes_eq (eqb a 0) a b (w - c) (w + d) (omega arith) (eq-eqb a 0 p) (omega arith)
signs_eq w true false a b c d x (both p q) (neither u v) C D = no_eq (eqb a 0) a b (w - c) (w + d) (omega arith) (omega arith)
signs_eq w true false a b c d x (neither p q) z C D = apart a b (w - c) (w + d) (omega arith) (omega arith)
signs_eq w true true a b c d (less h k) y z C D = no_eq true a b (w - c) (w - d) (omega arith) (omega arith)
signs_eq w true true a b c d (same h k) y z C D = yes_eq true a b (w - c) (w - d) h refl (omega arith)
signs_eq w true true a b c d (more h k) y z C D = no_eq true a b (w - c) (w - d) (omega arith) (omega arith)

-- ---- the rank of a value, by its sign and its code
rank_of_lem : (s : Bool) (c : ℕ) → c < 2 ^ 63 → rank_of (cond s (2 ^ 63) 0 + c) ≡ signed (2 ^ 63) s c
rank_of_lem true c h = let k : ltb (2 ^ 63 + c) (2 ^ 63) ≡ false = le-ltb (2 ^ 63 + c) (2 ^ 63) (omega arith) in rw k (omega arith)
rank_of_lem false c h = let k : ltb c (2 ^ 63) ≡ true = lt-ltb c (2 ^ 63) h in rw (zero-add c, k)

-- the code of an infinity
abbrev beyond : ℕ
beyond = ones binary64 * hid binary64

beyond_lt : beyond < 2 ^ 63
beyond_lt = lit< tt

rank_fin : (s : Bool) (m : ℕ) (e : ℤ) (n : ℕ) → T (fits binary64 (fin s m e))
    → m * up e * 2 ^ low binary64 ≡ n * down e → code 53 n < 2 ^ 63 → rank (fin s m e) ≡ signed (2 ^ 63) s (code 53 n)
rank_fin s m e n f p h = rank_bits (fin s m e) f ∙ ap rank_of (bits_fin binary64 s m e n p) ∙ rank_of_lem s (code 53 n) h

rank_inf : (s : Bool) → T (fits binary64 (inf s)) → rank (inf s) ≡ signed (2 ^ 63) s beyond
rank_inf s f = rank_bits (inf s) f ∙ ap rank_of (bits_inf binary64 s) ∙ rank_of_lem s beyond beyond_lt

-- x and y compare as a and b do
abbrev As : Float → Float → ℕ → ℕ → Type 0
As x y a b = (lt x y ≡ ltb a b) × (eq x y ≡ eqb a b)

as_ranks : (x y : Float) (a b : ℕ) → rank x ≡ a → rank y ≡ b → As x y a b → As x y (rank x) (rank y)
as_ranks x y a b p q h = subst (λ (n : ℕ). As x y n (rank y)) (sym p) (subst (λ (n : ℕ). As x y a n) (sym q) h)

-- ---- two finite values

-- x / c is n units of 1 / u: the code of n is 0 exactly where x * d is
zeros : (p u c d x n : ℕ) → 0 < p → 0 < u → 0 < c → 0 < d → x * u ≡ n * c → Exact p n → Zero (x * d) (code p n)
zeros p u c d x n P U C D q E =
    elim (eq-zero-or-pos x) [
      | inl z ↦
          both (ap (λ (y : ℕ). y * d) z ∙ zero-mul d)
          (ap (code p) (eq_of_mul-eq-mul_right c C n 0 (sym q ∙ ap (λ (y : ℕ). y * u) z ∙ zero-mul u ∙ sym (zero-mul c))) ∙ code_zero p)
      | inr h ↦
          neither (mul-pos h D)
          (subst (λ (z : ℕ). z < code p n) (code_zero p)
          (code_mono p 0 n P (exact_zero p) E
          (lt_of_mul-lt-mul_right c (subst (λ (z : ℕ). z < n * c) (sym (zero-mul c)) (subst (λ (z : ℕ). 0 < z) q (mul-pos h U))))))
    ]

two_fin : (s : Bool) (m : ℕ) (e : ℤ) (t : Bool) (n : ℕ) (d : ℤ) → T (fits binary64 (fin s m e)) → T (fits binary64 (fin t n d))
    → As (fin s m e) (fin t n d) (rank (fin s m e)) (rank (fin t n d))
unfolding lt eq
two_fin s m e t n d h k =
    let X = units binary64 s m e h in
    let Y = units binary64 t n d k in
    let N = X.0 in
    let M = Y.0 in
    let w = 2 ^ 63 in
    let l = 2 ^ low binary64 in
    let L : 0 < l = pow_pos (low binary64) in
    let P : 0 < 53 = two-le_pos (prec binary64) (two binary64) in
    let A = m * up e * down d in
    let B = n * up d * down e in
    let c = code 53 N in
    let c' = code 53 M in
    let C : c < w = lt_trans (code_lt binary64 N X.3) beyond_lt in
    let C' : c' < w = lt_trans (code_lt binary64 M Y.3) beyond_lt in
    let a : Alike A B c c' =
    alike A B c c'
    (λ g. code_mono 53 N M P X.2 Y.2 (cross_lt l (down e) (down d) (m * up e) (n * up d) N M L (down_pos e) (down_pos d) X.1 Y.1 g))
    (λ g. ap (code 53) (cross_eq l (down e) (down d) (m * up e) (n * up d) N M L (down_pos e) (down_pos d) X.1 Y.1 g))
    (λ g. code_mono 53 M N P Y.2 X.2 (cross_gt l (down e) (down d) (m * up e) (n * up d) N M L (down_pos e) (down_pos d) X.1 Y.1 g)) in
    let z : Zero A c = zeros 53 l (down e) (down d) (m * up e) N P L (down_pos e) (down_pos d) X.1 X.2 in
    let z' : Zero B c' = zeros 53 l (down d) (down e) (n * up d) M P L (down_pos d) (down_pos e) Y.1 Y.2 in
    as_ranks (fin s m e) (fin t n d) (signed w s c) (signed w t c') (rank_fin s m e N h X.1 C) (rank_fin t n d M k Y.1 C')
    (signs_lt w s t A B c c' a z z' C C', signs_eq w s t A B c c' a z z' C C')

-- ---- an infinity lies beyond every finite value. i is the code of an infinity
module _ (w i c : ℕ) (C : c < i) (I : i < w) where
  inf_fin_lt : (s t : Bool) → s ≡ ltb (signed w s i) (signed w t c)
  inf_fin_lt true true = sym (lt-ltb (w - i) (w - c) (omega arith))
  inf_fin_lt true false = sym (lt-ltb (w - i) (w + c) (omega arith))
  inf_fin_lt false true = sym (le-ltb (w + i) (w - c) (omega arith))
  inf_fin_lt false false = sym (le-ltb (w + i) (w + c) (omega arith))

  fin_inf_lt : (s t : Bool) → not t ≡ ltb (signed w s c) (signed w t i)
  fin_inf_lt true true = sym (le-ltb (w - c) (w - i) (omega arith))
  fin_inf_lt true false = sym (lt-ltb (w - c) (w + i) (omega arith))
  fin_inf_lt false true = sym (le-ltb (w + c) (w - i) (omega arith))
  fin_inf_lt false false = sym (lt-ltb (w + c) (w + i) (omega arith))

  inf_fin_ne : (s t : Bool) → signed w s i ≡ signed w t c → ⊥
  inf_fin_ne true true h = omega arith
  inf_fin_ne true false h = omega arith
  inf_fin_ne false true h = omega arith
  inf_fin_ne false false h = omega arith

two_inf : (s t : Bool) → As (inf s) (inf t) (signed (2 ^ 63) s beyond) (signed (2 ^ 63) t beyond)
unfolding lt eq
two_inf true true = (refl, refl)
two_inf true false = (refl, refl)
two_inf false true = (refl, refl)
two_inf false false = (refl, refl)

-- the sign and the code of a finite value
split : (s : Bool) (m : ℕ) (e : ℤ) → T (fits binary64 (fin s m e)) → (c : ℕ) × (rank (fin s m e) ≡ signed (2 ^ 63) s c) × (c < beyond)
split s m e h =
    let X = units binary64 s m e h in
    let C = code_lt binary64 X.0 X.3 in
    (code 53 X.0, rank_fin s m e X.0 h X.1 (lt_trans C beyond_lt), C)

-- ---- the law

numbers : (x y : Float) → T (fits binary64 x) → T (fits binary64 y) → T (number x) → T (number y) → As x y (rank x) (rank y)
unfolding lt eq number
numbers nan y h k p q = absurd p
numbers (inf s) nan h k p q = absurd q
numbers (inf s) (inf t) h k p q =
    as_ranks (inf s) (inf t) (signed (2 ^ 63) s beyond) (signed (2 ^ 63) t beyond) (rank_inf s h) (rank_inf t k) (two_inf s t)
numbers (inf s) (fin t n d) h k p q =
    let (c, r, l) = split t n d k in
    let a = signed (2 ^ 63) s beyond in
    let b = signed (2 ^ 63) t c in
    as_ranks (inf s) (fin t n d) a b (rank_inf s h) r
    (inf_fin_lt (2 ^ 63) beyond c l beyond_lt s t, sym (ne_eqb a b (inf_fin_ne (2 ^ 63) beyond c l beyond_lt s t)))
numbers (fin s m e) nan h k p q = absurd q
numbers (fin s m e) (inf t) h k p q =
    let (c, r, l) = split s m e h in
    let a = signed (2 ^ 63) s c in
    let b = signed (2 ^ 63) t beyond in
    as_ranks (fin s m e) (inf t) a b r (rank_inf t k)
    (fin_inf_lt (2 ^ 63) beyond c l beyond_lt s t, sym (ne_eqb a b (λ g. inf_fin_ne (2 ^ 63) beyond c l beyond_lt t s (sym g))))
numbers (fin s m e) (fin t n d) h k p q = two_fin s m e t n d h k

module _ (x y : Float) (h : T (fits binary64 x)) (k : T (fits binary64 y)) (p : T (number x)) (q : T (number y)) where
  pub lt_number : lt x y ≡ ltb (rank x) (rank y)
  lt_number = (numbers x y h k p q).0

  pub eq_number : eq x y ≡ eqb (rank x) (rank y)
  eq_number = (numbers x y h k p q).1
