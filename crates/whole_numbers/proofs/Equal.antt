-- f64s that are whole numbers when multiplied by d are equal by IEEE 754 exactly where their whole
-- numbers are (`eq-whole`). Assumes nothing.
use mathlib.Core.Path.{◌≡◌, refl, sym, ap, ap₂, ◌∙◌}
use mathlib.Core.Logic.{◌≢◌}
use mathlib.Core.Bool.{Bool, true, false, ◌&&◌}
use Prim.Native.Nat.{ℕ, zero, suc, ◌*◌, ◌<◌}
use native.Mathlib.Nat.{eq_of_mul-eq-mul_right, zero-mul}
use native.Mathlib.Omega.{arith}
use lib.Dec.{T, eqb}
use lib.IntN.{ℤ, nat_abs}
use lib.Ieee.{Float, nan, inf, fin, up, down, level, eq}
use lib.Ieee.Exact.{HasValue}
use Rattle.game.proofs.Finite.{eqb_T, same_test, and_T, test_false}
use Rattle.payoff_order.specs.Order.{eq_z}
use Rattle.whole_numbers.specs.Whole.{signed, Times}
use Rattle.whole_numbers.proofs.Exact.{to_value, over_both}

-- fractions x / d and y / d that are a / n and b / n are equal where a and b are
same_both : (x y n a b d : ℕ) → 0 < n → 0 < d → x * n ≡ a * d → y * n ≡ b * d → eqb x y ≡ eqb a b
same_both x y n a b d N D p q =
    same_test (eqb x y) (eqb a b) (
      λ h. (eqb_T a b).1 (eq_of_mul-eq-mul_right d D a b (sym p ∙ ap (λ (i : ℕ). i * n) ((eqb_T x y).0 h) ∙ q)),
      λ h. (eqb_T x y).1 (eq_of_mul-eq-mul_right n N x y (p ∙ ap (λ (i : ℕ). i * d) ((eqb_T a b).0 h) ∙ sym q)),
    )

-- ---- equal by sign and size, and as whole numbers

-- different sizes
apart : (a b : ℕ) (t : Bool) → a ≢ b → (eqb a b && t) ≡ false
apart a b t h = test_false (eqb a b && t) (λ k. h ((eqb_T a b).0 ((and_T (eqb a b) t).0 k).0))

-- the same sign
both : (a b : ℕ) → (eqb a b && true) ≡ eqb a b
both a b = same_test (eqb a b && true) (eqb a b) (λ h. ((and_T (eqb a b) true).0 h).0, λ h. (and_T (eqb a b) true).1 (h, tt))

-- different signs, and not 0
neither : (a b : ℕ) → (eqb (suc a) b && eqb (suc a) 0) ≡ false
neither a b =
    test_false (eqb (suc a) b && eqb (suc a) 0)
    (λ h. let e = (eqb_T (suc a) 0).0 ((and_T (eqb (suc a) b) (eqb (suc a) 0)).0 h).1 in omega arith)

more : (a b : ℕ) → eqb (suc a) (suc b) ≡ eqb a b
more a b =
    same_test (eqb (suc a) (suc b)) (eqb a b) (
      λ h. (eqb_T a b).1 (let e = (eqb_T (suc a) (suc b)).0 h in omega arith),
      λ h. (eqb_T (suc a) (suc b)).1 (ap suc ((eqb_T a b).0 h)),
    )

level_eq : (s t : Bool) (a b : ℕ) → level s a t b ≡ eq_z (signed s a) (signed t b)
level_eq false false a b = both a b
level_eq true true zero zero = refl
level_eq true true zero (suc b) = apart 0 (suc b) true (λ e. omega arith)
level_eq true true (suc a) zero = apart (suc a) 0 true (λ e. omega arith)
level_eq true true (suc a) (suc b) = both (suc a) (suc b) ∙ more a b
level_eq false true zero zero = refl
level_eq false true (suc a) zero = neither a 0 ∙ sym (test_false (eqb (suc a) 0) (λ h. let e = (eqb_T (suc a) 0).0 h in omega arith))
level_eq false true zero (suc b) = apart 0 (suc b) true (λ e. omega arith)
level_eq false true (suc a) (suc b) = neither a (suc b)
level_eq true false zero b = both 0 b
level_eq true false (suc a) b = neither a b

module _ (d : ℕ) (D : 0 < d) where
  eq_values : (x y : Float) (s t : Bool) (a b : ℕ) → HasValue x s a d → HasValue y t b d → eq x y ≡ eq_z (signed s a) (signed t b)
  unfolding eq
  eq_values nan y s t a b h k = absurd h
  eq_values (inf r) y s t a b h k = absurd h
  eq_values (fin r m e) nan s t a b h k = absurd k
  eq_values (fin r m e) (inf q) s t a b h k = absurd k
  eq_values (fin r m e) (fin q o f) s t a b h k =
      let c = down e * down f in
      let (C, x, y) = over_both (m * up e) (o * up f) d a b e f h.1 k.1 in
      let sizes = same_both (m * up e * down f) (o * up f * down e) d a b c D C x y in
      let zeros = same_both (m * up e * down f) 0 d a 0 c D C x (zero-mul d ∙ sym (zero-mul c)) in rw (h.0, k.0, sizes, zeros) (level_eq s t a b)

  pub eq_whole : (x y : Float) (a b : ℤ) → Times d x a → Times d y b → eq x y ≡ eq_z a b
  eq_whole x y a b h k =
      let (s, v, p) = to_value d x a h in
      let (t, w, q) = to_value d y b k in
      eq_values x y s t (nat_abs a) (nat_abs b) v w ∙ ap₂ eq_z p q
