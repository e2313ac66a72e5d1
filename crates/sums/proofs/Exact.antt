-- A finite f64 is the one f64 with its sign and its size (`one_value`), and a finite f64 less 0.0
-- is itself (`less_zero`): what is rounded there is a value already. So a sum that starts at −0.0
-- and one that starts at 0.0 are the same, less 1.0 (`sum-start`): they differ only where all
-- numbers are −0.0. Assumes nothing.
use mathlib.Core.Path.{◌≡◌, refl, sym, ap, ◌∙◌, subst}
use mathlib.Core.Logic.{◌⊎◌, inl, inr}
use mathlib.Core.Bool.{Bool, true, false, cond, ◌&&◌}
use mathlib.Core.List.Memᴰ.{head as here}
use mathlib.Core.List.Memᴰ.{tail as there}
use mathlib.Core.List.{List, [], ◌∷◌}
use Prim.Native.Nat.{ℕ, zero, suc, ◌+◌, ◌*◌, ◌/◌, ◌%◌, ◌-◌, ◌^◌, ◌<◌, zero-le, suc-le-suc}
use native.Mathlib.Nat.{mul-one, zero-mul, mul_comm, mul_right_comm, mul-lt-mul_of_pos_right, lt_of_mul-lt-mul_right, eq_of_mul-eq-mul_right, add-zero, zero-add, sub-zero, one-mul, mul-pos}
use native.Mathlib.Omega.{arith}
use borrow.Author.Tests.{le-ltb, lt-ltb}
use lib.Dec.{T, eqb, ltb, leb, ltb→lt, leb→le}
use lib.IntN.{ℤ, pos}
use lib.Pow.{pow-add, pow_pos}
use lib.Ieee.{Float, nan, inf, fin, binary64, prec, emax, low, top, hid, size, up, down, of_bits, to_bits, round, sum, add, sub, neg, fits}
use lib.Ieee.Fits.{up_pos, down_pos, round-fits, and_l, and_r}
use lib.Ieee.Bits.{of_bits-to_bits}
use lib.Ieee.Exact.{HasValue, round_exact}
use lib.Ieee.Nearest.{div_same}
use Rattle.game.specs.Finite.{◌∈◌}
use Rattle.payoff_order.specs.Order.{finite}
use Rattle.payoff_order.proofs.Numbers.{place}
use Rattle.sums.specs.Sums.{zero as nought, one, add_all, rounded_sum}

-- ---- one value for a sign and a size

-- the bits of a number whose size is n units of the smallest one
abbrev bits : Bool → ℕ → ℕ
bits s n = cond s (top binary64) 0 + (size n - prec binary64) * hid binary64 + n / 2 ^ (size n - prec binary64)

bits_are : (s : Bool) (m : ℕ) (e : ℤ) → to_bits binary64 (fin s m e) ≡ bits s (m * up e * 2 ^ low binary64 / down e)
unfolding to_bits
bits_are s m e = refl

-- two fractions that are each a / c
crossed : (x y d g a c : ℕ) → 0 < c → x * c ≡ a * d → y * c ≡ a * g → x * g ≡ y * d
crossed x y d g a c C p q =
    eq_of_mul-eq-mul_right c C (x * g) (y * d)
    (mul_right_comm x g c ∙ ap (λ (i : ℕ). i * g) p ∙ mul_right_comm a d g ∙ ap (λ (i : ℕ). i * d) (sym q) ∙ mul_right_comm y c d)

pub one_value : (x y : Float) (s : Bool) (a c : ℕ) → T (fits binary64 x) → T (fits binary64 y) → 0 < c → HasValue x s a c → HasValue y s a c → x ≡ y
one_value nan y s a c h k C v _ = elim v [ ]
one_value (inf _) y s a c h k C v _ = elim v [ ]
one_value (fin t m e) nan s a c h k C _ w = elim w [ ]
one_value (fin t m e) (inf _) s a c h k C _ w = elim w [ ]
one_value (fin t m e) (fin r n d) s a c h k C (p, v) (q, w) =
    let l = 2 ^ low binary64 in
    let x : m * up e * down d ≡ n * up d * down e = crossed (m * up e) (n * up d) (down e) (down d) a c C v w in
    let z : m * up e * l / down e ≡ n * up d * l / down d =
    div_same (m * up e * l) (down e) (n * up d * l) (down d) (down_pos e) (down_pos d)
    (mul_right_comm (m * up e) l (down d) ∙ ap (λ (i : ℕ). i * l) x ∙ mul_right_comm (n * up d) (down e) l) in
    sym (of_bits-to_bits binary64 (fin t m e) h)
    ∙ ap (of_bits binary64) (bits_are t m e ∙ ap (λ (b : Bool). bits b (m * up e * l / down e)) (p ∙ sym q) ∙ ap (bits r) z ∙ sym (bits_are r n d))
    ∙ of_bits-to_bits binary64 (fin r n d) k

-- ---- less 0.0

-- a value is rounded to itself
round_own : (s : Bool) (m : ℕ) (e : ℤ) → T (fits binary64 (fin s m e)) → round binary64 s (m * up e) (down e) ≡ fin s m e
unfolding fits
round_own s m e h =
    one_value (round binary64 s (m * up e) (down e)) (fin s m e) s (m * up e) (down e) (round-fits binary64 s (m * up e) (down e)) h (down_pos e)
    (exact m h) (refl, refl)
  where
    exact : (m : ℕ) → T (fits binary64 (fin s m e)) → HasValue (round binary64 s (m * up e) (down e)) s (m * up e) (down e)
    exact zero h =
        round_exact binary64 s (0 * up e) (down e) 0 0 (down_pos e) (pow_pos (prec binary64)) (pow_pos (low binary64 + suc (emax binary64)))
        (ap (λ (i : ℕ). i * 2 ^ low binary64) (zero-mul (up e)) ∙ zero-mul (2 ^ low binary64) ∙ sym (zero-mul (down e)))
    exact (suc m) h =
        let odd : Bool = eqb (suc m % 2) 1 in
        let short : Bool = ltb (suc m) (2 ^ prec binary64) in
        let deep : Bool = leb (down e) (2 ^ low binary64) in
        let high : Bool = ltb (suc m * up e) (2 ^ suc (emax binary64) * down e) in
        let three = and_l (odd && short && deep) high h in
        let (j, is) = place (low binary64) (suc m) e (leb→le (down e) (2 ^ low binary64) (and_r (odd && short) deep three)) in
        let l = 2 ^ low binary64 in
        let t = 2 ^ suc (emax binary64) in
        let most : t * down e * l ≡ 2 ^ (low binary64 + suc (emax binary64)) * down e =
        mul_right_comm t (down e) l ∙ ap (λ (i : ℕ). i * down e) (mul_comm t l ∙ sym (pow-add 2 (low binary64) (suc (emax binary64)))) in
        let under : suc m * 2 ^ j * down e < 2 ^ (low binary64 + suc (emax binary64)) * down e =
        subst (λ (i : ℕ). i < 2 ^ (low binary64 + suc (emax binary64)) * down e) is
        (subst (λ (i : ℕ). suc m * up e * l < i) most (mul-lt-mul_of_pos_right (ltb→lt (suc m * up e) (t * down e) (and_r (odd && short && deep) high h)) (pow_pos (low binary64)))) in
        round_exact binary64 s (suc m * up e) (down e) (suc m) j (down_pos e)
        (ltb→lt (suc m) (2 ^ prec binary64) (and_r odd short (and_l (odd && short) deep three)))
        (lt_of_mul-lt-mul_right (down e) under)
        is

-- the sum with -0.0, which has the size 0
with_none : (s : Bool) (a b c d : ℕ) → b ≡ 0 → c ≡ d → sum binary64 s a true b c ≡ round binary64 s a d
unfolding sum
with_none true a b c d h k = rw (h, k, add-zero a)
with_none false a b c d h k = rw (h, k, le-ltb a 0 zero-le, sub-zero a)

pub less_zero : (x : Float) → T (fits binary64 x) → T (finite x) → sub binary64 x nought ≡ x
unfolding sub add neg of_bits finite
less_zero nan h k = absurd k
less_zero (inf s) h k = absurd k
less_zero (fin s m e) h k =
    with_none s (m * up e * 1) (0 * down e) (down e * 1) (down e) (zero-mul (down e)) (mul-one (down e))
    ∙ ap (λ (i : ℕ). round binary64 s i (down e)) (mul-one (m * up e))
    ∙ round_own s m e h

-- ---- where a sum starts

-- the sum of a zero and a number above 0 in size is rounded from that number
none_with : (s t : Bool) (a b c d : ℕ) → a ≡ 0 → 0 < b → c ≡ d → sum binary64 s a t b c ≡ round binary64 t b d
unfolding sum
none_with true true a b c d h l k = rw (h, k, zero-add b)
none_with false false a b c d h l k = rw (h, k, zero-add b)
none_with true false a b c d h l k = rw (h, k, lt-ltb 0 b l, sub-zero b)
none_with false true a b c d h l k = rw (h, k, lt-ltb 0 b l, sub-zero b)

zero_with : (s t : Bool) (m : ℕ) (e : ℤ) → T (fits binary64 (fin t (suc m) e)) → add binary64 (fin s 0 (pos 0)) (fin t (suc m) e) ≡ fin t (suc m) e
unfolding add
zero_with s t m e h =
    none_with s t (0 * up (pos 0) * down e) (suc m * up e * 1) (1 * down e) (down e) (zero-mul (down e)) (omega (arith, mul-pos {m = suc m} (suc-le-suc zero-le) (up_pos e))) (one-mul (down e))
    ∙ ap (λ (i : ℕ). round binary64 t i (down e)) (mul-one (suc m * up e))
    ∙ round_own t (suc m) e h

-- the same number, or 0.0 and −0.0
abbrev Close : Float → Float → Type 0
Close a b = (a ≡ b) ⊎ ((a ≡ fin false 0 (pos 0)) × (b ≡ fin true 0 (pos 0)))

zeros_of : (t : Bool) → Close (add binary64 (fin false 0 (pos 0)) (fin t 0 (pos 0))) (add binary64 (fin true 0 (pos 0)) (fin t 0 (pos 0)))
unfolding add
zeros_of true = inr (refl, refl)
zeros_of false = inl refl

-- a zero is one of the two
zero_once : (t : Bool) (e : ℤ) → T (fits binary64 (fin t 0 e)) → fin t 0 e ≡ fin t 0 (pos 0)
unfolding fits
zero_once t e h =
    one_value (fin t 0 e) (fin t 0 (pos 0)) t 0 1 h tt (suc-le-suc zero-le)
    (refl, ap (λ (i : ℕ). i * 1) (zero-mul (up e)) ∙ sym (zero-mul (down e))) (refl, refl)

zeros_with : (y : Float) → T (fits binary64 y) → T (finite y) → Close (add binary64 (fin false 0 (pos 0)) y) (add binary64 (fin true 0 (pos 0)) y)
unfolding finite fits
zeros_with nan h k = absurd k
zeros_with (inf s) h k = absurd k
zeros_with (fin t (suc m) e) h k = inl (zero_with false t m e h ∙ sym (zero_with true t m e h))
zeros_with (fin t zero e) h k =
    subst (λ (y : Float). Close (add binary64 (fin false 0 (pos 0)) y) (add binary64 (fin true 0 (pos 0)) y)) (sym (zero_once t e h)) (zeros_of t)

close_next : (a b y : Float) → T (fits binary64 y) → T (finite y) → Close a b → Close (add binary64 a y) (add binary64 b y)
close_next a b y h k (inl e) = inl (ap (λ (x : Float). add binary64 x y) e)
close_next a b y h k (inr (p, q)) = subst (λ (x : Float). Close (add binary64 x y) (add binary64 b y)) (sym p) (subst (λ (x : Float). Close (add binary64 (fin false 0 (pos 0)) y) (add binary64 x y)) (sym q) (zeros_with y h k))

close_all : (a b : Float) (xs : List Float) → ((x : Float) → x ∈ xs → T (fits binary64 x) × T (finite x)) → Close a b → Close (add_all a xs) (add_all b xs)
close_all a b [] each h = h
close_all a b (x ∷ xs) each h =
    let (f, g) = each x (here refl) in
    close_all (add binary64 a x) (add binary64 b x) xs (λ y k. each y (there k)) (close_next a b x f g h)

close_less : (a b : Float) → Close a b → sub binary64 a one ≡ sub binary64 b one
unfolding sub add of_bits
close_less a b (inl e) = ap (λ (x : Float). sub binary64 x one) e
close_less a b (inr (p, q)) = ap (λ (x : Float). sub binary64 x one) p ∙ minus_one ∙ sym (ap (λ (x : Float). sub binary64 x one) q)
  where
    minus_one : sub binary64 (fin false 0 (pos 0)) one ≡ sub binary64 (fin true 0 (pos 0)) one
    minus_one = refl

pub sum_start : (xs : List Float) → ((x : Float) → x ∈ xs → T (fits binary64 x) × T (finite x))
    → sub binary64 (rounded_sum xs) one ≡ sub binary64 (add_all (neg nought) xs) one
unfolding neg of_bits
sum_start xs each = close_less (rounded_sum xs) (add_all (neg nought) xs) (close_all nought (neg nought) xs each (inr (refl, refl)))
