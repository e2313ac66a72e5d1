-- Sums, differences and products of f64s that are whole numbers when multiplied by a power of 2, to
-- 2^1,074, are exact where the whole number of the result is below 2^53 in size: `add-exact`,
-- `sub-exact`, `mul-exact`. True because what is rounded there is an f64 already. An f64 has one
-- such whole number (`times-once`), and is less than another where its number is (`lt-whole`).
-- Assumes nothing.
use mathlib.Core.Path.{◌≡◌, refl, sym, ap, ap₂, ◌∙◌, subst, subst₂}
use mathlib.Core.Logic.{⊎_elim}
use mathlib.Core.Bool.{Bool, true, false, not, cond, ◌&&◌}
use Prim.Native.Nat.{ℕ, suc, ◌+◌, ◌-◌, ◌*◌, ◌^◌, ◌≤◌, ◌<◌}
use native.Mathlib.Nat.{mul_assoc, mul_comm, mul_right_comm, mul-pos, mul-mul-mul_comm, eq_of_mul-eq-mul_right, mul-sub, lt_of_lt_of_le, le_of_mul-le-mul_right, mul-le-mul_right, lt_of_mul-lt-mul_right, mul-lt-mul_of_pos_right}
use native.Mathlib.Omega.{arith}
use borrow.Author.Tests.{le-ltb, lt-ltb}
use lib.Dec.{T, ltb, ltb→lt, nltb→le}
use lib.IntN.{ℤ, pos, neg_ℤ, nat_abs, ◌+ℤ◌, ◌-ℤ◌, ◌*ℤ◌}
use lib.Pow.{pow-add, pow_pos, pow_mono, shl_lt}
use lib.Signed.{lt_z}
use lib.Ieee.{Float, nan, inf, fin, binary64, prec, emax, low, up, down, unlike, round, sum, add, sub, mul, neg, below, lt}
use lib.Ieee.Exact.{HasValue, round_exact}
use lib.Ieee.Fits.{down_pos}
use Rattle.game.proofs.Finite.{le_or_lt}
use Rattle.whole_numbers.specs.Whole.{signed, Times}
use Rattle.whole_numbers.proofs.Integers.{size_signed, signed_not, signed_mul, signed_scale, neg_scale, size_mul, cancel, plus_same, plus_less, plus_more, signed_lt}

-- ---- a value by its sign and size, and by the whole number

-- the sign and the size
of_value : (x : Float) (s : Bool) (a d : ℕ) → HasValue x s a d → Times d x (signed s a)
of_value nan s a d h = h
of_value (inf t) s a d h = h
of_value (fin t m e) s a d (p, q) = ap₂ signed p q ∙ sym (signed_scale s a (down e))

-- the sign of x, and the size of the whole number
pub to_value : (d : ℕ) (x : Float) (z : ℤ) → Times d x z → (s : Bool) × HasValue x s (nat_abs z) d × (signed s (nat_abs z) ≡ z)
to_value d nan z h = absurd h
to_value d (inf s) z h = absurd h
to_value d (fin s m e) z h =
    let size : m * up e * d ≡ nat_abs z * down e = sym (size_signed s (m * up e * d)) ∙ ap nat_abs h ∙ size_mul z (pos (down e)) in
    (s, (refl, size), cancel (signed s (nat_abs z)) z (down e) (down_pos e) (signed_scale s (nat_abs z) (down e) ∙ ap (signed s) (sym size) ∙ h))

-- there is one such whole number
pub times_once : (d : ℕ) (x : Float) (y z : ℤ) → Times d x y → Times d x z → y ≡ z
times_once d nan y z h k = absurd h
times_once d (inf s) y z h k = absurd h
times_once d (fin s m e) y z h k = cancel y z (down e) (down_pos e) (sym h ∙ k)

-- ---- what is rounded is a value already

rescale : (x : Float) (s : Bool) (num den a d : ℕ) → 0 < den → num * d ≡ a * den → HasValue x s num den → HasValue x s a d
rescale nan s num den a d D h v = v
rescale (inf t) s num den a d D h v = v
rescale (fin t m e) s num den a d D h v = (
  v.0,
  eq_of_mul-eq-mul_right den D (m * up e * d) (a * down e)
      (mul_right_comm (m * up e) d den
      ∙ ap (λ (x : ℕ). x * d) v.1
      ∙ mul_right_comm num (down e) d
      ∙ ap (λ (x : ℕ). x * down e) h
      ∙ mul_right_comm a den (down e)),
)

-- ---- what a sum rounds

add_is : (s : Bool) (m : ℕ) (e : ℤ) (t : Bool) (n : ℕ) (d : ℤ)
    → add binary64 (fin s m e) (fin t n d) ≡ sum binary64 s (m * up e * down d) t (n * up d * down e) (down e * down d)
unfolding add
add_is s m e t n d = refl

sub_is : (x y : Float) → sub binary64 x y ≡ add binary64 x (neg y)
unfolding sub
sub_is x y = refl

mul_is : (s : Bool) (m : ℕ) (e : ℤ) (t : Bool) (n : ℕ) (d : ℤ)
    → mul binary64 (fin s m e) (fin t n d) ≡ round binary64 (unlike s t) (m * up e * (n * up d)) (down e * down d)
unfolding mul
mul_is s m e t n d = refl

pub neg_times : (d : ℕ) (x : Float) (z : ℤ) → Times d x z → Times d (neg x) (neg_ℤ z)
unfolding neg
neg_times d nan z h = h
neg_times d (inf s) z h = h
neg_times d (fin s m e) z h = sym (signed_not s (m * up e * d)) ∙ ap neg_ℤ h ∙ sym (neg_scale z (down e))

-- the numerators over the common denominator
over_first : (x d g n a : ℕ) → x * n ≡ a * d → x * g * n ≡ a * (d * g)
over_first x d g n a h = mul_right_comm x g n ∙ ap (λ (i : ℕ). i * g) h ∙ mul_assoc a d g

over_second : (y d g n b : ℕ) → y * n ≡ b * g → y * d * n ≡ b * (d * g)
over_second y d g n b h = over_first y g d n b h ∙ ap (λ (i : ℕ). b * i) (mul_comm g d)

-- two numbers over their common denominator, times n
pub over_both : (x y n a b : ℕ) (e f : ℤ) → x * n ≡ a * down e → y * n ≡ b * down f
    → (0 < down e * down f) × (x * down f * n ≡ a * (down e * down f)) × (y * down e * n ≡ b * (down e * down f))
over_both x y n a b e f h k = (mul-pos (down_pos e) (down_pos f), over_first x (down e) (down f) n a h, over_second y (down e) (down f) n b k)

-- fractions x / d and y / d that are a / n and b / n compare as a and b do
same_order : (x y n a b d : ℕ) → 0 < n → 0 < d → x * n ≡ a * d → y * n ≡ b * d → ltb x y ≡ ltb a b
same_order x y n a b d N D p q =
    ⊎_elim
    (λ (h : y ≤ x).
    le-ltb x y h
    ∙ sym (le-ltb a b (le_of_mul-le-mul_right (subst (λ (i : ℕ). i ≤ a * d) q (subst (λ (i : ℕ). y * n ≤ i) p (mul-le-mul_right n h))) D)))
    (λ (h : x < y).
    lt-ltb x y h
    ∙ sym (lt-ltb a b (lt_of_mul-lt-mul_right d (subst (λ (i : ℕ). i < b * d) p (subst (λ (i : ℕ). x * n < i) q (mul-lt-mul_of_pos_right h N))))))
    (le_or_lt y x)

sub_mul : (x y n : ℕ) → (x - y) * n ≡ x * n - y * n
sub_mul x y n = mul_comm (x - y) n ∙ mul-sub n x y ∙ ap₂ ◌-◌ (mul_comm n x) (mul_comm n y)

less_both : (x y n a b d : ℕ) → x * n ≡ a * d → y * n ≡ b * d → (x - y) * n ≡ (a - b) * d
less_both x y n a b d p q = sub_mul x y n ∙ ap₂ ◌-◌ p q ∙ sym (sub_mul a b d)

sum_like : (s : Bool) (x y den : ℕ) → sum binary64 s x s y den ≡ round binary64 s (x + y) den
unfolding sum
sum_like true x y den = refl
sum_like false x y den = refl

-- the size of the difference, with the greater one's sign
abbrev difference : Bool → Bool → Bool → ℕ → ℕ → ℕ → Float
difference less s more x y den = cond less (round binary64 (not s) (y - x) den) (round binary64 (s && more) (x - y) den)

sum_unlike : (s : Bool) (x y den : ℕ) → sum binary64 s x (not s) y den ≡ difference (ltb x y) s (ltb y x) x y den
unfolding sum
sum_unlike true x y den = refl
sum_unlike false x y den = refl

module _ (n : ℕ) (fine : n ≤ low binary64) where
  -- num / den is a / 2^n
  round_whole : (s : Bool) (num den a : ℕ) → 0 < den → a < 2 ^ prec binary64 → num * 2 ^ n ≡ a * den → HasValue (round binary64 s num den) s a (2 ^ n)
  round_whole s num den a D small h =
      let j = low binary64 - n in
      let back : n + j ≡ low binary64 = omega arith in
      let room : prec binary64 + j ≤ low binary64 + suc (emax binary64) = omega arith in
      let both : 2 ^ n * 2 ^ j ≡ 2 ^ low binary64 = sym (pow-add 2 n j) ∙ ap (λ (i : ℕ). 2 ^ i) back in
      rescale (round binary64 s num den) s num den a (2 ^ n) D h
      (round_exact binary64 s num den a j D small
      (lt_of_lt_of_le (shl_lt (prec binary64) j small) (pow_mono room))
      (ap (λ (i : ℕ). num * i) (sym both) ∙ sym (mul_assoc num (2 ^ n) (2 ^ j)) ∙ ap (λ (i : ℕ). i * 2 ^ j) h ∙ mul_right_comm a den (2 ^ j)))

  -- the same of a whole number z, below 2^53 in size
  pub rounded : (s : Bool) (num den a : ℕ) (z : ℤ) → 0 < den → num * 2 ^ n ≡ a * den → z ≡ signed s a → nat_abs z < 2 ^ prec binary64
      → Times (2 ^ n) (round binary64 s num den) z
  rounded s num den a z D h is small =
      let x = round binary64 s num den in
      let below : a < 2 ^ prec binary64 = subst (λ (i : ℕ). i < 2 ^ prec binary64) (ap nat_abs is ∙ size_signed s a) small in
      subst (Times (2 ^ n) x) (sym is) (of_value x s a (2 ^ n) (round_whole s num den a D below h))

  -- two fractions of the same denominator, added
  module _ (x y den a b : ℕ) (D : 0 < den) (p : x * 2 ^ n ≡ a * den) (q : y * 2 ^ n ≡ b * den) where
    like_exact : (s : Bool) → nat_abs (signed s a +ℤ signed s b) < 2 ^ prec binary64 → Times (2 ^ n) (sum binary64 s x s y den) (signed s a +ℤ signed s b)
    like_exact s small =
        rw (sum_like s x y den)
        (rounded s (x + y) den (a + b) (signed s a +ℤ signed s b) D (omega arith) (plus_same s a b) small)

    unlike_exact : (s : Bool) → nat_abs (signed s a +ℤ signed (not s) b) < 2 ^ prec binary64
        → Times (2 ^ n) (sum binary64 s x (not s) y den) (signed s a +ℤ signed (not s) b)
    unlike_exact s small =
        rw (sum_unlike s x y den, same_order x y (2 ^ n) a b den (pow_pos n) D p q, same_order y x (2 ^ n) b a den (pow_pos n) D q p)
        (go (ltb a b) (ltb→lt a b) (nltb→le a b))
      where
        go : (t : Bool) → (T t → a < b) → (T (not t) → b ≤ a) → Times (2 ^ n) (difference t s (ltb b a) x y den) (signed s a +ℤ signed (not s) b)
        go true l m =
            rounded (not s) (y - x) den (b - a) (signed s a +ℤ signed (not s) b) D (less_both y x (2 ^ n) b a den q p) (plus_less s a b (l tt)) small
        go false l m =
            rounded (s && ltb b a) (x - y) den (a - b) (signed s a +ℤ signed (not s) b) D (less_both x y (2 ^ n) a b den p q) (plus_more s a b (m tt)) small

    sum_exact : (s t : Bool) → nat_abs (signed s a +ℤ signed t b) < 2 ^ prec binary64 → Times (2 ^ n) (sum binary64 s x t y den) (signed s a +ℤ signed t b)
    sum_exact true true = like_exact true
    sum_exact true false = unlike_exact true
    sum_exact false true = unlike_exact false
    sum_exact false false = like_exact false

  -- two values by their signs and sizes, added
  add_values : (x y : Float) (s t : Bool) (a b : ℕ) → HasValue x s a (2 ^ n) → HasValue y t b (2 ^ n)
      → nat_abs (signed s a +ℤ signed t b) < 2 ^ prec binary64 → Times (2 ^ n) (add binary64 x y) (signed s a +ℤ signed t b)
  add_values nan y s t a b h k small = absurd h
  add_values (inf r) y s t a b h k small = absurd h
  add_values (fin r m e) nan s t a b h k small = absurd k
  add_values (fin r m e) (inf q) s t a b h k small = absurd k
  add_values (fin r m e) (fin q o d) s t a b h k small =
      let (C, x, y) = over_both (m * up e) (o * up d) (2 ^ n) a b e d h.1 k.1 in
      rw (add_is r m e q o d, h.0, k.0) (sum_exact (m * up e * down d) (o * up d * down e) (down e * down d) a b C x y s t small)

  pub add_exact : (x y : Float) (a b : ℤ) → Times (2 ^ n) x a → Times (2 ^ n) y b → nat_abs (a +ℤ b) < 2 ^ prec binary64
      → Times (2 ^ n) (add binary64 x y) (a +ℤ b)
  add_exact x y a b h k small =
      let (s, v, p) = to_value (2 ^ n) x a h in
      let (t, w, q) = to_value (2 ^ n) y b k in
      subst₂ (λ (i j : ℤ). Times (2 ^ n) (add binary64 x y) (i +ℤ j)) p q
      (add_values x y s t (nat_abs a) (nat_abs b) v w (rw (p, q) small))

  pub sub_exact : (x y : Float) (a b : ℤ) → Times (2 ^ n) x a → Times (2 ^ n) y b → nat_abs (a -ℤ b) < 2 ^ prec binary64
      → Times (2 ^ n) (sub binary64 x y) (a -ℤ b)
  sub_exact x y a b h k small = rw (sub_is x y) (add_exact x (neg y) a (neg_ℤ b) h (neg_times (2 ^ n) y b k) small)

-- ---- products

module _ (n k : ℕ) (fine : n + k ≤ low binary64) where
  -- two values by their signs and sizes, multiplied
  mul_values : (x y : Float) (s t : Bool) (a b : ℕ) → HasValue x s a (2 ^ n) → HasValue y t b (2 ^ k)
      → nat_abs (signed s a *ℤ signed t b) < 2 ^ prec binary64 → Times (2 ^ (n + k)) (mul binary64 x y) (signed s a *ℤ signed t b)
  mul_values nan y s t a b h g small = absurd h
  mul_values (inf r) y s t a b h g small = absurd h
  mul_values (fin r m e) nan s t a b h g small = absurd g
  mul_values (fin r m e) (inf q) s t a b h g small = absurd g
  mul_values (fin r m e) (fin q o d) s t a b h g small =
      rw (mul_is r m e q o d, h.0, g.0)
      (rounded (n + k) fine (unlike s t) (m * up e * (o * up d)) (down e * down d) (a * b) (signed s a *ℤ signed t b) (mul-pos (down_pos e) (down_pos d))
      (ap (λ (i : ℕ). m * up e * (o * up d) * i) (pow-add 2 n k)
      ∙ mul-mul-mul_comm (m * up e) (o * up d) (2 ^ n) (2 ^ k)
      ∙ ap₂ ◌*◌ h.1 g.1
      ∙ mul-mul-mul_comm a (down e) b (down d))
      (signed_mul s t a b) small)

  pub mul_exact : (x y : Float) (a b : ℤ) → Times (2 ^ n) x a → Times (2 ^ k) y b → nat_abs (a *ℤ b) < 2 ^ prec binary64
      → Times (2 ^ (n + k)) (mul binary64 x y) (a *ℤ b)
  mul_exact x y a b h g small =
      let (s, v, p) = to_value (2 ^ n) x a h in
      let (t, w, q) = to_value (2 ^ k) y b g in
      subst₂ (λ (i j : ℤ). Times (2 ^ (n + k)) (mul binary64 x y) (i *ℤ j)) p q
      (mul_values x y s t (nat_abs a) (nat_abs b) v w (rw (p, q) small))

-- ---- order

module _ (d : ℕ) (D : 0 < d) where
  lt_values : (x y : Float) (s t : Bool) (a b : ℕ) → HasValue x s a d → HasValue y t b d → lt x y ≡ lt_z (signed s a) (signed t b)
  unfolding lt
  lt_values nan y s t a b h k = absurd h
  lt_values (inf r) y s t a b h k = absurd h
  lt_values (fin r m e) nan s t a b h k = absurd k
  lt_values (fin r m e) (inf q) s t a b h k = absurd k
  lt_values (fin r m e) (fin q o f) s t a b h k =
      let (C, x, y) = over_both (m * up e) (o * up f) d a b e f h.1 k.1 in
      rw (h.0, k.0) (go s t (m * up e * down f) (o * up f * down e) (down e * down f) C x y) ∙ signed_lt s t a b
    where
      go : (s t : Bool) (x y c : ℕ) → 0 < c → x * d ≡ a * c → y * d ≡ b * c → below s x t y ≡ below s a t b
      go false false x y c C p q = same_order x y d a b c D C p q
      go false true x y c C p q = refl
      go true false x y c C p q = same_order 0 (x + y) d 0 (a + b) c D C (omega arith) (omega arith)
      go true true x y c C p q = same_order y x d b a c D C q p

  -- the numbers compare as the whole numbers do
  pub lt_whole : (x y : Float) (a b : ℤ) → Times d x a → Times d y b → lt x y ≡ lt_z a b
  lt_whole x y a b h k =
      let (s, v, p) = to_value d x a h in
      let (t, w, q) = to_value d y b k in
      lt_values x y s t (nat_abs a) (nat_abs b) v w ∙ ap₂ lt_z p q
