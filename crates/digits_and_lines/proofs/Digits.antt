-- The digits of a number: how many there are, and what they stand for. Assumes nothing.
use mathlib.Core.Path.{◌≡◌, refl, sym, ap, ap₂, ◌∙◌, subst, subst⁻¹}
use mathlib.Core.Bool.{Bool, true, false, cond}
use mathlib.Core.List.Memᴰ.{append_cases as in-append}
use mathlib.Core.List.Memᴰ.{eq_of_singleton as in-singleton}
use mathlib.Core.List.Memᴰ.{not-nil as not-in-nil}
use mathlib.Core.List.{List, [], ◌∷◌, ◌++◌}
use mathlib.Core.Logic.{◌⊎◌, inl, inr, ⊎_elim}
use Prim.Native.Nat.{ℕ, zero, suc, ◌+◌, ◌-◌, ◌*◌, ◌/◌, ◌%◌, ◌^◌, ◌≤◌, ◌<◌}
use native.Mathlib.Nat.{pow-zero, pow-suc, pow-le-pow_right, div-add-mod', mod-lt, div-lt_iff_lt-mul, le-div_iff_mul-le, div-lt_self}
use native.Mathlib.Omega.{arith}
use borrow.Author.Tests.{ltb-true, ltb-false, lt-ltb, le-ltb}
use lib.Dec.{ltb}
use lib.ListN.{length, length-append}
use Rattle.io.specs.Digits.{hex_digit_ascii, last_digits, IsDigitCount}
use Rattle.game.specs.Finite.{◌∈◌}
use Rattle.game.proofs.Finite.{le_or_lt, at_most}
use Rattle.digits_and_lines.specs.Text.{width_within, decimal, hexadecimal}
use Rattle.digits_and_lines.specs.Meaning.{digit_value, value_from, value}

-- ---- how many there are

digits_length : (b k n : ℕ) → length (last_digits b k n) ≡ k
digits_length b zero n = refl
digits_length b (suc k) n =
    omega (arith, digits_length b k (n / b), length-append (last_digits b k (n / b)) (hex_digit_ascii (n % b) ∷ []))

-- the fewest digits are no more than any that hold the number
fewest_least : (b l n k j : ℕ) → 0 < b → IsDigitCount b l n k → l ≤ j → n < b ^ j → k ≤ j
fewest_least b l n k j z f h m =
    at_most k j
    (λ (o : j < k).
    let up : b ^ j ≤ b ^ (k - 1) = pow-le-pow_right z (omega (arith, o)) in
    omega (arith, m, up, f.2 (omega (arith, h, o))))

-- so there is one such number
fewest_one : (b l n k j : ℕ) → 0 < b → IsDigitCount b l n k → IsDigitCount b l n j → k ≡ j
fewest_one b l n k j z f g =
    omega (arith, fewest_least b l n k j z f g.0 g.1, fewest_least b l n j k z g f.0 f.1)

-- a number has one digit more than its tenth
one_more : (n w : ℕ) → 10 ≤ n → IsDigitCount 10 1 (n / 10) w → IsDigitCount 10 1 n (suc w)
one_more n w h (some, enough, all) = (omega arith, up, λ _. subst (λ (j : ℕ). 10 ^ j ≤ n) (omega arith) (⊎_elim one more (le_or_lt w 1)))
  where
    up : n < 10 ^ suc w
    up = subst⁻¹ (λ (m : ℕ). n < m) (pow-suc 10 w) ((div-lt_iff_lt-mul {k = 10} {x = n} (omega arith)).0 enough)

    one : w ≤ 1 → 10 ^ w ≤ n
    one l = let e : w ≡ 1 = omega (arith, l, some) in subst⁻¹ (λ (j : ℕ). 10 ^ j ≤ n) e h

    more : 1 < w → 10 ^ w ≤ n
    more l =
        let e : w ≡ suc (w - 1) = omega (arith, l) in
        subst⁻¹ (λ (m : ℕ). m ≤ n) (ap (λ (j : ℕ). 10 ^ j) e ∙ pow-suc 10 (w - 1)) ((le-div_iff_mul-le {k = 10} {y = n} (omega arith)).0 (all l))

-- the width that decimal digits have by definition is the fewest
within : (k n : ℕ) → n ≤ k → IsDigitCount 10 1 n (width_within k n)
within zero n h = (omega arith, omega (arith, h), λ l. absurd (omega (arith, l)))
within (suc k) n h = step (ltb n 10) refl (within k (n / 10))
  where
    step : (t : Bool) → ltb n 10 ≡ t → (n / 10 ≤ k → IsDigitCount 10 1 (n / 10) (width_within k (n / 10)))
        → IsDigitCount 10 1 n (cond t 1 (suc (width_within k (n / 10))))
    step true e f = (omega arith, ltb-true n 10 e, λ l. absurd (omega (arith, l)))
    step false e f =
        let l : 10 ≤ n = ltb-false n 10 e in
        one_more n (width_within k (n / 10)) l (f (omega (arith, h, div-lt_self {n = n} {k = 10} (omega (arith, l)) (omega arith))))

decimal_width : (n : ℕ) → length (decimal n) ≡ width_within n n
unfolding decimal
decimal_width n = digits_length 10 (width_within n n) n

-- enough digits, and no 0 in front
pub decimal_law : (n : ℕ) → IsDigitCount 10 1 n (length (decimal n))
decimal_law n = subst (IsDigitCount 10 1 n) (sym (decimal_width n)) (within n n (omega arith))

pub decimal_short : (n j : ℕ) → 1 ≤ j → n < 10 ^ j → length (decimal n) ≤ j
decimal_short n j = fewest_least 10 1 n (length (decimal n)) j (omega arith) (decimal_law n)

-- what `io::decimal` and `io::hex` give
pub decimal_fewest : (n k : ℕ) → IsDigitCount 10 1 n k → last_digits 10 k n ≡ decimal n
unfolding decimal
decimal_fewest n k f = ap (λ (j : ℕ). last_digits 10 j n) (fewest_one 10 1 n k (width_within n n) (omega arith) f (within n n (omega arith)))

pub hexadecimal_fewest : (n k : ℕ) → n < 2 ^ 64 → IsDigitCount 16 16 n k → last_digits 16 k n ≡ hexadecimal n
unfolding hexadecimal
hexadecimal_fewest n k h f =
    ap (λ (j : ℕ). last_digits 16 j n) (fewest_one 16 16 n k 16 (omega arith) f (omega arith, h, λ l. absurd (omega (arith, l))))

pub hexadecimal_length : (n : ℕ) → length (hexadecimal n) ≡ 16
unfolding hexadecimal
hexadecimal_length n = digits_length 16 16 n

-- ---- what they stand for

-- a test that passes, and one that does not
under : (a b x y : ℕ) → a < b → cond (ltb a b) x y ≡ x
under a b x y h = ap (λ (t : Bool). cond t x y) (lt-ltb a b h)

over : (a b x y : ℕ) → b ≤ a → cond (ltb a b) x y ≡ y
over a b x y h = ap (λ (t : Bool). cond t x y) (le-ltb a b h)

digit_value_lem : (d : ℕ) → d < 16 → digit_value (hex_digit_ascii d) ≡ d
digit_value_lem d h =
    ⊎_elim (λ (l : 10 ≤ d). ap digit_value (over d 10 _ _ l) ∙ over (87 + d) 58 _ _ (omega arith) ∙ omega arith)
    (λ (l : d < 10). ap digit_value (under d 10 _ _ l) ∙ under (48 + d) 58 _ _ (omega (arith, l)) ∙ omega arith) (le_or_lt 10 d)

value_append : (b n : ℕ) (xs ys : List ℕ) → value_from b n (xs ++ ys) ≡ value_from b (value_from b n xs) ys
value_append b n [] ys = refl
value_append b n (x ∷ xs) ys = value_append b (n * b + digit_value x) xs ys

digits_value : (b k n : ℕ) → 0 < b → b ≤ 16 → n < b ^ k → value b (last_digits b k n) ≡ n
digits_value b zero n z s h = omega (arith, h, pow-zero b)
digits_value b (suc k) n z s h =
    let before = digits_value b k (n / b) z s ((div-lt_iff_lt-mul {k = b} {x = n} z).1 (subst (λ (m : ℕ). n < m) (pow-suc b k) h)) in
    let last = digit_value_lem (n % b) (omega (arith, mod-lt n z, s)) in
    value_append b 0 (last_digits b k (n / b)) (hex_digit_ascii (n % b) ∷ [])
    ∙ ap₂ (λ (q d : ℕ). q * b + d) before last
    ∙ div-add-mod' n b

pub decimal_value : (n : ℕ) → value 10 (decimal n) ≡ n
unfolding decimal
decimal_value n = digits_value 10 (width_within n n) n (omega arith) (omega arith) (within n n (omega arith)).1

pub hexadecimal_value : (n : ℕ) → n < 2 ^ 64 → value 16 (hexadecimal n) ≡ n
unfolding hexadecimal
hexadecimal_value n h = digits_value 16 16 n (omega arith) (omega arith) h

-- ---- which characters they are

digits_glyphs : (b k n g : ℕ) → 0 < b → g ∈ last_digits b k n → (d : ℕ) × (d < b) × (g ≡ hex_digit_ascii d)
digits_glyphs b zero n g h m = absurd (not-in-nil m)
digits_glyphs b (suc k) n g h m =
    ⊎_elim (digits_glyphs b k (n / b) g h) (λ l. (n % b, mod-lt n h, in-singleton l)) (in-append (last_digits b k (n / b)) m)

-- `0` to `9`
pub decimal_digits : (n g : ℕ) → g ∈ decimal n → (48 ≤ g) × (g < 58)
unfolding decimal
decimal_digits n g m =
    let (d, l, e) = digits_glyphs 10 (width_within n n) n g (omega arith) m in
    let is = ap (λ (b : Bool). cond b (48 + d) (87 + d)) (lt-ltb d 10 l) in
    (omega (arith, e, is), omega (arith, e, is, l))

-- `0` to `9` and `a` to `f`
pub hexadecimal_digits : (n g : ℕ) → g ∈ hexadecimal n → ((48 ≤ g) × (g < 58)) ⊎ ((97 ≤ g) × (g < 103))
unfolding hexadecimal
hexadecimal_digits n g m =
    let (d, l, e) = digits_glyphs 16 16 n g (omega arith) m in
    ⊎_elim
    (λ (k : 10 ≤ d). let is = ap (λ (b : Bool). cond b (48 + d) (87 + d)) (le-ltb d 10 k) in inr (omega (arith, e, is, k), omega (arith, e, is, l)))
    (λ k. let is = ap (λ (b : Bool). cond b (48 + d) (87 + d)) (lt-ltb d 10 k) in inl (omega (arith, e, is), omega (arith, e, is, k)))
    (le_or_lt 10 d)
