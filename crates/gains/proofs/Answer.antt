-- The answer to a list of gains: the greatest of them, or +0.0 (`greatest-law`, `answer-law`), or
-- infinity (`answer-not-formed`, `answer-not-finite`, `answer-infinity-or`). It is +0.0 or above
-- (`answer-at-least-zero`, `answer-not-nan`, `answer-not-minus-zero`). True because finite f64s are
-- in the order of their ranks. Assumes nothing.
use mathlib.Core.Path.{◌≡◌, refl, sym, ap, ◌∙◌, subst}
use mathlib.Core.Bool.{Bool, true, false, cond, ◌&&◌, ◌||◌, and-false, true≢false}
use mathlib.Core.List.{List}
use mathlib.Core.Logic.{◌⊎◌, inl, inr, ⊎_elim}
use native.Mathlib.Omega.{arith}
use borrow.Author.Tests.{ltb-true, ltb-false, le-ltb}
use lib.Dec.{T, ltb}
use lib.IntN.{pos}
use lib.Ieee.{Float, nan, inf, fin, binary64, of_bits, lt, le, eq, fits}
use Rattle.game.specs.Finite.{◌∈◌, all}
use Rattle.game.proofs.Finite.{either, test_true, test_false, all_T}
use Rattle.payoff_order.specs.Order.{finite, rank}
use Rattle.payoff_order.proofs.Laws.{lt_rank}
use Rattle.sums.specs.Sums.{zero}
use Rattle.gains.specs.Gains.{greatest, answer_of}
use Rattle.gains.specs.Meaning.{Greatest}
use Rattle.gains.proofs.Greatest.{greatest_from_law}

-- ---- the greatest

-- an f64 that is finite
abbrev Valued : Float → Type 0
Valued x = T (fits binary64 x) × T (finite x)

greater : (b x : Float) → Valued b → Valued x → lt b x ≡ ltb (rank b) (rank x)
greater b x (p, q) (r, s) = lt_rank b x p r q s

zero_valued : Valued zero
unfolding fits finite of_bits
zero_valued = (tt, tt)

pub greatest_law : (xs : List Float) → ((x : Float) → x ∈ xs → T (fits binary64 x) × T (finite x)) → Greatest xs (greatest xs)
greatest_law xs each =
    greatest_from_law lt Valued
    (λ x y h k l. greater y x k h ∙ le-ltb (rank y) (rank x) (let m = ltb-true (rank x) (rank y) (sym (greater x y h k) ∙ l) in omega arith))
    (λ x y z h k i l m.
    greater x z h i
    ∙ le-ltb (rank x) (rank z)
    (let a = ltb-false (rank x) (rank y) (sym (greater x y h k) ∙ l) in
    let b = ltb-false (rank y) (rank z) (sym (greater y z k i) ∙ m) in omega arith))
    zero xs zero_valued each

-- ---- infinity

module _ (formed : Bool) (gs : List Float) where
  pub answer_not_formed : formed ≡ false → answer_of formed gs ≡ inf false
  unfolding answer_of
  answer_not_formed e = ap (λ (b : Bool). cond (b && all finite gs) (greatest gs) (inf false)) e

  none_finite : all finite gs ≡ false → answer_of formed gs ≡ inf false
  unfolding answer_of
  none_finite e = rw (e, and-false formed)

  -- a gain that isn't finite
  pub answer_not_finite : (x : Float) → x ∈ gs → finite x ≡ false → answer_of formed gs ≡ inf false
  answer_not_finite x h e = none_finite (test_false (all finite gs) (λ t. subst T e ((all_T finite gs).0 t x h)))

  -- the answer is infinity, or what is handed in is well formed and every gain is finite
  pub answer_infinity_or : (answer_of formed gs ≡ inf false) ⊎ (T formed × ((x : Float) → x ∈ gs → T (finite x)))
  answer_infinity_or =
      ⊎_elim
      (λ yes. ⊎_elim (λ each. inr (yes, (all_T finite gs).0 each)) (λ no. inl (none_finite (test_false (all finite gs) no))) (either (all finite gs)))
      (λ no. inl (answer_not_formed (test_false formed no)))
      (either formed)

-- ---- what the answer is

-- what is at least 0
zero_zero : le zero zero ≡ true
unfolding le of_bits
zero_zero = refl

zero_infinity : le zero (inf false) ≡ true
unfolding le of_bits
zero_infinity = refl

zero_nan : le zero nan ≡ false
unfolding le of_bits
zero_nan = refl

above_le : (x : Float) → lt zero x ≡ true → le zero x ≡ true
unfolding le
above_le x e = ap (λ (b : Bool). b || eq zero x) e

-- the sign of a number
abbrev signed : Float → Bool
signed nan = false
signed (inf s) = s
signed (fin s m e) = s

zero_sign : signed zero ≡ false
unfolding of_bits
zero_sign = refl

not_above : lt zero (fin true 0 (pos 0)) ≡ false
unfolding lt of_bits
not_above = refl

module _ (formed : Bool) (gs : List Float) (fit : (x : Float) → x ∈ gs → T (fits binary64 x)) where
  -- where what is handed in is well formed and every gain is finite, the answer is the greatest of
  -- them, or +0.0
  pub answer_law : T formed → ((x : Float) → x ∈ gs → T (finite x)) → Greatest gs (answer_of formed gs)
  unfolding answer_of
  answer_law f each =
      rw (test_true formed f, test_true (all finite gs) ((all_T finite gs).1 each)) (greatest_law gs (λ x h. (fit x h, each x h)))

  -- it is infinity, +0.0 or above 0
  three : (answer_of formed gs ≡ inf false) ⊎ ((answer_of formed gs ≡ zero) ⊎ (lt zero (answer_of formed gs) ≡ true))
  three = ⊎_elim inl (λ w. inr (⊎_elim inl (λ v. inr v.1) (answer_law w.0 w.1).found)) (answer_infinity_or formed gs)

  pub answer_at_least_zero : le zero (answer_of formed gs) ≡ true
  answer_at_least_zero =
      ⊎_elim (λ e. ap (le zero) e ∙ zero_infinity) (⊎_elim (λ e. ap (le zero) e ∙ zero_zero) (λ e. above_le (answer_of formed gs) e)) three

  pub answer_not_nan : answer_of formed gs ≡ nan → ⊥
  answer_not_nan z = true≢false (sym answer_at_least_zero ∙ ap (le zero) z ∙ zero_nan)

  pub answer_not_minus_zero : answer_of formed gs ≡ fin true 0 (pos 0) → ⊥
  answer_not_minus_zero z =
      ⊎_elim (λ e. true≢false (ap signed (sym z ∙ e)))
      (⊎_elim (λ e. true≢false (ap signed (sym z ∙ e) ∙ zero_sign)) (λ e. true≢false (sym e ∙ ap (lt zero) z ∙ not_above)))
      three
