-- The distance from 0 (`distance-law`), as the code compares it: by a negation under a test
-- (`far-below`, `far-above`). Assumes nothing.
use mathlib.Core.Logic.{◌⊎◌, inl, inr}
use mathlib.Core.Path.{◌≡◌, refl, sym, ap, ◌∙◌}
use mathlib.Core.Bool.{true, false, true≢false}
use Prim.Native.Nat.{ℕ, zero, suc, ◌+◌, ◌*◌, zero-le, suc-le-suc}
use native.Mathlib.Nat.{zero-mul, mul-pos, add-zero}
use native.Mathlib.Omega.{arith}
use borrow.Author.Tests.{le-ltb, lt-ltb}
use lib.IntN.{ℤ, pos}
use lib.Ieee.{Float, nan, inf, fin, up, down, of_bits, neg, lt}
use lib.Ieee.Fits.{up_pos}
use Rattle.sums.specs.Sums.{zero as nought, distance}

zero_is : nought ≡ fin false 0 (pos 0)
unfolding of_bits
zero_is = refl

-- a product of which a factor is 0
none : (e d : ℤ) → 0 * up e * down d ≡ 0
none e d = rw (zero-mul (up e), zero-mul (down d))

not_below : (m : ℕ) (e : ℤ) → lt (fin false m e) (fin false 0 (pos 0)) ≡ false
unfolding lt
not_below m e = le-ltb (m * up e * down (pos 0)) (0 * up (pos 0) * down e) (omega (arith, none (pos 0) e))

below_is : (x : Float) → lt x (fin false 0 (pos 0)) ≡ true → neg x ≡ distance x
unfolding lt neg distance
below_is nan h = refl
below_is (inf true) h = refl
below_is (inf false) h = absurd (true≢false (sym h))
below_is (fin true m e) h = refl
below_is (fin false m e) h = absurd (true≢false (sym h ∙ not_below m e))

-- nothing tells -0.0 from 0.0
sign_of_zero : (y : Float) (e : ℤ) → lt y (fin true 0 e) ≡ lt y (fin false 0 e)
unfolding lt
sign_of_zero nan e = refl
sign_of_zero (inf s) e = refl
sign_of_zero (fin true n d) e = rw (none e d, add-zero (n * up d * down e))
sign_of_zero (fin false n d) e = sym (le-ltb (n * up d * down e) (0 * up e * down d) (omega (arith, none e d)))

above_is : (x y : Float) → lt x (fin false 0 (pos 0)) ≡ false → lt y x ≡ lt y (distance x)
unfolding lt distance
above_is nan y h = refl
above_is (inf true) y h = absurd (true≢false h)
above_is (inf false) y h = refl
above_is (fin false m e) y h = refl
above_is (fin true zero e) y h = sign_of_zero y e
above_is (fin true (suc m) e) y h =
    absurd (true≢false (sym (lt-ltb 0 (suc m * up e * down (pos 0) + 0 * up (pos 0) * down e) (omega (arith, mul-pos {m = suc m} (suc-le-suc zero-le) (up_pos e)))) ∙ h))

-- a number below 0 has the sign set
pub far_below : (x : Float) → lt x nought ≡ true → neg x ≡ distance x
far_below x h = below_is x (ap (lt x) (sym zero_is) ∙ h)

-- a number that is not has it clear, or is -0.0
pub far_above : (x y : Float) → lt x nought ≡ false → lt y x ≡ lt y (distance x)
far_above x y h = above_is x y (ap (lt x) (sym zero_is) ∙ h)

-- the distance from 0 is the number or its negation, and not below 0
pub distance_law : (x : Float) → ((distance x ≡ x) ⊎ (distance x ≡ neg x)) × (lt (distance x) nought ≡ false)
unfolding distance neg lt of_bits
distance_law nan = (inl refl, refl)
distance_law (inf true) = (inr refl, refl)
distance_law (inf false) = (inl refl, refl)
distance_law (fin true m e) = (inr refl, ap (lt (fin false m e)) zero_is ∙ not_below m e)
distance_law (fin false m e) = (inl refl, ap (lt (fin false m e)) zero_is ∙ not_below m e)
