-- What the answer of the correlated check says: the gains are those of every change, of both
-- players (`gains-law`), the answer is the greatest of them (`incentives-law`) or infinity
-- (`not_finite`, `infinity-or`), and it is +0.0 or above (`at-least-zero`, `not-nan`,
-- `not-minus-zero`); on an infinite one the verdict is no (`infinite-verdict`). True by the laws of
-- `gains`. Assumes nothing.
use mathlib.Core.Path.{◌≡◌, refl}
use mathlib.Core.Bool.{true, false, not, ◌&&◌, and-false}
use mathlib.Core.List.Memᴰ.{append_cases as in-append}
use mathlib.Core.List.Memᴰ.{append_left}
use mathlib.Core.List.Memᴰ.{append_right}
use mathlib.Core.List.{List}
use mathlib.Core.Logic.{◌↔◌, ◌⊎◌, inl, inr, ⊎_elim}
use Prim.Native.Nat.{ℕ}
use lib.Dec.{T}
use lib.IntN.{pos}
use lib.Ieee.{Float, nan, inf, fin, binary64, lt, le, fits}
use Rattle.game.specs.Finite.{◌∈◌, below}
use Rattle.payoff_order.specs.Order.{finite}
use Rattle.sums.specs.Sums.{zero}
use Rattle.candidate_input.specs.Input.{tolerable, well_formed}
use Rattle.gains.specs.Gains.{gain, gains_of}
use Rattle.gains.specs.Meaning.{Greatest, Gain}
use Rattle.gains.proofs.Answer.{answer_law, answer_not_finite, answer_infinity_or, answer_at_least_zero, answer_not_nan, answer_not_minus_zero}
use Rattle.gains.proofs.Laws.{changes_law, gain_fits}
use Rattle.candidates.specs.Checks.{entry, gains, incentives, verdict_of}

-- no tolerance reaches infinity
no_tolerance : (tolerance : Float) → (tolerable tolerance && not (lt tolerance (inf false))) ≡ false
unfolding finite lt
no_tolerance nan = refl
no_tolerance (inf s) = refl
no_tolerance (fin s m e) = and-false (not (lt (fin s m e) zero))

module _ (m n : ℕ) (u1 u2 weights : List Float) where
  -- a gain is player 1's, by a row in place of another, or player 2's, by a column
  pub gains_law : (x : Float)
      → (x ∈ gains m n u1 u2 weights) ↔ (Gain (λ i j. entry n weights i j) (λ i j. entry n u1 i j) (below n) m x ⊎ Gain (λ j i. entry n weights i j) (λ j i. entry n u2 i j) (below m) n x)
  unfolding gains
  gains_law x =
      let rows : List Float = gains_of (λ i j. entry n weights i j) (λ i j. entry n u1 i j) (below n) m in
      let columns : List Float = gains_of (λ j i. entry n weights i j) (λ j i. entry n u2 i j) (below m) n in
      let first = changes_law (gain (λ i j. entry n weights i j) (λ i j. entry n u1 i j) (below n)) m x in
      let second = changes_law (gain (λ j i. entry n weights i j) (λ j i. entry n u2 i j) (below m)) n x in (
        λ h. ⊎_elim (λ k. inl (first.0 k)) (λ k. inr (second.0 k)) (in-append rows h),
        ⊎_elim (λ g. append_left columns (first.1 g)) (λ g. append_right rows (second.1 g)),
      )

  gains_fit : (x : Float) → x ∈ gains m n u1 u2 weights → T (fits binary64 x)
  gains_fit x h = ⊎_elim (gain_fits _ _ (below n) m x) (gain_fits _ _ (below m) n x) ((gains_law x).0 h)

  pub incentives_law : T (well_formed m n u1 u2 weights) → ((x : Float) → x ∈ gains m n u1 u2 weights → T (finite x))
      → Greatest (gains m n u1 u2 weights) (incentives m n u1 u2 weights)
  unfolding incentives
  incentives_law = answer_law (well_formed m n u1 u2 weights) (gains m n u1 u2 weights) gains_fit

  pub not_finite : (x : Float) → x ∈ gains m n u1 u2 weights → finite x ≡ false → incentives m n u1 u2 weights ≡ inf false
  unfolding incentives
  not_finite = answer_not_finite (well_formed m n u1 u2 weights) (gains m n u1 u2 weights)

  pub infinity_or : (incentives m n u1 u2 weights ≡ inf false) ⊎ (T (well_formed m n u1 u2 weights) × ((x : Float) → x ∈ gains m n u1 u2 weights → T (finite x)))
  unfolding incentives
  infinity_or = answer_infinity_or (well_formed m n u1 u2 weights) (gains m n u1 u2 weights)

  pub at_least_zero : le zero (incentives m n u1 u2 weights) ≡ true
  unfolding incentives
  at_least_zero = answer_at_least_zero (well_formed m n u1 u2 weights) (gains m n u1 u2 weights) gains_fit

  pub not_nan : incentives m n u1 u2 weights ≡ nan → ⊥
  unfolding incentives
  not_nan = answer_not_nan (well_formed m n u1 u2 weights) (gains m n u1 u2 weights) gains_fit

  pub not_minus_zero : incentives m n u1 u2 weights ≡ fin true 0 (pos 0) → ⊥
  unfolding incentives
  not_minus_zero = answer_not_minus_zero (well_formed m n u1 u2 weights) (gains m n u1 u2 weights) gains_fit

  -- the verdict on an infinite answer is no
  pub infinite_verdict : (tolerance : Float) → incentives m n u1 u2 weights ≡ inf false → verdict_of m n u1 u2 weights tolerance ≡ false
  unfolding verdict_of
  infinite_verdict tolerance e = rw e (no_tolerance tolerance)
