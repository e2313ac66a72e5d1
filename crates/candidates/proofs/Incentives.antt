-- The answer of the correlated check: 0.0 raised by both players' gains (`raised_is`), or infinity
-- for what is not well formed (`not-formed`). Assumes nothing.
use mathlib.Core.Path.{◌≡◌, sym, ap, ◌∙◌}
use mathlib.Core.Bool.{Bool, true, false, cond, ◌&&◌}
use mathlib.Core.List.{List}
use Prim.Native.Nat.{ℕ}
use lib.Ieee.{Float, inf}
use Rattle.game.specs.Finite.{all, below}
use Rattle.payoff_order.specs.Order.{finite}
use Rattle.sums.specs.Sums.{zero}
use Rattle.sums.specs.Inner.{strided}
use Rattle.candidate_input.specs.Input.{well_formed}
use Rattle.gains.specs.Gains.{gains_of, greatest, answer_of}
use Rattle.gains.specs.Inner.{raise_all}
use Rattle.gains.proofs.Gains.{raise_append, raise_greatest}
use Rattle.gains.proofs.Answer.{answer_not_formed}
use Rattle.candidates.specs.Checks.{entry, gains, incentives}
use Rattle.candidates.proofs.Shape.{by_rows, by_columns}

module _ (m n : ℕ) (u1 u2 weights : List Float) where
  pub not_formed : well_formed m n u1 u2 weights ≡ false → incentives m n u1 u2 weights ≡ inf false
  unfolding incentives
  not_formed = answer_not_formed (well_formed m n u1 u2 weights) (gains m n u1 u2 weights)

  -- raised by gains that are given by the number at each own choice and each of the others'
  abbrev raised : (ℕ → ℕ → Float) → (ℕ → ℕ → Float) → (ℕ → ℕ → Float) → (ℕ → ℕ → Float) → Float
  raised w u w' u' = raise_all (raise_all zero (gains_of w u (below n) m)) (gains_of w' u' (below m) n)

  pub raised_is : well_formed m n u1 u2 weights ≡ true
      → raised (strided weights n 1) (strided u1 n 1) (strided weights 1 n) (strided u2 1 n) ≡ incentives m n u1 u2 weights
  unfolding incentives answer_of gains
  raised_is e =
      let gs = gains m n u1 u2 weights in
      let w : ℕ → ℕ → Float = λ i j. entry n weights i j in
      let u : ℕ → ℕ → Float = λ i j. entry n u1 i j in
      let w' : ℕ → ℕ → Float = λ j i. entry n weights i j in
      let u' : ℕ → ℕ → Float = λ j i. entry n u2 i j in
      ap (λ f. raised f (strided u1 n 1) (strided weights 1 n) (strided u2 1 n)) (by_rows n weights)
      ∙ ap (λ f. raised w f (strided weights 1 n) (strided u2 1 n)) (by_rows n u1)
      ∙ ap (λ f. raised w u f (strided u2 1 n)) (by_columns n weights)
      ∙ ap (λ f. raised w u w' f) (by_columns n u2)
      ∙ sym (raise_append zero (gains_of w u (below n) m) (gains_of w' u' (below m) n))
      ∙ raise_greatest zero gs
      ∙ sym (ap (λ (b : Bool). cond (b && all finite gs) (greatest gs) (inf false)) e)
