-- Infinities as bounds that no finite number passes (`no-high`, `no-low`). Assumes nothing.
use mathlib.Core.Path.{◌≡◌, refl}
use mathlib.Core.Bool.{Bool, true, false, not, ◌&&◌, and-true}
use lib.Dec.{T}
use lib.Ieee.{Float, nan, inf, fin, neg, lt}
use Rattle.payoff_order.specs.Order.{finite}
use Rattle.mixed_strategies.specs.Inner.{between}

above_infinity : (x : Float) → T (finite x) → lt (inf false) x ≡ false
unfolding finite lt
above_infinity nan h = absurd h
above_infinity (inf s) h = absurd h
above_infinity (fin s m e) h = refl

below_minus_infinity : (x : Float) → T (finite x) → lt x (neg (inf false)) ≡ false
unfolding finite lt neg
below_minus_infinity nan h = absurd h
below_minus_infinity (inf s) h = absurd h
below_minus_infinity (fin s m e) h = refl

pub no_high : (low x : Float) → between low (inf false) x ≡ (finite x && not (lt x low))
no_high low x = go (finite x) (λ h. above_infinity x h)
  where
    go : (f : Bool) → (T f → lt (inf false) x ≡ false) → (f && not (lt x low) && not (lt (inf false) x)) ≡ (f && not (lt x low))
    go true h = rw (h tt, and-true (not (lt x low)))
    go false h = refl

pub no_low : (high x : Float) → between (neg (inf false)) high x ≡ (finite x && not (lt high x))
no_low high x = go (finite x) (λ h. below_minus_infinity x h)
  where
    go : (f : Bool) → (T f → lt x (neg (inf false)) ≡ false) → (f && not (lt x (neg (inf false))) && not (lt high x)) ≡ (f && not (lt high x))
    go true h = rw (h tt)
    go false h = refl
