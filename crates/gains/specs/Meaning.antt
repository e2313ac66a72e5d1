-- What the definitions of `Gains` say of every number. Assumes nothing.
use Rattle.std.specs.Prelude.{◌≡◌, Bool, true, false, List, ◌⊎◌, ℕ, ◌<◌, Float}
use Rattle.std.specs.Float.Ieee.{lt}
use Rattle.game.specs.Finite.{◌∈◌}
use Rattle.sums.specs.Sums.{zero}
use Rattle.gains.specs.Gains.{gain}

-- the greatest element of a list, or b when none is above b
pub record GreatestFrom {A : Type 0} (less : A → A → Bool) (b : A) (xs : List A) (g : A) : Type 0 where
  pub top : (x : A) → x ∈ xs → less g x ≡ false
  pub found : (g ≡ b) ⊎ ((g ∈ xs) × (less b g ≡ true))

-- the greatest number of a list, or +0.0 when none is above 0
abbrev pub Greatest : List Float → Float → Type 0
Greatest = GreatestFrom lt zero

-- f(s)(t) for some change of a strategy s for another one t
pub record Change {A : Type 0} (f : ℕ → ℕ → A) (count : ℕ) (x : A) : Type 0 where
  pub from : ℕ
  pub to : ℕ
  pub strategy : from < count
  pub change : to < count
  pub another : to ≡ from → ⊥
  pub is : x ≡ f from to

-- a gain of a player: by some t ≠ s in place of s
abbrev pub Gain : {I : Type 0} → (ℕ → I → Float) → (ℕ → I → Float) → List I → ℕ → Float → Type 0
Gain weight payoff others count x = Change (gain weight payoff others) count x
