-- Whole-number grids, change N1 of the scope: payoffs that are whole numbers, weights that are
-- whole multiples of 1/65,536, and gains in whole numbers beside those of `gains`. Assumes nothing.
use Rattle.std.specs.Prelude.{List, ℕ, ◌^◌, ◌≤◌, ℤ, pos, nat_abs, ◌-ℤ◌, Float}
use Rattle.std.specs.Int.Signed.{lt_z}
use Rattle.gains.specs.Gains.{greatest_from}
use Rattle.whole_numbers.specs.Whole.{Times, whole_products}

-- weights are counted in parts of 1/65,536
abbrev pub parts : ℕ
parts = 65536

-- payoffs are from −2^20 to 2^20
abbrev pub max_payoff : ℕ
max_payoff = 2 ^ 20

-- x is the whole number z, from −2^20 to 2^20
pub record GridPayoff (x : Float) (z : ℤ) : Type 0 where
  pub whole : Times 1 x z
  pub most : nat_abs z ≤ max_payoff

-- x is k/65,536, from 0 to 1
pub record GridWeight (x : Float) (k : ℕ) : Type 0 where
  pub whole : Times parts x (pos k)
  pub most : k ≤ parts

-- 65,536 times a gain, in whole numbers: the sum, over the others' choices, of the weight of s, in
-- parts, times (payoff of t − payoff of s)
abbrev pub whole_gain : {I : Type 0} → (ℕ → I → ℕ) → (ℕ → I → ℤ) → List I → ℕ → ℕ → ℤ
whole_gain weight payoff others s t = whole_products (λ o. pos (weight s o)) (λ o. payoff t o -ℤ payoff s o) others

-- the greatest of a list, or 0 when none is above 0
abbrev pub greatest_whole : List ℤ → ℤ
greatest_whole = greatest_from lt_z (pos 0)
