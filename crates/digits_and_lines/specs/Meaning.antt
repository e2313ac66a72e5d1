-- What digits say. Assumes nothing.
use Rattle.std.specs.Prelude.{cond, List, [], ◌∷◌, ℕ, ◌+◌, ◌-◌, ◌*◌, ltb}

-- the number that a digit stands for: `0` to `9`, then `a` to `f`
abbrev pub digit_value : ℕ → ℕ
digit_value g = cond (ltb g 58) (g - 48) (g - 87)

-- the number that digits in base b stand for, after a number n of those in front
abbrev pub value_from : ℕ → ℕ → List ℕ → ℕ
value_from b n [] = n
value_from b n (g ∷ gs) = value_from b (n * b + digit_value g) gs

-- the number that digits in base b stand for
abbrev pub value : ℕ → List ℕ → ℕ
value b gs = value_from b 0 gs
