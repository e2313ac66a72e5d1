-- A few f64s by their bits, and small tables of document 01 ("Games to hold in hand") made of them: what the crates above compute their
-- definitions at. Assumes nothing.
use mathlib.Core.List.{List, [], ◌∷◌}
use Prim.Native.Nat.{ℕ}
use lib.Ieee.{Float, binary64, of_bits}

abbrev pub minus_zero : Float
minus_zero = of_bits binary64 0x8000_0000_0000_0000

abbrev pub zero : Float
zero = of_bits binary64 0

abbrev pub one : Float
one = of_bits binary64 0x3ff0_0000_0000_0000

abbrev pub two : Float
two = of_bits binary64 0x4000_0000_0000_0000

abbrev pub three : Float
three = of_bits binary64 0x4008_0000_0000_0000

abbrev pub five : Float
five = of_bits binary64 0x4014_0000_0000_0000

-- one player: −0.0 and 0.0; 1 5 5
abbrev pub zeros : List Float
zeros = minus_zero ∷ zero ∷ []

abbrev pub ties : List Float
ties = one ∷ five ∷ five ∷ []

-- two players, 2 strategies each
abbrev pub pair : List ℕ
pair = 2 ∷ 2 ∷ []

-- (2,2) (0,3) (3,0) (1,1): the prisoner's dilemma
abbrev pub dilemma : List Float
dilemma = two ∷ two ∷ zero ∷ three ∷ three ∷ zero ∷ one ∷ one ∷ []

-- (1,0) (0,1) (0,1) (1,0): matching pennies
abbrev pub pennies : List Float
pennies = one ∷ zero ∷ zero ∷ one ∷ zero ∷ one ∷ one ∷ zero ∷ []

-- (1,1) (0,0) (0,1) (1,0)
abbrev pub after : List Float
after = one ∷ one ∷ zero ∷ zero ∷ zero ∷ one ∷ one ∷ zero ∷ []

-- (2,2) (0,0) (0,0) (1,1)
abbrev pub twice : List Float
twice = two ∷ two ∷ zero ∷ zero ∷ zero ∷ zero ∷ one ∷ one ∷ []
