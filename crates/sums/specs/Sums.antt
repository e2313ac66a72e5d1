-- Sums of f64s, each operation rounded as IEEE 754 has it, in the order of a list. Assumes nothing.
use Rattle.std.specs.Prelude.{false, List, [], ◌∷◌, map, Float}
use Rattle.std.specs.Float.{fin, inf, nan, binary64}
use Rattle.std.specs.Float.Ieee.{of_bits, add, mul}

-- 0.0
abbrev pub zero : Float
zero = of_bits binary64 0

-- 1.0
abbrev pub one : Float
one = of_bits binary64 0x3ff0000000000000

-- s and then each number added, left to right
abbrev pub add_all : Float → List Float → Float
add_all s [] = s
add_all s (x ∷ xs) = add_all (add binary64 s x) xs

-- the sum taken left to right, from 0.0
abbrev pub rounded_sum : List Float → Float
rounded_sum = add_all zero

-- the sum that starts at 0.0 and adds a(i) × b(i) for each index i of a list, in its order
abbrev pub sum_of_products : {I : Type 0} → (I → Float) → (I → Float) → List I → Float
sum_of_products a b is = rounded_sum (map (λ i. mul binary64 (a i) (b i)) is)

-- how far a number is from 0
unfoldable pub distance : Float → Float
distance nan = nan
distance (inf s) = inf false
distance (fin s m e) = fin false m e
