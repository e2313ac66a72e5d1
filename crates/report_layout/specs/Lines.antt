-- Document 01, "The report program": an equilibrium line has choices, then each payoff's bits as 16 lower-case hexadecimal digits; a struck line has
-- player, strategy, dominator, in decimal digits as the choices. And lists of which each entry has the same number of elements, one after the other
-- in an output. Assumes nothing.
use mathlib.Core.List.{List, ◌++◌, map, flat_map}
use Rattle.std.specs.Prelude.{ℕ, ◌*◌, take, drop, Float}
use Rattle.std.specs.Float.{binary64}
use Rattle.std.specs.Float.Ieee.{to_bits}
use Rattle.game.specs.Finite.{below}
use Rattle.digits_and_lines.specs.Text.{decimal, hexadecimal, line}

-- a payoff's bits
unfoldable pub bits_word : Float → List ℕ
bits_word x = hexadecimal (to_bits binary64 x)

-- choices, then each payoff's bits
unfoldable pub entry_line : List ℕ → List Float → List ℕ
entry_line choices utilities = line (map decimal choices ++ map bits_word utilities)

-- a line of numbers
unfoldable pub numbers_line : List ℕ → List ℕ
numbers_line ns = line (map decimal ns)

-- the i-th entry of n elements
abbrev pub part : {A : Type 0} → ℕ → List A → ℕ → List A
part n xs i = take n (drop (i * n) xs)

-- the lines of the first k entries of n choices and n payoffs
unfoldable pub entry_lines : ℕ → ℕ → List ℕ → List Float → List ℕ
entry_lines n k choices utilities = flat_map (λ i. entry_line (part n choices i) (part n utilities i)) (below k)

-- the lines of the first k entries of n numbers
unfoldable pub numbers_lines : ℕ → ℕ → List ℕ → List ℕ
numbers_lines n k ns = flat_map (λ i. numbers_line (part n ns i)) (below k)
