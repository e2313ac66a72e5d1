-- Numbers as text, and words that stand in lines, all as ASCII codes. Digits are those of the toolchain's `io`, most significant first, with `a` to
-- `f` after `9`. Assumes nothing.
use Rattle.std.specs.Prelude.{cond, ℕ, zero, suc, ◌/◌, ltb}
use mathlib.Core.List.{List, [], ◌∷◌, ◌++◌, flat_map}
use Rattle.io.specs.Digits.{last_digits}

-- how many decimal digits n has, where it has at most k + 1: one, and where n isn't below 10 those of n / 10 besides
abbrev pub width_within : ℕ → ℕ → ℕ
width_within zero n = 1
width_within (suc k) n = cond (ltb n 10) 1 (suc (width_within k (n / 10)))

-- the decimal digits of n, with no 0 in front
unfoldable pub decimal : ℕ → List ℕ
decimal n = last_digits 10 (width_within n n) n

-- the 64 bits of n as 16 hexadecimal digits, in lower case
unfoldable pub hexadecimal : ℕ → List ℕ
hexadecimal n = last_digits 16 16 n

-- the code of a space
abbrev pub space : ℕ
space = 32

-- the code of a line end
abbrev pub line_end : ℕ
line_end = 10

-- each word after a space
unfoldable pub spaced : List (List ℕ) → List ℕ
unfolding flat_map
spaced ws = flat_map (λ w. space ∷ w) ws

-- words with a space between two
unfoldable pub joined : List (List ℕ) → List ℕ
joined [] = []
joined (w ∷ ws) = w ++ spaced ws

-- a line of words
unfoldable pub line : List (List ℕ) → List ℕ
line ws = joined ws ++ (line_end ∷ [])
