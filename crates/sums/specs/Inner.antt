-- Where sums taken side by side find their terms, by a table's strides: the number of own choice s
-- and others' choice o stands at s × own + o × other; and what one turn adds to them. Assumes
-- nothing.
use Rattle.std.specs.Prelude.{List, [], ◌∷◌, ℕ, zero, suc, ◌+◌, ◌*◌, ◌<◌, length, get_or, Float}
use Rattle.std.specs.Float.{nan, binary64}
use Rattle.std.specs.Float.Ieee.{add}

-- the number at own choice s and others' choice o
abbrev pub strided : List Float → ℕ → ℕ → ℕ → ℕ → Float
strided table own other s o = get_or table (s * own + o * other) nan

-- every such number stands in the table
abbrev pub Spans : List Float → ℕ → ℕ → ℕ → ℕ → Type 0
Spans table own other count others = (s o : ℕ) → s < count → o < others → s * own + o * other < length table

-- f(t) added to the element t of a list, for the first n elements
abbrev pub added : ℕ → (ℕ → Float) → List Float → List Float
added zero f xs = xs
added (suc n) f [] = []
added (suc n) f (x ∷ xs) = add binary64 x (f 0) ∷ added n (λ t. f (suc t)) xs
