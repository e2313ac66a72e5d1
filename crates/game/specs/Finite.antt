-- Tests and lists over finite ranges, and what it is to list things in order. Assumes nothing.
use Rattle.std.specs.Prelude.{Bool, true, false, cond, ◌&&◌, ◌↔◌, ℕ, zero, suc, ◌+◌, ◌*◌}
use mathlib.Core.List.{List, [], ◌∷◌, map, foldr, Memᴰ}
use Rattle.std.proofs.Math.Option.{Option, none, some}

infixr 25 ◌⇒◌
-- a implies b
abbrev pub ◌⇒◌ : Bool → Bool → Bool
true ⇒ b = b
false ⇒ b = true

-- 0, 1, .., n - 1
abbrev pub below : ℕ → List ℕ
below zero = []
below (suc n) = 0 ∷ map suc (below n)

-- the sum of a list, 0 where it is empty
abbrev pub sum : List ℕ → ℕ
sum = foldr ◌+◌ 0

-- the product of a list, 1 where it is empty
abbrev pub product : List ℕ → ℕ
product = foldr ◌*◌ 1

module _ {A : Type 0} where
  infix 4 ◌∈◌
  -- x is an element of xs
  abbrev pub ◌∈◌ : A → List A → Type 0
  x ∈ xs = Memᴰ x xs

  -- whether every element passes the test
  abbrev pub all : (A → Bool) → List A → Bool
  all f [] = true
  all f (x ∷ xs) = f x && all f xs

  -- the elements that pass the test, in their order
  abbrev pub filter : (A → Bool) → List A → List A
  filter f [] = []
  filter f (x ∷ xs) = let rest = filter f xs in cond (f x) (x ∷ rest) rest

  -- whether there is no element
  abbrev pub empty : List A → Bool
  empty [] = true
  empty (x ∷ xs) = false

  -- the first element, or none
  abbrev pub first : List A → Option A
  first [] = none
  first (x ∷ xs) = some x

  -- each element stands in R to every later one
  abbrev pub Sorted : (A → A → Type 0) → List A → Type 0
  Sorted R [] = Unit {0}
  Sorted R (x ∷ xs) = ((y : A) → y ∈ xs → R x y) × Sorted R xs

  -- xs lists just what P is true of, in the order R
  pub record Lists (R : A → A → Type 0) (P : A → Type 0) (xs : List A) : Type 0 where
    pub members : (x : A) → (x ∈ xs) ↔ P x
    pub sorted : Sorted R xs

  -- o is the first that P is true of in the order R, or none where P is true of nothing
  abbrev pub First : (A → A → Type 0) → (A → Type 0) → Option A → Type 0
  First R P none = (x : A) → P x → ⊥
  First R P (some x) = P x × ((y : A) → R y x → P y → ⊥)
