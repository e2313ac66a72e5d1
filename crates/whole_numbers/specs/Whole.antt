-- Whole numbers among f64s, and sums of products in whole numbers. Assumes nothing.
use Rattle.std.specs.Prelude.{◌≡◌, Bool, true, false, List, [], ◌∷◌, ℕ, ◌*◌, ℤ, pos, neg_ℤ, ◌+ℤ◌, ◌*ℤ◌, Float}
use Rattle.std.specs.Float.{nan, inf, fin}
use Rattle.std.specs.Float.Ieee.{up, down}

-- n, or −n where the sign is set
abbrev pub signed : Bool → ℕ → ℤ
signed false n = pos n
signed true n = neg_ℤ (pos n)

-- d times the number x is the whole number z. A finite x is ±m × 2^e, and 2^e is up e / down e
abbrev pub Times : ℕ → Float → ℤ → Type 0
Times d nan z = ⊥
Times d (inf s) z = ⊥
Times d (fin s m e) z = signed s (m * up e * d) ≡ z *ℤ pos (down e)

-- d times the numbers of a list are the whole numbers of another, one by one
pub data AllTimes (d : ℕ) : List Float → List ℤ → Type 0 where
  no_more : AllTimes d [] []
  next : {x : Float} {z : ℤ} {xs : List Float} {zs : List ℤ} → Times d x z → AllTimes d xs zs → AllTimes d (x ∷ xs) (z ∷ zs)

-- the sum of a(i) × b(i) over the indices i of a list
abbrev pub whole_products : {I : Type 0} → (I → ℤ) → (I → ℤ) → List I → ℤ
whole_products a b [] = pos 0
whole_products a b (i ∷ is) = a i *ℤ b i +ℤ whole_products a b is
