-- A sum of products of f64s that are whole numbers when multiplied by a power of 2 is exact, where
-- the sizes of the terms' whole numbers together are below 2^53 (`products-exact`): no partial sum
-- is larger. Assumes nothing.
use mathlib.Core.Path.{refl, sym, subst}
use mathlib.Core.List.Memᴰ.{head as here}
use mathlib.Core.List.Memᴰ.{tail as there}
use mathlib.Core.List.{List, [], ◌∷◌, map}
use Prim.Native.Nat.{ℕ, ◌+◌, ◌^◌, ◌≤◌, ◌<◌}
use native.Mathlib.Omega.{arith}
use lib.IntN.{ℤ, pos, nat_abs, ◌+ℤ◌, ◌*ℤ◌, +ℤ_idl, +ℤ_idr, +ℤ_assoc}
use lib.Ieee.{Float, binary64, prec, low, add, mul}
use Rattle.game.specs.Finite.{◌∈◌, sum}
use Rattle.sums.specs.Sums.{zero as nought, add_all, sum_of_products}
use Rattle.whole_numbers.specs.Whole.{Times, whole_products}
use Rattle.whole_numbers.proofs.Integers.{size_plus}
use Rattle.whole_numbers.proofs.Exact.{add_exact, mul_exact}
use Rattle.whole_numbers.proofs.Numbers.{zero_whole}

-- the sum of f(i) over the indices i of a list
abbrev pub total : {I : Type 0} → (I → ℕ) → List I → ℕ
total f is = sum (map f is)

module _ {I : Type 0} (n k : ℕ) (fine : n + k ≤ low binary64) (a b : I → Float) (A B : I → ℤ) where
  -- from any number s on
  from : (s : Float) (z : ℤ) (is : List I) → Times (2 ^ (n + k)) s z
      → ((i : I) → i ∈ is → Times (2 ^ n) (a i) (A i)) → ((i : I) → i ∈ is → Times (2 ^ k) (b i) (B i))
      → nat_abs z + total (λ i. nat_abs (A i *ℤ B i)) is < 2 ^ prec binary64
      → Times (2 ^ (n + k)) (add_all s (map (λ i. mul binary64 (a i) (b i)) is)) (z +ℤ whole_products A B is)
  from s z [] h p q small = subst (Times (2 ^ (n + k)) s) (sym (+ℤ_idr z)) h
  from s z (i ∷ is) h p q small =
      let t = A i *ℤ B i in
      let x = mul binary64 (a i) (b i) in
      let term : Times (2 ^ (n + k)) x t = mul_exact n k fine (a i) (b i) (A i) (B i) (p i (here refl)) (q i (here refl)) (omega arith) in
      let size = size_plus z t in
      let next : Times (2 ^ (n + k)) (add binary64 s x) (z +ℤ t) = add_exact (n + k) fine s x z t h term (omega arith) in
      subst (Times (2 ^ (n + k)) (add_all (add binary64 s x) (map (λ i. mul binary64 (a i) (b i)) is))) (+ℤ_assoc z t (whole_products A B is))
      (from (add binary64 s x) (z +ℤ t) is next (λ j l. p j (there l)) (λ j l. q j (there l)) (omega arith))

  pub products_exact : (is : List I) → ((i : I) → i ∈ is → Times (2 ^ n) (a i) (A i)) → ((i : I) → i ∈ is → Times (2 ^ k) (b i) (B i))
      → total (λ i. nat_abs (A i *ℤ B i)) is < 2 ^ prec binary64 → Times (2 ^ (n + k)) (sum_of_products a b is) (whole_products A B is)
  products_exact is p q small =
      subst (Times (2 ^ (n + k)) (sum_of_products a b is)) (+ℤ_idl (whole_products A B is))
      (from nought (pos 0) is (zero_whole (2 ^ (n + k))) p q (omega arith))
