-- The least key is the key of one of the four tables, and at most that of each (`least-law`). Assumes nothing.
use mathlib.Core.Path.{◌≡◌, refl, sym}
use mathlib.Core.List.Memᴰ.{cases_cons as in-cons}
use mathlib.Core.List.Memᴰ.{eq_of_singleton as in-singleton}
use mathlib.Core.List.Memᴰ.{head as here}
use mathlib.Core.List.Memᴰ.{map as to_map}
use mathlib.Core.List.Memᴰ.{of_map}
use mathlib.Core.List.Memᴰ.{tail as there}
use mathlib.Core.List.{List, [], ◌∷◌, map}
use mathlib.Core.Logic.{⊎_elim}
use Prim.Native.Nat.{ℕ, min, ◌≤◌, ◌<◌}
use native.Mathlib.Nat.{min-le_left, min-le_right, min-eq_left, min-eq_right}
use native.Mathlib.Omega.{arith}
use lib.ListN.{drop}
use Rattle.game.specs.Finite.{◌∈◌}
use Rattle.game.proofs.Finite.{le_or_lt}
use Rattle.bimatrix.specs.declared.Bimatrix.{Bimatrix}
use Rattle.bimatrix.specs.Matrices.{swaps}
use Rattle.bimatrix.specs.Keys.{key, least, least_key}
use Rattle.bimatrix.specs.Meaning.{Swapped}

-- one of the list, and none is less
least_of : (x : ℕ) (xs : List ℕ) → (least (x ∷ xs) ∈ x ∷ xs) × ((y : ℕ) → y ∈ x ∷ xs → least (x ∷ xs) ≤ y)
least_of x [] = (here refl, λ y h. rw (in-singleton h) (omega arith))
least_of x (z ∷ zs) =
    let m = least (x ∷ zs) in
    let (i, low) = least_of x zs in
    let rest : min z m ≤ m = min-le_right z m in (
      ⊎_elim (λ (l : z ≤ m). rw (min-eq_left l) (there (here refl)))
          (λ (l : m < z). let k : m ≤ z = omega arith in rw (min-eq_right k) (⊎_elim here (λ j. there (there j)) (in-cons i))) (le_or_lt z m),
      λ y h.
          ⊎_elim (λ (e : y ≡ x). omega (arith, low x (here refl)))
          (λ k. ⊎_elim (λ (e : y ≡ z). omega (arith, min-le_left z m)) (λ j. omega (arith, low y (there j))) (in-cons k)) (in-cons h),
    )

pub least_law : (b : Bimatrix) → ((c : Bimatrix) × Swapped b c × (least_key b ≡ key c)) × ((c : Bimatrix) → Swapped b c → least_key b ≤ key c)
unfolding least_key
least_law b =
    let (i, low) = least_of (key b) (map key (drop 1 (swaps b))) in
    let (c, h, e) = of_map key (swaps b) i in
    ((c, h, sym e), λ d k. low (key d) (to_map key k))
