-- Entries with the same number of elements that stand one after the other in an output, and the lines made of them. Assumes nothing.
use mathlib.Core.Path.{◌≡◌, refl, sym, ap, ap₂, ◌∙◌, subst⁻¹}
use mathlib.Core.List.Memᴰ.{head as here}
use mathlib.Core.List.Memᴰ.{tail as there}
use mathlib.Core.List.{List, [], ◌∷◌, ◌++◌, map, flat_map, append_assoc}
use mathlib.Core.Logic.{⊎_elim}
use Prim.Native.Nat.{ℕ, zero, suc, ◌+◌, ◌-◌, ◌*◌, ◌<◌, ◌≤◌, zero-le, suc-le-suc}
use native.Mathlib.Nat.{le_of_suc-le-suc, zero-mul}
use native.Mathlib.Omega.{arith}
use lib.ListN.{length, get_or, take, drop, length-append, get_or-append}
use lib.Seq.{take_at, drop_at, drop-drop, get_or-append-add}
use Rattle.game.specs.Finite.{◌∈◌, below}
use Rattle.game.proofs.Finite.{le_or_lt}
use Rattle.report_layout.specs.Lines.{part}

-- ---- an entry

module _ {A B : Type 0} (f : A → List B) (n : ℕ) (d : A) where
  -- the i-th of the lists, one after the other, is the part at i
  pub part_flat : (xs : List A) → ((x : A) → x ∈ xs → length (f x) ≡ n) → (rest : List B) (i : ℕ) → i < length xs
      → part n (flat_map f xs ++ rest) i ≡ f (get_or xs i d)
  unfolding flat_map
  part_flat [] h rest i l = absurd (omega (arith, l))
  part_flat (x ∷ xs) h rest zero l =
      ap (λ (k : ℕ). take n (drop k ((f x ++ flat_map f xs) ++ rest))) (zero-mul n)
      ∙ ap (take n) (append_assoc (f x) (flat_map f xs) rest)
      ∙ take_at (f x) (flat_map f xs ++ rest) n (h x (here refl))
  part_flat (x ∷ xs) h rest (suc i) l =
      let e : suc i * n ≡ n + i * n = omega arith in
      ap₂ (λ (k : ℕ) (ys : List B). take n (drop k ys)) e (append_assoc (f x) (flat_map f xs) rest)
      ∙ ap (take n) (sym (drop-drop (i * n) n (f x ++ (flat_map f xs ++ rest))))
      ∙ ap (λ (ys : List B). take n (drop (i * n) ys)) (drop_at (f x) (flat_map f xs ++ rest) n (h x (here refl)))
      ∙ part_flat xs (λ y m. h y (there m)) rest i (le_of_suc-le-suc l)

-- ---- their lines

module _ {B : Type 0} where
  flat_suc : (f : ℕ → List B) (ns : List ℕ) → flat_map f (map suc ns) ≡ flat_map (λ i. f (suc i)) ns
  unfolding flat_map
  flat_suc f [] = refl
  flat_suc f (n ∷ ns) = ap (λ (ys : List B). f (suc n) ++ ys) (flat_suc f ns)

  -- the lists at each place below the length are those of the elements
  pub flat_below : {A : Type 0} (g : A → List B) (d : A) (xs : List A) (f : ℕ → List B) → ((i : ℕ) → i < length xs → f i ≡ g (get_or xs i d))
      → flat_map f (below (length xs)) ≡ flat_map g xs
  unfolding flat_map
  flat_below g d [] f h = refl
  flat_below g d (x ∷ xs) f h =
      ap₂ (λ (ys zs : List B). ys ++ zs) (h 0 (suc-le-suc zero-le))
      (flat_suc f (below (length xs)) ∙ flat_below g d xs (λ i. f (suc i)) (λ i l. h (suc i) (suc-le-suc l)))

-- ---- their elements

module _ {A B : Type 0} (P : B → Type 0) (f : A → List B) (d : B) where
  -- what is true of each list's elements is true of those of the lists one after the other
  pub each_flat : (xs : List A) → ((x : A) → x ∈ xs → (j : ℕ) → j < length (f x) → P (get_or (f x) j d)) → (i : ℕ) → i < length (flat_map f xs)
      → P (get_or (flat_map f xs) i d)
  unfolding flat_map
  each_flat [] h i l = absurd (omega (arith, l))
  each_flat (x ∷ xs) h i l =
      let n = length (f x) in
      ⊎_elim
      (λ (k : n ≤ i).
      let e : i ≡ n + (i - n) = omega (arith, k) in
      let less : i - n < length (flat_map f xs) = omega (arith, l, length-append (f x) (flat_map f xs), k) in
      subst⁻¹ P (ap (λ (m : ℕ). get_or (f x ++ flat_map f xs) m d) e ∙ get_or-append-add (f x) (flat_map f xs) (i - n) d) (each_flat xs (λ y m. h y (there m)) (i - n) less))
      (λ k. subst⁻¹ P (get_or-append (f x) (flat_map f xs) d i k) (h x (here refl) i k))
      (le_or_lt n i)
