-- The lines of a list, one after the other. Assumes nothing.
use mathlib.Core.Path.{◌≡◌, sym, ap, ◌∙◌}
use mathlib.Core.List.{List, [], ◌∷◌, ◌++◌, map, flat_map}
use Prim.Native.Nat.{ℕ, suc, ◌+◌, ◌*◌, ◌≤◌, ◌<◌}
use native.Mathlib.Nat.{mul-le-mul_right}
use native.Mathlib.Numerals.{add-one}
use native.Mathlib.Omega.{arith}
use lib.ListN.{length, get_or, take, drop, length-drop}
use lib.Seq.{length-take-le, get_or-take, get_or-drop}
use Rattle.game.specs.Finite.{below}
use Rattle.game.proofs.Finite.{below_last, flat_map_last}
use Rattle.digits_and_lines.specs.Text.{decimal, spaced, joined}
use Rattle.digits_and_lines.proofs.Lines.{joined_append}

-- one line more
pub flat_next : {A : Type 0} (f : ℕ → List A) (i : ℕ) → flat_map f (below i) ++ f i ≡ flat_map f (below (i + 1))
flat_next f i = sym (flat_map_last f (below i) i) ∙ ap (flat_map f) (sym (below_last i)) ∙ ap (λ (k : ℕ). flat_map f (below k)) (sym (add-one i))

-- the i-th of k entries of n elements stands within so many
pub entry_within : (i k n m : ℕ) → i < k → k * n ≤ m → i * n + n ≤ m
entry_within i k n m h r =
    let e : suc i * n ≡ i * n + n = omega arith in
    omega (arith, e, mul-le-mul_right n h, r)

-- the words after the choices of an entry stand after spaces
pub joined_choices : (ns : List ℕ) (ws : List (List ℕ)) → 0 < length ns → joined (map decimal ns ++ ws) ≡ joined (map decimal ns) ++ spaced ws
joined_choices [] ws h = absurd (omega (arith, h))
joined_choices (n ∷ ns) ws h = joined_append (decimal n) (map decimal ns) ws

-- a part within a list: its length, and its elements
module _ {A : Type 0} (xs : List A) (n from k : ℕ) (e : k ≡ n) (h : from + n ≤ length xs) where
  pub part_length_lem : length (take k (drop from xs)) ≡ n
  part_length_lem = ap (λ (m : ℕ). length (take m (drop from xs))) e ∙ length-take-le n (drop from xs) (omega (arith, h, length-drop from xs))

  pub part_at : (j : ℕ) (d : A) → j < n → get_or (take k (drop from xs)) j d ≡ get_or xs (from + j) d
  part_at j d l =
      ap (λ (m : ℕ). get_or (take m (drop from xs)) j d) e ∙ get_or-take n (drop from xs) j d l ∙ get_or-drop from xs j d
