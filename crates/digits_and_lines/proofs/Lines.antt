-- Words one after the other, and numbers as words. Assumes nothing.
use mathlib.Core.Path.{◌≡◌, refl, sym, ap, ◌∙◌}
use mathlib.Core.List.{List, [], ◌∷◌, ◌++◌, map, map-append, append-nil, append_assoc}
use Prim.Native.Nat.{ℕ, ◌+◌, ◌<◌}
use native.Mathlib.Numerals.{add-one}
use native.Mathlib.Omega.{arith}
use lib.ListN.{length, get_or, take}
use lib.Seq.{take-suc}
use Rattle.game.proofs.Finite.{flat_map_append}
use Rattle.digits_and_lines.specs.Text.{decimal, space, spaced, joined, line}

pub spaced_append : (v w : List (List ℕ)) → spaced (v ++ w) ≡ spaced v ++ spaced w
unfolding spaced
spaced_append v w = flat_map_append (λ w'. space ∷ w') v w

pub joined_append : (a : List ℕ) (v w : List (List ℕ)) → joined ((a ∷ v) ++ w) ≡ joined (a ∷ v) ++ spaced w
unfolding joined
joined_append a v w = ap (λ (xs : List ℕ). a ++ xs) (spaced_append v w) ∙ sym (append_assoc a (spaced v) (spaced w))

spaced_one : (w : List ℕ) → spaced (w ∷ []) ≡ space ∷ w
unfolding spaced
spaced_one w = append-nil (space ∷ w)

-- one word more
pub spaced_next : {A : Type 0} (f : A → List ℕ) (xs : List A) (d : A) (i : ℕ) → i < length xs
    → spaced (map f (take i xs)) ++ space ∷ f (get_or xs i d) ≡ spaced (map f (take (i + 1) xs))
spaced_next {A = A} f xs d i h =
    let x = get_or xs i d in
    sym
    (ap (λ (k : ℕ). spaced (map f (take k xs))) (add-one i)
    ∙ ap (λ (ys : List A). spaced (map f ys)) (take-suc xs i d h)
    ∙ ap spaced (map-append f (take i xs) (x ∷ []))
    ∙ spaced_append (map f (take i xs)) (f x ∷ [])
    ∙ ap (λ (ys : List ℕ). spaced (map f (take i xs)) ++ ys) (spaced_one (f x)))

-- of no number the text is empty
pub joined_none : (ns : List ℕ) → length ns ≡ 0 → [] ≡ joined (map decimal ns)
unfolding joined
joined_none [] h = refl
joined_none (n ∷ ns) h = absurd (omega (arith, h))

-- a line of the words 1 and 2
two_words : line ((49 ∷ []) ∷ (50 ∷ []) ∷ []) ≡ 49 ∷ 32 ∷ 50 ∷ 10 ∷ []
unfolding line joined spaced
two_words = refl
