-- Writing a list into an output one element after the other, whether two outputs have room, and
-- that a refused call writes nothing. Assumes nothing.
use mathlib.Core.Path.{◌≡◌, refl, sym, ap, ap₂, ◌∙◌}
use mathlib.Core.Bool.{Bool}
use mathlib.Core.List.{List, [], ◌∷◌, ◌++◌, map, flat_map}
use mathlib.Core.Option.{none, some}
use Prim.Native.Nat.{ℕ, zero, suc, ◌+◌, ◌-◌, ◌≤◌, ◌<◌}
use native.Mathlib.Numerals.{add-one}
use native.Mathlib.Omega.{arith}
use borrow.Author.Tests.{lt-ltb, le-ltb}
use lib.Dec.{ltb}
use lib.ListN.{length, get_or, set, take, drop, length-append, length-drop, get_or-append}
use lib.Seq.{drop-cons, set-append_seam, append_snoc, take-suc, length-take-le, get_or-append-add, get_or-drop}
use Rattle.refusal.specs.Refusal.{when, ◌then◌}
use Rattle.refusal.specs.Told.{Told, refused}
use Rattle.refusal.specs.declared.NormalFormError.TheVariants.{OutputTooShort}
use Rattle.written_lists.specs.Outputs.{room_refusal, joined, over}

module _ {A : Type 0} where
  -- The output keeps its length.
  pub over_length : (xs old : List A) → length xs ≤ length old → length (over xs old) ≡ length old
  over_length xs old h = length-append xs (drop (length xs) old) ∙ rw length-drop (omega arith)

  -- One element more.
  pub over_more : (xs old : List A) (a : A) → length xs < length old → set (over xs old) (length xs) a ≡ over (xs ++ (a ∷ [])) old
  over_more xs old a h =
      let n : length (xs ++ (a ∷ [])) ≡ suc (length xs) = length-append xs (a ∷ []) ∙ add-one (length xs) in
      rw (drop-cons old (length xs) a h, set-append_seam, n) (sym (append_snoc xs a (drop (suc (length xs)) old)))

  -- One element more of another list.
  pub over_next : (from old : List A) (i : ℕ) (d : A) → i < length from → i < length old
      → set (over (take i from) old) i (get_or from i d) ≡ over (take (i + 1) from) old
  over_next from old i d h k =
      let n : length (take i from) ≡ i = length-take-le i from (omega arith) in
      rw (add-one i, take-suc from i d h)
      (ap (λ j. set (over (take i from) old) j (get_or from i d)) (sym n) ∙ over_more (take i from) old (get_or from i d) (omega arith))

-- what stands where, after that: the list, and then what stood there
module _ {A : Type 0} (xs old : List A) (i : ℕ) (d : A) where
  pub over_first : i < length xs → get_or (over xs old) i d ≡ get_or xs i d
  over_first h = get_or-append xs (drop (length xs) old) d i h

  pub over_rest : length xs ≤ i → get_or (over xs old) i d ≡ get_or old i d
  over_rest h =
      let n : i ≡ length xs + (i - length xs) = omega arith in
      ap (λ (k : ℕ). get_or (over xs old) k d) n ∙ get_or-append-add xs (drop (length xs) old) (i - length xs) d
      ∙ get_or-drop (length xs) old (i - length xs) d ∙ ap (λ (k : ℕ). get_or old k d) (sym n)

-- The parts of each entry, one after the other.
pub flat_map_lem : {A B : Type 0} (f : B → List A) (xs : List B) → flat_map (λ x. x) (map f xs) ≡ flat_map f xs
unfolding flat_map
flat_map_lem f [] = refl
flat_map_lem f (x ∷ xs) = rw (flat_map_lem f xs)

-- The parts of the first n entries.
pub joined_map : {A B : Type 0} (f : B → List A) (n : ℕ) (xs : List B) → joined n (map f xs) ≡ flat_map f (take n xs)
joined_map f n xs = ap (flat_map (λ x. x)) (first n xs) ∙ flat_map_lem f (take n xs)
  where
    first : (n : ℕ) (xs : List _) → take n (map f xs) ≡ map f (take n xs)
    first zero xs = refl
    first (suc n) [] = refl
    first (suc n) (x ∷ xs) = ap (λ ys. f x ∷ ys) (first n xs)

-- ---- whether there is room

module _ (n a b : ℕ) where
  -- the first output is too short, the second is, and both hold n elements
  pub first_short : a < n → room_refusal n a b ≡ some OutputTooShort
  unfolding room_refusal
  first_short h = ap (λ (t : Bool). when t OutputTooShort then when (ltb b n) OutputTooShort) (lt-ltb a n h)

  pub second_short : n ≤ a → b < n → room_refusal n a b ≡ some OutputTooShort
  unfolding room_refusal
  second_short h k = ap₂ (λ (s t : Bool). when s OutputTooShort then when t OutputTooShort) (le-ltb a n h) (lt-ltb b n k)

  pub room_fits : n ≤ a → n ≤ b → room_refusal n a b ≡ none
  unfolding room_refusal
  room_fits h k = ap₂ (λ (s t : Bool). when s OutputTooShort then when t OutputTooShort) (le-ltb a n h) (le-ltb b n k)

-- ---- what a refused call writes

-- Nothing, whichever refusal it is, 13 too: the output is what it was. `of t` is what a call that
-- tells t writes.
pub refused_kept : {A B : Type 0} (of : Told A → List B) → ((e : ℕ) → of (refused e) ≡ [])
    → (t : Told A) (e : ℕ) → t ≡ refused e → (old : List B) → over (of t) old ≡ old
refused_kept of nothing t e is old = ap (λ u. over (of u) old) is ∙ ap (λ xs. over xs old) (nothing e)
