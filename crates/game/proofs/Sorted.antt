-- The laws of `Lists`: a list of what something is true of, in an order, has each element once, is known by its members, and begins
-- with the first of them.
use mathlib.Core.Path.{◌≡◌, refl, sym, ap, ap₂}
use mathlib.Core.Bool.{Bool, true, false, cond}
use mathlib.Core.List.Memᴰ.{append_cases as in-append}
use mathlib.Core.List.Memᴰ.{cases_cons as in-cons}
use mathlib.Core.List.Memᴰ.{head as here}
use mathlib.Core.List.Memᴰ.{not-nil as not-in-nil}
use mathlib.Core.List.Memᴰ.{of_map}
use mathlib.Core.List.Memᴰ.{tail as there}
use mathlib.Core.List.{List, [], ◌∷◌, ◌++◌, map, flat_map}
use mathlib.Core.Logic.Iff
use mathlib.Core.Logic.{◌↔◌, ◌≢◌, ⊎_elim}
use mathlib.Core.Option.{Option, none, some}
use Prim.Native.Nat.{ℕ, zero, suc, ◌≤◌, ◌<◌}
use native.Mathlib.Nat.{eq-or-lt_of_le}
use native.Mathlib.Omega.{arith}
use lib.Dec.{T}
use lib.ListN.{length}
use Rattle.game.specs.Finite.{◌∈◌, below, filter, first, Sorted, Lists, First}
use Rattle.game.proofs.Finite.{test_true, test_false, le_or_lt, below_mem, filter_mem, filter_cong, of_flat_map}

-- ---- what keeps a list sorted

module _ {A : Type 0} (R : A → A → Type 0) where
  sorted_append : (xs ys : List A) → Sorted R xs → Sorted R ys → ((x y : A) → x ∈ xs → y ∈ ys → R x y) → Sorted R (xs ++ ys)
  sorted_append [] ys a b h = b
  sorted_append (x ∷ xs) ys a b h = (
    λ y k. ⊎_elim (a.0 y) (h x y (here refl)) (in-append xs k),
    sorted_append xs ys a.1 b (λ x y k. h x y (there k)),
  )

  sorted_filter : (f : A → Bool) (xs : List A) → Sorted R xs → Sorted R (filter f xs)
  sorted_filter f [] s = tt
  sorted_filter f (x ∷ xs) s = step (f x) (sorted_filter f xs s.1)
    where
      step : (b : Bool) → Sorted R (filter f xs) → Sorted R (cond b (x ∷ filter f xs) (filter f xs))
      step true ih = (λ y k. s.0 y ((filter_mem f xs y).0 k).0, ih)
      step false ih = ih

module _ {A B : Type 0} (R : A → A → Type 0) (S : B → B → Type 0) where
  pub sorted_map : (f : A → B) → ((a b : A) → R a b → S (f a) (f b)) → (xs : List A) → Sorted R xs → Sorted S (map f xs)
  sorted_map f h [] s = tt
  sorted_map f h (x ∷ xs) s = (
    λ y k. let (a, l, e) = of_map f xs k in rw (← e) (h x a (s.0 a l)),
    sorted_map f h xs s.1,
  )

  pub sorted_flat_map : (f : A → List B) → ((a : A) → Sorted S (f a)) → ((a b : A) → R a b → (c d : B) → c ∈ f a → d ∈ f b → S c d)
      → (xs : List A) → Sorted R xs → Sorted S (flat_map f xs)
  unfolding flat_map
  sorted_flat_map f each h [] s = tt
  sorted_flat_map f each h (x ∷ xs) s =
      sorted_append S (f x) (flat_map f xs) (each x) (sorted_flat_map f each h xs s.1)
      (λ c d k l. let (a, i, j) = of_flat_map f xs d l in h x a (s.0 a i) c d k j)

-- ---- the laws

module _ {A : Type 0} {R : A → A → Type 0} where
  pub lists_iff : {P Q : A → Type 0} {xs : List A} → ((x : A) → P x ↔ Q x) → Lists R P xs → Lists R Q xs
  lists_iff e l = record { members = λ x. Iff.trans (l.members x) (e x); sorted = l.sorted }

  pub lists_filter : {P : A → Type 0} (f : A → Bool) (xs : List A) → Lists R P xs → Lists R (λ x. P x × T (f x)) (filter f xs)
  lists_filter f xs l =
      record { members = λ x. simp (filter_mem, l.members) Iff.rfl; sorted = sorted_filter R f xs l.sorted }

  module _ (asym : (x y : A) → R x y → R y x → ⊥) where
    -- each once
    pub sorted_once : (xs : List A) → Sorted R xs → Sorted (λ x y. x ≢ y) xs
    sorted_once [] s = tt
    sorted_once (x ∷ xs) s = (λ y k e. let r = rw (← e) at (s.0 y k) in asym x x r r, sorted_once xs s.1)

    -- two lists of the same things are equal
    pub lists_same : {P : A → Type 0} (xs ys : List A) → Lists R P xs → Lists R P ys → xs ≡ ys
    lists_same xs ys a b = go xs ys a.sorted b.sorted (λ x. Iff.trans (a.members x) (Iff.symm (b.members x)))
      where
        rest : (y z : A) (ys : List A) → z ≢ y → z ∈ y ∷ ys → z ∈ ys
        rest y z ys n k = ⊎_elim (λ e. absurd (n e)) (λ k. k) (in-cons k)

        heads : (x y : A) (xs ys : List A) → Sorted R (x ∷ xs) → Sorted R (y ∷ ys) → x ∈ y ∷ ys → y ∈ x ∷ xs → x ≡ y
        heads x y xs ys s t h k = ⊎_elim (λ e. e) (λ i. ⊎_elim sym (λ j. absurd (asym y x (t.0 x i) (s.0 y j))) (in-cons k)) (in-cons h)

        go : (xs ys : List A) → Sorted R xs → Sorted R ys → ((x : A) → (x ∈ xs) ↔ (x ∈ ys)) → xs ≡ ys
        go [] [] s t i = refl
        go [] (y ∷ ys) s t i = absurd (not-in-nil ((i y).1 (here refl)))
        go (x ∷ xs) [] s t i = absurd (not-in-nil ((i x).0 (here refl)))
        go (x ∷ xs) (y ∷ ys) s t i =
            let e = heads x y xs ys s t ((i x).0 (here refl)) ((i y).1 (here refl)) in
            ap₂ {C = List A} (λ z zs. z ∷ zs) e (go xs ys s.1 t.1 (λ z. (
              λ k. rest y z ys (λ q. (sorted_once (x ∷ xs) s).0 z k (cc)) ((i z).0 (there k)),
              λ k. rest x z xs (λ q. (sorted_once (y ∷ ys) t).0 z k (cc)) ((i z).1 (there k)),
            )))

    -- the first element is the first that P is true of
    pub first_law : {P : A → Type 0} (xs : List A) → Lists R P xs → First R P (first xs)
    first_law [] l = λ x h. not-in-nil ((l.members x).1 h)
    first_law (x ∷ xs) l = (
      (l.members x).0 (here refl),
      λ y r h.
          ⊎_elim (λ (e : y ≡ x). let q = rw e at r in asym x x q q) (λ k. asym y x r (l.sorted.0 y k)) (in-cons ((l.members y).1 h)),
    )

-- where the list has c once, and h differs from f only in that c fails it, one element less passes h than f
pub filter_less : {A : Type 0} (f h : A → Bool) (c : A) (xs : List A) → Sorted (λ x y. x ≢ y) xs → c ∈ xs
    → T (f c) → (T (h c) → ⊥) → ((x : A) → x ≢ c → f x ≡ h x) → length (filter f xs) ≡ suc (length (filter h xs))
filter_less f h c [] s k a b e = absurd (not-in-nil k)
filter_less f h c (y ∷ ys) s k a b e =
    ⊎_elim (λ (q : c ≡ y).
    rw (test_true (f y) (rw q at a), test_false (h y) (rw q at b))
    (ap (λ zs. suc (length zs)) (filter_cong f h ys (λ x j. e x (λ r. s.0 x j (cc))))))
    (λ j. rw (e y (s.0 c j)) (step (h y) (filter_less f h c ys s.1 j a b e))) (in-cons k)
  where
    step : (t : Bool) → length (filter f ys) ≡ suc (length (filter h ys))
        → length (cond t (y ∷ filter f ys) (filter f ys)) ≡ suc (length (cond t (y ∷ filter h ys) (filter h ys)))
    step true ih = ap suc ih
    step false ih = ih

-- ---- numbers

pub less_asym : (a b : ℕ) → a < b → b < a → ⊥
less_asym a b h k = omega arith

pub sorted_below : (n : ℕ) → Sorted ◌<◌ (below n)
sorted_below zero = tt
sorted_below (suc n) = (
  λ y k. let (j, l, e) = of_map suc (below n) k in omega arith,
  sorted_map ◌<◌ ◌<◌ suc (λ a b h. omega arith) (below n) (sorted_below n),
)

pub below_law : (n : ℕ) → Lists ◌<◌ (λ i. i < n) (below n)
below_law n = record { members = below_mem n; sorted = sorted_below n }

-- what is known of the lowest number determines it
pub lowest_none : (P : ℕ → Type 0) (o : Option ℕ) → First ◌<◌ P o → ((i : ℕ) → P i → ⊥) → o ≡ none
lowest_none P none h n = refl
lowest_none P (some i) h n = absurd (n i h.0)

pub lowest_some : (P : ℕ → Type 0) (o : Option ℕ) → First ◌<◌ P o → (j : ℕ) → P j → ((i : ℕ) → i < j → P i → ⊥) → o ≡ some j
lowest_some P none h j p n = absurd (h j p)
lowest_some P (some i) h j p n =
    ⊎_elim (λ (l : i ≤ j). ⊎_elim (ap {B = Option ℕ} some) (λ l. absurd (n i l h.0)) (eq-or-lt_of_le l)) (λ l. absurd (h.1 j l p))
    (le_or_lt i j)
