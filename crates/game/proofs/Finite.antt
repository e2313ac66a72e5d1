-- What the tests of specs/Finite say, as propositions, and what the members and the length of each list are.
use mathlib.Core.Path.{◌≡◌, refl, sym, ap, ◌∙◌}
use mathlib.Core.Bool.{Bool, true, false, not, cond, ◌&&◌}
use mathlib.Core.List.Memᴰ.{append_cases as in-append}
use mathlib.Core.List.Memᴰ.{append_left}
use mathlib.Core.List.Memᴰ.{append_right}
use mathlib.Core.List.Memᴰ.{cases_cons as in-cons}
use mathlib.Core.List.Memᴰ.{eq_of_singleton as in-singleton}
use mathlib.Core.List.Memᴰ.{head as here}
use mathlib.Core.List.Memᴰ.{map as to_map}
use mathlib.Core.List.Memᴰ.{not-nil as not-in-nil}
use mathlib.Core.List.Memᴰ.{of_map}
use mathlib.Core.List.Memᴰ.{tail as there}
use mathlib.Core.List.{List, [], ◌∷◌, ◌++◌, map, flat_map, map-map, map-append, append-nil, append_assoc}
use mathlib.Core.Logic.Iff
use mathlib.Core.Logic.{◌↔◌, ◌⊎◌, inl, inr, ⊎_elim}
use Prim.Native.Nat.{ℕ, zero, suc, ◌+◌, ◌*◌, ◌≤◌, ◌<◌}
use native.Mathlib.Nat.{not-suc-le-zero, le_of_suc-le-suc, eq-or-lt_of_le, zero-mul, suc-mul, add_comm}
use native.Mathlib.Numerals.{add-one}
use native.Mathlib.Omega.{arith}
use lib.Dec.{T, leb, ltb, eqb, leb→le, ltb→lt, lt→ltb, eqb→eq, eqb_refl, nleb→lt, T_not, not_T}
use lib.ListN.{length, get_or, take, length-append, length-map}
use Rattle.game.specs.Finite.{◌⇒◌, ◌∈◌, below, sum, all, filter, empty}

-- ---- tests

pub and_T : (a b : Bool) → T (a && b) ↔ (T a × T b)
and_T true b = (λ h. (tt, h), λ h. h.1)
and_T false b = (λ h. absurd h, λ h. h.0)

pub imp_T : (a b : Bool) → T (a ⇒ b) ↔ (T a → T b)
imp_T true b = (λ h _. h, λ h. h tt)
imp_T false b = (λ _ h. absurd h, λ h. tt)

pub no_T : (a : Bool) → T (not a) ↔ (T a → ⊥)
no_T a = (T_not a, not_T a)

pub ltb_T : (a b : ℕ) → T (ltb a b) ↔ (a < b)
ltb_T a b = (ltb→lt a b, lt→ltb a b)

pub eqb_T : (a b : ℕ) → T (eqb a b) ↔ (a ≡ b)
eqb_T a b = (eqb→eq a b, λ e. rw e (eqb_refl b))

pub either : (a : Bool) → T a ⊎ (T a → ⊥)
either true = inl tt
either false = inr (λ h. h)

pub le_or_lt : (a b : ℕ) → (a ≤ b) ⊎ (b < a)
le_or_lt a b = ⊎_elim (λ h. inl (leb→le a b h)) (λ n. inr (nleb→lt a b (not_T (leb a b) n))) (either (leb a b))

-- what is not greater is at most
pub at_most : (a b : ℕ) → (b < a → ⊥) → a ≤ b
at_most a b n = ⊎_elim (λ h. h) (λ h. absurd (n h)) (le_or_lt a b)

pub test_true : (a : Bool) → T a → a ≡ true
test_true true h = refl
test_true false h = absurd h

pub test_false : (a : Bool) → (T a → ⊥) → a ≡ false
test_false true n = absurd (n tt)
test_false false n = refl

-- two tests that pass together are equal
pub same_test : (a b : Bool) → T a ↔ T b → a ≡ b
same_test true true e = refl
same_test true false e = absurd (e.0 tt)
same_test false true e = absurd (e.1 tt)
same_test false false e = refl

-- ---- the numbers below a bound

pub below_mem : (n i : ℕ) → (i ∈ below n) ↔ (i < n)
below_mem n i = (to n i, from n i)
  where
    to : (n i : ℕ) → i ∈ below n → i < n
    to zero i h = absurd (not-in-nil h)
    to (suc n) i h = ⊎_elim (λ (e : i ≡ 0). omega arith) (λ k. let (j, l, e) = of_map suc (below n) k in omega (arith, to n j l)) (in-cons h)

    from : (n i : ℕ) → i < n → i ∈ below n
    from zero i h = absurd (not-suc-le-zero h)
    from (suc n) zero h = here refl
    from (suc n) (suc i) h = there (to_map suc (from n i (le_of_suc-le-suc h)))

pub length_below : (n : ℕ) → length (below n) ≡ n
length_below zero = refl
length_below (suc n) = ap suc (length-map (below n) suc ∙ length_below n)

pub map_below : (l : List ℕ) → map (λ i. get_or l i 0) (below (length l)) ≡ l
map_below [] = refl
map_below (x ∷ xs) = ap {B = List ℕ} (λ ys. x ∷ ys) (map-map (λ i. get_or (x ∷ xs) i 0) suc (below (length xs)) ∙ map_below xs)

-- one more stands at the end
pub below_last : (n : ℕ) → below (suc n) ≡ below n ++ (n ∷ [])
below_last zero = refl
below_last (suc n) =
    ap {B = List ℕ} (λ ys. 0 ∷ map suc ys) (below_last n) ∙ ap {B = List ℕ} (λ ys. 0 ∷ ys) (map-append suc (below n) (n ∷ []))

-- ---- tests of a list, and the elements that pass one

module _ {A : Type 0} where
  pub all_T : (f : A → Bool) (xs : List A) → T (all f xs) ↔ ((x : A) → x ∈ xs → T (f x))
  all_T f [] = (λ _ x h. absurd (not-in-nil h), λ _. tt)
  all_T f (y ∷ ys) =
      let (to, from) = and_T (f y) (all f ys) in (
        λ h x k. ⊎_elim (λ (e : x ≡ y). rw e (to h).0) ((all_T f ys).0 (to h).1 x) (in-cons k),
        λ h. from (h y (here refl), (all_T f ys).1 (λ x k. h x (there k))),
      )

  pub empty_T : (xs : List A) → T (empty xs) ↔ ((x : A) → x ∈ xs → ⊥)
  empty_T [] = (λ _ x h. not-in-nil h, λ _. tt)
  empty_T (y ∷ ys) = (λ h. absurd h, λ h. h y (here refl))

  -- what is not empty has an element
  pub some_mem : (xs : List A) → T (not (empty xs)) ↔ ((x : A) × (x ∈ xs))
  some_mem [] = (λ h. absurd h, λ h. absurd (not-in-nil h.1))
  some_mem (y ∷ ys) = (λ h. (y, here refl), λ h. tt)

  pub filter_mem : (f : A → Bool) (xs : List A) (x : A) → (x ∈ filter f xs) ↔ ((x ∈ xs) × T (f x))
  filter_mem f [] x = (λ h. absurd (not-in-nil h), λ h. absurd (not-in-nil h.0))
  filter_mem f (y ∷ ys) x = step (f y) Iff.rfl (filter f ys) (filter_mem f ys x)
    where
      step : (b : Bool) → T b ↔ T (f y) → (rest : List A) → (x ∈ rest) ↔ ((x ∈ ys) × T (f x))
          → (x ∈ cond b (y ∷ rest) rest) ↔ ((x ∈ y ∷ ys) × T (f x))
      step true e rest ih = (
        λ h. ⊎_elim (λ (q : x ≡ y). (here q, rw q (e.0 tt))) (λ k. (there (ih.0 k).0, (ih.0 k).1)) (in-cons h),
        λ h. ⊎_elim here (λ k. there (ih.1 (k, h.1))) (in-cons h.0),
      )
      step false e rest ih = (
        λ h. (there (ih.0 h).0, (ih.0 h).1),
        λ h. ⊎_elim (λ (q : x ≡ y). absurd (e.1 (rw q at h.1))) (λ k. ih.1 (k, h.1)) (in-cons h.0),
      )

  pub filter_cong : (f h : A → Bool) (xs : List A) → ((x : A) → x ∈ xs → f x ≡ h x) → filter f xs ≡ filter h xs
  filter_cong f h [] e = refl
  filter_cong f h (y ∷ ys) e = rw (e y (here refl), filter_cong f h ys (λ x k. e x (there k)))

  pub filter_at_most : (f : A → Bool) (xs : List A) → length (filter f xs) ≤ length xs
  filter_at_most f [] = omega arith
  filter_at_most f (x ∷ xs) = step (f x) (filter_at_most f xs)
    where
      step : (b : Bool) → length (filter f xs) ≤ length xs → length (cond b (x ∷ filter f xs) (filter f xs)) ≤ suc (length xs)
      step true h = omega arith
      step false h = omega arith

  pub filter_append : (f : A → Bool) (xs ys : List A) → filter f (xs ++ ys) ≡ filter f xs ++ filter f ys
  filter_append f [] ys = refl
  filter_append f (x ∷ xs) ys = rw (filter_append f xs ys) (step (f x))
    where
      step : (b : Bool)
          → cond b (x ∷ (filter f xs ++ filter f ys)) (filter f xs ++ filter f ys) ≡ cond b (x ∷ filter f xs) (filter f xs) ++ filter f ys
      step true = refl
      step false = refl

  -- of a list that is not empty, some element is the greatest by a measure
  pub greatest : (f : A → ℕ) (xs : List A) (x : A) → x ∈ xs → (y : A) × (y ∈ xs) × ((z : A) → z ∈ xs → f z ≤ f y)
  greatest f [] x h = absurd (not-in-nil h)
  greatest f (w ∷ []) x h = (w, here refl, λ z k. rw (in-singleton k) (omega arith))
  greatest f (w ∷ v ∷ vs) x h =
      let (y, k, most) = greatest f (v ∷ vs) v (here refl) in
      ⊎_elim (λ (l : f y ≤ f w). (w, here refl, λ z j. over w z (omega arith) (λ i. omega (arith, most z i)) j))
      (λ (l : f w < f y). (y, there k, λ z j. over y z (omega arith) (most z) j)) (le_or_lt (f y) (f w))
    where
      over : (y z : A) → f w ≤ f y → (z ∈ v ∷ vs → f z ≤ f y) → z ∈ w ∷ v ∷ vs → f z ≤ f y
      over y z l most j = ⊎_elim (λ (e : z ≡ w). rw e l) most (in-cons j)

-- what passes of the numbers below n + 1: n too, or no more than below n
module _ (f : ℕ → Bool) (n : ℕ) where
  filter_last : filter f (below (n + 1)) ≡ filter f (below n) ++ cond (f n) (n ∷ []) []
  filter_last =
      ap (λ (m : ℕ). filter f (below m)) (add-one n) ∙ ap (filter f) (below_last n) ∙ filter_append f (below n) (n ∷ [])

  pub filter_yes : f n ≡ true → filter f (below (n + 1)) ≡ filter f (below n) ++ (n ∷ [])
  filter_yes h = filter_last ∙ ap (λ (b : Bool). filter f (below n) ++ cond b (n ∷ []) []) h

  pub filter_not : f n ≡ false → filter f (below (n + 1)) ≡ filter f (below n)
  filter_not h = filter_last ∙ ap (λ (b : Bool). filter f (below n) ++ cond b (n ∷ []) []) h ∙ append-nil (filter f (below n))

  filter_step : length (filter f (below n)) ≤ length (filter f (below (n + 1)))
  filter_step = omega (arith, ap length filter_last, length-append (filter f (below n)) (cond (f n) (n ∷ []) []))

-- no fewer pass of more numbers
pub filter_grows : (f : ℕ → Bool) (m n : ℕ) → m ≤ n → length (filter f (below m)) ≤ length (filter f (below n))
filter_grows f m zero h = let e : m ≡ 0 = omega arith in rw e (omega arith)
filter_grows f m (suc n) h =
    ⊎_elim (λ (e : m ≡ suc n). rw e (omega arith))
    (λ (l : m < suc n). omega (arith, filter_grows f m n (le_of_suc-le-suc l), rw (add-one n) at (filter_step f n)))
    (eq-or-lt_of_le h)

-- ---- a function over a list, and the first elements of one

pub map_cong : {A B : Type 0} (f h : A → B) (xs : List A) → ((x : A) → x ∈ xs → f x ≡ h x) → map f xs ≡ map h xs
map_cong f h [] e = refl
map_cong f h (y ∷ ys) e = rw (e y (here refl), map_cong f h ys (λ x k. e x (there k)))

pub take_mem : {A : Type 0} (n : ℕ) (xs : List A) (x : A) → x ∈ take n xs → x ∈ xs
take_mem zero xs x h = absurd (not-in-nil h)
take_mem (suc n) [] x h = h
take_mem (suc n) (y ∷ ys) x h = ⊎_elim here (λ k. there (take_mem n ys x k)) (in-cons h)

-- ---- lists joined

module _ {A B : Type 0} (f : A → List B) where
  pub of_flat_map : (xs : List A) (b : B) → b ∈ flat_map f xs → (a : A) × (a ∈ xs) × (b ∈ f a)
  unfolding flat_map
  of_flat_map [] b h = absurd (not-in-nil h)
  of_flat_map (x ∷ xs) b h =
      ⊎_elim (λ k. (x, here refl, k)) (λ k. let (a, l, r) = of_flat_map xs b k in (a, there l, r)) (in-append (f x) h)

  pub to_flat_map : (xs : List A) (a : A) (b : B) → a ∈ xs → b ∈ f a → b ∈ flat_map f xs
  unfolding flat_map
  to_flat_map [] a b h k = absurd (not-in-nil h)
  to_flat_map (x ∷ xs) a b h k =
      ⊎_elim (λ (e : a ≡ x). append_left (flat_map f xs) (rw e at k)) (λ l. append_right (f x) (to_flat_map xs a b l k)) (in-cons h)

  -- the lists of two parts, one after the other
  pub flat_map_append : (xs ys : List A) → flat_map f (xs ++ ys) ≡ flat_map f xs ++ flat_map f ys
  unfolding flat_map
  flat_map_append [] ys = refl
  flat_map_append (x ∷ xs) ys = ap (λ l. f x ++ l) (flat_map_append xs ys) ∙ sym (append_assoc (f x) (flat_map f xs) (flat_map f ys))

  -- one more list stands at the end
  pub flat_map_last : (xs : List A) (y : A) → flat_map f (xs ++ (y ∷ [])) ≡ flat_map f xs ++ f y
  unfolding flat_map
  flat_map_last xs y = flat_map_append xs (y ∷ []) ∙ ap (λ l. flat_map f xs ++ l) (append-nil (f y))

  pub length_flat_map : (xs : List A) → length (flat_map f xs) ≡ sum (map (λ a. length (f a)) xs)
  unfolding flat_map
  length_flat_map [] = refl
  length_flat_map (x ∷ xs) = length-append (f x) (flat_map f xs) ∙ ap (λ n. length (f x) + n) (length_flat_map xs)

pub sum_equal : {A : Type 0} (f : A → ℕ) (n : ℕ) → ((a : A) → f a ≡ n) → (xs : List A) → sum (map f xs) ≡ length xs * n
sum_equal f n h [] = rw zero-mul
sum_equal f n h (x ∷ xs) = rw (h x, sum_equal f n h xs, suc-mul) (add_comm _ _)
