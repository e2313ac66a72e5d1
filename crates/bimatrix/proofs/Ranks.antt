-- What ranks mean: they compare as the numbers do (`rank-law`), are below how many there are (`rank_below`), and no two are equal exactly
-- where no two numbers are (`different-ranks`). True because fewer of the numbers are less than a lesser one. Assumes nothing.
use mathlib.Core.Path.{◌≡◌, refl, sym, ap, ap₂, ◌∙◌}
use mathlib.Core.Bool.{Bool, true, false, not, cond, ◌&&◌}
use mathlib.Core.List.Memᴰ.{cases_cons as in-cons}
use mathlib.Core.List.Memᴰ.{head as here}
use mathlib.Core.List.Memᴰ.{not-nil as not-in-nil}
use mathlib.Core.List.Memᴰ.{tail as there}
use mathlib.Core.List.{List, [], ◌∷◌, map}
use mathlib.Core.Logic.{◌↔◌, ◌≢◌, ⊎_elim}
use Prim.Native.Nat.{ℕ, ◌+◌, ◌≤◌, ◌<◌}
use native.Mathlib.Omega.{arith}
use borrow.Author.Tests.{eq-eqb, ne_eqb}
use lib.Dec.{T, ltb, eqb}
use lib.ListN.{length}
use Rattle.game.specs.Finite.{◌∈◌, all, filter, Sorted}
use Rattle.game.proofs.Finite.{and_T, no_T, ltb_T, eqb_T, le_or_lt, all_T, filter_at_most}
use Rattle.bimatrix.specs.declared.Bimatrix.{Bimatrix}
use Rattle.bimatrix.specs.Matrices.{in_order}
use Rattle.bimatrix.specs.Keys.{rank_among, one_if_less, ranks, pairwise, different, strictly_ranked}

-- ---- how many pass a test

-- 1 where the test passes, else 0
abbrev one : Bool → ℕ
one b = cond b 1 0

one_at_most : (a b : Bool) → (T a → T b) → one a ≤ one b
one_at_most true true h = omega arith
one_at_most true false h = absurd (h tt)
one_at_most false b h = omega arith

one_passed : (a : Bool) → T a → one a ≡ 1
one_passed true h = refl
one_passed false h = absurd h

one_failed : (a : Bool) → (T a → ⊥) → one a ≡ 0
one_failed true n = absurd (n tt)
one_failed false n = refl

module _ {A : Type 0} where
  passed : (f : A → Bool) (y : A) (ys : List A) → length (filter f (y ∷ ys)) ≡ one (f y) + length (filter f ys)
  passed f y ys = step (f y)
    where
      step : (b : Bool) → length (cond b (y ∷ filter f ys) (filter f ys)) ≡ one b + length (filter f ys)
      step true = omega arith
      step false = omega arith

  -- not all pass a test that an element fails
  not_all : (f : A → Bool) (xs : List A) (x : A) → x ∈ xs → (T (f x) → ⊥) → length (filter f xs) < length xs
  not_all f [] x h n = absurd (not-in-nil h)
  not_all f (y ∷ ys) x h n =
      ⊎_elim (λ (e : x ≡ y). omega (arith, passed f y ys, one_failed (f y) (rw e at n), filter_at_most f ys))
      (λ k. omega (arith, passed f y ys, one_at_most (f y) true (λ _. tt), not_all f ys x k n)) (in-cons h)

  -- a test that passes wherever another does passes at least as often, and more often where it passes alone
  module _ (f g : A → Bool) (imp : (z : A) → T (f z) → T (g z)) where
    no_fewer : (xs : List A) → length (filter f xs) ≤ length (filter g xs)
    no_fewer [] = omega arith
    no_fewer (y ∷ ys) = omega (arith, passed f y ys, passed g y ys, one_at_most (f y) (g y) (imp y), no_fewer ys)

    more : (xs : List A) (x : A) → x ∈ xs → T (g x) → (T (f x) → ⊥) → length (filter f xs) < length (filter g xs)
    more [] x h t n = absurd (not-in-nil h)
    more (y ∷ ys) x h t n =
        ⊎_elim
        (λ (e : x ≡ y). omega (arith, passed f y ys, passed g y ys, one_passed (g y) (rw e at t), one_failed (f y) (rw e at n), no_fewer ys))
        (λ k. omega (arith, passed f y ys, passed g y ys, one_at_most (f y) (g y) (imp y), more ys x k t n)) (in-cons h)

-- ---- ranks and numbers

-- a number is less than another exactly where its rank is
pub rank_law : (xs : List ℕ) (x y : ℕ) → x ∈ xs → (rank_among xs x < rank_among xs y) ↔ (x < y)
unfolding rank_among
rank_law xs x y h = (
  λ l.
      ⊎_elim
      (λ (k : y ≤ x).
      absurd
      (omega (arith, l, no_fewer (λ z. ltb z y) (λ z. ltb z x) (λ z t. (ltb_T z x).1 (omega (arith, (ltb_T z y).0 t))) xs)))
      (λ (k : x < y). k) (le_or_lt y x),
  λ l.
      more (λ z. ltb z x) (λ z. ltb z y) (λ z t. (ltb_T z y).1 (omega (arith, (ltb_T z x).0 t))) xs x h ((ltb_T x y).1 l)
      (λ t. omega (arith, (ltb_T x x).0 t)),
)

-- a rank is below how many numbers there are
pub rank_below : (xs : List ℕ) (x : ℕ) → x ∈ xs → rank_among xs x < length xs
unfolding rank_among
rank_below xs x h = not_all (λ z. ltb z x) xs x h (λ t. omega (arith, (ltb_T x x).0 t))

rank_same : (xs : List ℕ) (x y : ℕ) → x ∈ xs → y ∈ xs → eqb (rank_among xs x) (rank_among xs y) ≡ eqb x y
rank_same xs x y h k =
    ⊎_elim
    (λ (a : x ≤ y).
    ⊎_elim (λ (b : y ≤ x). let e : x ≡ y = omega arith in eq-eqb (rank_among xs x) (rank_among xs y) (ap (rank_among xs) e) ∙ sym (eq-eqb x y e))
    (λ (b : x < y). ne_eqb (rank_among xs x) (rank_among xs y) (λ e. omega (arith, e, (rank_law xs x y h).1 b)) ∙ sym (ne_eqb x y (λ e. omega arith)))
    (le_or_lt y x))
    (λ (a : y < x). ne_eqb (rank_among xs x) (rank_among xs y) (λ e. omega (arith, e, (rank_law xs y x k).1 a)) ∙ sym (ne_eqb x y (λ e. omega arith)))
    (le_or_lt x y)

-- ---- no two are equal

-- each stands to every later one as the test says
pub pairwise_law : (test : ℕ → ℕ → Bool) (R : ℕ → ℕ → Type 0) → ((x y : ℕ) → T (test x y) ↔ R x y)
    → (xs : List ℕ) → T (pairwise test xs) ↔ Sorted R xs
pairwise_law test R law [] = (λ h. tt, λ h. tt)
pairwise_law test R law (x ∷ xs) =
    let (to, from) = and_T (all (test x) xs) (pairwise test xs) in
    let (down, up) = pairwise_law test R law xs in (
      λ t. (λ y k. (law x y).0 ((all_T (test x) xs).0 (to t).0 y k), down (to t).1),
      λ h. from ((all_T (test x) xs).1 (λ y k. (law x y).1 (h.0 y k)), up h.1),
    )

pub different_law : (xs : List ℕ) → T (different xs) ↔ Sorted (λ x y. x ≢ y) xs
unfolding different
different_law =
    pairwise_law (λ x y. not (eqb x y)) (λ x y. x ≢ y) (λ x y. (
      λ t e. (no_T (eqb x y)).0 t ((eqb_T x y).1 e),
      λ n. (no_T (eqb x y)).1 (λ t. n ((eqb_T x y).0 t)),
    ))

module _ (xs : List ℕ) where
  from_others : (x : ℕ) (ys : List ℕ) → x ∈ xs → ((y : ℕ) → y ∈ ys → y ∈ xs)
      → all (λ z. not (eqb (rank_among xs x) z)) (map (rank_among xs) ys) ≡ all (λ z. not (eqb x z)) ys
  from_others x [] h k = refl
  from_others x (y ∷ ys) h k =
      ap₂ ◌&&◌ (ap not (rank_same xs x y h (k y (here refl)))) (from_others x ys h (λ z l. k z (there l)))

  -- no two ranks are equal exactly where no two of the numbers are
  pub different_ranks : (ys : List ℕ) → ((y : ℕ) → y ∈ ys → y ∈ xs) → different (map (rank_among xs) ys) ≡ different ys
  unfolding different
  different_ranks [] k = refl
  different_ranks (y ∷ ys) k =
      ap₂ ◌&&◌ (from_others y ys (k y (here refl)) (λ z l. k z (there l))) (different_ranks ys (λ z l. k z (there l)))

-- a table is strictly ranked exactly where its ranks are
pub strict_ranks : (b : Bimatrix) → strictly_ranked (ranks b) ≡ strictly_ranked b
unfolding strictly_ranked
strict_ranks b =
    ap₂ ◌&&◌ (different_ranks (in_order b.first) (in_order b.first) (λ y h. h))
    (different_ranks (in_order b.second) (in_order b.second) (λ y h. h))

-- ---- a rank as a sum

pub at_most_one : (n a b : ℕ) → n ≡ one_if_less a b → n ≤ 1
unfolding one_if_less
at_most_one n a b e = rw e (one_at_most (ltb a b) true (λ _. tt))

rank_cons : (y : ℕ) (ys : List ℕ) (x : ℕ) → rank_among (y ∷ ys) x ≡ one_if_less y x + rank_among ys x
unfolding rank_among one_if_less
rank_cons y ys x = passed (λ z. ltb z x) y ys

rank_none : (x : ℕ) → rank_among [] x ≡ 0
unfolding rank_among
rank_none x = refl

-- the rank among four
pub rank_four : (a b c d x : ℕ) → one_if_less a x + one_if_less b x + one_if_less c x + one_if_less d x ≡ rank_among (a ∷ b ∷ c ∷ d ∷ []) x
rank_four a b c d x =
    omega (arith, rank_cons a (b ∷ c ∷ d ∷ []) x, rank_cons b (c ∷ d ∷ []) x, rank_cons c (d ∷ []) x, rank_cons d [] x, rank_none x)
