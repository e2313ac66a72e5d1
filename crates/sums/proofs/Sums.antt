-- Sums in a given order: what comes last is added last (`sum-last`, `sum-next`, `products-last`),
-- only the terms at the indices of the list count (`products-cong`), the indices may be mapped
-- (`products-map`) and the factors may change places (`products-swap`). And sums of products taken
-- side by side, each in its order: at the start and one term on (`side-start`, `side-next`,
-- `side-below`), true because a turn adds its term to each of them (`added_next`, `added-at`,
-- `added_head`). Assumes nothing.
use mathlib.Core.Path.{◌≡◌, refl, sym, ap, ◌∙◌, subst}
use mathlib.Core.Bool.{Bool, true, false, cond}
use mathlib.Core.List.{List, [], ◌∷◌, ◌++◌, map, map-append, map-map}
use Prim.Native.Nat.{ℕ, zero, suc, ◌+◌, ◌*◌, ◌≤◌, ◌<◌, zero-le, suc-le-suc}
use native.Mathlib.Nat.{not-suc-le-zero, le_of_suc-le-suc, mul_comm}
use native.Mathlib.Numerals.{add-one}
use native.Mathlib.Omega.{arith}
use lib.ListN.{length, get_or, set, take, drop, replicate, length-replicate, get_or-replicate}
use lib.Seq.{take-suc}
use lib.Dec.{T, eqb}
use lib.Ieee.{Float, nan, inf, fin, binary64, unlike, up, down, round, add, mul, fits}
use lib.Ieee.Fits.{add-fits}
use lib.Ieee.Bits.{of_bits-fits}
use Rattle.game.specs.Finite.{below, ◌∈◌}
use Rattle.game.proofs.Finite.{below_last, map_cong}
use Rattle.sums.specs.Sums.{zero as nought, add_all, rounded_sum, sum_of_products}
use Rattle.sums.specs.Inner.{added}

-- ---- a sum

pub add_all_append : (s : Float) (xs ys : List Float) → add_all s (xs ++ ys) ≡ add_all (add_all s xs) ys
add_all_append s [] ys = refl
add_all_append s (x ∷ xs) ys = add_all_append (add binary64 s x) xs ys

pub sum_last : (xs : List Float) (x : Float) → rounded_sum (xs ++ (x ∷ [])) ≡ add binary64 (rounded_sum xs) x
sum_last xs x = add_all_append _ xs (x ∷ [])

pub sum_next : (xs : List Float) (i : ℕ) → i < length xs
    → rounded_sum (take (i + 1) xs) ≡ add binary64 (rounded_sum (take i xs)) (get_or xs i nan)
sum_next xs i h =
    ap (λ (n : ℕ). rounded_sum (take n xs)) (add-one i) ∙ ap rounded_sum (take-suc xs i nan h) ∙ sum_last (take i xs) (get_or xs i nan)

-- a sum is an f64
pub sum_fits : (xs : List Float) → T (fits binary64 (rounded_sum xs))
sum_fits = all_fit nought (of_bits-fits binary64 0)
  where
    all_fit : (s : Float) → T (fits binary64 s) → (xs : List Float) → T (fits binary64 (add_all s xs))
    all_fit s h [] = h
    all_fit s h (x ∷ xs) = all_fit (add binary64 s x) (add-fits binary64 s x) xs

-- ---- a sum of products

module _ {I : Type 0} (a b : I → Float) where
  pub products_last : (is : List I) (i : I) → sum_of_products a b (is ++ (i ∷ [])) ≡ add binary64 (sum_of_products a b is) (mul binary64 (a i) (b i))
  products_last is i =
      ap rounded_sum (map-append (λ i. mul binary64 (a i) (b i)) is (i ∷ []))
      ∙ sum_last (map (λ i. mul binary64 (a i) (b i)) is) (mul binary64 (a i) (b i))

pub products_cong : {I : Type 0} (a b c d : I → Float) (is : List I) → ((i : I) → i ∈ is → (a i ≡ c i) × (b i ≡ d i))
    → sum_of_products a b is ≡ sum_of_products c d is
products_cong a b c d is h =
    ap rounded_sum
    (map_cong (λ i. mul binary64 (a i) (b i)) (λ i. mul binary64 (c i) (d i)) is
    (λ i k. ap (λ (x : Float). mul binary64 x (b i)) (h i k).0 ∙ ap (mul binary64 (c i)) (h i k).1))

-- an index map
pub products_map : {I J : Type 0} (f : J → I) (a b : I → Float) (js : List J) → sum_of_products a b (map f js) ≡ sum_of_products (λ j. a (f j)) (λ j. b (f j)) js
products_map f a b js = ap rounded_sum (map-map (λ i. mul binary64 (a i) (b i)) f js)

-- the order of the factors does not matter
unlike_comm : (s t : Bool) → unlike s t ≡ unlike t s
unlike_comm true true = refl
unlike_comm true false = refl
unlike_comm false true = refl
unlike_comm false false = refl

pub mul_commutes : (x y : Float) → mul binary64 x y ≡ mul binary64 y x
unfolding mul
mul_commutes nan nan = refl
mul_commutes nan (inf t) = refl
mul_commutes nan (fin t n d) = refl
mul_commutes (inf s) nan = refl
mul_commutes (inf s) (inf t) = ap inf (unlike_comm s t)
mul_commutes (inf s) (fin t n d) = ap (λ (b : Bool). cond (eqb n 0) nan (inf b)) (unlike_comm s t)
mul_commutes (fin s m e) nan = refl
mul_commutes (fin s m e) (inf t) = ap (λ (b : Bool). cond (eqb m 0) nan (inf b)) (unlike_comm s t)
mul_commutes (fin s m e) (fin t n d) =
    ap (λ (b : Bool). round binary64 b (m * up e * (n * up d)) (down e * down d)) (unlike_comm s t)
    ∙ ap (λ (a : ℕ). round binary64 (unlike t s) a (down e * down d)) (mul_comm (m * up e) (n * up d))
    ∙ ap (λ (c : ℕ). round binary64 (unlike t s) (n * up d * (m * up e)) c) (mul_comm (down e) (down d))

pub products_swap : {I : Type 0} (a b : I → Float) (is : List I) → sum_of_products a b is ≡ sum_of_products b a is
products_swap a b is =
    ap rounded_sum (map_cong (λ i. mul binary64 (a i) (b i)) (λ i. mul binary64 (b i) (a i)) is (λ i _. mul_commutes (a i) (b i)))

-- ---- sums side by side

pub added_length : (n : ℕ) (f : ℕ → Float) (xs : List Float) → length (added n f xs) ≡ length xs
added_length zero f xs = refl
added_length (suc n) f [] = refl
added_length (suc n) f (x ∷ xs) = ap suc (added_length n (λ t. f (suc t)) xs)

pub added_at : (n : ℕ) (f : ℕ → Float) (xs : List Float) (t : ℕ) → t < n → t < length xs
    → get_or (added n f xs) t nan ≡ add binary64 (get_or xs t nan) (f t)
added_at zero f xs t h l = absurd (not-suc-le-zero h)
added_at (suc n) f [] t h l = absurd (not-suc-le-zero l)
added_at (suc n) f (x ∷ xs) zero h l = refl
added_at (suc n) f (x ∷ xs) (suc t) h l = added_at n (λ t. f (suc t)) xs t (le_of_suc-le-suc h) (le_of_suc-le-suc l)

-- only the first n terms count
pub added_cong : (n : ℕ) (f g : ℕ → Float) (xs : List Float) → ((t : ℕ) → t < n → f t ≡ g t) → added n f xs ≡ added n g xs
added_cong zero f g xs h = refl
added_cong (suc n) f g [] h = refl
added_cong (suc n) f g (x ∷ xs) h =
    ap {B = List Float} (λ y. add binary64 x y ∷ added n (λ t. f (suc t)) xs) (h 0 (suc-le-suc zero-le))
    ∙ ap {B = List Float} (λ ys. add binary64 x (g 0) ∷ ys) (added_cong n (λ t. f (suc t)) (λ t. g (suc t)) xs (λ t k. h (suc t) (suc-le-suc k)))

-- the next element gets its term
pub added_next : (n : ℕ) (f : ℕ → Float) (xs : List Float) → n < length xs
    → set (added n f xs) n (add binary64 (get_or (added n f xs) n nan) (f n)) ≡ added (n + 1) f xs
added_next n f xs h = go n f xs h ∙ ap (λ (m : ℕ). added m f xs) (one n)
  where
    one : (n : ℕ) → suc n ≡ n + 1
    one n = sym (add-one n)

    go : (n : ℕ) (f : ℕ → Float) (xs : List Float) → n < length xs
        → set (added n f xs) n (add binary64 (get_or (added n f xs) n nan) (f n)) ≡ added (suc n) f xs
    go n f [] h = absurd (not-suc-le-zero h)
    go zero f (x ∷ xs) h = refl
    go (suc n) f (x ∷ xs) h = ap {B = List Float} (λ ys. add binary64 x (f 0) ∷ ys) (go n (λ t. f (suc t)) xs (le_of_suc-le-suc h))

-- the terms added to the first n elements alone, and the others after them
pub added_head : (n : ℕ) (f : ℕ → Float) (xs : List Float) → added n f (take n xs) ++ drop n xs ≡ added n f xs
added_head zero f xs = refl
added_head (suc n) f [] = refl
added_head (suc n) f (x ∷ xs) = ap {B = List Float} (λ ys. add binary64 x (f 0) ∷ ys) (added_head n (λ t. f (suc t)) xs)

-- the sums of a(i) × b(t, i) over a list of indices, side by side in `size` places: that of t at
-- place t, for t below `count`
abbrev pub SideBySide : {I : Type 0} → ℕ → ℕ → (I → Float) → (ℕ → I → Float) → List I → List Float → Type 0
SideBySide size count a b is xs = (length xs ≡ size) × ((t : ℕ) → t < count → get_or xs t nan ≡ sum_of_products a (b t) is)

module _ {I : Type 0} (size count : ℕ) (few : count ≤ size) (a : I → Float) (b : ℕ → I → Float) where
  pub side_start : SideBySide size count a b [] (replicate size nought)
  side_start = (length-replicate size nought, λ t h. get_or-replicate size t nought nan (omega arith))

  pub side_next : (is : List I) (i : I) (xs : List Float) → SideBySide size count a b is xs
      → SideBySide size count a b (is ++ (i ∷ [])) (added count (λ t. mul binary64 (a i) (b t i)) xs)
  side_next is i xs (long, are) = (
    added_length count (λ t. mul binary64 (a i) (b t i)) xs ∙ long,
    λ t h.
        added_at count (λ t. mul binary64 (a i) (b t i)) xs t h (omega (arith, long))
        ∙ ap (λ (s : Float). add binary64 s (mul binary64 (a i) (b t i))) (are t h)
        ∙ sym (products_last a (b t) is i),
  )

-- the next of the numbers below a bound
pub side_below : (size count : ℕ) (few : count ≤ size) (a : ℕ → Float) (b : ℕ → ℕ → Float) (n : ℕ) (xs : List Float)
    → SideBySide size count a b (below n) xs → SideBySide size count a b (below (n + 1)) (added count (λ t. mul binary64 (a n) (b t n)) xs)
side_below size count few a b n xs h =
    subst (λ (is : List ℕ). SideBySide size count a b is (added count (λ t. mul binary64 (a n) (b t n)) xs)) (sym (ap below (add-one n) ∙ below_last n))
    (side_next size count few a b (below n) n xs h)
