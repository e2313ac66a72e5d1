-- The gains of payoffs that are whole numbers to 2^20, under weights in parts of 1/65,536, are
-- exact: a gain where the weights of its strategy together are below 65,536 (`gain-exact`), as
-- those of fewer than 65,536 others' choices are (`few-weights`); each and all gains of a player
-- with so few (`one-gain`, `gains-exact`); and the greatest (`times-greatest`), of which
-- `greatest-whole-law` says what it is. Lists are compared element by element (`all-times-law`).
-- Where no gain is above 0, a strategy has no weight if another one pays more against every choice
-- of the others (`unweighted`): the gain in whole numbers is at least its weight. Every whole
-- number in range is a payoff, and every number of parts a weight (`payoff-some`, `weight-some`).
-- Ranks of payoffs compare as whole numbers do (`rank-whole`). Assumes nothing.
use mathlib.Core.Path.{◌≡◌, refl, sym, ap, ◌∙◌, subst}
use mathlib.Core.Bool.{Bool, true, false, not, cond}
use mathlib.Core.List.Memᴰ.{cases_cons as in-cons}
use mathlib.Core.List.Memᴰ.{head as here}
use mathlib.Core.List.Memᴰ.{not-nil as not-in-nil}
use mathlib.Core.List.Memᴰ.{tail as there}
use mathlib.Core.List.{List, [], ◌∷◌, ◌++◌, map, flat_map}
use mathlib.Core.Logic.{◌↔◌, ⊎_elim}
use Prim.Native.Nat.{ℕ, zero, suc, ◌+◌, ◌*◌, ◌^◌, ◌≤◌, ◌<◌, zero-le}
use native.Mathlib.Nat.{mul-le-mul_left}
use native.Mathlib.Omega.{arith}
use borrow.Author.Tests.{ltb-false}
use lib.Dec.{T, ltb, eqb, lit≤, lit<}
use lib.IntN.{ℤ, pos, neg_ℤ, nat_abs, ◌-ℤ◌, ◌*ℤ◌}
use lib.ListN.{length, get_or}
use lib.Signed.{lt_z}
use lib.Ieee.{Float, nan, binary64, sub, lt, eq, fits}
use Rattle.game.specs.Finite.{◌∈◌, all, below, filter}
use Rattle.game.proofs.Finite.{and_T, below_mem, filter_mem}
use Rattle.payoff_order.specs.Order.{finite, rank}
use Rattle.payoff_order.proofs.Laws.{lt_rank}
use Rattle.sums.specs.Sums.{zero as nought}
use Rattle.gains.specs.Gains.{changes_from, changes, gain, greatest_from}
use Rattle.gains.specs.Meaning.{GreatestFrom}
use Rattle.gains.proofs.Greatest.{greatest_from_law}
use Rattle.gains.proofs.Laws.{changes_law}
use Rattle.whole_numbers.specs.Whole.{Times, AllTimes, no_more, next, whole_products}
use Rattle.whole_numbers.specs.Gains.{parts, max_payoff, GridPayoff, GridWeight, whole_gain, greatest_whole}
use Rattle.whole_numbers.proofs.Integers.{size_neg, size_mul, size_plus, above, lt_one_way, not_lt_joined}
use Rattle.whole_numbers.proofs.Exact.{sub_exact, lt_whole}
use Rattle.whole_numbers.proofs.Numbers.{zero_whole, nothing_whole, finite_whole, some_whole}
use Rattle.whole_numbers.proofs.Sums.{total, products_exact}

-- ---- payoffs

-- ranks compare as whole numbers do
pub rank_whole : (x y : Float) (a b : ℤ) → T (fits binary64 x) → T (fits binary64 y) → Times 1 x a → Times 1 y b → ltb (rank x) (rank y) ≡ lt_z a b
rank_whole x y a b h k p q = sym (lt_rank x y h k (finite_whole 1 x a p) (finite_whole 1 y b q)) ∙ lt_whole 1 (lit< tt) x y a b p q

-- every whole number to 2^20 is a payoff, and every number of parts to 65,536 a weight
pub payoff_some : (z : ℤ) → nat_abs z ≤ max_payoff → (x : Float) × T (fits binary64 x) × GridPayoff x z
payoff_some z most = let (x, f, t) = some_whole 0 zero-le z (omega arith) in (x, f, record { whole = t; most = most })

pub weight_some : (k : ℕ) → k ≤ parts → (x : Float) × T (fits binary64 x) × GridWeight x k
weight_some k most = let (x, f, t) = some_whole 16 (lit≤ tt) (pos k) (omega arith) in (x, f, record { whole = t; most = most })

-- ---- exact

-- a difference of payoffs
difference : (a b : ℤ) → nat_abs a ≤ max_payoff → nat_abs b ≤ max_payoff → nat_abs (a -ℤ b) ≤ 2 ^ 21
difference a b h k = omega (arith, size_plus a (neg_ℤ b), size_neg b)

-- products of small numbers are together no more than the weights times the bound
sizes : {I : Type 0} (w : I → ℕ) (d : I → ℤ) (is : List I) → ((i : I) → i ∈ is → nat_abs (d i) ≤ 2 ^ 21)
    → total (λ i. nat_abs (pos (w i) *ℤ d i)) is ≤ total w is * 2 ^ 21
sizes w d [] h = zero-le
sizes w d (i ∷ is) h =
    omega (arith, size_mul (pos (w i)) (d i), mul-le-mul_left (w i) (h i (here refl)), sizes w d is (λ j k. h j (there k)))

-- few weights of at most 1 each
pub few_weights : {I : Type 0} (w : I → ℕ) (is : List I) → ((i : I) → i ∈ is → w i ≤ parts) → length is < parts → total w is < 2 ^ 32
few_weights {I} w is h few = omega (arith, go is h)
  where
    go : (is : List I) → ((i : I) → i ∈ is → w i ≤ parts) → total w is ≤ length is * parts
    go [] h = zero-le
    go (i ∷ is) h = omega (arith, h i (here refl), go is (λ j k. h j (there k)))

-- ---- weights under greater payoffs

weighed : {I : Type 0} (w : I → ℕ) (d : I → ℤ) (is : List I) → ((i : I) → i ∈ is → (j : ℕ) × (d i ≡ pos (suc j)))
    → (m : ℕ) × (whole_products (λ i. pos (w i)) d is ≡ pos m) × (m ≡ 0 → (i : I) → i ∈ is → w i ≡ 0)
weighed w d [] h = (0, refl, λ _ i k. absurd (not-in-nil k))
weighed {I} w d (i ∷ is) h =
    let (j, e) = h i (here refl) in
    let (m, p, nothing) = weighed w d is (λ o k. h o (there k)) in (
      w i * suc j + m,
      rw (e, p),
      λ (q : w i * suc j + m ≡ 0) o k.
          ⊎_elim (λ (r : o ≡ i). ap w r ∙ omega arith) (λ l. nothing (omega arith) o l) (in-cons k),
    )

-- ---- gains

module _ {I : Type 0} (weight payoff : ℕ → I → Float) (others : List I) (w : ℕ → I → ℕ) (u : ℕ → I → ℤ) (s t : ℕ)
    (weights : (o : I) → o ∈ others → Times parts (weight s o) (pos (w s o)))
    (old : (o : I) → o ∈ others → GridPayoff (payoff s o) (u s o)) (new : (o : I) → o ∈ others → GridPayoff (payoff t o) (u t o)) where
  change : (o : I) → o ∈ others → nat_abs (u t o -ℤ u s o) ≤ 2 ^ 21
  change o h = difference (u t o) (u s o) (new o h).most (old o h).most

  pub gain_exact : total (w s) others < 2 ^ 32 → Times parts (gain weight payoff others s t) (whole_gain w u others s t)
  gain_exact small =
      products_exact 16 0 (lit≤ tt) (weight s) (λ o. sub binary64 (payoff t o) (payoff s o)) (λ o. pos (w s o)) (λ o. u t o -ℤ u s o) others weights
      (λ o h. sub_exact 0 zero-le (payoff t o) (payoff s o) (u t o) (u s o) (new o h).whole (old o h).whole (omega (arith, change o h)))
      (omega (arith, sizes (w s) (λ o. u t o -ℤ u s o) others change))

  -- where t pays more than s against every choice of the others, a gain that is not above 0 leaves
  -- s no weight
  no_weight : total (w s) others < 2 ^ 32 → ((o : I) → o ∈ others → T (lt_z (u s o) (u t o)))
      → lt nought (gain weight payoff others s t) ≡ false → (o : I) → o ∈ others → w s o ≡ 0
  no_weight small better e =
      let (m, is, nothing) = weighed (w s) (λ o. u t o -ℤ u s o) others (λ o h. above (u s o) (u t o) (better o h)) in
      let compared : lt nought (gain weight payoff others s t) ≡ lt_z (pos 0) (pos m) =
      lt_whole parts (lit< tt) nought (gain weight payoff others s t) (pos 0) (pos m) (zero_whole parts)
      (subst (Times parts (gain weight payoff others s t)) is (gain_exact small)) in
      nothing (let l = ltb-false 0 m (sym compared ∙ e) in omega arith)

-- ---- lists of gains

module _ (d : ℕ) where
  -- the lists have the same length, and at each place d times the number is the whole number
  pub all_times_law : (xs : List Float) (zs : List ℤ)
      → AllTimes d xs zs ↔ ((length xs ≡ length zs) × ((i : ℕ) → i < length xs → Times d (get_or xs i nan) (get_or zs i (pos 0))))
  all_times_law xs zs = (λ h. (long h, at h), λ h. of xs zs h.0 h.1)
    where
      long : {xs : List Float} {zs : List ℤ} → AllTimes d xs zs → length xs ≡ length zs
      long no_more = refl
      long (next t h) = ap suc (long h)

      at : {xs : List Float} {zs : List ℤ} → AllTimes d xs zs → (i : ℕ) → i < length xs → Times d (get_or xs i nan) (get_or zs i (pos 0))
      at no_more i l = absurd (omega arith)
      at (next t h) zero l = t
      at (next t h) (suc i) l = at h i (omega arith)

      of : (xs : List Float) (zs : List ℤ) → length xs ≡ length zs
          → ((i : ℕ) → i < length xs → Times d (get_or xs i nan) (get_or zs i (pos 0))) → AllTimes d xs zs
      of [] [] e h = no_more
      of [] (z ∷ zs) e h = absurd (omega arith)
      of (x ∷ xs) [] e h = absurd (omega arith)
      of (x ∷ xs) (z ∷ zs) e h = next (h 0 (omega arith)) (of xs zs (omega arith) (λ i l. h (suc i) (omega arith)))

  pub times_append : {xs ys : List Float} {zs ws : List ℤ} → AllTimes d xs zs → AllTimes d ys ws → AllTimes d (xs ++ ys) (zs ++ ws)
  times_append no_more k = k
  times_append (next t h) k = next t (times_append h k)

  times_map : {A : Type 0} (f : A → Float) (g : A → ℤ) (is : List A) → ((a : A) → a ∈ is → Times d (f a) (g a)) → AllTimes d (map f is) (map g is)
  times_map f g [] h = no_more
  times_map f g (a ∷ is) h = next (h a (here refl)) (times_map f g is (λ b k. h b (there k)))

  times_flat_map : {A : Type 0} (f : A → List Float) (g : A → List ℤ) (is : List A) → ((a : A) → a ∈ is → AllTimes d (f a) (g a))
      → AllTimes d (flat_map f is) (flat_map g is)
  unfolding flat_map
  times_flat_map f g [] h = no_more
  times_flat_map f g (a ∷ is) h = times_append (h a (here refl)) (times_flat_map f g is (λ b k. h b (there k)))

  -- every change of a strategy for another
  times_changes : (f : ℕ → ℕ → Float) (g : ℕ → ℕ → ℤ) (count : ℕ) → ((s t : ℕ) → s < count → t < count → Times d (f s t) (g s t))
      → AllTimes d (changes f count) (changes g count)
  times_changes f g count h =
      times_flat_map (changes_from f count) (changes_from g count) (below count)
      (λ s i.
      times_map (f s) (g s) (filter (λ t. not (eqb t s)) (below count))
      (λ t k. h s t ((below_mem count s).0 i) ((below_mem count t).0 ((filter_mem (λ t. not (eqb t s)) (below count) t).0 k).0)))

  pub times_finite : {xs : List Float} {zs : List ℤ} → AllTimes d xs zs → T (all finite xs)
  times_finite no_more = tt
  times_finite (next {x = x} {z = z} {xs = xs} t h) = (and_T (finite x) (all finite xs)).1 (finite_whole d x z t, times_finite h)

  pub times_greatest : 0 < d → (b : Float) (y : ℤ) {xs : List Float} {zs : List ℤ} → Times d b y → AllTimes d xs zs
      → Times d (greatest_from lt b xs) (greatest_from lt_z y zs)
  times_greatest D b y k no_more = k
  times_greatest D b y k (next {x = x} {z = z} t h) =
      times_greatest D (cond (lt b x) x b) (cond (lt_z y z) z y) (rw (lt_whole d D b x y z k t) (either (lt_z y z))) h
    where
      either : (r : Bool) → Times d (cond r x b) (cond r z y)
      either true = t
      either false = k

-- no number of a list exceeds its greatest, which is 0, or one of them and above 0
pub greatest_whole_law : (zs : List ℤ) → GreatestFrom lt_z (pos 0) zs (greatest_whole zs)
greatest_whole_law zs =
    greatest_from_law lt_z (λ _. Unit {0}) (λ x y _ _. lt_one_way x y) (λ x y z _ _ _. not_lt_joined x y z) (pos 0) zs tt (λ _ _. tt)

module _ {I : Type 0} (weight payoff : ℕ → I → Float) (others : List I) (w : ℕ → I → ℕ) (u : ℕ → I → ℤ) (count : ℕ)
    (weighted : (s : ℕ) → s < count → (o : I) → o ∈ others → GridWeight (weight s o) (w s o))
    (paid : (s : ℕ) → s < count → (o : I) → o ∈ others → GridPayoff (payoff s o) (u s o)) (few : length others < parts) where
  -- the weights of a strategy together
  small : (s : ℕ) → s < count → total (w s) others < 2 ^ 32
  small s l = few_weights (w s) others (λ o h. (weighted s l o h).most) few

  -- each gain
  pub one_gain : (s t : ℕ) → s < count → t < count → Times parts (gain weight payoff others s t) (whole_gain w u others s t)
  one_gain s t l m = gain_exact weight payoff others w u s t (λ o h. (weighted s l o h).whole) (paid s l) (paid t m) (small s l)

  -- the list of them
  pub gains_exact : AllTimes parts (changes (gain weight payoff others) count) (changes (whole_gain w u others) count)
  gains_exact = times_changes parts (gain weight payoff others) (whole_gain w u others) count one_gain

  -- where no gain is above 0, a strategy has no weight if another one pays more against every
  -- choice of the others
  pub unweighted : ((x : Float) → x ∈ changes (gain weight payoff others) count → lt nought x ≡ false)
      → (s t : ℕ) → s < count → t < count → (t ≡ s → ⊥) → ((o : I) → o ∈ others → T (lt_z (u s o) (u t o)))
      → (o : I) → o ∈ others → eq (weight s o) nought ≡ true
  unweighted top s t l m apart better o h =
      let x = gain weight payoff others s t in
      nothing_whole parts (lit< tt) (weight s o)
      (subst (λ (k : ℕ). Times parts (weight s o) (pos k))
      (no_weight weight payoff others w u s t (λ o h. (weighted s l o h).whole) (paid s l) (paid t m) (small s l) better
      (top x ((changes_law (gain weight payoff others) count x).1 (record { from = s; to = t; strategy = l; change = m; another = apart; is = refl }))) o h)
      (weighted s l o h).whole)
