-- How many profiles pass a test that passes for some choice of one player, whatever the others choose: at least as many as the others have
-- choices. So a player's choice is a best response in at least that many profiles. Assumes nothing.
use mathlib.Core.Path.{◌≡◌, refl, ap, ◌∙◌, fun_ext}
use mathlib.Core.Bool.{Bool, true, false, cond}
use mathlib.Core.List.Memᴰ.{cases_cons as in-cons}
use mathlib.Core.List.Memᴰ.{head as here}
use mathlib.Core.List.Memᴰ.{not-nil as not-in-nil}
use mathlib.Core.List.Memᴰ.{tail as there}
use mathlib.Core.List.{List, [], ◌∷◌, map, flat_map}
use mathlib.Core.Logic.{⊎_elim}
use Prim.Native.Nat.{ℕ, zero, suc, ◌+◌, ◌*◌, ◌≤◌, ◌<◌}
use native.Mathlib.Nat.{not-suc-le-zero, le_of_suc-le-suc, zero-mul, one-mul, suc-mul, mul_assoc}
use native.Mathlib.Omega.{arith}
use lib.Dec.{T}
use lib.ListN.{length, get_or, set, take, drop, length-append}
use lib.Seq.{get_or-set_same}
use Rattle.game.specs.Finite.{◌∈◌, below, sum, product, filter}
use Rattle.game.specs.Game.{Game, players, count, choice, Profile, profiles, Marks}
use Rattle.game.specs.Solution.{best_response}
use Rattle.game.proofs.Finite.{test_true, below_mem, length_below, filter_append}
use Rattle.game.proofs.Game.{cons_profile, profiles_law, length_profiles}
use Rattle.game.proofs.Solution.{best_response_law, best_responses_law, best_place, best_exists}

-- ---- counting what passes

module _ {A B : Type 0} (f : B → Bool) where
  -- of a mapped list,
  filter_map : (h : A → B) (xs : List A) → length (filter f (map h xs)) ≡ length (filter (λ a. f (h a)) xs)
  filter_map h [] = refl
  filter_map h (x ∷ xs) = step (f (h x)) (filter_map h xs)
    where
      step : (b : Bool) → length (filter f (map h xs)) ≡ length (filter (λ a. f (h a)) xs)
          → length (cond b (h x ∷ filter f (map h xs)) (filter f (map h xs))) ≡ length (cond b (x ∷ filter (λ a. f (h a)) xs) (filter (λ a. f (h a)) xs))
      step true e = ap suc e
      step false e = e

  -- and of lists joined
  filter_joined : (h : A → List B) (xs : List A) → length (filter f (flat_map h xs)) ≡ sum (map (λ a. length (filter f (h a))) xs)
  unfolding flat_map
  filter_joined h [] = refl
  filter_joined h (x ∷ xs) =
      ap length (filter_append f (h x) (flat_map h xs)) ∙ length-append (filter f (h x)) (filter f (flat_map h xs))
      ∙ ap (λ n. length (filter f (h x)) + n) (filter_joined h xs)

-- each part of a sum is at least n
sum_least : {A : Type 0} (f : A → ℕ) (n : ℕ) (xs : List A) → ((a : A) → a ∈ xs → n ≤ f a) → length xs * n ≤ sum (map f xs)
sum_least f n [] h = rw zero-mul (omega arith)
sum_least f n (x ∷ xs) h = omega (arith, suc-mul (length xs) n, h x (here refl), sum_least f n xs (λ a k. h a (there k)))

-- Pairs that pass.
module _ {A B : Type 0} (f : A → B → Bool) where
  -- one y more
  pub pairs_more : (y : B) (ys : List B) (ss : List A)
      → sum (map (λ s. length (filter (f s) (y ∷ ys))) ss) ≡ length (filter (λ s. f s y) ss) + sum (map (λ s. length (filter (f s) ys)) ss)
  pairs_more y ys [] = omega arith
  pairs_more y ys (s ∷ ss) = step (f s y) (pairs_more y ys ss)
    where
      step : (b : Bool) → sum (map (λ s. length (filter (f s) (y ∷ ys))) ss) ≡ length (filter (λ s. f s y) ss) + sum (map (λ s. length (filter (f s) ys)) ss)
          → length (cond b (y ∷ filter (f s) ys) (filter (f s) ys)) + sum (map (λ s. length (filter (f s) (y ∷ ys))) ss)
          ≡ length (cond b (s ∷ filter (λ s. f s y) ss) (filter (λ s. f s y) ss)) + (length (filter (f s) ys) + sum (map (λ s. length (filter (f s) ys)) ss))
      step true e = omega arith
      step false e = omega arith

  some : (g : A → Bool) (ss : List A) (s : A) → s ∈ ss → T (g s) → 0 < length (filter g ss)
  some g [] s k h = absurd (not-in-nil k)
  some g (t ∷ ss) s k h =
      ⊎_elim (λ (e : s ≡ t). rw (test_true (g t) (rw e at h)) (omega arith)) (λ k. step (g t) (some g ss s k h)) (in-cons k)
    where
      step : (b : Bool) → 0 < length (filter g ss) → 0 < length (cond b (t ∷ filter g ss) (filter g ss))
      step true l = omega arith
      step false l = l

  -- where every y has an s that passes with it, as many pairs pass as there are y at least
  pub covered : (ss : List A) (ys : List B) → ((y : B) → y ∈ ys → (s : A) × (s ∈ ss) × T (f s y))
      → length ys ≤ sum (map (λ s. length (filter (f s) ys)) ss)
  covered ss [] h = omega arith
  covered ss (y ∷ ys) h =
      let (s, k, t) = h y (here refl) in
      omega (arith, pairs_more y ys ss, some (λ s. f s y) ss s k t, covered ss ys (λ z l. h z (there l)))

-- ---- profiles

-- how many choices the others have
abbrev pub rows : List ℕ → ℕ → ℕ
rows cs p = product (take p cs) * product (drop (suc p) cs)

-- those that pass, by the first player's choice
by_first : (c : ℕ) (cs : List ℕ) (f : List ℕ → Bool)
    → length (filter f (profiles (c ∷ cs))) ≡ sum (map (λ s. length (filter (λ y. f (s ∷ y)) (profiles cs))) (below c))
unfolding profiles
by_first c cs f =
    filter_joined f (λ s. map (λ x. s ∷ x) (profiles cs)) (below c)
    ∙ ap (λ g. sum (map g (below c))) (fun_ext (λ s. filter_map f (λ x. s ∷ x) (profiles cs)))

-- A test of profiles that passes for some choice of player p, whatever the others choose, passes for at least so many.
rows_pass : (cs : List ℕ) (p : ℕ) (f : List ℕ → Bool) → p < length cs → 0 < get_or cs p 0
    → ((x : List ℕ) → Profile cs x → (t : ℕ) × (t < get_or cs p 0) × T (f (set x p t)))
    → rows cs p ≤ length (filter f (profiles cs))
rows_pass [] p f l some h = absurd (not-suc-le-zero l)
rows_pass (c ∷ cs) zero f l some h =
    let each = covered (λ s y. f (s ∷ y)) (below c) (profiles cs) (λ y k.
    let (t, i, passes) = h (0 ∷ y) (cons_profile c 0 cs y some (((profiles_law cs).members y).0 k)) in (t, (below_mem c t).1 i, passes)) in
    omega (arith, one-mul (product cs), length_profiles cs, by_first c cs f, each)
rows_pass (c ∷ cs) (suc p) f l some h =
    let each = sum_least (λ s. length (filter (λ y. f (s ∷ y)) (profiles cs))) (rows cs p) (below c) (λ s k.
    rows_pass cs p (λ y. f (s ∷ y)) (le_of_suc-le-suc l) some (λ y r. h (s ∷ y) (cons_profile c s cs y ((below_mem c s).0 k) r))) in
    omega (arith, mul_assoc c (product (take p cs)) (product (drop (suc p) cs)), ap (λ n. n * rows cs p) (length_below c), by_first c cs f, each)

-- In at least so many profiles player p's choice is a best response, where p has a marked strategy.
pub best_rows : (g : Game) (m : Marks) (p s : ℕ) → p < players g → s < count g p → T (m p s)
    → rows g.counts p ≤ length (filter (λ x. best_response g m p x (choice x p)) (profiles g.counts))
best_rows g m p s l k h =
    rows_pass g.counts p (λ x. best_response g m p x (choice x p)) l (omega arith) (λ x r.
    let (b, i) = best_exists g m p x s k h in
    let (j, best) = ((best_responses_law g m p (set x p b)).members b).0 (rw (best_place g m p x b) i) in
    (b, j, rw (get_or-set_same x p b 0 (rw r.each l)) ((best_response_law g m p (set x p b) b).1 best)))
