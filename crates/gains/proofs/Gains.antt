-- The best so far, raised by one gain after the other (`raise-append`, `raise-next`), is infinity
-- from a gain on that isn't finite (`raise-infinity`, `raise-stuck`), and the greatest of all where
-- all are finite (`raise-greatest`). Assumes nothing.
use mathlib.Core.Path.{◌≡◌, refl, sym, ap, ◌∙◌, subst}
use mathlib.Core.Bool.{Bool, true, false, cond, ◌&&◌, true≢false}
use mathlib.Core.Logic.{⊎_elim}
use mathlib.Core.List.{List, [], ◌∷◌, ◌++◌, flat_map}
use Prim.Native.Nat.{ℕ, zero, suc, ◌+◌, ◌≤◌, ◌<◌}
use native.Mathlib.Nat.{le_of_suc-le-suc, eq-or-lt_of_le}
use native.Mathlib.Numerals.{add-one}
use native.Mathlib.Omega.{arith}
use lib.Ieee.{Float, nan, inf, fin, lt, eq}
use Rattle.game.specs.Finite.{all, below}
use Rattle.game.proofs.Finite.{below_last, flat_map_last}
use Rattle.payoff_order.specs.Order.{finite}
use Rattle.gains.specs.Gains.{greatest_from}
use Rattle.gains.specs.Inner.{raise, raise_all}

pub raise_append : (best : Float) (xs ys : List Float) → raise_all best (xs ++ ys) ≡ raise_all (raise_all best xs) ys
raise_append best [] ys = refl
raise_append best (x ∷ xs) ys = raise_append (raise best x) xs ys

raise_once : (x : Float) → raise (inf false) x ≡ inf false
unfolding finite lt
raise_once nan = refl
raise_once (inf s) = refl
raise_once (fin s m e) = refl

-- nothing raises infinity
pub raise_infinity : (xs : List Float) → raise_all (inf false) xs ≡ inf false
raise_infinity [] = refl
raise_infinity (x ∷ xs) = ap (λ (b : Float). raise_all b xs) (raise_once x) ∙ raise_infinity xs

pub raise_greatest : (best : Float) (xs : List Float) → raise_all best xs ≡ cond (all finite xs) (greatest_from lt best xs) (inf false)
raise_greatest best [] = refl
raise_greatest best (x ∷ xs) = step (finite x) (raise_greatest (cond (lt best x) x best) xs)
  where
    step : (b : Bool)
        → raise_all (cond (lt best x) x best) xs ≡ cond (all finite xs) (greatest_from lt (cond (lt best x) x best) xs) (inf false)
        → raise_all (cond b (cond (lt best x) x best) (inf false)) xs ≡ cond (b && all finite xs) (greatest_from lt (cond (lt best x) x best) xs) (inf false)
    step true h = h
    step false h = raise_infinity xs

-- ---- lists of gains, one for each number below n

module _ (best : Float) (g : ℕ → List Float) where
  pub raise_next : (n : ℕ) → raise_all best (flat_map g (below (n + 1))) ≡ raise_all (raise_all best (flat_map g (below n))) (g n)
  raise_next n =
      ap (λ (m : ℕ). raise_all best (flat_map g (below m))) (add-one n)
      ∙ ap (λ (ns : List ℕ). raise_all best (flat_map g ns)) (below_last n)
      ∙ ap (raise_all best) (flat_map_last g (below n) n)
      ∙ raise_append best (flat_map g (below n)) (g n)

  -- infinity after some of them is infinity after all
  pub raise_stuck : (s n : ℕ) → s ≤ n → raise_all best (flat_map g (below s)) ≡ inf false → raise_all best (flat_map g (below n)) ≡ inf false
  raise_stuck s zero h e = let z : s ≡ 0 = omega arith in rw z at e
  raise_stuck s (suc n) h e =
      ⊎_elim (λ (q : s ≡ suc n). subst (λ (m : ℕ). raise_all best (flat_map g (below m)) ≡ inf false) q e)
      (λ (l : s < suc n).
      ap (λ (m : ℕ). raise_all best (flat_map g (below m))) (sym (add-one n))
      ∙ raise_next n
      ∙ ap (λ (b : Float). raise_all b (g n)) (raise_stuck s n (le_of_suc-le-suc l) e)
      ∙ raise_infinity (g n))
      (eq-or-lt_of_le h)

-- ---- infinity, as the code tests it

pub is_infinity : (x : Float) → eq x (inf false) ≡ true → x ≡ inf false
unfolding eq
is_infinity nan h = absurd (true≢false (sym h))
is_infinity (inf true) h = absurd (true≢false (sym h))
is_infinity (inf false) h = refl
is_infinity (fin s m e) h = absurd (true≢false (sym h))
