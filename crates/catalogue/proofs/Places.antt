-- The place of a key is the first at which it stands (`place-law`), so two keys of a list have the same place exactly where they are the
-- same (`same_place`). Assumes nothing.
use mathlib.Core.Path.{◌≡◌, refl, sym, ap, ◌∙◌}
use mathlib.Core.Bool.{Bool, true, false, cond}
use mathlib.Core.List.Memᴰ.{cases_cons as in-cons}
use mathlib.Core.List.Memᴰ.{not-nil as not-in-nil}
use mathlib.Core.List.{List, [], ◌∷◌}
use mathlib.Core.Logic.{◌↔◌, ⊎_elim}
use mathlib.Core.Option.{Option, none, some}
use Prim.Native.Nat.{ℕ, suc, ◌<◌}
use native.Mathlib.Omega.{arith}
use lib.Dec.{ltb, eqb}
use lib.ListN.{length, get_or}
use Rattle.game.specs.Finite.{◌∈◌, below, filter, First}
use Rattle.game.proofs.Finite.{eqb_T}
use Rattle.game.proofs.Sorted.{lists_iff, lists_filter, first_law, less_asym, below_law, lowest_none, lowest_some}
use Rattle.std.specs.Prelude.{position, Some, None}
use Rattle.std.specs.List.{position_or_len}
use Rattle.std.proofs.lemmas.Bool.{eqb-true, eq-eqb, ltb-true, ltb-false}
use Rattle.std.proofs.lemmas.List.Sums.{passes_at_first, fails_before_first}
use Rattle.refusal.specs.Told.{optional}
use Rattle.catalogue.specs.Catalogue.{place}
use Rattle.catalogue.specs.Meaning.{Stands}

-- the first place at which k stands
pub place_law : (ks : List ℕ) (k : ℕ) → First ◌<◌ (Stands ks k) (place ks k)
unfolding place
place_law ks k =
    let f : ℕ → Bool = λ i. eqb (get_or ks i 0) k in
    first_law less_asym (filter f (below (length ks)))
    (lists_iff
    (λ i. (λ h. (h.0, (eqb_T (get_or ks i 0) k).0 h.1), λ h. (h.0, (eqb_T (get_or ks i 0) k).1 h.1)))
    (lists_filter f (below (length ks)) (below_law (length ks))))

-- a key of the list stands somewhere
stands : (ks : List ℕ) (k : ℕ) → k ∈ ks → (n : ℕ) × Stands ks k n
stands [] k h = absurd (not-in-nil h)
stands (x ∷ xs) k h =
    ⊎_elim (λ (e : k ≡ x). (0, (omega arith, sym e))) (λ l. let (n, s) = stands xs k l in (suc n, (omega (arith, s.0), s.1))) (in-cons h)

-- so it has a place
pub placed : (ks : List ℕ) (k : ℕ) → k ∈ ks → (n : ℕ) × (place ks k ≡ some n) × Stands ks k n
placed ks k h = go (place ks k) refl (place_law ks k)
  where
    go : (o : Option ℕ) → place ks k ≡ o → First ◌<◌ (Stands ks k) o → (n : ℕ) × (place ks k ≡ some n) × Stands ks k n
    go none e l = let (n, s) = stands ks k h in absurd (l n s)
    go (some n) e l = (n, e, l.0)

-- two keys have the same place exactly where they are the same
pub same_place : (ks : List ℕ) (j k : ℕ) → j ∈ ks → k ∈ ks → (place ks j ≡ place ks k) ↔ (j ≡ k)
same_place ks j k h l =
    let (m, d, s) = placed ks j h in
    let (n, e, t) = placed ks k l in
    (λ p. let q : m ≡ n = cc in sym s.1 ∙ ap (λ (i : ℕ). get_or ks i 0) q ∙ t.1, λ p. ap (place ks) p)

-- the library's first place of a key is this one
module _ (ks : List ℕ) (k : ℕ) where
  at_first : (b : Bool) → ltb (position_or_len (λ x. eqb x k) ks) (length ks) ≡ b → optional (cond b (Some (position_or_len (λ x. eqb x k) ks)) None) ≡ place ks k
  at_first true e =
      let n = position_or_len (λ x. eqb x k) ks in
      let l : n < length ks = ltb-true n (length ks) e in
      sym
      (lowest_some (Stands ks k) (place ks k) (place_law ks k) n (l, eqb-true (get_or ks n 0) k (passes_at_first (λ x. eqb x k) ks 0 l))
      (λ j m s. let t = eq-eqb (get_or ks j 0) k s.1 in let f = fails_before_first (λ x. eqb x k) ks j 0 m in cc))
  at_first false e =
      let n = position_or_len (λ x. eqb x k) ks in
      sym (lowest_none (Stands ks k) (place ks k) (place_law ks k) (λ j s.
      let t = eq-eqb (get_or ks j 0) k s.1 in
      let f = fails_before_first (λ x. eqb x k) ks j 0 (omega (arith, s.0, ltb-false n (length ks) e)) in
      cc))

  pub position_place : optional (position (λ x. eqb x k) ks) ≡ place ks k
  position_place = at_first (ltb (position_or_len (λ x. eqb x k) ks) (length ks)) refl
