-- Lists put one after the other are one list put. Assumes nothing.
use mathlib.Core.Path.{◌≡◌, refl, sym, ap, ap₂, ◌∙◌}
use mathlib.Core.List.{List, [], ◌∷◌, ◌++◌}
use mathlib.Core.Logic.{⊎_elim}
use Prim.Native.Nat.{ℕ, suc, ◌+◌, ◌≤◌, min}
use native.Mathlib.Omega.{arith}
use lib.ListN.{length, set, drop, length-append}
use lib.Seq.{sets, length-sets, set_out, sets-eq}
use Rattle.game.proofs.Finite.{le_or_lt}
use Rattle.outputs.specs.Put.{past, Puts}

module _ {A : Type 0} where
  -- nothing is stored past the end
  pub sets_out : (old : List A) (at : ℕ) (xs : List A) → length old ≤ at → sets old at xs ≡ old
  sets_out old at [] h = refl
  sets_out old at (x ∷ xs) h =
      let e = set_out old at x h in
      ap (λ (l : List A). sets l (suc at) xs) e ∙ sets_out old (suc at) xs (omega (arith, h))

  -- an element at a place past the end
  pub past_end : (old : List A) (at : ℕ) (x : A) → length old ≤ at → (length old ≡ past old at (x ∷ [])) × (old ≡ set old at x)
  past_end old at x h = (omega (arith, h), sym (set_out old at x h))

  sets_append : (old : List A) (at : ℕ) (xs ys : List A) → sets (sets old at xs) (at + length xs) ys ≡ sets old at (xs ++ ys)
  sets_append old at [] ys = ap (λ (k : ℕ). sets old k ys) (omega arith)
  sets_append old at (x ∷ xs) ys =
      let e : at + length (x ∷ xs) ≡ suc at + length xs = omega arith in
      ap (λ (k : ℕ). sets (sets (set old at x) (suc at) xs) k ys) e ∙ sets_append (set old at x) (suc at) xs ys

  module _ (old : List A) (at : ℕ) (xs ys : List A) where
    pub sets_more : sets (sets old at xs) (past old at xs) ys ≡ sets old at (xs ++ ys)
    sets_more =
        ⊎_elim
        (λ (h : at + length xs ≤ length old).
        let e : past old at xs ≡ at + length xs = omega (arith, h) in ap (λ (k : ℕ). sets (sets old at xs) k ys) e ∙ sets_append old at xs ys)
        (λ h.
        let e : past old at xs ≡ length old = omega (arith, h) in
        let n = length-sets old at xs in
        sets_out (sets old at xs) (past old at xs) ys (omega (arith, e, n))
        ∙ sym (sets_out (sets old at xs) (at + length xs) ys (omega (arith, h, n)))
        ∙ sets_append old at xs ys)
        (le_or_lt (at + length xs) (length old))

    pub past_more : past (sets old at xs) (past old at xs) ys ≡ past old at (xs ++ ys)
    past_more = let n = length-sets old at xs in let m = length-append xs ys in omega (arith, n, m)

  -- where there is room for all
  pub past_all : (old xs : List A) → length xs ≤ length old → past old 0 xs ≡ length xs
  past_all old xs h = omega (arith, h)

  pub sets_all : (old xs : List A) → length xs ≤ length old → sets old 0 xs ≡ xs ++ drop (length xs) old
  sets_all old xs h =
      let e : 0 + length xs ≡ length xs = omega arith in
      sets-eq xs old 0 (omega (arith, h)) ∙ ap (λ (k : ℕ). xs ++ drop k old) e

-- ---- as the contracts say it

module _ {A : Type 0} (old : List A) (at : ℕ) where
  pub puts_none : {end : ℕ} → end ≡ min (length old) at → Puts old at [] end old
  puts_none e = (omega (arith, e), refl)

  pub puts_more : (xs ys : List A) {r s : ℕ} {new newer : List A} → Puts old at xs r new → Puts new r ys s newer → Puts old at (xs ++ ys) s newer
  puts_more xs ys p q = (
    q.0 ∙ ap₂ (λ (l : List A) (k : ℕ). past l k ys) p.1 p.0 ∙ past_more old at xs ys,
    q.1 ∙ ap₂ (λ (l : List A) (k : ℕ). sets l k ys) p.1 p.0 ∙ sets_more old at xs ys,
  )

  -- the same list
  pub puts_same : {xs ys : List A} → xs ≡ ys → {r : ℕ} {new : List A} → Puts old at xs r new → Puts old at ys r new
  puts_same e p = (p.0 ∙ ap (past old at) e, p.1 ∙ ap (sets old at) e)

  -- the output keeps its length, and the place is within it
  pub puts_length : (xs : List A) {r : ℕ} {new : List A} → Puts old at xs r new → length new ≡ length old
  puts_length xs p = ap length p.1 ∙ length-sets old at xs

  pub puts_within : (xs : List A) {r : ℕ} {new : List A} → Puts old at xs r new → r ≤ length new
  puts_within xs p = omega (arith, p.0, puts_length xs p)
