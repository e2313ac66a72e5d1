-- Where every piece of 1,024 values passes the finite check, all values do (`pieces_pass`), and
-- where one does not, neither do all (`piece_fails`). Assumes nothing.
use mathlib.Core.Path.{◌≡◌, refl, ap, ◌∙◌, subst}
use mathlib.Core.Bool.{Bool, true, false, ◌&&◌}
use mathlib.Core.List.{List}
use Prim.Native.Nat.{ℕ, ◌+◌, ◌*◌, ◌-◌, ◌/◌, ◌<◌}
use native.Mathlib.Omega.{arith}
use lib.Dec.{T}
use lib.ListN.{length, take, drop, get_or, length-take, length-drop}
use lib.Seq.{get_or-take, get_or-drop}
use lib.Ieee.{Float, nan}
use Rattle.std.specs.Prelude.{Option, Some, None}
use Rattle.std.specs.Option.{IfSome, IsSomeAnd, option_map}
use Rattle.std.proofs.Common.{Bor}
use Rattle.game.specs.Finite.{all}
use Rattle.payoff_order.specs.Order.{finite}
use Rattle.payoff_order.proofs.All.{all_at, at_all, all_run, all_start}

-- ---- an item of a run

pub if_some : {A : Type 0} {P Q : A → Type 0} (o : Option A) → ((x : A) → P x → Q x) → IfSome o P → IfSome o Q
if_some None f h = h
if_some (Some x) f h = f x h

pub is_there : {A : Type 0} (o : Option A) (v : A) → option_map (λ y. y) o ≡ Some v → IsSomeAnd o (λ x. Unit {0})
is_there None v h = cc
is_there (Some x) v h = tt

pub item_passes : (o : Option (Bor (List Float))) (xs : List Float) → IsSomeAnd o (λ x. Unit {0}) → IfSome o (λ x. all finite x.now ≡ true) → IfSome o (λ x. x.now ≡ xs)
    → all finite xs ≡ true
item_passes None xs t h e = absurd t
item_passes (Some x) xs t h e = subst (λ (ys : List Float). all finite ys ≡ true) e h

pub item_fails : (o : Option (Bor (List Float))) (xs : List Float) → IsSomeAnd o (λ x. all finite x.now ≡ false) → IfSome o (λ x. x.now ≡ xs) → all finite xs ≡ false
item_fails None xs h e = absurd h
item_fails (Some x) xs h e = subst (λ (ys : List Float). all finite ys ≡ false) e h

-- ---- the pieces

and_false : (b : Bool) → (b && false) ≡ false
and_false true = refl
and_false false = refl

module _ (xs : List Float) where
  pub pieces_pass : ((k : ℕ) → k * 1024 < length xs → all finite (take 1024 (drop (k * 1024) xs)) ≡ true) → all finite xs ≡ true
  pieces_pass h = at_all finite nan xs each
    where
      each : (i : ℕ) → i < length xs → T (finite (get_or xs i nan))
      each i l =
          let k : ℕ = i / 1024 in
          let j : ℕ = i - k * 1024 in
          let piece : List Float = take 1024 (drop (k * 1024) xs) in
          let long : j < length piece = rw (length-take, length-drop) (omega arith) in
          let back : k * 1024 + j ≡ i = omega arith in
          subst (λ (x : Float). T (finite x))
          (get_or-take 1024 (drop (k * 1024) xs) j nan (omega arith) ∙ get_or-drop (k * 1024) xs j nan ∙ ap (λ (n : ℕ). get_or xs n nan) back)
          (all_at finite nan piece j (h k (omega arith)) long)

  pub piece_fails : (a : ℕ) → all finite (take 1024 (drop a xs)) ≡ false → all finite xs ≡ false
  piece_fails a h =
      let size : a + 1024 - a ≡ 1024 = omega arith in
      all_start finite xs (a + 1024)
      (all_run finite xs a (a + 1024) (omega arith)
      ∙ ap (λ (n : ℕ). all finite (take a xs) && all finite (take n (drop a xs))) size
      ∙ ap (λ (b : Bool). all finite (take a xs) && b) h
      ∙ and_false (all finite (take a xs)))

-- an answer that is yes and no where another is
pub same_answer : (a b : Bool) → (a ≡ true → b ≡ true) → (a ≡ false → b ≡ false) → a ≡ b
same_answer true true f g = refl
same_answer true false f g = let e = f refl in cc
same_answer false true f g = let e = g refl in cc
same_answer false false f g = refl
