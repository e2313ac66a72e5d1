-- What a caller knows once it knows what an answer told: which refusal applies, or none and the values; and the answer itself.
-- Assumes nothing.
use mathlib.Core.Path.{◌≡◌, refl, sym, ap, ◌∙◌}
use mathlib.Core.Bool.{Bool, true, false, not}
use mathlib.Core.Logic.{◌↔◌}
use mathlib.Core.Option.{none, some}
use Prim.Native.Nat.{ℕ, ◌≤◌}
use native.Mathlib.Omega.{arith}
use lib.Dec.{T, eqb}
use mir.Val.{bool_byte}
use Rattle.std.specs.Prelude.{Result, Ok, Err, IsErrAnd, Option as Answered, None, Some}
use Rattle.refusal.specs.Refusal.{Refusal, number_of, ◌then◌}
use Rattle.refusal.specs.declared.NormalFormError.{NormalFormError}
use Rattle.refusal.specs.Told.{Told, values, refused, unless, told_of, status, tells, told, optional, byte_of}
use Rattle.refusal.proofs.Refusal.{number_once, number_some, some_none}

module _ {A : Type 0} where
  -- values are no refusal
  pub apart : (v : A) (n : ℕ) → values v ≡ refused n → ⊥
  apart v n h = let z : ◌≡◌ {A = ℕ} 0 1 = cc in omega arith

  -- values were told: no refusal applies, and they are the values
  pub told_values : (r : Refusal) (v w : A) → values w ≡ unless r v → (r ≡ none) × (w ≡ v)
  told_values none v w h = (refl, cc)
  told_values (some e) v w h = absurd (apart w (number_of e) h)

  -- a number was told: a refusal applies, and the number is that refusal's
  pub told_refused : (r : Refusal) (v : A) (n : ℕ) → refused n ≡ unless r v → (e : NormalFormError) × (r ≡ some e) × (n ≡ number_of e)
  told_refused none v n h = absurd (apart v n (sym h))
  told_refused (some e) v n h = (e, refl, cc)

  module _ {B : Type 0} (r : Refusal) (v : A) (w : B) (n : ℕ) (h : refused n ≡ unless r v) where
    -- so it is told whatever the values were to be,
    pub refused_again : refused n ≡ unless r w
    refused_again = let t = told_refused r v n h in ap (λ (m : ℕ). refused m) t.2 ∙ sym (ap (λ (q : Refusal). unless q w) t.1)

    -- and whatever refusals were to follow
    pub refused_first : (s : Refusal) → refused n ≡ unless (r then s) w
    refused_first s = let t = told_refused r v n h in ap (λ (m : ℕ). refused m) t.2 ∙ sym (ap (λ (q : Refusal). unless (q then s) w) t.1)

  -- the status is 0, and values are told, exactly where no refusal applies
  pub status_law : (r : Refusal) (v : A) → (status (unless r v) ≡ 0) ↔ (r ≡ none)
  status_law none v = (λ h. refl, λ h. refl)
  status_law (some e) v = (λ h. absurd (number_some e h), λ h. absurd (some_none e h))

  pub tells_law : (r : Refusal) (v : A) → T (tells (unless r v)) ↔ (r ≡ none)
  tells_law none v = (λ h. refl, λ h. tt)
  tells_law (some e) v = (λ h. absurd h, λ h. absurd (some_none e h))

-- what is told of values is told unless the same refusal applies
pub told_of_lem : {A B : Type 0} (f : A → B) (r : Refusal) (v : A) → told_of f (unless r v) ≡ unless r (f v)
told_of_lem f none v = refl
told_of_lem f (some e) v = refl

-- and a refusal that is told of values is the one that is told
pub told_of_refused : {A B : Type 0} (f : A → B) (t : Told A) (n : ℕ) → told_of f t ≡ refused n → t ≡ refused n
told_of_refused f (values v) n h = absurd (apart (f v) n h)
told_of_refused f (refused m) n h = let is : m ≡ n = cc in ap (λ (k : ℕ). refused k) is

-- ---- what was told determines the answer, since each refusal has a number of its own

pub told_once : {A : Type 0} (r s : Result A NormalFormError) → told r ≡ told s → r ≡ s
told_once (Ok v) (Ok w) h = ap Ok (cc)
told_once (Ok v) (Err e) h = absurd (apart v (number_of e) h)
told_once (Err d) (Ok w) h = absurd (apart w (number_of d) (sym h))
told_once (Err d) (Err e) h = ap Err (number_once d e (cc))

-- nor do two answers have one value or none
pub optional_once : {A : Type 0} (a b : Answered A) → optional a ≡ optional b → a ≡ b
optional_once None None h = refl
optional_once None (Some w) h = cc
optional_once (Some v) None h = cc
optional_once (Some v) (Some w) h = ap Some (cc)

-- ---- a refusal that a `?` hands on

-- what is returned tells the refusal that the call told,
pub handed_on : {A : Type 0} (e : NormalFormError) (r : Result A NormalFormError) → IsErrAnd r (λ d. d ≡ e) → told r ≡ refused (number_of e)
handed_on e (Ok v) h = absurd h
handed_on e (Err d) h = ap (λ (x : NormalFormError). refused (number_of x)) h

-- whatever values were to be told, and whatever refusals were to follow
pub hands_on : {A B : Type 0} (e : NormalFormError) (r : Result A NormalFormError) (q s : Refusal) (v : B) (w : A)
    → IsErrAnd r (λ d. d ≡ e) → refused (number_of e) ≡ unless q v → told r ≡ unless (q then s) w
hands_on e r q s v w h g = handed_on e r h ∙ refused_first q v w (number_of e) g s

pub hands_on_last : {A B : Type 0} (e : NormalFormError) (r : Result A NormalFormError) (q : Refusal) (v : B) (w : A)
    → IsErrAnd r (λ d. d ≡ e) → refused (number_of e) ≡ unless q v → told r ≡ unless q w
hands_on_last e r q v w h g = handed_on e r h ∙ refused_again q v w (number_of e) g

-- ---- a truth value as a byte

-- the byte that the code makes of one
pub byte_is : (b : Bool) → bool_byte b ≡ byte_of b
byte_is true = refl
byte_is false = refl

-- a byte that is not 0 says yes, and so the byte tells which it was
pub byte_back : (b : Bool) → not (eqb (byte_of b) 0) ≡ b
byte_back true = refl
byte_back false = refl

-- it is at most 1
pub byte_most : (b : Bool) → byte_of b ≤ 1
byte_most true = omega arith
byte_most false = omega arith
