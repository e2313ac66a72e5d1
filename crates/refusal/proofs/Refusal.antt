-- What the refusals' definitions mean: every refusal has a number of its own, `when` and `_then_` in quantifiers, and `each` over 0 to
-- n - 1. Assumes nothing.
use mathlib.Core.Path.{◌≡◌, refl, sym, ap, ◌∙◌}
use mathlib.Core.Bool.{Bool, true, false, true≢false}
use mathlib.Core.List.{List, [], ◌∷◌, map}
use mathlib.Core.Logic.{◌↔◌, ◌⊎◌, inl, inr}
use mathlib.Core.Option.{none, some}
use Prim.Native.Nat.{ℕ, zero, suc, ◌≤◌, ◌<◌, zero-le, suc-le-suc}
use native.Mathlib.Nat.{not-suc-le-zero, le_of_suc-le-suc}
use native.Mathlib.Omega.{arith}
use lib.ListN.{get_or, get_or-eq_default}
use Rattle.game.specs.Finite.{below}
use Rattle.game.proofs.Finite.{at_most}
use Rattle.refusal.specs.Refusal.{Refusal, number_of, when, ◌then◌, each}
use Rattle.refusal.specs.declared.NormalFormError.{NormalFormError}
use Rattle.refusal.specs.declared.NormalFormError.TheVariants.{NoPlayers, TooManyPlayers, NoStrategies, TooManyStrategies, TooManyCells, PayoffCount, NonFiniteUtility, InvalidPlayer, OpponentProfileCount, InvalidOpponentStrategy, ProfileCount, InvalidStrategy, OutputTooShort, NoSurvivingStrategy, NotDominated, ForeignSurvivors, MissingWord, WrongKind, WrongPayload, TrailingWord}

-- ---- the numbers are 1 to 20, each of one refusal

-- all refusals, by their numbers
pub table : List NormalFormError
table =
    NoPlayers ∷ TooManyPlayers ∷ NoStrategies ∷ TooManyStrategies ∷ TooManyCells ∷ PayoffCount ∷ NonFiniteUtility ∷ InvalidPlayer
    ∷ OpponentProfileCount ∷ InvalidOpponentStrategy ∷ ProfileCount ∷ InvalidStrategy ∷ OutputTooShort ∷ NoSurvivingStrategy
    ∷ NotDominated ∷ ForeignSurvivors ∷ MissingWord ∷ WrongKind ∷ WrongPayload ∷ TrailingWord ∷ []

pub numbers : map number_of table ≡ map suc (below 20)
unfolding table
numbers = refl

-- every refusal stands in the table at its number
placed : (e : NormalFormError) → get_or (NoPlayers ∷ table) (number_of e) NoPlayers ≡ e
unfolding table
placed NoPlayers = refl
placed TooManyPlayers = refl
placed NoStrategies = refl
placed TooManyStrategies = refl
placed TooManyCells = refl
placed PayoffCount = refl
placed NonFiniteUtility = refl
placed InvalidPlayer = refl
placed OpponentProfileCount = refl
placed InvalidOpponentStrategy = refl
placed ProfileCount = refl
placed InvalidStrategy = refl
placed OutputTooShort = refl
placed NoSurvivingStrategy = refl
placed NotDominated = refl
placed ForeignSurvivors = refl
placed MissingWord = refl
placed WrongKind = refl
placed WrongPayload = refl
placed TrailingWord = refl

-- so a number tells which refusal it is
pub number_once : (d e : NormalFormError) → number_of d ≡ number_of e → d ≡ e
number_once d e h = sym (placed d) ∙ ap (λ (n : ℕ). get_or (NoPlayers ∷ table) n NoPlayers) h ∙ placed e

-- and no number is 0
pub number_some : (e : NormalFormError) → number_of e ≡ 0 → ⊥
number_some e h =
    let is : NoPlayers ≡ e = sym (ap (λ (n : ℕ). get_or (NoPlayers ∷ table) n NoPlayers) h) ∙ placed e in
    let one : 1 ≡ number_of e = ap number_of is in
    omega (arith, one)

-- or over 20
pub number_most : (e : NormalFormError) → number_of e ≤ 20
unfolding table
number_most e =
    at_most (number_of e) 20 (λ (h : 20 < number_of e).
    let is : NoPlayers ≡ e = sym (get_or-eq_default (NoPlayers ∷ table) NoPlayers {n = number_of e} h) ∙ placed e in
    omega (arith, h, ap number_of is))

-- ---- the order of refusals

pub some_none : (e : NormalFormError) → some e ≡ none → ⊥
some_none e h = let z : ◌≡◌ {A = ℕ} 0 1 = cc in omega arith

-- `when b e` is none exactly where the test fails
pub when_none : (b : Bool) (e : NormalFormError) → (when b e ≡ none) ↔ (b ≡ false)
when_none true e = (λ h. absurd (some_none e h), λ h. absurd (true≢false h))
when_none false e = (λ h. refl, λ h. refl)

-- `a then b` is none where both are, and else the first that is not
pub then_none : (a b : Refusal) → ((a then b) ≡ none) ↔ ((a ≡ none) × (b ≡ none))
then_none none b = (λ h. (refl, h), λ h. h.1)
then_none (some e) b = (λ h. (h, absurd (some_none e h)), λ h. h.0)

pub then_some : (a b : Refusal) (e : NormalFormError) → ((a then b) ≡ some e) ↔ ((a ≡ some e) ⊎ ((a ≡ none) × (b ≡ some e)))
then_some none b e = (λ h. inr (refl, h), λ h. elim h [ inl g ↦ absurd (some_none e (sym g)) | inr g ↦ g.1 ])
then_some (some d) b e = (λ h. inl h, λ h. elim h [ inl g ↦ g | inr g ↦ absurd (some_none d g.0) ])

-- refusals in a row may be taken together
pub then_assoc : (a b c : Refusal) → ((a then b) then c) ≡ (a then b then c)
then_assoc none b c = refl
then_assoc (some e) b c = refl

pub then_last : (a : Refusal) → (a then none) ≡ a
then_last none = refl
then_last (some e) = refl

-- ---- one after the other

each_map : (f : ℕ → Refusal) (ps : List ℕ) → each f (map suc ps) ≡ each (λ p. f (suc p)) ps
each_map f [] = refl
each_map f (p ∷ ps) = ap (λ r. f (suc p) then r) (each_map f ps)

-- `each f (below n)` is none exactly where f is none at every number below n
pub each_none : (n : ℕ) (f : ℕ → Refusal) → ((p : ℕ) → p < n → f p ≡ none) → each f (below n) ≡ none
each_none zero f h = refl
each_none (suc n) f h =
    (then_none (f 0) (each f (map suc (below n)))).1
    (h 0 (suc-le-suc zero-le), each_map f (below n) ∙ each_none n (λ p. f (suc p)) (λ p l. h (suc p) (suc-le-suc l)))

pub none_each : (n : ℕ) (f : ℕ → Refusal) → each f (below n) ≡ none → (p : ℕ) → p < n → f p ≡ none
none_each zero f h p l = absurd (not-suc-le-zero l)
none_each (suc n) f h zero l = ((then_none (f 0) (each f (map suc (below n)))).0 h).0
none_each (suc n) f h (suc p) l =
    none_each n (λ q. f (suc q)) (sym (each_map f (below n)) ∙ ((then_none (f 0) (each f (map suc (below n)))).0 h).1) p (le_of_suc-le-suc l)

-- and it is the refusal at the first number that has one
pub each_some : (n : ℕ) (f : ℕ → Refusal) (p : ℕ) (e : NormalFormError)
    → p < n → ((q : ℕ) → q < p → f q ≡ none) → f p ≡ some e → each f (below n) ≡ some e
each_some zero f p e l h g = absurd (not-suc-le-zero l)
each_some (suc n) f zero e l h g = (then_some (f 0) (each f (map suc (below n))) e).1 (inl g)
each_some (suc n) f (suc p) e l h g =
    (then_some (f 0) (each f (map suc (below n))) e).1
    (inr
    (h 0 (suc-le-suc zero-le), each_map f (below n) ∙ each_some n (λ q. f (suc q)) p e (le_of_suc-le-suc l) (λ q k. h (suc q) (suc-le-suc k)) g))
