-- The opponents' choices: what stands where in the profile `against p opponents s`, what refusals 9 and 10 rule out (`opponents-law`), that
-- what is left is a profile (`against-profile`), and which calls refusals 1 to 10 let pass (`accepted-law`). Assumes nothing.
use mathlib.Core.Path.{◌≡◌, sym, ap, ◌∙◌}
use mathlib.Core.Bool.{false, not, ◌&&◌, and-false}
use mathlib.Core.List.{List, ◌∷◌}
use mathlib.Core.Logic.{◌↔◌, ◌≢◌}
use mathlib.Core.Option.{none, some}
use Prim.Native.Nat.{ℕ, suc, ◌+◌, ◌-◌, ◌≤◌, ◌<◌}
use native.Mathlib.Decide.{ℕ_discrete}
use native.Mathlib.Omega.{arith}
use borrow.Author.Tests.{eq-eqb, ne_eqb, lt-ltb, le-ltb, eqb-true, ltb-true, not-false}
use lib.Dec.{eqb, ltb}
use lib.ListN.{length, get_or, set, take, drop, length-append, length-drop, get_or-append}
use lib.Seq.{length-take-le, get_or-take, get_or-drop, get_or-append-add, get_or_at, set_at, get_or-set_other}
use lib.Ieee.{Float}
use Rattle.game.specs.Game.{choice, Profile}
use Rattle.refusal.specs.Refusal.{Refusal, when, ◌then◌, each}
use Rattle.refusal.specs.declared.NormalFormError.TheVariants.{OpponentProfileCount, InvalidOpponentStrategy}
use Rattle.refusal.proofs.Refusal.{when_none, then_none, each_none, each_some, none_each}
use Rattle.payoff_tables.specs.Meaning.{Table}
use Rattle.payoff_tables.specs.Checks.{table_refusal, player_refusal}
use Rattle.payoff_tables.proofs.Checks.{table_law, player_law}
use Rattle.responses.specs.Answers.{against, opponents_refusal}

-- ---- what stands where

module _ (p : ℕ) (opponents : List ℕ) (inside : p ≤ length opponents) where
  before : length (take p opponents) ≡ p
  before = length-take-le p opponents inside

  pub against_length : (s : ℕ) → length (against p opponents s) ≡ length opponents + 1
  against_length s =
      omega (arith, before, length-append (take p opponents) (s ∷ drop p opponents), length-drop p opponents)

  -- p's own place holds s,
  pub against_own : (s : ℕ) → choice (against p opponents s) p ≡ s
  against_own s = get_or_at (take p opponents) s (drop p opponents) 0 p before

  -- so that another choice of p is a change of that place alone
  pub set_against : (a s : ℕ) → set (against p opponents a) p s ≡ against p opponents s
  set_against a s = set_at (take p opponents) a (drop p opponents) s p before

  pub against_other : (s q : ℕ) → q ≢ p → choice (against p opponents s) q ≡ choice (against p opponents 0) q
  against_other s q d = ap (λ (x : List ℕ). choice x q) (sym (set_against 0 s)) ∙ get_or-set_other (against p opponents 0) p q s 0 d

  -- the places before it hold the first choices, and those after it the others
  pub against_before : (s q : ℕ) → q < p → choice (against p opponents s) q ≡ get_or opponents q 0
  against_before s q l = get_or-append (take p opponents) (s ∷ drop p opponents) 0 q (rw before l) ∙ get_or-take p opponents q 0 l

  pub against_after : (s q : ℕ) → p ≤ q → choice (against p opponents s) (q + 1) ≡ get_or opponents q 0
  against_after s q l =
      let k : ℕ = q - p in
      let e : q + 1 ≡ length (take p opponents) + suc k = omega (arith, before) in
      let f : p + k ≡ q = omega arith in
      ap (λ (n : ℕ). choice (against p opponents s) n) e
      ∙ get_or-append-add (take p opponents) (s ∷ drop p opponents) (suc k) 0
      ∙ get_or-drop p opponents k 0
      ∙ ap (λ (n : ℕ). get_or opponents n 0) f

-- ---- refusals 9 and 10

module _ (counts : List ℕ) (p : ℕ) (opponents : List ℕ) where
  -- q's choice
  abbrev chosen : ℕ → ℕ
  chosen q = choice (against p opponents 0) q

  refusal : ℕ → Refusal
  refusal q = when (not (eqb q p) && not (ltb (chosen q) (get_or counts q 0))) InvalidOpponentStrategy

  own : (q : ℕ) → q ≡ p → refusal q ≡ none
  unfolding refusal
  own q e = rw (eq-eqb q p e)

  fits : (q : ℕ) → chosen q < get_or counts q 0 → refusal q ≡ none
  unfolding refusal
  fits q h = rw (lt-ltb (chosen q) (get_or counts q 0) h, and-false (not (eqb q p)))

  over : (q : ℕ) → q ≢ p → get_or counts q 0 ≤ chosen q → refusal q ≡ some InvalidOpponentStrategy
  unfolding refusal
  over q d h = rw (ne_eqb q p d, le-ltb (chosen q) (get_or counts q 0) h)

  fits_other : (q : ℕ) → q ≢ p → refusal q ≡ none → chosen q < get_or counts q 0
  unfolding refusal
  fits_other q d h =
      let k : (not (eqb q p) && not (ltb (chosen q) (get_or counts q 0))) ≡ false = (when_none _ InvalidOpponentStrategy).0 h in
      ltb-true (chosen q) (get_or counts q 0) (not-false (ltb (chosen q) (get_or counts q 0)) (rw (ne_eqb q p d) at k))

  -- every opponent's choice of those before player n is below its count
  abbrev pub Fit : ℕ → Type 0
  Fit n = (q : ℕ) → q < n → q ≢ p → chosen q < get_or counts q 0

  fit : (n : ℕ) → Fit n → (q : ℕ) → q < n → refusal q ≡ none
  fit n h q l = go (ℕ_discrete q p)
    where
      go : Dec (q ≡ p) → refusal q ≡ none
      go (yes e) = own q e
      go (no d) = fits q (h q l d)

  -- a wrong number of opponents, and a first choice that is not below its count
  pub wrong_number : (length opponents ≡ length counts - 1 → ⊥) → opponents_refusal counts p opponents ≡ some OpponentProfileCount
  unfolding opponents_refusal
  wrong_number h = rw (ne_eqb (length opponents) (length counts - 1) h)

  pub bad_opponent : (q : ℕ) → length opponents ≡ length counts - 1 → q < length counts → q ≢ p → Fit q → get_or counts q 0 ≤ chosen q
      → opponents_refusal counts p opponents ≡ some InvalidOpponentStrategy
  unfolding opponents_refusal refusal
  bad_opponent q e l d h k =
      rw (eq-eqb (length opponents) (length counts - 1) e)
      (each_some (length counts) refusal q InvalidOpponentStrategy l (fit q h) (over q d k))

  -- what the two rule out
  pub opponents_law : (opponents_refusal counts p opponents ≡ none) ↔ ((length opponents ≡ length counts - 1) × Fit (length counts))
  unfolding opponents_refusal refusal
  opponents_law = (
    λ h.
        let a = (then_none (when (not (eqb (length opponents) (length counts - 1))) OpponentProfileCount) _).0 h in (
          eqb-true (length opponents) (length counts - 1)
              (not-false (eqb (length opponents) (length counts - 1)) ((when_none _ OpponentProfileCount).0 a.0)),
          λ q l d. fits_other q d (none_each (length counts) refusal a.1 q l),
        ),
    λ h. rw (eq-eqb (length opponents) (length counts - 1) h.0) (each_none (length counts) refusal (fit (length counts) h.1)),
  )

  -- with any choice of p, the opponents' choices that are left are a profile
  pub against_profile : length opponents ≡ length counts - 1 → Fit (length counts) → p < length counts
      → (s : ℕ) → s < get_or counts p 0 → Profile counts (against p opponents s)
  against_profile e h l s k =
      let inside : p ≤ length opponents = omega arith in
      record { each = omega (arith, against_length p opponents inside s); fits = λ q j. go q j (ℕ_discrete q p) }
    where
      go : (q : ℕ) → q < length counts → Dec (q ≡ p) → choice (against p opponents s) q < get_or counts q 0
      go q j (yes d) = rw (d, against_own p opponents (omega arith) s) k
      go q j (no d) = rw (against_other p opponents (omega arith) s q d) (h q j d)

-- ---- refusals 1 to 10

-- a call that they let pass
pub record Accepted (counts : List ℕ) (payoffs : List Float) (p : ℕ) (opponents : List ℕ) : Type 0 where
  pub table : Table counts payoffs
  pub mine : p < length counts
  pub many : length opponents ≡ length counts - 1
  pub fit : Fit counts p opponents (length counts)

pub accepted_law : (counts : List ℕ) (payoffs : List Float) (p : ℕ) (opponents : List ℕ)
    → ((table_refusal counts payoffs then player_refusal counts p then opponents_refusal counts p opponents) ≡ none) ↔ Accepted counts payoffs p opponents
accepted_law counts payoffs p opponents = (
  λ h.
      let (a, rest) = (then_none (table_refusal counts payoffs) _).0 h in
      let (b, d) = (then_none (player_refusal counts p) _).0 rest in
      let (many, fit) = (opponents_law counts p opponents).0 d in
      record { table = (table_law counts payoffs).0 a; mine = (player_law counts p).0 b; many = many; fit = fit },
  λ u.
      (then_none (table_refusal counts payoffs) _).1 (
        (table_law counts payoffs).1 u.table,
        (then_none (player_refusal counts p) _).1 ((player_law counts p).1 u.mine, (opponents_law counts p opponents).1 (u.many, u.fit)),
      ),
)

-- with any choice of p, the opponents' choices are a profile
pub accepted_profile : {counts : List ℕ} {payoffs : List Float} {p : ℕ} {opponents : List ℕ} → Accepted counts payoffs p opponents
    → (s : ℕ) → s < get_or counts p 0 → Profile counts (against p opponents s)
accepted_profile {counts} {payoffs} {p} {opponents} u = against_profile counts p opponents u.many u.fit u.mine
