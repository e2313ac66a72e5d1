-- What a strike answers in each of its cases, and what it hands back. Assumes nothing.
use mathlib.Core.Path.{◌≡◌, refl, sym, ap, ap₂, ◌∙◌}
use mathlib.Core.Bool.{Bool, true, false, ◌&&◌}
use mathlib.Core.List.{List}
use mathlib.Core.Logic.{◌↔◌}
use mathlib.Core.Option.{Option, none, some}
use Prim.Native.Nat.{ℕ, ◌≤◌, ◌<◌}
use native.Mathlib.Omega.{arith}
use lib.Dec.{T, ltb}
use lib.ListN.{length, get_or}
use lib.Ieee.{Float}
use Rattle.game.specs.Game.{Marks, Strategy, strategy}
use Rattle.game.specs.Solution.{dominator}
use Rattle.game.specs.Strikes.{Answer, refused as refused', accepted, ruling, answer}
use Rattle.game.specs.Demand3.{Accepted, Refused}
use Rattle.game.proofs.Strikes.{Answered, answer_law, answer_unique}
use Rattle.game.proofs.Finite.{and_T, ltb_T, test_true, test_false}
use Rattle.refusal.specs.Refusal.{Refusal, number_of, when, ◌then◌}
use Rattle.refusal.specs.Told.{values, refused}
use Rattle.refusal.proofs.Told.{apart}
use Rattle.refusal.specs.declared.NormalFormError.{NormalFormError}
use Rattle.refusal.specs.declared.NormalFormError.TheVariants.{ForeignSurvivors}
use Rattle.payoff_tables.specs.Table.{table_game}
use Rattle.payoff_tables.specs.Checks.{table_refusal}
use Rattle.survivors.specs.declared.Survivors.{Survivors}
use Rattle.survivors.specs.Survivors.{marks_of, foreign, foreign_refusal}
use Rattle.strikes.specs.Answers.{told_answer, or_else, survivors_refusal, strike_answer, strike_leaves}

-- ---- among marks

module _ (counts : List ℕ) (payoffs : List Float) (m : Marks) (p s : ℕ) where
  -- no such player
  pub told_player : length counts ≤ p → refused 8 ≡ told_answer (answer (table_game counts payoffs) m (strategy p s))
  unfolding answer table_game
  told_player h = rw (test_false (ltb p (length counts)) (λ k. omega (arith, (ltb_T p (length counts)).0 k)))

  module _ (l : p < length counts) where
    -- no such strategy, or one that is struck
    pub told_struck : (s < get_or counts p 0 → T (m p s) → ⊥) → refused 14 ≡ told_answer (answer (table_game counts payoffs) m (strategy p s))
    unfolding answer table_game
    told_struck n =
        rw (
          test_true (ltb p (length counts)) ((ltb_T p (length counts)).1 l),
          test_false (ltb s (get_or counts p 0) && m p s) (λ h.
              let (a, b) = (and_T (ltb s (get_or counts p 0)) (m p s)).0 h in n ((ltb_T s (get_or counts p 0)).0 a) b),
        )

    -- a strategy that survives: by its lowest dominator
    module _ (k : s < get_or counts p 0) (h : T (m p s)) (o : Option ℕ) (is : o ≡ dominator (table_game counts payoffs) m p s) where
      pub told_by : told_answer (ruling true true o) ≡ told_answer (answer (table_game counts payoffs) m (strategy p s))
      unfolding answer table_game
      told_by =
          rw (
            test_true (ltb p (length counts)) ((ltb_T p (length counts)).1 l),
            test_true (ltb s (get_or counts p 0) && m p s) ((and_T (ltb s (get_or counts p 0)) (m p s)).1 ((ltb_T s (get_or counts p 0)).1 k, h)),
          )
          (ap (λ (o : Option ℕ). told_answer (ruling true true o)) is)

-- ---- among survivors

module _ (counts : List ℕ) (payoffs : List Float) (v : Survivors) (c : Strategy) where
  -- where 1 to 7 or 16 refuses, that is the answer, and the survivors are handed back unchanged
  pub strike_refused : (e : NormalFormError) → survivors_refusal counts payoffs v ≡ some e
      → (refused (number_of e) ≡ strike_answer counts payoffs v c) × (v ≡ strike_leaves counts payoffs v c)
  unfolding strike_answer strike_leaves
  strike_refused e h = rw h (refl, refl)

  -- and else the answer is the machine's
  pub strike_told : survivors_refusal counts payoffs v ≡ none → strike_answer counts payoffs v c ≡ told_answer (answer (table_game counts payoffs) (marks_of v) c)
  unfolding strike_answer
  strike_told h = ap (λ (r : Refusal). or_else r (told_answer (answer (table_game counts payoffs) (marks_of v) c))) h

  -- which tells values only where neither refuses
  pub answered : (t : ℕ) → strike_answer counts payoffs v c ≡ values t → survivors_refusal counts payoffs v ≡ none
  unfolding strike_answer
  answered t = go (survivors_refusal counts payoffs v)
    where
      go : (r : Refusal) → or_else r (told_answer (answer (table_game counts payoffs) (marks_of v) c)) ≡ values t → r ≡ none
      go none h = refl
      go (some e) h = absurd (apart t (number_of e) (sym h))

module _ (counts : List ℕ) (payoffs : List Float) (v : Survivors) where
  -- 1 to 7 come first, then 16
  pub table_first : (e : NormalFormError) → table_refusal counts payoffs ≡ some e → survivors_refusal counts payoffs v ≡ some e
  table_first e h = ap (λ (r : Refusal). r then foreign_refusal counts v) h

  module _ (h : table_refusal counts payoffs ≡ none) where
    pub then_foreign : foreign counts v ≡ true → survivors_refusal counts payoffs v ≡ some ForeignSurvivors
    then_foreign e = ap₂ (λ (r : Refusal) (b : Bool). r then when b ForeignSurvivors) h e

    pub not_foreign : foreign counts v ≡ false → survivors_refusal counts payoffs v ≡ none
    not_foreign e = ap₂ (λ (r : Refusal) (b : Bool). r then when b ForeignSurvivors) h e

-- ---- what a strike's answer means, where neither the table nor the survivors are refused

module _ (counts : List ℕ) (payoffs : List Float) (v : Survivors) (c : Strategy) (ok : survivors_refusal counts payoffs v ≡ none) where
  -- accepted with t exactly where the strategy survives and t is the lowest survivor of its player that strictly dominates it against all
  -- surviving choices of the others
  pub strike_accepted : (t : ℕ) → (strike_answer counts payoffs v c ≡ values t) ↔ Accepted (table_game counts payoffs) (marks_of v) c t
  strike_accepted t = (
    λ e. of (answer (table_game counts payoffs) (marks_of v) c) (answer_law (table_game counts payoffs) (marks_of v) c) (sym (strike_told counts payoffs v c ok) ∙ e),
    λ a. strike_told counts payoffs v c ok ∙ ap told_answer (answer_unique (table_game counts payoffs) (marks_of v) c (accepted t) a),
  )
    where
      of : (x : Answer) → Answered (table_game counts payoffs) (marks_of v) c x → told_answer x ≡ values t → Accepted (table_game counts payoffs) (marks_of v) c t
      of (refused' n) a e = absurd (apart t n (sym e))
      of (accepted u) a e = let is : u ≡ t = cc in rw (← is) a

  -- refused with 8, 14 or 15, by the rule
  pub strike_denied : (n : ℕ) → (strike_answer counts payoffs v c ≡ refused n) ↔ Refused (table_game counts payoffs) (marks_of v) c n
  strike_denied n = (
    λ e. of (answer (table_game counts payoffs) (marks_of v) c) (answer_law (table_game counts payoffs) (marks_of v) c) (sym (strike_told counts payoffs v c ok) ∙ e),
    λ a. strike_told counts payoffs v c ok ∙ ap told_answer (answer_unique (table_game counts payoffs) (marks_of v) c (refused' n) a),
  )
    where
      of : (x : Answer) → Answered (table_game counts payoffs) (marks_of v) c x → told_answer x ≡ refused n → Refused (table_game counts payoffs) (marks_of v) c n
      of (refused' m) a e = let is : m ≡ n = cc in rw (← is) a
      of (accepted u) a e = absurd (apart u n e)
