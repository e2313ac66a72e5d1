-- How far a list of strikes was run, and what follows for the two listings behind it. Assumes
-- nothing.
use mathlib.Core.Path.{◌≡◌, refl, sym, ap, ◌∙◌, subst}
use mathlib.Core.Bool.{cond}
use mathlib.Core.List.{List, [], ◌∷◌}
use mathlib.Core.Option.{none, some}
use Prim.Native.Nat.{ℕ, zero, suc, ◌+◌, ◌≤◌, ◌<◌}
use native.Mathlib.Numerals.{add-one}
use native.Mathlib.Omega.{arith}
use lib.ListN.{length, get_or, drop}
use lib.Seq.{drop-nil, drop-cons}
use lib.Ieee.{Float}
use Rattle.game.specs.Finite.{sum}
use Rattle.game.specs.Game.{Strategy}
use Rattle.refusal.specs.Refusal.{Refusal}
use Rattle.refusal.specs.Told.{Told, values, refused, told_of, tells, unless_refused}
use Rattle.refusal.specs.declared.Listed.{Listed}
use Rattle.refusal.specs.declared.NormalFormError.{NormalFormError}
use Rattle.payoff_tables.specs.Checks.{table_refusal}
use Rattle.payoff_tables.proofs.Checks.{table_law}
use Rattle.equilibria.specs.Answers.{table_equilibria}
use Rattle.equilibria.proofs.Listing.{nothing_listed}
use Rattle.survivors.specs.declared.Survivors.{Survivors}
use Rattle.survivors.specs.Survivors.{fresh_of, no_survivors, mark_count}
use Rattle.strikes.specs.Answers.{survivors_refusal, strike_answer, strike_leaves, surviving_equilibria}
use Rattle.strikes.proofs.Cases.{table_first}
use Rattle.strike_chains.specs.Answers.{Chain, chain_from, chain, accepted_of}
use Rattle.strike_chains.specs.Demand3.{SameTotal, SameListing, EqualOrHoldAll}
use Rattle.strike_chains.proofs.Chain.{accepted_cons}
use Rattle.strike_chains.proofs.Demand3.{demand_3}

none_left : {A : Type 0} (i : ℕ) (xs : List A) → length xs ≤ i → drop i xs ≡ []
none_left i [] h = drop-nil i
none_left zero (x ∷ xs) h = absurd (omega arith)
none_left (suc i) (x ∷ xs) h = none_left i xs (omega arith)

module _ (counts : List ℕ) (payoffs : List Float) (v : Survivors) (cs : List Strategy) where
  -- what the calls from `left` on, without the first i, would do
  abbrev rest : ℕ → Survivors → Chain
  rest i left = chain_from counts payoffs left (drop i cs)

  -- i calls were run, n of them accepted, and `left` was handed back: the rest leads where all
  -- calls lead
  pub record Far (i : ℕ) (left : Survivors) (n : ℕ) : Type 0 where
    pub some : i ≤ length cs
    pub few : n ≤ i
    pub survivors : (rest i left).survivors ≡ (chain_from counts payoffs v cs).survivors
    pub number : n + accepted_of (rest i left).answers ≡ accepted_of (chain_from counts payoffs v cs).answers

  pub far_none : Far 0 v 0
  far_none = record { some = omega arith; few = omega arith; survivors = refl; number = omega arith }

  -- one call more
  pub far_more : {i : ℕ} {left : Survivors} {n : ℕ} → Far i left n → i < length cs → (c : Strategy) → get_or cs i c ≡ c
      → (a : Told ℕ) → a ≡ strike_answer counts payoffs left c → (w : Survivors) → w ≡ strike_leaves counts payoffs left c
      → Far (i + 1) w (n + cond (tells a) 1 0)
  far_more {i} {left} {n} f l c at a told w leaves =
      let next : drop i cs ≡ (c ∷ drop (i + 1) cs) = drop-cons cs i c l ∙ ap (λ (d : Strategy). d ∷ drop (suc i) cs) at ∙ sym (ap (λ (k : ℕ). c ∷ drop k cs) (add-one i)) in
      let x : Chain = chain_from counts payoffs (strike_leaves counts payoffs left c) (drop (i + 1) cs) in
      let now : rest i left ≡ record { answers = strike_answer counts payoffs left c ∷ x.answers; survivors = x.survivors } =
      ap (chain_from counts payoffs left) next in
      let same : rest (i + 1) w ≡ x = ap (λ (u : Survivors). chain_from counts payoffs u (drop (i + 1) cs)) leaves in
      record {
        some = omega arith;
        few = omega (arith, f.few, one a);
        survivors = ap (λ (y : Chain). y.survivors) same ∙ sym (ap (λ (y : Chain). y.survivors) now) ∙ f.survivors;
        number =
            let more : accepted_of (rest i left).answers ≡ cond (tells a) 1 0 + accepted_of (rest (i + 1) w).answers =
            ap (λ (y : Chain). accepted_of y.answers) now ∙ accepted_cons (strike_answer counts payoffs left c) x.answers
            ∙ sym (ap (λ (b : Told ℕ). cond (tells b) 1 0 + accepted_of x.answers) told)
            ∙ sym (ap (λ (y : Chain). cond (tells a) 1 0 + accepted_of y.answers) same) in
            omega (arith, more, f.number);
      }
    where
      one : (b : Told ℕ) → cond (tells b) 1 0 ≤ 1
      one (values t) = omega arith
      one (refused e) = omega arith

  -- all of them
  pub far_all : {i : ℕ} {left : Survivors} {n : ℕ} → Far i left n → length cs ≤ i
      → (n ≡ accepted_of (chain_from counts payoffs v cs).answers) × (left ≡ (chain_from counts payoffs v cs).survivors)
  far_all {i} {left} {n} f l =
      let end : rest i left ≡ record { answers = []; survivors = left } = ap (chain_from counts payoffs left) (none_left i cs l) in (
        omega (arith, f.number, ap (λ (y : Chain). accepted_of y.answers) end),
        sym (ap (λ (y : Chain). y.survivors) end) ∙ f.survivors,
      )

-- ---- the listings

module _ (counts : List ℕ) (payoffs : List Float) (v : Survivors) (from : v ≡ unless_refused (table_refusal counts payoffs) (fresh_of counts) no_survivors) (cs : List Strategy) where
  abbrev left : Survivors
  left = (chain_from counts payoffs v cs).survivors

  -- what is true of the survivors of every accepted table's calls, and of refused tables, is true of
  -- what `fresh` handed back, whatever it answered
  whatever : (C : Survivors → Type 0) → (table_refusal counts payoffs ≡ none → C (chain counts payoffs cs).survivors)
      → ((e : NormalFormError) → table_refusal counts payoffs ≡ some e → C left) → C left
  whatever C accepted denied = go (table_refusal counts payoffs) refl
    where
      go : (r : Refusal) → table_refusal counts payoffs ≡ r → C left
      go none h =
          let is : v ≡ fresh_of counts = from ∙ ap (λ (q : Refusal). unless_refused q (fresh_of counts) no_survivors) h in
          subst (λ (u : Survivors). C (chain_from counts payoffs u cs).survivors) (sym is) (accepted h)
      go (some e) h = denied e h

  -- both listings tell the same total,
  pub same_total : (a b c d : ℕ) → SameTotal counts payoffs left a b c d
  same_total a b c d =
      whatever (λ u. SameTotal counts payoffs u a b c d) (λ h. (demand_3 counts payoffs ((table_law counts payoffs).0 h) cs).same_total a b c d)
      (λ e h.
      let first = nothing_listed counts payoffs (surviving_equilibria counts payoffs left) a b (survivors_refusal counts payoffs left) e (table_first counts payoffs left e h) in
      let second = nothing_listed counts payoffs (table_equilibria counts payoffs) c d (table_refusal counts payoffs) e h in
      ap (told_of (λ (l : Listed). l.total)) (first.0 ∙ sym second.0))

  -- and they are the same where their outputs have equal lengths or hold all
  pub same_listing : (a b c d : ℕ) → EqualOrHoldAll counts payoffs a b c d → SameListing counts payoffs left a b c d
  same_listing a b c d k =
      whatever (λ u. SameListing counts payoffs u a b c d) (λ h. (demand_3 counts payoffs ((table_law counts payoffs).0 h) cs).same_listing a b c d k)
      (λ e h.
      let first = nothing_listed counts payoffs (surviving_equilibria counts payoffs left) a b (survivors_refusal counts payoffs left) e (table_first counts payoffs left e h) in
      let second = nothing_listed counts payoffs (table_equilibria counts payoffs) c d (table_refusal counts payoffs) e h in
      record { answer = first.0 ∙ sym second.0; choices = first.1 ∙ sym second.1; utilities = first.2 ∙ sym second.2 })

  -- and accepted strikes and marks make up all strategies
  pub counted : table_refusal counts payoffs ≡ none → accepted_of (chain_from counts payoffs v cs).answers + mark_count left ≡ sum counts
  counted h =
      let is : v ≡ fresh_of counts = from ∙ ap (λ (q : Refusal). unless_refused q (fresh_of counts) no_survivors) h in
      subst (λ (u : Survivors). let x = chain_from counts payoffs u cs in accepted_of x.answers + mark_count x.survivors ≡ sum counts) (sym is)
      (demand_3 counts payoffs ((table_law counts payoffs).0 h) cs).counted
