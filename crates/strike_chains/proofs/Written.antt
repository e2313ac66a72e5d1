-- How a loop runs the calls of two lists one after the other and writes their answers down. Assumes nothing.
use mathlib.Core.Path.{◌≡◌, refl, sym, ap, ◌∙◌}
use mathlib.Core.Bool.{Bool, true, false, cond}
use mathlib.Core.List.{List, [], ◌∷◌, ◌++◌, map, map-append}
use mathlib.Core.Option.{none, some}
use Prim.Native.Nat.{ℕ, zero, suc, ◌+◌, min, ◌≤◌, ◌<◌}
use native.Mathlib.Nat.{le_of_suc-le-suc, not-suc-le-zero}
use native.Mathlib.Numerals.{add-one}
use native.Mathlib.Omega.{arith}
use lib.ListN.{length, get_or, set, take, length-append, length-map}
use lib.Seq.{take-suc, length-take-le}
use lib.Ieee.{Float}
use Rattle.game.specs.Finite.{filter}
use Rattle.game.specs.Game.{Strategy, strategy}
use Rattle.game.specs.Demand3.{no_player, not_left, no_dominator}
use Rattle.game.proofs.Finite.{filter_append, filter_at_most}
use Rattle.refusal.specs.Refusal.{number_of}
use Rattle.refusal.specs.Told.{Told, values, refused, status, tells}
use Rattle.refusal.specs.declared.NormalFormError.{NormalFormError}
use Rattle.refusal.proofs.Told.{told_refused}
use Rattle.written_lists.specs.Outputs.{over}
use Rattle.written_lists.proofs.Outputs.{over_length, over_more}
use Rattle.survivors.specs.declared.Survivors.{Survivors}
use Rattle.survivors.specs.Survivors.{fresh_of, no_survivors}
use Rattle.strikes.specs.Answers.{strike_answer, strike_leaves}
use Rattle.strike_chains.specs.Answers.{calls_of, Chain, chain_from, chain, accepted_of, dominator_of, answers_said, strikes_refusal, strikes_answer, strikes_leave, strikes_written}
use Rattle.strike_chains.specs.Meaning.{Struck, done, struck, kept}
use Rattle.strike_chains.proofs.Chain.{chain_last}

-- ---- the calls

pub calls_length : (ps ss : List ℕ) → length (calls_of ps ss) ≡ min (length ps) (length ss)
calls_length [] ss = omega arith
calls_length (p ∷ ps) [] = omega arith
calls_length (p ∷ ps) (s ∷ ss) = omega (arith, calls_length ps ss)

pub calls_at : (ps ss : List ℕ) (i : ℕ) (d : Strategy) → i < length (calls_of ps ss) → get_or (calls_of ps ss) i d ≡ strategy (get_or ps i 0) (get_or ss i 0)
calls_at [] ss i d h = absurd (not-suc-le-zero h)
calls_at (p ∷ ps) [] i d h = absurd (not-suc-le-zero h)
calls_at (p ∷ ps) (s ∷ ss) zero d h = refl
calls_at (p ∷ ps) (s ∷ ss) (suc i) d h = calls_at ps ss i d (le_of_suc-le-suc h)

-- ---- a chain of the first i

module _ (counts : List ℕ) (payoffs : List Float) where
  -- as many answers as calls
  chain_length : (v : Survivors) (cs : List Strategy) → length (chain_from counts payoffs v cs).answers ≡ length cs
  chain_length v [] = refl
  chain_length v (c ∷ cs) = ap suc (chain_length (strike_leaves counts payoffs v c) cs)

  module _ (cs : List Strategy) (old : List ℕ) (old' : List ℕ) where
    -- the first i calls were run: what is left, how many were accepted, and what the two outputs hold
    pub record Written (i : ℕ) (left : Survivors) (accepted : ℕ) (answers dominators : List ℕ) : Type 0 where
      pub some : i ≤ length cs
      pub survivors : left ≡ (chain counts payoffs (take i cs)).survivors
      pub number : accepted ≡ accepted_of (chain counts payoffs (take i cs)).answers
      pub first : answers ≡ over (map status (chain counts payoffs (take i cs)).answers) old
      pub second : dominators ≡ over (map dominator_of (chain counts payoffs (take i cs)).answers) old'

    pub written_none : Written 0 (fresh_of counts) 0 old old'
    written_none = record { some = omega arith; survivors = refl; number = refl; first = refl; second = refl }

    module _ {i : ℕ} {left : Survivors} {accepted : ℕ} {answers dominators : List ℕ} (w : Written i left accepted answers dominators) where
      many : length (chain counts payoffs (take i cs)).answers ≡ i
      many = chain_length (fresh_of counts) (take i cs) ∙ length-take-le i cs w.some

      -- no more were accepted than run, and both outputs keep their lengths
      pub written_few : accepted ≤ i
      written_few = omega (arith, w.number, many, filter_at_most tells (chain counts payoffs (take i cs)).answers)

      module _ (f : Told ℕ → ℕ) (out was : List ℕ) (is : out ≡ over (map f (chain counts payoffs (take i cs)).answers) was) where
        count : length (map f (chain counts payoffs (take i cs)).answers) ≡ i
        count = length-map (chain counts payoffs (take i cs)).answers f ∙ many

        field_length : length cs ≤ length was → length out ≡ length was
        field_length h = ap length is ∙ over_length (map f (chain counts payoffs (take i cs)).answers) was (omega (arith, count, w.some))

        field_more : i < length was → (a : Told ℕ) → set out i (f a) ≡ over (map f ((chain counts payoffs (take i cs)).answers ++ (a ∷ []))) was
        field_more h a =
            ap (λ (l : List ℕ). set l i (f a)) is
            ∙ ap (λ (n : ℕ). set (over (map f (chain counts payoffs (take i cs)).answers) was) n (f a)) (sym count)
            ∙ over_more (map f (chain counts payoffs (take i cs)).answers) was (f a) (omega (arith, count))
            ∙ ap (λ (l : List ℕ). over l was) (sym (map-append f (chain counts payoffs (take i cs)).answers (a ∷ [])))

      pub first_length : length cs ≤ length old → length answers ≡ length old
      first_length = field_length status answers old w.first

      pub second_length : length cs ≤ length old' → length dominators ≡ length old'
      second_length = field_length dominator_of dominators old' w.second

      -- one call more
      pub written_more : i < length cs → length cs ≤ length old → length cs ≤ length old' → (c : Strategy) → ((d : Strategy) → get_or cs i d ≡ c)
          → (a : Told ℕ) → a ≡ strike_answer counts payoffs left c
          → (left' : Survivors) → left' ≡ strike_leaves counts payoffs left c
          → (accepted' : ℕ) → accepted' ≡ accepted + cond (tells a) 1 0
          → (answers' dominators' : List ℕ) → answers' ≡ set answers i (status a) → dominators' ≡ set dominators i (dominator_of a)
          → Written (i + 1) left' accepted' answers' dominators'
      written_more h room room' c at a is left' leaves accepted' more answers' dominators' e e' =
          let x = chain counts payoffs (take i cs) in
          let next : take (i + 1) cs ≡ take i cs ++ (c ∷ []) =
          ap (λ (n : ℕ). take n cs) (add-one i) ∙ take-suc cs i c h ∙ ap (λ (d : Strategy). take i cs ++ (d ∷ [])) (at c) in
          let told : a ≡ strike_answer counts payoffs x.survivors c = is ∙ ap (λ (v : Survivors). strike_answer counts payoffs v c) w.survivors in
          let grown : chain counts payoffs (take (i + 1) cs) ≡ record { answers = x.answers ++ (a ∷ []); survivors = strike_leaves counts payoffs x.survivors c } =
          ap (chain counts payoffs) next ∙ chain_last counts payoffs (fresh_of counts) (take i cs) c
          ∙ ap (λ (b : Told ℕ). record { answers = x.answers ++ (b ∷ []); survivors = strike_leaves counts payoffs x.survivors c }) (sym told) in
          record {
            some = omega arith;
            survivors = leaves ∙ ap (λ (v : Survivors). strike_leaves counts payoffs v c) w.survivors ∙ sym (ap (λ (y : Chain). y.survivors) grown);
            number = more ∙ ap (λ (n : ℕ). n + cond (tells a) 1 0) w.number ∙ sym (ap (λ (y : Chain). accepted_of y.answers) grown ∙ one_more x.answers a);
            first = e ∙ field_more status answers old w.first (omega arith) a ∙ sym (ap (λ (y : Chain). over (map status y.answers) old) grown);
            second = e' ∙ field_more dominator_of dominators old' w.second (omega arith) a ∙ sym (ap (λ (y : Chain). over (map dominator_of y.answers) old') grown);
          }
        where
          one_more : (xs : List (Told ℕ)) (b : Told ℕ) → accepted_of (xs ++ (b ∷ [])) ≡ accepted_of xs + cond (tells b) 1 0
          one_more xs b =
              ap length (filter_append tells xs (b ∷ [])) ∙ length-append (filter tells xs) (filter tells (b ∷ []))
              ∙ ap (λ (n : ℕ). accepted_of xs + n) (last (tells b))
            where
              last : (t : Bool) → length (cond t (b ∷ []) []) ≡ cond t 1 0
              last true = refl
              last false = refl

-- ---- the answers as two outputs say them

-- a list's answers are said by what was written of them, since no refusal's number is 0
pub answers_said_lem : {counts : List ℕ} {payoffs : List Float} {v w : Survivors} {cs : List Strategy} {ans : List (Told ℕ)} → Struck counts payoffs v cs ans w
    → (rest rest' : List ℕ) → answers_said (length cs) (map status ans ++ rest) (map dominator_of ans ++ rest') ≡ ans
answers_said_lem done rest rest' = refl
answers_said_lem (struck {t = t} _ _ _ more) rest rest' = ap (λ (l : List (Told ℕ)). values t ∷ l) (answers_said_lem more rest rest')
answers_said_lem (kept _ (no_player _) _ more) rest rest' = ap (λ (l : List (Told ℕ)). refused 8 ∷ l) (answers_said_lem more rest rest')
answers_said_lem (kept _ (not_left _ _) _ more) rest rest' = ap (λ (l : List (Told ℕ)). refused 14 ∷ l) (answers_said_lem more rest rest')
answers_said_lem (kept _ (no_dominator _ _) _ more) rest rest' = ap (λ (l : List (Told ℕ)). refused 15 ∷ l) (answers_said_lem more rest rest')

-- ---- what `strikes` answers, by its refusal

module _ (counts : List ℕ) (payoffs : List Float) (cs : List Strategy) (a b : ℕ) where
  -- refused, it tells that, beside P 0, counts 0 and no mark
  pub strikes_refused : (e : NormalFormError) → strikes_refusal counts payoffs cs a b ≡ some e
      → (refused (number_of e) ≡ strikes_answer counts payoffs cs a b) × (no_survivors ≡ strikes_leave counts payoffs cs a b) × ([] ≡ strikes_written counts payoffs cs a b)
  unfolding strikes_answer strikes_leave strikes_written
  strikes_refused e h = rw h (refl, refl, refl)

  -- so that both outputs are left as they were, whatever refuses, 13 too
  pub strikes_kept : (e : ℕ) → strikes_answer counts payoffs cs a b ≡ refused e → (old old' : List ℕ)
      → let w = strikes_written counts payoffs cs a b in (over (map status w) old ≡ old) × (over (map dominator_of w) old' ≡ old')
  unfolding strikes_answer
  strikes_kept e is old old' =
      let (d, r, _) = told_refused (strikes_refusal counts payoffs cs a b) _ e (sym is) in
      let none = sym (strikes_refused d r).2 in
      (ap (λ (w : List (Told ℕ)). over (map status w) old) none, ap (λ (w : List (Told ℕ)). over (map dominator_of w) old') none)

  -- and else the chain's answers and survivors
  pub strikes_run : strikes_refusal counts payoffs cs a b ≡ none
      → let x = chain counts payoffs cs in
      (values (accepted_of x.answers) ≡ strikes_answer counts payoffs cs a b)
      × (x.survivors ≡ strikes_leave counts payoffs cs a b)
      × (x.answers ≡ strikes_written counts payoffs cs a b)
  unfolding strikes_answer strikes_leave strikes_written
  strikes_run h = rw h (refl, refl, refl)
