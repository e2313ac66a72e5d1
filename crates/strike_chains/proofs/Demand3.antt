-- Demand 3 at the calls: the record of specs/Demand3, for every table with none of refusals 1 to 7 and every list of calls, from the chain's
-- agreement with the machine (Chain) and the theorem of `game` about the machine. Assumes nothing.
use mathlib.Core.Path.{◌≡◌, refl, sym, ap, ap₂, ◌∙◌, subst, subst₂}
use mathlib.Core.List.{List, map}
use mathlib.Core.Logic.{inl, inr, ⊎_elim}
use mathlib.Core.Option.{none}
use Prim.Native.Nat.{ℕ}
use lib.ListN.{length}
use lib.Ieee.{Float}
use Rattle.game.specs.Game.{Game, Strategy, Marks, whole}
use Rattle.game.specs.Meaning.{Undominated}
use Rattle.game.specs.Solution.{equilibria}
use Rattle.game.specs.Strikes.{run, run_from}
use Rattle.game.proofs.Demand3 as Theory
use Rattle.refusal.specs.Refusal.{Refusal}
use Rattle.refusal.specs.Told.{Told, values, status}
use Rattle.written_lists.specs.Outputs.{over}
use Rattle.written_lists.specs.Listing.{listed_of}
use Rattle.payoff_tables.specs.Table.{table_game}
use Rattle.payoff_tables.specs.Meaning.{Table}
use Rattle.payoff_tables.specs.Checks.{table_refusal}
use Rattle.payoff_tables.proofs.Checks.{table_law}
use Rattle.payoff_tables.proofs.Game.{game_playable}
use Rattle.equilibria.specs.Answers.{table_equilibria, listing_answer, listed_choices, listed_utilities}
use Rattle.equilibria.proofs.Listing.{listing_all}
use Rattle.survivors.specs.declared.Survivors.{Survivors}
use Rattle.survivors.specs.Survivors.{marks_of, fresh_of}
use Rattle.strikes.specs.Answers.{survivors_refusal}
use Rattle.strike_chains.specs.Answers.{chain, accepted_of, dominator_of, answers_said}
use Rattle.strike_chains.specs.Demand3.{SameTotal, SameListing, HoldsAll, EqualOrHoldAll, Demand3}
use Rattle.survivors.proofs.Marks.{fresh_marks, count_fresh}
use Rattle.survivors.proofs.Foreign.{own_not, foreign_law}
use Rattle.strikes.proofs.Cases.{not_foreign}
use Rattle.strike_chains.proofs.Chain.{Good, fresh_good, chain_counted, Ran, ran}
use Rattle.strike_chains.proofs.Written.{answers_said_lem}

-- For the entries either is enough: equal lengths, or outputs that hold all.
module _ (counts : List ℕ) (payoffs : List Float) (a b : ℕ) where
  pub equal_lengths : EqualOrHoldAll counts payoffs a b a b
  equal_lengths = inl (refl, refl)

  pub holding_all : (c d : ℕ) → HoldsAll counts payoffs a → HoldsAll counts payoffs b → HoldsAll counts payoffs c → HoldsAll counts payoffs d → EqualOrHoldAll counts payoffs a b c d
  holding_all c d h i j k = inr (h, i, j, k)

module _ (counts : List ℕ) (payoffs : List Float) (t : Table counts payoffs) where
  abbrev g : Game
  g = table_game counts payoffs

  none_applies : table_refusal counts payoffs ≡ none
  none_applies = (table_law counts payoffs).1 t

  -- ---- the listings

  module _ (v : Survivors) (k : Good counts payoffs v) (is : equilibria g (marks_of v) ≡ equilibria g (whole g)) where
    own : survivors_refusal counts payoffs v ≡ none
    own = not_foreign counts payoffs v none_applies (own_not counts v k.own)

    -- What both listings refuse is the same, and so are the profiles that they list.
    same_lengths : (a b : ℕ) → SameListing counts payoffs v a b a b
    same_lengths a b =
        let same = own ∙ sym none_applies in
        record {
          answer = ap₂ (λ (r : Refusal) (es : List (List ℕ)). listing_answer counts payoffs r es a b) same is;
          choices = ap₂ (λ (r : Refusal) (es : List (List ℕ)). listed_choices counts payoffs r es a b) same is;
          utilities = ap₂ (λ (r : Refusal) (es : List (List ℕ)). listed_utilities counts payoffs r es a b) same is;
        }

    same_listing : (a b c d : ℕ) → EqualOrHoldAll counts payoffs a b c d → SameListing counts payoffs v a b c d
    same_listing a b c d =
        ⊎_elim (λ h. subst₂ (SameListing counts payoffs v a b) h.0 h.1 (same_lengths a b))
        (λ h.
        let s = same_lengths a b in
        let es : List (List ℕ) = table_equilibria counts payoffs in
        let first = listing_all counts payoffs es a b t.shape.some h.0 h.1 (table_refusal counts payoffs) none_applies in
        let second = listing_all counts payoffs es c d t.shape.some h.2 h.3 (table_refusal counts payoffs) none_applies in
        record {
          answer = s.answer ∙ first.0 ∙ sym second.0;
          choices = s.choices ∙ first.1 ∙ sym second.1;
          utilities = s.utilities ∙ first.2 ∙ sym second.2;
        })

    same_total : (a b c d : ℕ) → SameTotal counts payoffs v a b c d
    unfolding listing_answer listed_of
    same_total a b c d = rw (own, none_applies) (ap (λ (es : List (List ℕ)). values (length es)) is)

  -- ---- the chain and the machine

  abbrev left : List Strategy → Survivors
  left cs = (chain counts payoffs cs).survivors

  -- from fresh survivors, which are marked as the whole game is
  pub from_fresh : (cs : List Strategy) → Ran counts payoffs (fresh_of counts) cs (run g cs).marks (run g cs).answers (chain counts payoffs cs)
  from_fresh cs =
      subst (λ (m : Marks). Ran counts payoffs (fresh_of counts) cs (run_from g m cs).marks (run_from g m cs).answers (chain counts payoffs cs))
      (fresh_marks counts payoffs t.shape) (ran counts payoffs t (fresh_of counts) (fresh_good counts payoffs t) cs)

  pub demand_3 : (cs : List Strategy)
      → let x = chain counts payoffs cs in Demand3 counts payoffs cs (accepted_of x.answers) x.answers x.survivors
  unfolding table_game
  demand_3 cs =
      let r = from_fresh cs in
      let d = Theory.demand_3 g (game_playable counts payoffs t.shape) cs in
      let is : equilibria g (marks_of (left cs)) ≡ equilibria g (whole g) = ap (equilibria g) r.marks ∙ d.same_equilibria in
      record {
        answers = r.answers;
        calls = r.calls;
        marks = r.marks;
        own = (foreign_law counts (left cs)).1 r.stays.own;
        same_total = same_total (left cs) r.stays is;
        same_listing = same_listing (left cs) r.stays is;
        number = refl;
        counted = chain_counted counts payoffs t (fresh_of counts) (fresh_good counts payoffs t) cs ∙ count_fresh counts t.shape;
        same_marks = λ ds a b.
            let s = from_fresh ds in
            r.marks ∙ d.same_marks ds (subst (Undominated g) r.marks a) (subst (Undominated g) s.marks b) ∙ sym s.marks;
      }

  -- ---- what was handed back and written

  -- a result that tells the number of the chain's acceptances, its survivors, and outputs that its
  -- answers were written into
  pub demand_3_told : (cs : List Strategy) (r : Told ℕ) (v : Survivors) (old old' told by : List ℕ)
      → let x = chain counts payoffs cs in r ≡ values (accepted_of x.answers)
      → v ≡ x.survivors
      → told ≡ over (map status x.answers) old
      → by ≡ over (map dominator_of x.answers) old'
      → (n : ℕ) → r ≡ values n → Demand3 counts payoffs cs n (answers_said (length cs) told by) v
  demand_3_told cs r v old old' told by tells left first second n is =
      let x = chain counts payoffs cs in
      let d = demand_3 cs in
      let said : answers_said (length cs) told by ≡ x.answers = ap₂ (answers_said (length cs)) first second ∙ answers_said_lem d.calls _ _ in
      let h = sym is ∙ tells in
      let many : n ≡ accepted_of x.answers = cc in
      rw (said, left, many) d
