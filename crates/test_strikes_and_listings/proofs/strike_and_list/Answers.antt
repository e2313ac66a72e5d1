-- `strike_and_list` meets its contract: what each call ensures, and demand 3 for the survivors that
-- the strikes left. Assumes nothing.
use mathlib.Core.Path.{sym, ap, ap₂, ◌∙◌, subst⁻¹}
use mathlib.Core.List.{List}
use Prim.Native.Nat.{ℕ, ◌+◌}
use lib.ListN.{length}
use lib.Ieee.{Float}
use Rattle.game.specs.Game.{Strategy}
use Rattle.refusal.specs.Told.{Told, told_of}
use Rattle.refusal.specs.declared.Listed.{Listed}
use Rattle.written_lists.specs.Outputs.{over}
use Rattle.survivors.specs.declared.Survivors.{Survivors}
use Rattle.survivors.specs.Survivors.{mark_count}
use Rattle.strike_chains.specs.Answers.{calls_of, chain_from, accepted_of}
use Rattle.strike_chains.specs.Demand3.{SameTotal, SameListing, EqualOrHoldAll}
use Rattle.test_strikes_and_listings.proofs.Calls.{same_total, same_listing, counted}
use Rattle.test_strikes_and_listings.proofs.strike_and_list.Goals as goal

-- the total that a listing tells
abbrev total : Told Listed → Told ℕ
total = told_of (λ l. l.total)

pub returns : goal.returns
returns c =
    let s = c.args in
    let cs : List ℕ = s.counts.now in
    let ps : List Float = s.payoffs.now in
    let calls : List Strategy = calls_of s.players.now s.strategies.now in
    let from = c.fresh.ensures.survivors_value in
    let made : Survivors = c.fresh.result.survivors in
    let ran = c.strike_each-struck.ensures in
    let v : Survivors = c.strike_each-struck.result.survivors in
    let left = c.surviving_equilibria-surviving.ensures in
    let whole = c.equilibria-whole.ensures in
    -- the lengths of the outputs: over the survivors, and of the whole table
    let a : ℕ = length s.left_choices.now in
    let b : ℕ = length s.left_utilities.now in
    let d : ℕ = length s.choices.now in
    let e : ℕ = length s.utilities.now in
    let total_here : SameTotal cs ps v a b d e = subst⁻¹ (λ (u : Survivors). SameTotal cs ps u a b d e) ran.survivors_value (same_total cs ps made from calls a b d e) in
    let listing-here : EqualOrHoldAll cs ps a b d e → SameListing cs ps v a b d e =
    λ h. subst⁻¹ (λ (u : Survivors). SameListing cs ps u a b d e) ran.survivors_value (same_listing cs ps made from calls a b d e h) in
    record {
      -- the calls of the list, from what `fresh` handed back
      fact = (
        ran.accepted_value ∙ ap (λ (u : Survivors). accepted_of (chain_from cs ps u calls).answers) from,
        ran.survivors_value ∙ ap (λ (u : Survivors). (chain_from cs ps u calls).survivors) from,
      );
      surviving_value = left.result_value;
      left_choices_after = left.choices_after;
      left_utilities_after = left.utilities_after;
      whole_value = whole.result_value;
      choices_after = whole.choices_after;
      utilities_after = whole.utilities_after;
      surviving_value_2 = ap total left.result_value ∙ total_here ∙ sym (ap total whole.result_value);
      surviving_value_3 = λ h. let same = listing-here h in (
        left.result_value ∙ same.answer ∙ sym whole.result_value,
        left.choices_after ∙ ap (λ (xs : List ℕ). over xs s.left_choices.now) same.choices,
        left.utilities_after ∙ ap (λ (xs : List Float). over xs s.left_utilities.now) same.utilities,
      );
      survivors_value = λ t. ap₂ (λ (n : ℕ) (u : Survivors). n + mark_count u) ran.accepted_value ran.survivors_value ∙ counted cs ps made from calls t;
    }
