-- `pure_nash::is_best` meets its contract: the two tests of `Change` are those of a best response. Assumes nothing.
use native.Mathlib.Omega.{arith}
use mathlib.Core.Path.{◌≡◌, sym, ◌∙◌, subst, subst⁻¹}
use mathlib.Core.Bool.{Bool, true, false}
use Prim.Native.Nat.{ℕ, ◌+◌, ◌*◌, ◌/◌, ◌%◌}
use lib.Dec.{T}
use lib.ListN.{get_or}
use Rattle.game.proofs.Finite.{same_test, test_false}
use Rattle.payoff_tables.specs.Limits.{max_strategies}
use Rattle.pure_nash.proofs.Best.{Change, change}
use mathlib.Core.List.{List}
use Rattle.pure_nash.proofs.is_best.Goals as goal
use Rattle.pure_nash.proofs.is_best.Goals.{Start}

-- the mark of the player's choice
abbrev mark : List ℕ → List Bool → ℕ → ℕ → ℕ → Bool
mark counts survivors player stride k = get_or survivors (player * max_strategies + k / stride % get_or counts player 0) false

facts : (c : Start) → let s = c.args in Change s.counts.now s.payoffs.now s.survivors.now s.k s.player s.stride
facts c =
    let s = c.args in
    let r = c.requires in
    change s.counts.now s.payoffs.now s.survivors.now s.k s.player s.stride r.table r.player_in_bounds.1 r.player_in_bounds.0 r.stride_value

pub nonzero_div-choice : goal.nonzero_div-choice
nonzero_div-choice c = (facts (goal.at.nonzero_div-choice c).Start).wide

pub nonzero_rem-choice : goal.nonzero_rem-choice
nonzero_rem-choice c = (facts (goal.at.nonzero_rem-choice c).Start).low

pub overflow_add-place : goal.overflow_add-place
overflow_add-place c = omega (arith, c.requires.player_in_bounds.0, facts (goal.at.overflow_add-place c).Start)

pub bounds-survivors-place : goal.bounds-survivors-place
bounds-survivors-place c = omega (arith, c.requires.survivors_len, c.requires.player_in_bounds.0, facts (goal.at.bounds-survivors-place c).Start)

pub returns-then-not-survivors-place : goal.returns-then-not-survivors-place
returns-then-not-survivors-place c =
    let a = c.args in
    let off : mark a.counts.now a.survivors.now a.player a.stride a.k ≡ false = c.if-not-survivors-place.true in
    sym (test_false _ (λ h. subst T off ((facts (goal.at.returns-then-not-survivors-place c).Start).tests.0 h).0))

pub overflow_mul-start : goal.overflow_mul-start
overflow_mul-start c = omega (arith, facts (goal.at.overflow_mul-start c).Start)

pub overflow_sub-start : goal.overflow_sub-start
overflow_sub-start c = omega (arith, facts (goal.at.overflow_sub-start c).Start)

pub overflow_mul-start-2 : goal.overflow_mul-start-2
overflow_mul-start-2 c = omega (arith, facts (goal.at.overflow_mul-start-2 c).Start)

pub overflow_add-start : goal.overflow_add-start
overflow_add-start c = omega (arith, facts (goal.at.overflow_add-start c).Start)

pub overflow_mul-step : goal.overflow_mul-step
overflow_mul-step c = omega (arith, facts (goal.at.overflow_mul-step c).Start)

pub overflow_mul-own : goal.overflow_mul-own
overflow_mul-own c = omega (arith, facts (goal.at.overflow_mul-own c).Start)

pub overflow_add-own : goal.overflow_add-own
overflow_add-own c = omega (arith, facts (goal.at.overflow_add-own c).Start)

pub unexceeded-requires : goal.unexceeded-requires
unexceeded-requires c =
    let f = facts (goal.at.unexceeded-requires c).Start in
    record {
      finites = c.requires.table.finites;
      count_in_bounds = omega (arith, c.requires.survivors_len, c.requires.player_in_bounds.0, f);
      by_index = f.inside;
      own_in_bounds = f.own;
    }

pub returns : goal.returns
returns c =
    let a = c.args in
    let f = facts (goal.at.returns c).Start in
    let on : mark a.counts.now a.survivors.now a.player a.stride a.k ≡ true = c.if-not-survivors-place.false in
    c.unexceeded.ensures ∙ same_test _ _ (λ h. f.tests.1 (subst⁻¹ T on tt, h), λ h. (f.tests.0 h).1)
