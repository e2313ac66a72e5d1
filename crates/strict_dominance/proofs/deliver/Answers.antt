-- `strict_dominance::deliver` meets its contract: the list is collected first, so that nothing is written where an output is too short, and then
-- copied into both outputs. Assumes nothing.
use mathlib.Core.Path.{◌≡◌, refl, sym, ap, ap₂, ◌∙◌}
use mathlib.Core.List.{List, ◌++◌}
use mathlib.Core.Option.{none}
use Prim.Native.Nat.{ℕ, ◌≤◌}
use native.Mathlib.Omega.{arith}
use lib.ListN.{length, take, drop, replicate}
use lib.Seq.{length-take-le}
use Rattle.refusal.specs.Refusal.{Refusal}
use Rattle.refusal.specs.Told.{values, unless}
use Rattle.written_lists.specs.Outputs.{room_refusal, over}
use Rattle.written_lists.proofs.Outputs.{first_short, second_short, room_fits}
use Rattle.payoff_tables.specs.Limits.{max_strategies}
use Rattle.dominance.specs.Answers.{DominatedStrategy, dominated_strategies}
use Rattle.strict_dominance.proofs.Dominated.{table_few, Collected, first_length, second_length, first_taken, second_taken}
use Rattle.strict_dominance.proofs.deliver.Goals as goal
use Rattle.strict_dominance.proofs.deliver.Goals.{After-collect-number}

pub collect-number-requires : goal.collect-number-requires
collect-number-requires c =
    let r = c.requires in
    record { table = r.table; profiles_value = r.profiles_value; player_in_bounds = r.player_in_bounds; strategies_len = (refl, refl) }

-- what was collected
module _ (k : After-collect-number) where
  got : Collected (dominated_strategies k.args.counts.now k.args.payoffs.now k.args.player) k.collect-number.result (replicate max_strategies 0) (replicate max_strategies 0) k.collect-number.new.strategies k.collect-number.new.lowest
  got = record { number = k.collect-number.ensures.value; first = k.collect-number.ensures.strategies_after; second = k.collect-number.ensures.lowest_after }

  few : k.collect-number.result ≤ max_strategies
  few = omega (arith, k.collect-number.ensures.value, table_few k.args.counts.now k.args.payoffs.now k.args.player k.requires.table.shape k.requires.player_in_bounds)

-- the answer, from the refusal
answers : (list : List DominatedStrategy) (a b : List ℕ) (r : Refusal) → room_refusal (length list) (length a) (length b) ≡ r
    → unless r (length list) ≡ unless (room_refusal (length list) (length a) (length b)) (length list)
answers list a b r e = sym (ap (λ q. unless q (length list)) e)

pub returns-then-dominated-number : goal.returns-then-dominated-number
returns-then-dominated-number c =
    let a = c.args in record {
      result_value = answers (dominated_strategies a.counts.now a.payoffs.now a.player) a.dominated.now a.dominators.now _ (first_short _ _ _ (omega (arith, c.collect-number.ensures.value, c.if-dominated-number)));
      dominated_after = refl;
      dominators_after = refl;
    }

pub returns-then-dominators-number : goal.returns-then-dominators-number
returns-then-dominators-number c =
    let a = c.args in record {
      result_value = answers (dominated_strategies a.counts.now a.payoffs.now a.player) a.dominated.now a.dominators.now _
          (second_short _ _ _ (omega (arith, c.collect-number.ensures.value, c.if-dominated-number)) (omega (arith, c.collect-number.ensures.value, c.if-dominators-number)));
      dominated_after = refl;
      dominators_after = refl;
    }

-- the first n of a list, copied
copied : (from to ys : List ℕ) (n : ℕ) → n ≤ length from → ys ≡ take n from → ys ++ drop n to ≡ over (take n from) to
copied from to ys n few is =
    ap₂ (λ (zs : List ℕ) (m : ℕ). zs ++ drop m to) is (sym (length-take-le n from few))

pub returns : goal.returns
returns c =
    let k = (goal.at.returns c).After-collect-number in
    let a = c.args in
    let n = c.collect-number.ensures.value in record {
      result_value = ap (λ (i : ℕ). values i) n ∙ answers (dominated_strategies a.counts.now a.payoffs.now a.player) a.dominated.now a.dominators.now none
          (room_fits _ _ _ (omega (arith, n, c.if-dominated-number)) (omega (arith, n, c.if-dominators-number)));
      dominated_after = copied _ _ _ _ (omega (arith, first_length (got k) (few k), few k)) c.copy_from_slice.ensures.after ∙ ap (λ l. over l a.dominated.now) (first_taken (got k));
      dominators_after = copied _ _ _ _ (omega (arith, second_length (got k) (few k), few k)) c.copy_from_slice-2.ensures.after ∙ ap (λ l. over l a.dominators.now) (second_taken (got k));
    }
