-- `strict_dominance::strictly_dominated_strategies` meets its contract: the refusals of the table and of the player come first, and what is
-- delivered has the last one. Assumes nothing.
use mathlib.Core.Path.{◌≡◌, ap, ◌∙◌}
use mathlib.Core.List.{List}
use mathlib.Core.Option.{none}
use Prim.Native.Nat.{ℕ, ◌<◌, ◌≤◌}
use native.Mathlib.Omega.{arith}
use lib.Ieee.{Float}
use lib.ListN.{length}
use Rattle.game.specs.Finite.{product}
use Rattle.refusal.specs.Told.{Told, refused}
use Rattle.refusal.proofs.Told.{told_values, refused_first, handed_on}
use Rattle.written_lists.specs.Outputs.{over}
use Rattle.payoff_tables.specs.Checks.{table_refusal}
use Rattle.payoff_tables.proofs.Checks.{table_law, player_law, no_player}
use Rattle.dominance.specs.Answers.{DominatedStrategy, strategies_of, dominators_of, delivered_answer, dominated_answer, written_of}
use Rattle.strict_dominance.proofs.strictly_dominated_strategies.Goals as goal

module _ (counts : List ℕ) (payoffs : List Float) (player : ℕ) where
  -- what is written of a list goes by the answer
  put : (f : List DominatedStrategy → List ℕ) (old : List ℕ) {r r' : Told ℕ} → r ≡ r'
      → over (f (written_of counts payoffs player r)) old ≡ over (f (written_of counts payoffs player r')) old
  put f old e = ap (λ (r : Told ℕ). over (f (written_of counts payoffs player r)) old) e

  -- where the table has no refusal, the player is none of the table's, or what is delivered is the answer
  player-refused : (first second : ℕ) → table_refusal counts payoffs ≡ none → length counts ≤ player
      → refused 8 ≡ dominated_answer counts payoffs player first second
  unfolding dominated_answer
  player-refused first second checked h = rw (checked, no_player counts player h)

  delivered : (first second : ℕ) → table_refusal counts payoffs ≡ none → player < length counts
      → delivered_answer counts payoffs player first second ≡ dominated_answer counts payoffs player first second
  unfolding dominated_answer
  delivered first second checked l = rw (checked, (player_law counts player).1 l)

pub returns-then-counts-player : goal.returns-then-counts-player
returns-then-counts-player c =
    let a = c.args in
    let k : (table_refusal a.counts.now a.payoffs.now ≡ none) × (c.in_ok-profiles.profiles ≡ product a.counts.now) = told_values _ _ _ c.in_ok-profiles.ensures in
    let e = player-refused a.counts.now a.payoffs.now a.player (length a.dominated.now) (length a.dominators.now) k.0 (omega (arith, c.if-counts-player)) in
    record {
      result_value = e;
      dominated_after = put a.counts.now a.payoffs.now a.player strategies_of a.dominated.now e;
      dominators_after = put a.counts.now a.payoffs.now a.player dominators_of a.dominators.now e;
    }

pub deliver-requires : goal.deliver-requires
deliver-requires c =
    let a = c.args in
    let k : (table_refusal a.counts.now a.payoffs.now ≡ none) × (c.in_ok-profiles.profiles ≡ product a.counts.now) = told_values _ _ _ c.in_ok-profiles.ensures in
    record { table = (table_law a.counts.now a.payoffs.now).0 k.0; profiles_value = k.1; player_in_bounds = c.if-counts-player.false }

pub returns-in_err-profiles : goal.returns-in_err-profiles
unfolding dominated_answer
returns-in_err-profiles c =
    let a = c.args in
    let e = refused_first (table_refusal a.counts.now a.payoffs.now) _ _ _ c.in_err-profiles.ensures _ in
    record {
      result_value = handed_on _ _ c.from_residual.ensures.1 ∙ e;
      dominated_after = put a.counts.now a.payoffs.now a.player strategies_of a.dominated.now e;
      dominators_after = put a.counts.now a.payoffs.now a.player dominators_of a.dominators.now e;
    }

pub returns : goal.returns
returns c =
    let a = c.args in
    let k : (table_refusal a.counts.now a.payoffs.now ≡ none) × (c.in_ok-profiles.profiles ≡ product a.counts.now) = told_values _ _ _ c.in_ok-profiles.ensures in
    let e = c.deliver.ensures.result_value ∙ delivered a.counts.now a.payoffs.now a.player (length a.dominated.now) (length a.dominators.now) k.0 c.if-counts-player.false in
    record {
      result_value = e;
      dominated_after = c.deliver.ensures.dominated_after ∙ put a.counts.now a.payoffs.now a.player strategies_of a.dominated.now e;
      dominators_after = c.deliver.ensures.dominators_after ∙ put a.counts.now a.payoffs.now a.player dominators_of a.dominators.now e;
    }
