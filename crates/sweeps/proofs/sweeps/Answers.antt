-- `sweeps::sweeps` meets its contract. Assumes nothing.
use Rattle.std.proofs.Common.{ap, ◌∙◌, true, ℕ, ◌/◌, length}
use mathlib.Core.Path.{subst⁻¹}
use native.Mathlib.Nat.{mul-div_cancel}
use Rattle.game.specs.Finite.{product}
use Rattle.refusal.specs.Refusal.{Refusal}
use Rattle.refusal.specs.Told.{unless_refused}
use Rattle.payoff_tables.proofs.Checks.{table_law}
use Rattle.survivors.specs.declared.Survivors.{Survivors}
use Rattle.survivors.specs.Survivors.{fresh_of, no_survivors}
use Rattle.strike_sweeps.proofs.Ends.{sweeps_done}
use Rattle.strike_sweeps.specs.Sweeps.{sweeps}
use Rattle.strike_sweeps.specs.Meaning.{Done}
use Rattle.sweeps.proofs.Runs.{After, after_none, after_more, after_less, after_all}
use Rattle.sweeps.proofs.sweeps.Goals as goal

pub loop-progress-init : goal.loop-progress-init
loop-progress-init c =
    let cs = c.args.counts.now in
    let ps = c.args.payoffs.now in
    let old = c.args.struck.now in
    let t = c.requires in (
      ap (λ (n : ℕ). n / length cs) t.full ∙ mul-div_cancel (product cs) t.shape.some,
      subst⁻¹ (λ (v : Survivors). After cs ps old 0 true v old)
          (c.fresh.ensures.survivors_value ∙ ap (λ (r : Refusal). unless_refused r (fresh_of cs) no_survivors) ((table_law cs ps).1 t))
          (after_none cs ps old),
    )

pub loop-progress-smaller : goal.loop-progress-smaller
loop-progress-smaller c =
    after_less c.args.counts.now c.args.payoffs.now c.requires c.loop-progress.invariant.1 c.sweep-progress.ensures c.loop-progress-test.true

pub loop-progress-preserved : goal.loop-progress-preserved
loop-progress-preserved c =
    (c.loop-progress.invariant.0, after_more c.args.counts.now c.args.payoffs.now c.requires c.loop-progress.invariant.1 c.sweep-progress.ensures)

pub returns : goal.returns
returns c =
    let cs = c.args.counts.now in
    let ps = c.args.payoffs.now in
    let (end, left, output) = after_all cs ps c.requires c.loop-progress.invariant.1 c.loop-progress-test.false in
    let done = subst⁻¹ (Done cs ps (sweeps cs ps).strikes) left (sweeps_done cs ps c.requires) in
    record {
      end_value = end;
      survivors_value = left;
      struck_after = output;
      done_into = record { strikes = (sweeps cs ps).strikes; put = (end, output); done = done };
    }
