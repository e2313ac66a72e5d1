-- `table::table_profile_count` meets its contract: a refusal of the counts comes first, and else the payoffs are checked against the cells.
-- Assumes nothing.
use mathlib.Core.Path.{◌≡◌, sym, ap, ◌∙◌}
use mathlib.Core.Option.{none}
use mathlib.Core.List.{List}
use Prim.Native.Nat.{ℕ, ◌*◌, ◌≤◌}
use native.Mathlib.Omega.{arith}
use lib.ListN.{length}
use Rattle.game.specs.Finite.{product}
use Rattle.refusal.proofs.Told.{told_values, hands_on}
use Rattle.payoff_tables.specs.Limits.{max_cells}
use Rattle.payoff_tables.specs.Table.{cells}
use Rattle.payoff_tables.specs.Checks.{counts_refusal, table_refusal}
use Rattle.payoff_tables.proofs.Checks.{counts_law, wrong_size, not_finite, table_fits}
use Rattle.table.proofs.table_profile_count.Goals as goal
use Rattle.table.proofs.table_profile_count.Goals.{In_ok-profiles}

-- where the counts have no refusal
module _ (c : In_ok-profiles) where
  abbrev cs : List ℕ
  cs = c.args.counts.now

  abbrev profiles : ℕ
  profiles = c.in_ok-profiles.profiles

  checked : (counts_refusal cs ≡ none) × (profiles ≡ product cs)
  checked = told_values (counts_refusal cs) (product cs) profiles c.in_ok-profiles.ensures

  size : profiles * length cs ≡ cells cs
  size = ap (λ (n : ℕ). n * length cs) checked.1

  room : profiles * length cs ≤ max_cells
  room = rw size ((counts_law cs).0 checked.0).room

pub overflow_mul-profiles : goal.overflow_mul-profiles
overflow_mul-profiles c = omega (arith, room c)

pub returns-in_err-profiles : goal.returns-in_err-profiles
unfolding table_refusal
returns-in_err-profiles c = hands_on _ _ (counts_refusal c.args.counts.now) _ _ _ c.from_residual.ensures.1 c.in_err-profiles.ensures

pub returns-then-payoffs-profiles : goal.returns-then-payoffs-profiles
returns-then-payoffs-profiles c =
    let k = (goal.at.returns-then-payoffs-profiles c).In_ok-profiles in
    rw (wrong_size (cs k) _ (checked k).0 (λ e. c.if-payoffs-profiles.true (e ∙ sym (size k))))

pub returns-then-not-all_finite : goal.returns-then-not-all_finite
returns-then-not-all_finite c =
    let k = (goal.at.returns-then-not-all_finite c).In_ok-profiles in
    rw (not_finite (cs k) _ (checked k).0 (c.if-payoffs-profiles.false ∙ size k) (sym c.all_finite.ensures ∙ c.if-not-all_finite.true))

pub returns : goal.returns
returns c =
    let k = (goal.at.returns c).In_ok-profiles in
    rw (table_fits (cs k) _ (checked k).0 (c.if-payoffs-profiles.false ∙ size k) (sym c.all_finite.ensures ∙ c.if-not-all_finite.false), (checked k).1)
