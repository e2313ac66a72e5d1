use mathlib.Core.Path.{◌≡◌, sym, ap, subst}
use mathlib.Core.List.{List}
use Prim.Native.Nat.{ℕ, ◌+◌, ◌-◌, ◌<◌}
use native.Mathlib.Omega.{arith}
use lib.ListN.{length, get_or, take, drop}
use lib.Ieee.{nan}
use Rattle.std.proofs.lemmas.Grind.{common_steps}
use Rattle.mark_responses.specs.Sweep.{Greatest}
use Rattle.mark_responses.proofs.Row.{greatest_finite, greatest_more}
use Rattle.mark_responses.proofs.Rows.{pair_within}
use Rattle.mark_responses.proofs.greatest.Goals as goal
use Rattle.mark_responses.proofs.greatest.Goals.{Start, In-loop-step}

-- where the i-th cells of both rows are
within : (c : Start) (i : ℕ) → i < length c.args.steps.now → let a = c.args in
    (a.start + get_or a.steps.now i 0 < length a.payoffs.now) × (a.start + a.gap + get_or a.steps.now i 0 < length a.payoffs.now)
within c = let a = c.args in pair_within a.start a.gap a.steps.now (length a.payoffs.now) c.requires.within

pub overflow_add-first : goal.overflow_add-first
overflow_add-first c = omega (arith, within (goal.at.overflow_add-first c).Start 0 c.requires.steps_nonzero)

pub offset_bounds-payoffs-first : goal.offset_bounds-payoffs-first
offset_bounds-payoffs-first c = omega (arith, within (goal.at.offset_bounds-payoffs-first c).Start 0 c.requires.steps_nonzero)

pub bounds-payoffs-first : goal.bounds-payoffs-first
bounds-payoffs-first c = (within (goal.at.bounds-payoffs-first c).Start 0 c.requires.steps_nonzero).0

pub overflow_add-other : goal.overflow_add-other
overflow_add-other c = omega (arith, within (goal.at.overflow_add-other c).Start 0 c.requires.steps_nonzero)

pub offset_bounds-payoffs-first-2 : goal.offset_bounds-payoffs-first-2
offset_bounds-payoffs-first-2 c = omega (arith, within (goal.at.offset_bounds-payoffs-first-2 c).Start 0 c.requires.steps_nonzero)

pub bounds-payoffs-first-2 : goal.bounds-payoffs-first-2
bounds-payoffs-first-2 c = omega (arith, within (goal.at.bounds-payoffs-first-2 c).Start 0 c.requires.steps_nonzero)

-- the steps after the first
after : (steps : List ℕ) (k : ℕ) → get_or (take (length steps - 1) (drop 1 steps)) k 0 ≡ get_or steps (k + 1) 0
after steps k = grind (arith, common_steps)

-- the cells of a turn
module _ (c : In-loop-step) where
  abbrev step : ℕ
  step = get_or (take (length c.args.steps.now - 1) (drop 1 c.args.steps.now)) c.loop-step.step-index 0

  more : c.loop-step.step-index + 1 < length c.args.steps.now
  more = omega (arith, c.loop-step-test.true)

  cells : let a = c.args in (a.start + step < length a.payoffs.now) × (a.start + a.gap + step < length a.payoffs.now)
  cells = rw (after c.args.steps.now c.loop-step.step-index) (pair_within c.args.start c.args.gap c.args.steps.now (length c.args.payoffs.now) c.requires.within (c.loop-step.step-index + 1) more)

pub overflow_add-cell : goal.overflow_add-cell
overflow_add-cell c = omega (arith, cells (goal.at.overflow_add-cell c).In-loop-step)

pub offset_bounds-payoffs-cell : goal.offset_bounds-payoffs-cell
offset_bounds-payoffs-cell c = omega (arith, cells (goal.at.offset_bounds-payoffs-cell c).In-loop-step)

pub bounds-payoffs-cell : goal.bounds-payoffs-cell
bounds-payoffs-cell c = (cells (goal.at.bounds-payoffs-cell c).In-loop-step).0

pub greater-one-requires : goal.greater-one-requires
greater-one-requires c =
    let a = c.args in
    let l = c.loop-step in (
      c.requires.finites _ (cells (goal.at.greater-one-requires c).In-loop-step).0,
      greatest_finite a.payoffs.now a.steps.now a.start l.invariant.1 c.requires.finites c.type_inv.payoffs (λ j h. (within (goal.at.greater-one-requires c).Start j (omega (arith, h, l.invariant.0))).0),
    )

pub overflow_add-cell-in-loop-step : goal.overflow_add-cell-in-loop-step
overflow_add-cell-in-loop-step c = omega (arith, cells (goal.at.overflow_add-cell-in-loop-step c).In-loop-step)

pub offset_bounds-payoffs-cell-in-loop-step : goal.offset_bounds-payoffs-cell-in-loop-step
offset_bounds-payoffs-cell-in-loop-step c = omega (arith, cells (goal.at.offset_bounds-payoffs-cell-in-loop-step c).In-loop-step)

pub bounds-payoffs-cell-in-loop-step : goal.bounds-payoffs-cell-in-loop-step
bounds-payoffs-cell-in-loop-step c = omega (arith, cells (goal.at.bounds-payoffs-cell-in-loop-step c).In-loop-step)

pub greater-other-requires : goal.greater-other-requires
greater-other-requires c =
    let a = c.args in
    let l = c.loop-step in (
      c.requires.finites _ (omega (arith, cells (goal.at.greater-other-requires c).In-loop-step)),
      greatest_finite a.payoffs.now a.steps.now (a.start + a.gap) l.invariant.2 c.requires.finites c.type_inv.payoffs (λ j h. (within (goal.at.greater-other-requires c).Start j (omega (arith, h, l.invariant.0))).1),
    )

pub loop-step-preserved : goal.loop-step-preserved
loop-step-preserved c =
    let held = c.type_inv.payoffs in
    let t = (goal.at.loop-step-preserved c).In-loop-step in
    let s = (goal.at.loop-step-preserved c).Start in
    let a = c.args in
    let l = c.loop-step in
    let n : ℕ = l.step-index + 1 in
    let is : step t ≡ get_or a.steps.now n 0 = after a.steps.now l.step-index in (
      more t,
      subst (Greatest a.payoffs.now a.steps.now a.start (n + 1)) (sym c.greater-one.ensures)
          (greatest_more a.payoffs.now a.steps.now a.start l.invariant.1 c.requires.finites held (λ j h. (within s j (omega (arith, h, l.invariant.0))).0) _
          (ap (λ (m : ℕ). get_or a.payoffs.now (a.start + m) nan) is) (within s n (more t)).0),
      subst (Greatest a.payoffs.now a.steps.now (a.start + a.gap) (n + 1)) (sym c.greater-other.ensures)
          (greatest_more a.payoffs.now a.steps.now (a.start + a.gap) l.invariant.2 c.requires.finites held (λ j h. (within s j (omega (arith, h, l.invariant.0))).1) _
          (ap (λ (m : ℕ). get_or a.payoffs.now m nan) (omega (arith, is))) (within s n (more t)).1),
    )
