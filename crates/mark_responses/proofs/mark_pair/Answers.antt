use mathlib.Core.Path.{◌≡◌, ap, ◌∙◌, subst}
use mathlib.Core.Bool.{not}
use Prim.Native.Nat.{ℕ, ◌+◌, ◌<◌, ◌≤◌}
use native.Mathlib.Omega.{arith}
use lib.ListN.{length, get_or, set, length-set}
use lib.Ieee.{nan}
use Rattle.refusal.specs.Told.{byte_of}
use Rattle.payoff_order.specs.Order.{greater as above}
use Rattle.mark_responses.specs.Sweep.{Spaced, CellOf, BytesMarked}
use Rattle.mark_responses.proofs.Row.{greatest_finite, greatest_top}
use Rattle.mark_responses.proofs.Rows.{pair_within, pair_more}
use Rattle.mark_responses.proofs.mark_pair.Goals as goal
use Rattle.mark_responses.proofs.mark_pair.Goals.{In-loop-step}

-- the cells of a turn
cells : (c : In-loop-step) → let a = c.args in
    let i = c.loop-step.step-index in
    (a.start + get_or a.steps.now i 0 < length a.payoffs.now) × (a.start + a.gap + get_or a.steps.now i 0 < length a.payoffs.now)
cells c = let a = c.args in pair_within a.start a.gap a.steps.now (length a.payoffs.now) c.requires.within c.loop-step.step-index c.loop-step-test.true

-- there are as many bytes
room : (c : In-loop-step) → length c.args.payoffs.now ≤ length c.loop-step.marks
room c = omega (arith, c.loop-step.invariant.1, c.requires.payoffs_in_bounds)

pub overflow_add-cell : goal.overflow_add-cell
overflow_add-cell c = omega (arith, cells (goal.at.overflow_add-cell c).In-loop-step)

pub offset_bounds-payoffs-cell : goal.offset_bounds-payoffs-cell
offset_bounds-payoffs-cell c = omega (arith, cells (goal.at.offset_bounds-payoffs-cell c).In-loop-step)

pub bounds-payoffs-cell : goal.bounds-payoffs-cell
bounds-payoffs-cell c = (cells (goal.at.bounds-payoffs-cell c).In-loop-step).0

pub reaches-requires : goal.reaches-requires
reaches-requires c =
    let i = c in
    let g = i in
    let s = g in
    let a = s.args in (
      c.requires.finites _ (cells (goal.at.reaches-requires c).In-loop-step).0,
      greatest_finite a.payoffs.now a.steps.now a.start g.greatest-tops.ensures.greatest c.requires.finites c.type_inv.payoffs (λ j h. (pair_within a.start a.gap a.steps.now (length a.payoffs.now) c.requires.within j h).0),
    )

pub bounds-marks-cell : goal.bounds-marks-cell
bounds-marks-cell c = let i = c in omega (arith, cells (goal.at.bounds-marks-cell c).In-loop-step, room (goal.at.bounds-marks-cell c).In-loop-step)

pub overflow_add-cell-in-loop-step : goal.overflow_add-cell-in-loop-step
overflow_add-cell-in-loop-step c = omega (arith, cells (goal.at.overflow_add-cell-in-loop-step c).In-loop-step)

pub offset_bounds-payoffs-cell-in-loop-step : goal.offset_bounds-payoffs-cell-in-loop-step
offset_bounds-payoffs-cell-in-loop-step c = omega (arith, cells (goal.at.offset_bounds-payoffs-cell-in-loop-step c).In-loop-step)

pub bounds-payoffs-cell-in-loop-step : goal.bounds-payoffs-cell-in-loop-step
bounds-payoffs-cell-in-loop-step c = omega (arith, cells (goal.at.bounds-payoffs-cell-in-loop-step c).In-loop-step)

pub reaches-requires-in-loop-step : goal.reaches-requires-in-loop-step
reaches-requires-in-loop-step c =
    let i = c in
    let g = i in
    let s = g in
    let a = s.args in (
      c.requires.finites _ (omega (arith, cells (goal.at.reaches-requires-in-loop-step c).In-loop-step)),
      greatest_finite a.payoffs.now a.steps.now (a.start + a.gap) g.greatest-tops.ensures.greatest_2 c.requires.finites c.type_inv.payoffs (λ j h. (pair_within a.start a.gap a.steps.now (length a.payoffs.now) c.requires.within j h).1),
    )

pub overflow_add-marks : goal.overflow_add-marks
overflow_add-marks c = omega (arith, cells (goal.at.overflow_add-marks c).In-loop-step)

pub bounds-marks-cell-in-loop-step : goal.bounds-marks-cell-in-loop-step
bounds-marks-cell-in-loop-step c =
    let i = c in
    let l = i.loop-step in
    let a = i.args in
    omega (arith, cells (goal.at.bounds-marks-cell-in-loop-step c).In-loop-step, room (goal.at.bounds-marks-cell-in-loop-step c).In-loop-step, length-set l.marks (a.start + get_or a.steps.now l.step-index 0) c.reaches.result)

pub loop-step-preserved : goal.loop-step-preserved
loop-step-preserved c =
    let held = c.type_inv.payoffs in
    let i = c in
    let l = i.loop-step in
    let g = i in
    let s = g in
    let a = s.args in
    let payoffs = a.payoffs.now in
    let steps = a.steps.now in
    let cell : ℕ = a.start + get_or steps l.step-index 0 in
    let same : cell + a.gap ≡ a.start + a.gap + get_or steps l.step-index 0 = omega arith in
    let v = c.reaches.ensures
    ∙ ap byte_of (greatest_top payoffs steps a.start g.greatest-tops.ensures.greatest c.requires.finites held (λ j h. (pair_within a.start a.gap a.steps.now (length a.payoffs.now) c.requires.within j h).0) l.step-index i.loop-step-test.true) in
    let u = c.reaches-in-loop-step.ensures
    ∙ ap (λ (n : ℕ). byte_of (not (above g.greatest-tops.result.other (get_or payoffs n nan)))) same
    ∙ ap byte_of (greatest_top payoffs steps (a.start + a.gap) g.greatest-tops.ensures.greatest_2 c.requires.finites held (λ j h. (pair_within a.start a.gap a.steps.now (length a.payoffs.now) c.requires.within j h).1) l.step-index i.loop-step-test.true) in (
      omega arith,
      length-set (set l.marks cell c.reaches.result) (cell + a.gap) c.reaches-in-loop-step.result ∙ length-set l.marks cell c.reaches.result ∙ l.invariant.1,
      λ want wants.
          pair_more payoffs steps a.start a.gap want wants l.step-index i.loop-step-test.true (l.invariant.2 want wants) _ _ v u
          (omega (arith, cells (goal.at.loop-step-preserved c).In-loop-step, room (goal.at.loop-step-preserved c).In-loop-step)) (omega (arith, cells (goal.at.loop-step-preserved c).In-loop-step, room (goal.at.loop-step-preserved c).In-loop-step)),
    )

pub returns : goal.returns
returns c =
    let l = c.loop-step in
    let a = c.args in
    let done : l.step-index ≡ length a.steps.now = omega arith in
    λ want wants. subst (λ (n : ℕ). BytesMarked want (CellOf a.steps.now n (Spaced a.start a.gap 2)) a.marks.now l.marks) done (l.invariant.2 want wants)
