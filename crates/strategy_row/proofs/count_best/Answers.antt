use mathlib.Core.Path.{refl, sym, ap, subst, ◌∙◌}
use Prim.Native.Nat.{ℕ, ◌+◌}
use native.Mathlib.Omega.{arith}
use borrow.Author.Tests.{ltb-true, ltb-false}
use lib.Dec.{T}
use lib.ListN.{length}
use Rattle.strategy_row.specs.Row.{row_reaching}
use Rattle.strategy_row.proofs.Row.{reaching_one, reaching_not, reaching_few}
use Rattle.strategy_row.proofs.count_best.Goals as goal
use Rattle.strategy_row.proofs.count_best.Goals.{Then-marks-place, then-marks-place+then-not-exceeds, else-marks-place, else-marks-place-via-then-marks-place+else-not-exceeds, else-marks-place-via-else-marks-place}

pub loop-t-init : goal.loop-t-init
unfolding row_reaching
loop-t-init c = refl

pub overflow_add-number : goal.overflow_add-number
overflow_add-number c =
    let a = c.args in
    let l = c.loop-t in
    omega (arith, l.invariant, reaching_few a.payoffs.now a.marks.now a.place a.start a.step a.top l.t)

pub loop-t-preserved : goal.loop-t-preserved
loop-t-preserved c =
    let l = c.loop-t in
    let a = c.args in
    elim c.if-marks-place.branch [
      | then-marks-place+then-not-exceeds w ↦
          w.number-is
          ∙ ap (λ (n : ℕ). n + 1) l.invariant
          ∙ sym (reaching_one a.payoffs.now a.marks.now a.place a.start a.step a.top l.t (subst T (sym w.if-marks-place.true) tt)
          (ltb-false _ _ (sym w.exceeds.ensures ∙ w.if-not-exceeds.true)))
      | else-marks-place w ↦
          w.number-is ∙ l.invariant ∙ sym (ap length (reaching_not _ _ _ _ _ _ l.t
          (elim w.else-marks-place.branch [
            | else-marks-place-via-then-marks-place+else-not-exceeds v ↦ λ _. ltb-true _ _ (sym v.exceeds.ensures ∙ v.if-not-exceeds.false)
            | else-marks-place-via-else-marks-place v ↦ λ on. absurd (subst T v.if-marks-place.false on)
          ])))
    ]
