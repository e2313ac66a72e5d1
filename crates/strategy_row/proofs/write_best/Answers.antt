use mathlib.Core.Path.{◌≡◌, sym, subst, ◌∙◌}
use Prim.Native.Nat.{◌<◌}
use native.Mathlib.Omega.{arith}
use borrow.Author.Tests.{ltb-true, ltb-false}
use lib.Dec.{T}
use lib.ListN.{length}
use Rattle.strategy_row.proofs.Listing.{listed_none, listed_not, listed_room, listed_yes, listed_length}
use Rattle.strategy_row.proofs.write_best.Goals as goal
use Rattle.strategy_row.proofs.write_best.Goals.{At-loop-t, Then-marks-place, Then-not-exceeds, then-marks-place+then-not-exceeds, then-marks-place+else-not-exceeds, else-marks-place}

-- the outputs keep their lengths
kept : (c : At-loop-t) →
    let a = c.args in
    (length c.loop-t.strategies ≡ length a.strategies.now) × (length c.loop-t.utilities ≡ length a.utilities.now)
kept c =
    listed_length _ _ _ _ _ _ _ _ _ c.requires.top_in_bounds_2 c.requires.top_in_bounds_3 c.loop-t.invariant (omega arith)

-- and have room for a strategy that is marked and not exceeded
room : (c : Then-not-exceeds) →
    let l = c.loop-t in
    (l.number < length l.strategies) × (l.number < length l.utilities)
room c =
    let l = c.loop-t in
    listed_room _ _ _ _ _ _ _ _ _ c.requires.top_in_bounds_2 c.requires.top_in_bounds_3 l.invariant c.loop-t-test.true
    (subst T (sym c.if-marks-place.true) tt)
    (ltb-false _ _ (sym c.exceeds.ensures ∙ c.if-not-exceeds.true))

pub loop-t-init : goal.loop-t-init
loop-t-init c = listed_none _ _ _ _ _ _ _ _

pub bounds-strategies-number : goal.bounds-strategies-number
bounds-strategies-number c = (room (goal.at.bounds-strategies-number c).Then-not-exceeds).0

pub bounds-utilities-number : goal.bounds-utilities-number
bounds-utilities-number c = (room (goal.at.bounds-utilities-number c).Then-not-exceeds).1

pub loop-t-preserved : goal.loop-t-preserved
loop-t-preserved c =
    let l = c.loop-t in
    elim c.if-marks-place.branch [
      | then-marks-place+then-not-exceeds w ↦
          rw (w.number-is, w.strategies-is, w.utilities-is)
          (listed_yes _ _ _ _ _ _ _ _ _ c.requires.top_in_bounds_2 c.requires.top_in_bounds_3 l.invariant c.loop-t-test.true (subst T (sym w.if-marks-place.true) tt)
          (ltb-false _ _ (sym w.exceeds.ensures ∙ w.if-not-exceeds.true)))
      | then-marks-place+else-not-exceeds w ↦
          rw (w.number-is, w.strategies-is, w.utilities-is)
          (listed_not _ _ _ _ _ _ _ _ l.invariant (λ _. ltb-true _ _ (sym w.exceeds.ensures ∙ w.if-not-exceeds.false)))
      | else-marks-place w ↦
          rw (w.number-is, w.strategies-is, w.utilities-is) (listed_not _ _ _ _ _ _ _ _ l.invariant (λ on. absurd (subst T w.if-marks-place.false on)))
    ]
