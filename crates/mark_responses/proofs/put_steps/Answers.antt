use mathlib.Core.Path.{refl, ◌∙◌}
use mathlib.Core.List.{[], ◌∷◌}
use Prim.Native.Nat.{ℕ, ◌*◌, ◌≤◌}
use native.Mathlib.Omega.{arith}
use lib.ListN.{length-set, length-append}
use Rattle.mark_responses.specs.Sweep.{marked_of}
use Rattle.mark_responses.proofs.Row.{marked_few, marked_yes, marked_no, steps_more}
use Rattle.mark_responses.proofs.put_steps.Goals as goal
use Rattle.mark_responses.proofs.put_steps.Goals.{At-loop-t, then-survivors-place, else-survivors-place}

-- no more are listed than were looked at
few : (c : At-loop-t) → c.loop-t.number ≤ c.loop-t.t
few c = rw c.loop-t.invariant.2 (marked_few c.args.survivors.now c.args.place c.loop-t.t)

pub loop-t-init : goal.loop-t-init
unfolding marked_of
loop-t-init c = (omega arith, refl, refl, refl)

pub bounds-steps-number : goal.bounds-steps-number
bounds-steps-number c = omega (arith, few (goal.at.bounds-steps-number c).At-loop-t, c.loop-t.invariant.1)

pub loop-t-preserved : goal.loop-t-preserved
loop-t-preserved c =
    let s = c.args in
    let l = c.loop-t in
    let f : ℕ → ℕ = λ t. t * s.step in
    elim c.if-survivors-place.branch [
      | then-survivors-place w ↦
          let more = marked_yes s.survivors.now s.place l.t w.if-survivors-place.true in
          rw (w.steps-is, w.number-is, more) (
            omega arith,
            length-set l.steps l.number (f l.t) ∙ l.invariant.1,
            omega (arith, l.invariant.2, length-append (marked_of s.survivors.now s.place l.t) (l.t ∷ [])),
            steps_more f (marked_of s.survivors.now s.place l.t) l.steps l.number l.t (omega (arith, few (goal.at.loop-t-preserved c).At-loop-t, l.invariant.1)) l.invariant.3,
          )
      | else-survivors-place w ↦ rw (w.steps-is, w.number-is, marked_no s.survivors.now s.place l.t w.if-survivors-place.false) (omega arith, l.invariant.1, l.invariant.2, l.invariant.3)
    ]
