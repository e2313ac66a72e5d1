use mathlib.Core.Path.{◌≡◌, sym, ap, ◌∙◌}
use mathlib.Core.List.{List}
use mathlib.Core.Logic.{⊎_elim}
use Prim.Native.Nat.{ℕ, ◌+◌, ◌-◌, ◌≤◌, min}
use native.Mathlib.Omega.{arith}
use lib.ListN.{length, get_or, take, length-set}
use lib.Seq.{take_all}
use Rattle.game.proofs.Finite.{le_or_lt}
use Rattle.payoff_tables.specs.Limits.{max_players}
use Rattle.profile_step.specs.Step.{step}
use Rattle.profile_step.proofs.Step.{step_down_stop, step_down_carry, step_few}
use Rattle.profile_step.proofs.advance_profile.Goals as goal
use Rattle.profile_step.proofs.advance_profile.Goals.{else-choice-count-via-then-choice-count+else-choice-count-2, else-choice-count-via-else-choice-count}

-- only the players that have a place step
with_places : (cs x : List ℕ) (p : ℕ) → p ≡ min (length cs) (length x) → step cs x ≡ step (take p cs) x
with_places cs x p e =
    ⊎_elim (λ h. step_few cs x p (omega arith)) (λ h. ap (λ (l : List ℕ). step l x) (sym (take_all p cs (omega arith)))) (le_or_lt (length x) (length cs))

pub loop-p-init : goal.loop-p-init
loop-p-init c =
    let h = c.min-p.ensures in
    let full : length c.args.profile ≡ max_players = omega arith in
    (omega (arith, h), omega (arith, h), full, with_places c.args.counts.now c.args.profile c.min-p.result (omega (arith, h, full)))

pub returns-then-choice-count-2 : goal.returns-then-choice-count-2
returns-then-choice-count-2 c =
    let l = c.loop-p in
    sym (l.invariant.3 ∙ step_down_stop c.args.counts.now l.next l.p (l.p - 1) (omega arith) (omega arith) (omega arith) c.if-choice-count-2.true)

pub loop-p-preserved : goal.loop-p-preserved
loop-p-preserved c =
    let l = c.loop-p in
    let cs = c.args.counts.now in
    let full : get_or cs (l.p - 1) 0 ≤ get_or l.next (l.p - 1) 0 + 1 = elim c.else-choice-count.branch [ else-choice-count-via-then-choice-count+else-choice-count-2 w ↦ omega arith | else-choice-count-via-else-choice-count w ↦ omega arith ] in (
      omega arith,
      omega arith,
      simp length-set l.invariant.2,
      l.invariant.3 ∙ step_down_carry cs l.next l.p (l.p - 1) (omega arith) (omega arith) (omega arith) full,
    )
