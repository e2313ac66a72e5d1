use native.Mathlib.Omega.{arith}
use Rattle.payoff_tables.proofs.Walk.{offset_room}
use Rattle.responses.proofs.Opponents.{wrong_number, bad_opponent, opponents_law}
use Rattle.best_response.proofs.Walk.{walked_none, walked_end, walked_own, walked_read, walked_other}
use Rattle.best_response.proofs.opponents_offset.Goals as goal
use Rattle.best_response.proofs.opponents_offset.Goals.{then-p-player+else-count-choice, else-p-player}

pub returns-then-opponents-counts : goal.returns-then-opponents-counts
returns-then-opponents-counts c = rw (wrong_number _ _ _ c.if-opponents-counts.true)

pub loop-p-init : goal.loop-p-init
loop-p-init c = walked_none _ _ _

pub overflow_mul-at : goal.overflow_mul-at
overflow_mul-at c =
    let l = c.loop-p in
    let h = c.loop-p-test.true in
    omega (arith, offset_room c.requires.shape l.at 0 l.p h l.invariant.under (c.requires.shape.low l.p h))

pub returns-then-count-choice : goal.returns-then-count-choice
returns-then-count-choice c =
    let a = c.args in
    let l = c.loop-p in
    let many = c.if-opponents-counts.false in
    let h = c.loop-p-test.true in
    let read = walked_read _ _ _ c.requires.shape c.requires.player_in_bounds many l.invariant h c.if-p-player.true in
    rw
    (bad_opponent a.counts.now a.player a.opponents.now l.p many h c.if-p-player.true l.invariant.passed
    (rw (← read) c.if-count-choice.true))

pub overflow_add-at : goal.overflow_add-at
overflow_add-at c =
    let shape = c.requires.shape in
    let l = c.loop-p in
    omega (arith, offset_room shape l.at _ l.p c.loop-p-test.true l.invariant.under c.if-count-choice.false)

pub loop-p-preserved : goal.loop-p-preserved
loop-p-preserved c =
    let l = c.loop-p in
    let many = c.if-opponents-counts.false in
    let h = c.loop-p-test.true in
    elim c.if-p-player.branch [
      | then-p-player+else-count-choice w ↦ rw (w.at-is, w.next-is) (walked_other _ _ _ c.requires.shape c.requires.player_in_bounds many l.invariant h w.if-p-player.true w.if-count-choice.false)
      | else-p-player w ↦ rw (w.at-is, w.next-is) (walked_own _ _ _ c.requires.shape c.requires.player_in_bounds many l.invariant h w.if-p-player.false)
    ]

pub returns : goal.returns
returns c =
    let (all, is) = walked_end _ _ _ c.requires.shape c.requires.player_in_bounds c.if-opponents-counts.false c.loop-p.invariant (omega arith) in
    rw ((opponents_law _ _ _).1 (c.if-opponents-counts.false, all), is)
