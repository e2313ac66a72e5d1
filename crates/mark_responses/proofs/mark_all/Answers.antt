use mathlib.Core.Path.{◌≡◌, ◌∙◌, subst}
use Prim.Native.Nat.{ℕ, ◌+◌, ◌-◌}
use native.Mathlib.Omega.{arith}
use borrow.Author.Rules.{rules}
use lib.ListN.{length}
use Rattle.payoff_tables.proofs.Walk.{Down, down}
use Rattle.mark_responses.specs.Sweep.{PlayersMarked}
use Rattle.mark_responses.proofs.Players.{still_ready, all_more, all_end}
use Rattle.mark_responses.proofs.mark_all.Goals as goal
use Rattle.mark_responses.proofs.mark_all.Goals.{In-loop-p}

-- the player of a turn
turn : (c : In-loop-p) → Down c.args.counts.now (c.loop-p.p - 1) c.loop-p.stride
turn c =
    let l = c.loop-p in
    down c.args.counts.now l.p l.stride c.requires.table.shape c.loop-p-test.true l.invariant.0 l.invariant.1

-- the players after it are marked
marked-after : (c : In-loop-p) → let a = c.args in
    let l = c.loop-p in PlayersMarked a.counts.now a.payoffs.now a.survivors.now (l.p - 1 + 1) a.marks.now l.marks
marked-after c =
    let a = c.args in
    let l = c.loop-p in
    let e : l.p ≡ l.p - 1 + 1 = omega (arith, c.loop-p-test.true) in
    subst (λ (n : ℕ). PlayersMarked a.counts.now a.payoffs.now a.survivors.now n a.marks.now l.marks) e l.invariant.3

pub mark_player-requires : goal.mark_player-requires
mark_player-requires c =
    let a = c.args in
    let r = c.requires in
    let l = c.loop-p in
    let d = turn (goal.at.mark_player-requires c).In-loop-p in record {
      table = r.table;
      survivors_len = (r.survivors_len, l.invariant.2);
      profiles_value = (r.profiles_value, d.inside, d.here);
      payoffs_in_bounds = omega (arith, r.payoffs_in_bounds, l.invariant.3.long);
      ready = still_ready a.counts.now a.payoffs.now a.survivors.now a.marks.now (l.p - 1) l.marks d.inside (r.by_index (l.p - 1) d.inside) (marked-after (goal.at.mark_player-requires c).In-loop-p);
    }

pub overflow_mul-stride : goal.overflow_mul-stride
overflow_mul-stride c = omega (arith, turn (goal.at.overflow_mul-stride c).In-loop-p)

pub loop-p-preserved : goal.loop-p-preserved
loop-p-preserved c =
    let a = c.args in
    let l = c.loop-p in
    let d = turn (goal.at.loop-p-preserved c).In-loop-p in
    let long : length c.mark_player.new.steps ≡ length l.steps = search rules in (
      omega (arith, l.invariant.0),
      d.next,
      long ∙ l.invariant.2,
      all_more a.counts.now a.payoffs.now a.survivors.now a.marks.now (l.p - 1) l.marks _ d.inside (marked-after (goal.at.loop-p-preserved c).In-loop-p) c.mark_player.ensures,
    )

pub returns : goal.returns
returns c =
    let a = c.args in
    let l = c.loop-p in
    let done : l.p ≡ 0 = omega arith in
    all_end a.counts.now a.payoffs.now a.survivors.now a.marks.now l.marks (rw (← c.requires.table.full) c.requires.payoffs_in_bounds)
    (subst (λ (n : ℕ). PlayersMarked a.counts.now a.payoffs.now a.survivors.now n a.marks.now l.marks) done l.invariant.3)
