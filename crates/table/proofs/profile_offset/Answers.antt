use mathlib.Core.Path.{◌≡◌, refl, sym, ◌∙◌}
use Prim.Native.Nat.{◌<◌, ◌≤◌, ◌*◌, ◌+◌}
use Rattle.std.proofs.Common.{rules}
use native.Mathlib.Omega.{arith}
use borrow.Author.Count.{below_more}
use lib.ListN.{length, get_or, length-append}
use Rattle.std.proofs.lemmas.Slice.Zip.{zip_turn, zip_end}
use lib.Seq.{drop-length}
use Rattle.game.specs.Game.{Profile}
use Rattle.payoff_tables.specs.Limits.{max_cells}
use Rattle.payoff_tables.specs.Table.{offset}
use Rattle.payoff_tables.specs.Meaning.{Shape}
use Rattle.payoff_tables.proofs.Checks.{counts_law, wrong_length, bad_choice, profile_law}
use Rattle.payoff_tables.proofs.Offsets.{offset_more, offset_so_far}
use Rattle.payoff_tables.proofs.Walk.{offset_room}
use Rattle.table.proofs.profile_offset.Goals as goal
use Rattle.table.proofs.profile_offset.Goals.{Start, In-Some}

-- what the counts are
start : (c : Start) → Shape c.args.counts.now
start c = (counts_law c.args.counts.now).0 c.requires

pub returns-then-profile-counts : goal.returns-then-profile-counts
returns-then-profile-counts c = rw (wrong_length c.args.counts.now c.args.profile.now c.if-profile-counts.true)

-- the place of this turn's count and choice
turn : (c : In-Some) → let n = length c.loop-count.yielded in
    (n < length c.args.counts.now) × (n < length c.args.profile.now)
    × (c.in-Some.field-0-0.now ≡ get_or c.args.counts.now n 0) × (c.in-Some.field-0-1.now ≡ get_or c.args.profile.now n 0)
turn c =
    let t = zip_turn c.args.counts.now c.args.profile.now c.loop-count.yielded c.into_iter-count-iterator.result c.loop-count.count-iterator c.next.new.self c.next.result
    (search rules) (search rules) c.loop-count.yielded_by _ c.in-Some.is c.next.ensures.steps in
    (t.0, t.1, t.2 0, t.3 0)

pub loop-count-init : goal.loop-count-init
unfolding offset
loop-count-init c = (omega arith, refl, λ q h. absurd (omega arith))

pub returns-then-count-choice : goal.returns-then-count-choice
returns-then-count-choice c =
    let (k, _, count, choice) = turn (goal.at.returns-then-count-choice c).In-Some in
    rw (bad_choice c.args.counts.now c.args.profile.now _ (omega arith) k c.loop-count.invariant.2 (rw (← count, ← choice) c.if-count-choice.true))

-- the count and the choice fit 32 bits, and so does the offset with them
room : (c : In-Some) → c.in-Some.field-0-1.now < c.in-Some.field-0-0.now
    → (c.in-Some.field-0-0.now ≤ max_cells) × (c.in-Some.field-0-1.now ≤ max_cells) × (c.loop-count.at * c.in-Some.field-0-0.now + c.in-Some.field-0-1.now ≤ max_cells)
room c below =
    let (k, _, count, choice) = turn c in
    let h = start (goal.at.In-Some c).Start in
    let most = h.high _ k in
    let both = offset_room h c.loop-count.at _ _ k c.loop-count.invariant.0 (rw (count, choice) at below) in
    (omega (arith, most, count), omega (arith, most, count, below), rw (count, choice) both)

pub overflow_cast-at : goal.overflow_cast-at
overflow_cast-at c = omega (arith, (room (goal.at.overflow_cast-at c).In-Some c.if-count-choice.false).0)

pub overflow_mul-at : goal.overflow_mul-at
overflow_mul-at c = omega (arith, (room (goal.at.overflow_mul-at c).In-Some c.if-count-choice.false).2)

pub overflow_cast-at-in-loop-count : goal.overflow_cast-at-in-loop-count
overflow_cast-at-in-loop-count c = omega (arith, (room (goal.at.overflow_cast-at-in-loop-count c).In-Some c.if-count-choice.false).1)

pub overflow_add-at : goal.overflow_add-at
overflow_add-at c = omega (arith, (room (goal.at.overflow_add-at c).In-Some c.if-count-choice.false).2)

pub loop-count-preserved : goal.loop-count-preserved
loop-count-preserved c =
    let (k, j, count, choice) = turn (goal.at.loop-count-preserved c).In-Some in
    let l = c.loop-count in
    let below = rw (count, choice) at c.if-count-choice.false in
    rw (length-append, count, choice) (
      offset_so_far l.at _ _ c.args.counts.now k l.invariant.0 below,
      sym (offset_more l.at _ c.args.counts.now c.args.profile.now k j) ∙ l.invariant.1,
      below_more _ _ l.invariant.2 below,
    )

pub returns : goal.returns
returns c =
    let l = c.loop-count in
    let cs = c.args.counts.now in
    let x = c.args.profile.now in
    let end = zip_end cs x l.yielded c.into_iter-count-iterator.result l.count-iterator c.next.new.self c.next.result (search rules) (search rules) l.yielded_by c.in-None.is c.next.ensures.steps in
    let done : length l.yielded ≡ length cs = omega (arith, end) in
    let whole : Profile cs x = record { each = c.if-profile-counts.false; fits = λ q h. l.invariant.2 q (omega arith) } in
    let e : l.at ≡ offset cs x = rw (done, drop-length) at l.invariant.1 in
    rw ((profile_law cs x).1 whole, e)
