use mathlib.Core.Path.{◌≡◌, sym, ap, ◌∙◌}
use mathlib.Core.Bool.{Bool}
use mathlib.Core.List.{List}
use mathlib.Core.Logic.{◌≢◌}
use Prim.Native.Nat.{ℕ, ◌+◌, ◌*◌, ◌-◌, ◌<◌, ◌≤◌}
use native.Mathlib.Omega.{arith}
use lib.ListN.{get_or}
use lib.Seq.{drop-length}
use Rattle.game.specs.Finite.{product}
use Rattle.game.specs.Game.{Marks}
use Rattle.payoff_tables.specs.Limits.{max_strategies}
use Rattle.payoff_tables.proofs.Offsets.{nth_profile}
use Rattle.payoff_tables.proofs.Walk.{Down, down, shape_room}
use Rattle.marks.specs.Marks.{marked}
use Rattle.marked_rows.specs.Rows.{Kept, MarkedRow, NextMark}
use Rattle.marked_rows.proofs.Next.{chosen, Changed, changed_up, down_fits, changed_down, kept_set, row_fits, own_first, own_last, Firsts, firsts_none, firsts_more, firsts_keep, Lasts, lasts_none, lasts_more, last_row, next_row, mark_fits, mark_none, first_mark, some_mark}
use Rattle.marked_rows.proofs.next_row.Goals as goal
use Rattle.marked_rows.proofs.next_row.Goals.{In-loop-q, else-q-player, then-q-player+else-next-count}

-- the player whose choice is looked at
module _ {cs choices : List ℕ} {m : Marks} {p base l at stride : ℕ} (some : 0 < l) (row : MarkedRow cs m p base)
    (firsts : Firsts cs m p base l at) (kept : Kept cs p 0 choices at) (turn : Down cs (l - 1) stride) where
  low : chosen cs base (l - 1) < get_or cs (l - 1) 0
  low = (nth_profile cs base row.inside).fits (l - 1) turn.inside

  same : chosen cs at (l - 1) ≡ chosen cs base (l - 1)
  same = firsts.before (l - 1) (omega arith)

  -- another player's choice that is read is the row's
  module _ (other : l - 1 ≢ p) where
    now-is : chosen cs at (l - 1) ≡ get_or choices (l - 1) 0
    now-is = sym (kept.each (l - 1) (omega arith) turn.inside other)

    is : get_or choices (l - 1) 0 ≡ chosen cs base (l - 1)
    is = sym now-is ∙ same

    -- up to the choice t, or down to it
    up : (t : ℕ) → t < get_or cs (l - 1) 0 → get_or choices (l - 1) 0 ≤ t → Changed cs at (l - 1) t (at + (t - get_or choices (l - 1) 0) * stride)
    up t b = changed_up cs at (l - 1) (get_or choices (l - 1) 0) t stride turn.here firsts.inside turn.inside b now-is

    down-room : (t : ℕ) → t < get_or cs (l - 1) 0 → t ≤ get_or choices (l - 1) 0 → (get_or choices (l - 1) 0 - t) * stride ≤ at
    down-room t b = down_fits cs at (l - 1) (get_or choices (l - 1) 0) t stride turn.here firsts.inside turn.inside b now-is

    back : (t : ℕ) → t < get_or cs (l - 1) 0 → t ≤ get_or choices (l - 1) 0 → Changed cs at (l - 1) t (at - (get_or choices (l - 1) 0 - t) * stride)
    back t b = changed_down cs at (l - 1) (get_or choices (l - 1) 0) t stride turn.here firsts.inside turn.inside b now-is

-- the player's choice goes back to its first marked one
found : {cs choices : List ℕ} (ms : List Bool) {p base l at stride : ℕ} (some : 0 < l) (row : MarkedRow cs (marked ms) p base)
    (firsts : Firsts cs (marked ms) p base l at) (kept : Kept cs p 0 choices at) (turn : Down cs (l - 1) stride) (other : l - 1 ≢ p) {first : ℕ}
    → NextMark ms ((l - 1) * max_strategies) 0 (get_or cs (l - 1) 0) first → (first < get_or cs (l - 1) 0) × (first ≤ get_or choices (l - 1) 0)
found {cs} {choices} ms {p} {base} {l} some row firsts kept turn other k =
    let e = is some row firsts kept turn other in
    some_mark cs ms p (l - 1) other turn.high k (get_or choices (l - 1) 0) (omega (arith, e, low some row firsts kept turn))
    (rw e (row_fits cs (marked ms) p row (l - 1) turn.inside))

turn : (c : In-loop-q) → Down c.args.counts.now (c.loop-q.q - 1) c.loop-q.stride
turn c = down c.args.counts.now c.loop-q.q c.loop-q.stride c.requires.shape c.loop-q-test.true (omega arith) c.loop-q.invariant.0

pub loop-q-init : goal.loop-q-init
loop-q-init c =
    let a = c.args in
    let r = c.requires in (
      sym (ap product (drop-length a.counts.now)),
      firsts_none _ _ _ _ r.marked_row.inside,
      lasts_none a.counts.now (marked a.marks.now) a.player a.base,
      r.kept,
    )

pub offset_bounds-counts-q : goal.offset_bounds-counts-q
offset_bounds-counts-q c = omega (arith, turn (goal.at.offset_bounds-counts-q c).In-loop-q)

pub overflow_mul-place : goal.overflow_mul-place
overflow_mul-place c = omega (arith, turn (goal.at.overflow_mul-place c).In-loop-q)

pub bounds-choices-q : goal.bounds-choices-q
bounds-choices-q c = omega (arith, turn (goal.at.bounds-choices-q c).In-loop-q)

pub overflow_add-choice : goal.overflow_add-choice
overflow_add-choice c =
    let l = c.loop-q in
    let d = turn (goal.at.overflow_add-choice c).In-loop-q in
    let row = c.requires.marked_row in
    omega (arith, is c.loop-q-test.true row l.invariant.1 l.invariant.3 d c.if-q-player.true, low c.loop-q-test.true row l.invariant.1 l.invariant.3 d, d)

pub next_mark-next-requires : goal.next_mark-next-requires
next_mark-next-requires c =
    let l = c.loop-q in
    let d = turn (goal.at.next_mark-next-requires c).In-loop-q in
    let row = c.requires.marked_row in
    record {
      from_le_count = omega (arith, is c.loop-q-test.true row l.invariant.1 l.invariant.3 d c.if-q-player.true, low c.loop-q-test.true row l.invariant.1 l.invariant.3 d);
      count_in_bounds = rw c.requires.marks_len (omega (arith, d));
    }

pub overflow_cast-choices : goal.overflow_cast-choices
overflow_cast-choices c = omega (arith, c.if-next-count, turn (goal.at.overflow_cast-choices c).In-loop-q)

pub bounds-choices-q-then-next-count : goal.bounds-choices-q-then-next-count
bounds-choices-q-then-next-count c = omega (arith, turn (goal.at.bounds-choices-q-then-next-count c).In-loop-q)

-- the next marked choice of the player, where there is one
pub overflow_sub-result : goal.overflow_sub-result
overflow_sub-result c = omega (arith, c.next_mark-next.ensures.least)

pub overflow_mul-result : goal.overflow_mul-result
overflow_mul-result c =
    let l = c.loop-q in
    let d = turn (goal.at.overflow_mul-result c).In-loop-q in
    let moved = up c.loop-q-test.true c.requires.marked_row l.invariant.1 l.invariant.3 d c.if-q-player.true c.next_mark-next.result c.if-next-count.true (omega (arith, c.next_mark-next.ensures.least)) in
    omega (arith, moved.inside, shape_room c.requires.shape)

pub overflow_add-result : goal.overflow_add-result
overflow_add-result c =
    let l = c.loop-q in
    let d = turn (goal.at.overflow_add-result c).In-loop-q in
    let moved = up c.loop-q-test.true c.requires.marked_row l.invariant.1 l.invariant.3 d c.if-q-player.true c.next_mark-next.result c.if-next-count.true (omega (arith, c.next_mark-next.ensures.least)) in
    omega (arith, moved.inside, shape_room c.requires.shape)

pub returns-then-next-count : goal.returns-then-next-count
returns-then-next-count c =
    let a = c.args in
    let cs = a.counts.now in
    let l = c.loop-q in
    let q : ℕ = l.q - 1 in
    let m = marked a.marks.now in
    let row = c.requires.marked_row in
    let some = c.loop-q-test.true in
    let other = c.if-q-player.true in
    let d = turn (goal.at.returns-then-next-count c).In-loop-q in
    let e = is some row l.invariant.1 l.invariant.3 d other in
    let k = c.next_mark-next.ensures in
    let above : get_or l.choices q 0 < c.next_mark-next.result = omega (arith, k.least) in
    let moved = up some row l.invariant.1 l.invariant.3 d other c.next_mark-next.result c.if-next-count.true (omega (arith, above)) in record {
      next_row = next_row cs m a.player row some (omega arith) c.requires.player_in_bounds l.invariant.1 l.invariant.2 moved
          (mark_fits cs a.marks.now a.player q other d.high k c.if-next-count.true) (omega (arith, above))
          (λ v l h. mark_none cs a.marks.now a.player q other d.high k v (omega arith) h);
      kept_2 = λ h. kept_set 0 l.invariant.3 moved (omega (arith, d)) (λ j a b. a);
    }

pub next_mark-first-requires : goal.next_mark-first-requires
next_mark-first-requires c =
    let d = turn (goal.at.next_mark-first-requires c).In-loop-q in
    record { from_le_count = omega arith; count_in_bounds = rw c.requires.marks_len (omega (arith, d)) }

pub overflow_cast-choices-then-q-player : goal.overflow_cast-choices-then-q-player
overflow_cast-choices-then-q-player c =
    let l = c.loop-q in
    let d = turn (goal.at.overflow_cast-choices-then-q-player c).In-loop-q in
    omega (arith, found c.args.marks.now c.loop-q-test.true c.requires.marked_row l.invariant.1 l.invariant.3 d c.if-q-player.true c.next_mark-first.ensures, d)

pub bounds-choices-q-then-q-player : goal.bounds-choices-q-then-q-player
bounds-choices-q-then-q-player c = omega (arith, turn (goal.at.bounds-choices-q-then-q-player c).In-loop-q)

pub overflow_sub-at : goal.overflow_sub-at
overflow_sub-at c =
    let l = c.loop-q in
    let d = turn (goal.at.overflow_sub-at c).In-loop-q in
    (found c.args.marks.now c.loop-q-test.true c.requires.marked_row l.invariant.1 l.invariant.3 d c.if-q-player.true c.next_mark-first.ensures).1

pub overflow_mul-at : goal.overflow_mul-at
overflow_mul-at c =
    let l = c.loop-q in
    let d = turn (goal.at.overflow_mul-at c).In-loop-q in
    let row = c.requires.marked_row in
    let f = found c.args.marks.now c.loop-q-test.true row l.invariant.1 l.invariant.3 d c.if-q-player.true c.next_mark-first.ensures in
    omega (arith, down-room c.loop-q-test.true row l.invariant.1 l.invariant.3 d c.if-q-player.true c.next_mark-first.result f.0 f.1, l.invariant.1.inside, shape_room c.requires.shape)

pub overflow_sub-at-then-q-player : goal.overflow_sub-at-then-q-player
overflow_sub-at-then-q-player c =
    let l = c.loop-q in
    let d = turn (goal.at.overflow_sub-at-then-q-player c).In-loop-q in
    let row = c.requires.marked_row in
    let f = found c.args.marks.now c.loop-q-test.true row l.invariant.1 l.invariant.3 d c.if-q-player.true c.next_mark-first.ensures in
    down-room c.loop-q-test.true row l.invariant.1 l.invariant.3 d c.if-q-player.true c.next_mark-first.result f.0 f.1

pub overflow_mul-stride : goal.overflow_mul-stride
overflow_mul-stride c = omega (arith, turn (goal.at.overflow_mul-stride c).In-loop-q)

pub loop-q-preserved : goal.loop-q-preserved
loop-q-preserved c =
    let a = c.args in
    let l = c.loop-q in
    let cs = a.counts.now in
    let m = marked a.marks.now in
    let q : ℕ = l.q - 1 in
    let d = turn (goal.at.loop-q-preserved c).In-loop-q in
    let some = c.loop-q-test.true in
    let row = c.requires.marked_row in
    let all : Firsts cs m a.player a.base q c.if-q-player.at × Lasts cs m a.player a.base q × Kept cs a.player 0 c.if-q-player.choices c.if-q-player.at =
    elim c.if-q-player.branch [
      | then-q-player+else-next-count w ↦
          let other = w.if-q-player.true in
          let k = w.next_mark-first.ensures in
          let e = is some row l.invariant.1 l.invariant.3 d other in
          let f = found a.marks.now some row l.invariant.1 l.invariant.3 d other k in
          let restarted = back some row l.invariant.1 l.invariant.3 d other w.next_mark-first.result f.0 f.1 in (
            rw w.at-is (firsts_more cs m a.player some l.invariant.1 w.next_mark-first.result _ restarted (first_mark cs a.marks.now a.player q other d.high k f.0)),
            lasts_more cs m a.player a.base l.q some l.invariant.2
                (λ v a' b. mark_none cs a.marks.now a.player q other d.high w.next_mark-next.ensures v (omega (arith, e)) (omega (arith, w.if-next-count.false))),
            rw (w.choices-is, w.at-is) (kept_set 0 l.invariant.3 restarted (omega (arith, d)) (λ j a b. a)),
          )
      | else-q-player w ↦ (
        rw w.at-is (firsts_keep cs m a.player some l.invariant.1 (own_first cs m a.player q (chosen cs l.at q) w.if-q-player.false (same some row l.invariant.1 l.invariant.3 d ∙ rw w.if-q-player.false row.own))),
        lasts_more cs m a.player a.base l.q some l.invariant.2 (own_last cs m a.player q _ _ w.if-q-player.false),
        rw (w.choices-is, w.at-is) l.invariant.3,
      )
    ] in
    (d.next, all.0, all.1, all.2)

pub returns : goal.returns
returns c =
    let a = c.args in
    let l = c.loop-q in record {
      next_row = rw c.requires.profiles_value (last_row a.counts.now (marked a.marks.now) a.player c.requires.marked_row l.q c.loop-q-test.false l.invariant.2);
      kept_2 = λ h. absurd (omega (arith, c.requires.profiles_value));
    }
