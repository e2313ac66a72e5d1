use mathlib.Core.Path.{◌≡◌, sym, ap, ◌∙◌, subst}
use mathlib.Core.List.{List}
use Prim.Native.Nat.{ℕ, ◌+◌, ◌*◌, ◌-◌, ◌<◌}
use native.Mathlib.Nat.{sub-zero}
use native.Mathlib.Omega.{arith}
use lib.ListN.{length, get_or}
use lib.Seq.{drop-length}
use Rattle.game.specs.Finite.{product}
use Rattle.game.specs.Game.{Marks}
use Rattle.payoff_tables.specs.Meaning.{Shape}
use Rattle.payoff_tables.proofs.Walk.{Down, down, shape_some, shape_room}
use Rattle.marks.specs.Marks.{marked}
use Rattle.marked_rows.specs.Rows.{Kept}
use Rattle.marked_rows.proofs.Next.{chosen, zero_chosen, Changed, changed_up, kept_set, Firsts, firsts_none, firsts_more, firsts_keep, own_first, no_row, first_row, mark_none, first_mark}
use Rattle.marked_rows.proofs.first_row.Goals as goal
use Rattle.marked_rows.proofs.first_row.Goals.{Else-first-count, In-loop-q, then-q-player+else-first-count, else-q-player}

-- the player whose choice is set
module _ {cs : List ℕ} {m : Marks} {p l at : ℕ} (shape : Shape cs) (some : 0 < l) (f : Firsts cs m p 0 l at) where
  zero : l - 1 < length cs → chosen cs at (l - 1) ≡ 0
  zero inside = f.before (l - 1) (omega arith) ∙ zero_chosen cs (l - 1) (shape_some shape) inside

  -- its first marked choice, set
  set_first : (stride first : ℕ) → Down cs (l - 1) stride → first < get_or cs (l - 1) 0 → Changed cs at (l - 1) first (at + first * stride)
  set_first stride first turn found =
      subst (λ n. Changed cs at (l - 1) first (at + n * stride)) (sub-zero first)
      (changed_up cs at (l - 1) 0 first stride turn.here f.inside turn.inside found (zero turn.inside) (omega arith))

turn : (c : In-loop-q) → Down c.args.counts.now (c.loop-q.q - 1) c.loop-q.stride
turn c = down c.args.counts.now c.loop-q.q c.loop-q.stride c.requires.shape c.loop-q-test.true (omega arith) c.loop-q.invariant.0

pub loop-q-init : goal.loop-q-init
loop-q-init c =
    let r = c.requires in (
      sym (ap product (drop-length c.args.counts.now)),
      firsts_none _ _ _ 0 (shape_some r.shape),
      record { full = r.choices_len; each = λ i a b. absurd (omega arith) },
    )

pub offset_bounds-counts-q : goal.offset_bounds-counts-q
offset_bounds-counts-q c = omega (arith, turn (goal.at.offset_bounds-counts-q c).In-loop-q)

pub overflow_mul-q : goal.overflow_mul-q
overflow_mul-q c = omega (arith, turn (goal.at.overflow_mul-q c).In-loop-q)

pub next_mark-first-requires : goal.next_mark-first-requires
next_mark-first-requires c =
    let d = turn (goal.at.next_mark-first-requires c).In-loop-q in
    record { from_le_count = omega arith; count_in_bounds = rw c.requires.marks_len (omega (arith, d)) }

pub returns-then-first-count : goal.returns-then-first-count
returns-then-first-count c =
    let a = c.args in
    let cs = a.counts.now in
    let q : ℕ = c.loop-q.q - 1 in
    let d = turn (goal.at.returns-then-first-count c).In-loop-q in
    let none = mark_none cs a.marks.now a.player q c.if-q-player.true d.high c.next_mark-first.ensures in record {
      next_row = rw c.requires.profiles_value (no_row cs (marked a.marks.now) a.player 0 q d.inside (λ t l. none t (omega arith) (omega (arith, c.if-first-count))) (omega arith));
      kept = λ h. absurd (omega (arith, c.requires.profiles_value));
    }

-- the first marked choice of another player
found : (c : Else-first-count) → c.next_mark-first.result < get_or c.args.counts.now (c.loop-q.q - 1) 0
found c = omega (arith, c.next_mark-first.ensures.most, c.if-first-count.false)

pub overflow_cast-choices : goal.overflow_cast-choices
overflow_cast-choices c = omega (arith, found (goal.at.overflow_cast-choices c).Else-first-count, turn (goal.at.overflow_cast-choices c).In-loop-q)

pub bounds-choices-q : goal.bounds-choices-q
bounds-choices-q c = omega (arith, turn (goal.at.bounds-choices-q c).In-loop-q)

pub overflow_mul-at : goal.overflow_mul-at
overflow_mul-at c =
    let s = set_first c.requires.shape c.loop-q-test.true c.loop-q.invariant.1 c.loop-q.stride c.next_mark-first.result (turn (goal.at.overflow_mul-at c).In-loop-q) (found (goal.at.overflow_mul-at c).Else-first-count) in
    omega (arith, s.inside, shape_room c.requires.shape)

pub overflow_add-at : goal.overflow_add-at
overflow_add-at c =
    let s = set_first c.requires.shape c.loop-q-test.true c.loop-q.invariant.1 c.loop-q.stride c.next_mark-first.result (turn (goal.at.overflow_add-at c).In-loop-q) (found (goal.at.overflow_add-at c).Else-first-count) in
    omega (arith, s.inside, shape_room c.requires.shape)

pub overflow_mul-stride : goal.overflow_mul-stride
overflow_mul-stride c = omega (arith, turn (goal.at.overflow_mul-stride c).In-loop-q)

pub loop-q-preserved : goal.loop-q-preserved
loop-q-preserved c =
    let a = c.args in
    let l = c.loop-q in
    let cs = a.counts.now in
    let m = marked a.marks.now in
    let q : ℕ = l.q - 1 in
    let d = turn (goal.at.loop-q-preserved c).In-loop-q in
    let some = c.loop-q-test.true in
    let both : Firsts cs m a.player 0 q c.if-q-player.at × Kept cs a.player q c.if-q-player.choices c.if-q-player.at =
    elim c.if-q-player.branch [
      | then-q-player+else-first-count w ↦
          let first : ℕ = w.next_mark-first.result in
          let here : first < get_or cs q 0 = omega (arith, w.next_mark-first.ensures.most, w.if-first-count.false) in
          let set = set_first c.requires.shape some l.invariant.1 l.stride first d here in (
            rw w.at-is (firsts_more cs m a.player some l.invariant.1 first _ set (first_mark cs a.marks.now a.player q w.if-q-player.true d.high w.next_mark-first.ensures here)),
            rw (w.choices-is, w.at-is) (kept_set q l.invariant.2 set (omega (arith, d)) (λ j a b. omega arith)),
          )
      | else-q-player w ↦ (
        rw w.at-is (firsts_keep cs m a.player some l.invariant.1 (own_first cs m a.player q (chosen cs l.at q) w.if-q-player.false (zero c.requires.shape some l.invariant.1 d.inside))),
        rw (w.choices-is, w.at-is) (record { full = l.invariant.2.full; each = λ j a b d. l.invariant.2.each j (omega (arith, w.if-q-player.false)) b d }),
      )
    ] in
    (d.next, both.0, both.1)

pub returns : goal.returns
returns c =
    let l = c.loop-q in record {
      next_row = first_row _ _ _ c.requires.player_in_bounds c.loop-q-test.false l.invariant.1;
      kept = λ h. record { full = l.invariant.2.full; each = λ i a. l.invariant.2.each i (omega (arith, c.loop-q-test)) };
    }
