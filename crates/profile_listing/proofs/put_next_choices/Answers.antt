use mathlib.Core.Path.{◌≡◌, refl, sym, ap, ap₂, ◌∙◌}
use mathlib.Core.List.{List, []}
use Prim.Native.Nat.{ℕ, suc, ◌+◌, ◌-◌, ◌≤◌, ◌<◌}
use native.Mathlib.Nat.{le_refl, add-zero}
use native.Mathlib.Omega.{arith}
use borrow.Author.Tests.{eq-eqb, ne_eqb}
use lib.ListN.{length, get_or, set}
use lib.Seq.{drop-length}
use Rattle.game.specs.Finite.{product}
use Rattle.game.specs.Game.{Profile, profiles}
use Rattle.payoff_tables.specs.Limits.{max_strategies}
use Rattle.payoff_tables.proofs.Offsets.{nth_profile}
use Rattle.profile_listing.proofs.Write.{filled, fill_none, fill_more, fill_length}
use Rattle.profile_listing.proofs.Step.{Turned, turned_stays, turned_up, turned_over, step_before, read_before}
use Rattle.profile_listing.proofs.put_next_choices.Goals as goal
use Rattle.profile_listing.proofs.put_next_choices.Goals.{At-loop-p, In-loop-p, Joined-up, then-up+then-up-2, then-up+else-up-2, else-up}

-- the profile before is a profile
earlier : (counts : List ℕ) (k : ℕ) → k < product counts → Profile counts (get_or (profiles counts) (k - 1) [])
earlier counts k h = nth_profile counts (k - 1) (omega (arith, h))

-- the k-th profile has a choice for each player
each : (counts : List ℕ) (k : ℕ) → k < product counts → length (get_or (profiles counts) k []) ≡ length counts
each counts k h = (nth_profile counts k h).each

-- the output is as long as it was
long : (c : At-loop-p) → length c.loop-p.choices ≡ length c.args.choices.now
long c =
    let s = c in
    ap length c.loop-p.invariant.2 ∙ fill_length _ s.args.choices.now _ s.args.at c.loop-p.p (each s.args.counts.now s.args.k s.requires.k_bound) c.loop-p.invariant.0 s.requires.counts_in_bounds

-- the choice that a turn reads is that of the profile before
read : (c : In-loop-p) → let a = c.args in
    let cs = a.counts.now in
    let q = c.loop-p.p - 1 in
    get_or c.loop-p.choices (a.at - length cs + q) 0 ≡ get_or (get_or (profiles cs) (a.k - 1) []) q 0
read c =
    let s = c in
    let a = s.args in
    let l = c.loop-p in
    let cs = a.counts.now in
    let q : ℕ = l.p - 1 in
    let inside : q < length cs = omega arith in
    let before = read_before cs a.choices.now a.k a.at s.requires.before in
    ap (λ (d : List ℕ). get_or d (a.at - length cs + q) 0) l.invariant.2
    ∙ before (get_or (profiles cs) a.k []) l.p q inside l.invariant.0 s.requires.counts_in_bounds

-- it is below its count, which is not large
below : (c : In-loop-p) → let a = c.args in
    let cs = a.counts.now in
    let q = c.loop-p.p - 1 in
    (get_or (get_or (profiles cs) (a.k - 1) []) q 0 < get_or cs q 0) × (get_or cs q 0 ≤ max_strategies)
below c =
    let s = c in
    let q : ℕ = c.loop-p.p - 1 in
    let inside : q < length s.args.counts.now = omega arith in
    ((earlier s.args.counts.now s.args.k s.requires.k_bound).fits q inside, s.requires.shape.high q inside)

pub loop-p-init : goal.loop-p-init
loop-p-init c =
    let s = c.args in
    (le_refl _, rw (drop-length s.counts.now) refl, fill_none _ s.choices.now _ s.at (each c.args.counts.now c.args.k c.requires.k_bound))

pub overflow_sub-choice : goal.overflow_sub-choice
overflow_sub-choice c = c.requires.before.room

pub bounds-choices-at : goal.bounds-choices-at
bounds-choices-at c = omega (arith, long (goal.at.bounds-choices-at c).At-loop-p)

pub overflow_add-choice-then-up : goal.overflow_add-choice-then-up
overflow_add-choice-then-up c = omega (arith, read (goal.at.overflow_add-choice-then-up c).In-loop-p, below (goal.at.overflow_add-choice-then-up c).In-loop-p)

pub bounds-choices-at-in-loop-p : goal.bounds-choices-at-in-loop-p
bounds-choices-at-in-loop-p c = omega (arith, long (goal.at.bounds-choices-at-in-loop-p c).At-loop-p)

-- the turn's choice is that of the k-th profile, and `up` is right for one player more
turn : (c : Joined-up) → let a = c.args in
    let cs = a.counts.now in
    let y = get_or (profiles cs) (a.k - 1) [] in
    let q = c.loop-p.p - 1 in
    get_or c.loop-p.choices (a.at - length cs + q) 0 ≡ get_or y q 0
    → (get_or y q 0 < get_or cs q 0) × (get_or cs q 0 ≤ max_strategies)
    → Turned cs y q c.if-up.up c.if-up.choice
turn c was below-here =
    let l = c.loop-p in
    let cs = c.args.counts.now in
    let y : List ℕ = get_or (profiles cs) (c.args.k - 1) [] in
    let q : ℕ = l.p - 1 in
    let is : l.p ≡ suc q = omega arith in
    let size = (earlier cs c.args.k c.requires.k_bound).each in
    let inside : q < length cs = omega arith in
    let up = l.invariant.1 in
    let v : ℕ = get_or l.choices (c.args.at - length cs + q) 0 in
    let n : ℕ = get_or cs q 0 in
    elim c.if-up.branch [
      | then-up+then-up-2 w ↦
          let t = turned_over cs y l.p q is size inside (sym up ∙ w.if-up.true) (omega (arith, was, w.if-up-2.true)) in
          record { again = w.up-is ∙ eq-eqb (v + 1) n w.if-up-2.true ∙ t.again; chosen = w.choice-is ∙ t.chosen }
      | then-up+else-up-2 w ↦
          let t = turned_up cs y l.p q is size inside (sym up ∙ w.if-up.true) (omega (arith, was, below-here, w.if-up-2.false)) in
          record { again = w.up-is ∙ ne_eqb (v + 1) n w.if-up-2.false ∙ t.again; chosen = w.choice-is ∙ ap (λ (n : ℕ). n + 1) was ∙ t.chosen }
      | else-up w ↦
          let t = turned_stays cs y l.p q is size inside (sym up ∙ w.if-up.false) in
          record { again = w.up-is ∙ w.if-up.false ∙ t.again; chosen = w.choice-is ∙ was ∙ t.chosen }
    ]

pub loop-p-preserved : goal.loop-p-preserved
loop-p-preserved c =
    let i = c in
    let s = i in
    let a = s.args in
    let l = i.loop-p in
    let cs = a.counts.now in
    let q : ℕ = l.p - 1 in
    let here = (goal.at.loop-p-preserved c).In-loop-p in
    let t = turn (goal.at.loop-p-preserved c).Joined-up (read here) (below here) in
    let chosen : c.if-up.choice ≡ get_or (get_or (profiles cs) a.k []) q 0 =
    t.chosen ∙ ap (λ (x : List ℕ). get_or x q 0) (step_before cs a.choices.now a.k a.at s.requires.before s.requires.k_bound) in (
      omega arith,
      t.again,
      ap₂ (λ (d : List ℕ) (v : ℕ). set d (a.at + q) v) l.invariant.2 chosen
          ∙ fill_more _ a.choices.now _ a.at 0 l.p (each s.args.counts.now s.args.k s.requires.k_bound) i.loop-p-test.true l.invariant.0 s.requires.counts_in_bounds,
    )

pub returns : goal.returns
returns c =
    let s = c.args in
    let l = c.loop-p in
    let e : l.p ≡ 0 = omega arith in
    let cs = s.counts.now in
    l.invariant.2 ∙ ap (filled (get_or (profiles cs) s.k []) s.choices.now (length cs) s.at) e ∙ rw add-zero refl
