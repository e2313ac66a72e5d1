use native.Mathlib.Omega.{arith}
use native.Mathlib.Nat.{le_refl, div-one, add-zero, div-div-eq-div-mul}
use mathlib.Core.Path.{◌≡◌, refl, sym, ap, ap₂, ◌∙◌}
use mathlib.Core.List.{List, []}
use Prim.Native.Nat.{ℕ, ◌+◌, ◌-◌, ◌/◌, ◌%◌}
use lib.ListN.{length, get_or, set, drop}
use lib.Seq.{drop-length}
use Rattle.game.specs.Finite.{product}
use Rattle.game.specs.Game.{profiles}
use Rattle.payoff_tables.proofs.Offsets.{nth_profile, nth_choice}
use Rattle.payoff_tables.proofs.Walk.{Down, down}
use Rattle.profile_listing.proofs.Write.{filled, fill_none, fill_more, fill_length}
use Rattle.profile_listing.proofs.put_choices.Goals as goal
use Rattle.profile_listing.proofs.put_choices.Goals.{At-loop-p, In-loop-p}

-- the output is as long as it was
long : (c : At-loop-p) → length c.loop-p.choices ≡ length c.args.choices.now
long c =
    let s = c in
    let r = nth_profile s.args.counts.now s.args.k s.requires.k_bound in
    ap length c.loop-p.invariant.2 ∙ fill_length _ s.args.choices.now _ s.args.at c.loop-p.p r.each c.loop-p.invariant.0 s.requires.counts_in_bounds

-- the player of a turn
turn : (c : In-loop-p) → let cs = c.args.counts.now in Down cs (c.loop-p.p - 1) (product (drop c.loop-p.p cs))
turn c = down _ c.loop-p.p _ c.requires.shape (omega arith) c.loop-p.invariant.0 refl

pub loop-p-init : goal.loop-p-init
loop-p-init c =
    let s = c.args in (
      le_refl _,
      sym (ap (λ (l : List ℕ). s.k / product l) (drop-length s.counts.now) ∙ div-one s.k),
      fill_none _ s.choices.now _ s.at (nth_profile s.counts.now s.k c.requires.k_bound).each,
    )

pub offset_bounds-counts-p : goal.offset_bounds-counts-p
offset_bounds-counts-p c = omega (arith, turn (goal.at.offset_bounds-counts-p c).In-loop-p)

pub bounds-counts-p : goal.bounds-counts-p
bounds-counts-p c = omega (arith, turn (goal.at.bounds-counts-p c).In-loop-p)

pub nonzero_rem-choices : goal.nonzero_rem-choices
nonzero_rem-choices c = (turn (goal.at.nonzero_rem-choices c).In-loop-p).low

pub overflow_add-choices : goal.overflow_add-choices
overflow_add-choices c = omega (arith, turn (goal.at.overflow_add-choices c).In-loop-p)

pub offset_bounds-choices-at : goal.offset_bounds-choices-at
offset_bounds-choices-at c = omega (arith, turn (goal.at.offset_bounds-choices-at c).In-loop-p)

pub bounds-choices-at : goal.bounds-choices-at
bounds-choices-at c = omega (arith, turn (goal.at.bounds-choices-at c).In-loop-p, long (goal.at.bounds-choices-at c).At-loop-p)

pub nonzero_div-rest : goal.nonzero_div-rest
nonzero_div-rest c = (turn (goal.at.nonzero_div-rest c).In-loop-p).low

pub loop-p-preserved : goal.loop-p-preserved
loop-p-preserved c =
    let i = c in
    let b = i in
    let s = b.args in
    let l = i.loop-p in
    let cs = s.counts.now in
    let q : ℕ = l.p - 1 in
    let d = turn (goal.at.loop-p-preserved i).In-loop-p in
    let chosen : l.rest % get_or cs q 0 ≡ get_or (get_or (profiles cs) s.k []) q 0 =
    ap (λ (n : ℕ). n % get_or cs q 0) (l.invariant.1 ∙ ap (λ (n : ℕ). s.k / n) d.here) ∙ sym (nth_choice cs s.k q b.requires.k_bound d.inside) in (
      omega arith,
      rw (l.invariant.1, div-div-eq-div-mul s.k (product (drop l.p cs)) (get_or cs q 0), d.next),
      ap₂ (λ (d : List ℕ) (v : ℕ). set d (s.at + q) v) l.invariant.2 chosen
          ∙ fill_more _ s.choices.now _ s.at 0 l.p (nth_profile cs s.k b.requires.k_bound).each i.loop-p-test.true l.invariant.0 b.requires.counts_in_bounds,
    )

pub returns : goal.returns
returns c =
    let s = c.args in
    let l = c.loop-p in
    let e : l.p ≡ 0 = omega arith in
    let cs = s.counts.now in
    l.invariant.2 ∙ ap (filled (get_or (profiles cs) s.k []) s.choices.now (length cs) s.at) e ∙ rw add-zero refl
