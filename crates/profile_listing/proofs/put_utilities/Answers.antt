use native.Mathlib.Omega.{arith}
use native.Mathlib.Nat.{le_refl, add-zero}
use mathlib.Core.Path.{◌≡◌, refl, sym, ap, ap₂, ◌∙◌}
use mathlib.Core.List.{List, []}
use Prim.Native.Nat.{ℕ, ◌+◌, ◌*◌, ◌-◌, ◌≤◌, ◌<◌}
use lib.Arith.{digits_lt}
use lib.ListN.{length, get_or, set}
use lib.Ieee.{Float, nan}
use Rattle.game.specs.Finite.{product}
use Rattle.game.specs.Game.{profiles}
use Rattle.payoff_tables.specs.Meaning.{Table}
use Rattle.payoff_tables.specs.Limits.{max_cells}
use Rattle.payoff_tables.specs.Table.{payoff_at, profile_part}
use Rattle.payoff_tables.proofs.Offsets.{nth_profile, offset_nth}
use Rattle.payoff_tables.proofs.Table.{part_at, part_length_lem}
use Rattle.profile_listing.proofs.Write.{filled, fill_none, fill_more, fill_length}
use Rattle.profile_listing.proofs.put_utilities.Goals as goal
use Rattle.profile_listing.proofs.put_utilities.Goals.{At-loop-p, In-loop-p}

-- the profile has P payoffs
each : (counts : List ℕ) (payoffs : List Float) (k : ℕ) → Table counts payoffs → k < product counts → length (profile_part counts payoffs (get_or (profiles counts) k [])) ≡ length counts
each counts payoffs k t h = part_length_lem (nth_profile counts k h) payoffs t.full

-- the output is as long as it was
long : (c : At-loop-p) → length c.loop-p.utilities ≡ length c.args.utilities.now
long c =
    ap length c.loop-p.invariant.1
    ∙ fill_length _ c.args.utilities.now _ c.args.at c.loop-p.p (each c.args.counts.now c.args.payoffs.now c.args.k c.requires.table c.requires.k_bound)
    c.loop-p.invariant.0 c.requires.counts_in_bounds

-- the cell of a turn
turn : (c : In-loop-p) → let s = c.args in
    (s.k * length s.counts.now + (c.loop-p.p - 1) < length s.payoffs.now) × (length s.payoffs.now ≤ max_cells)
turn c =
    let s = c in
    let table = s.requires.table in
    (rw table.full (digits_lt s.requires.k_bound (omega arith)), rw table.full table.shape.room)

pub loop-p-init : goal.loop-p-init
loop-p-init c = (le_refl _, fill_none _ c.args.utilities.now _ c.args.at (each c.args.counts.now c.args.payoffs.now c.args.k c.requires.table c.requires.k_bound))

pub overflow_mul-utilities : goal.overflow_mul-utilities
overflow_mul-utilities c = omega (arith, turn (goal.at.overflow_mul-utilities c).In-loop-p)

pub overflow_add-utilities : goal.overflow_add-utilities
overflow_add-utilities c = omega (arith, turn (goal.at.overflow_add-utilities c).In-loop-p)

pub offset_bounds-payoffs-k : goal.offset_bounds-payoffs-k
offset_bounds-payoffs-k c = omega (arith, turn (goal.at.offset_bounds-payoffs-k c).In-loop-p)

pub bounds-payoffs-k : goal.bounds-payoffs-k
bounds-payoffs-k c = omega (arith, turn (goal.at.bounds-payoffs-k c).In-loop-p)

pub overflow_add-utilities-in-loop-p : goal.overflow_add-utilities-in-loop-p
overflow_add-utilities-in-loop-p c = omega (arith, turn (goal.at.overflow_add-utilities-in-loop-p c).In-loop-p)

pub offset_bounds-utilities-at : goal.offset_bounds-utilities-at
offset_bounds-utilities-at c = omega (arith, turn (goal.at.offset_bounds-utilities-at c).In-loop-p)

pub bounds-utilities-at : goal.bounds-utilities-at
bounds-utilities-at c = omega (arith, turn (goal.at.bounds-utilities-at c).In-loop-p, long (goal.at.bounds-utilities-at c).At-loop-p)

pub loop-p-preserved : goal.loop-p-preserved
unfolding payoff_at
loop-p-preserved c =
    let i = c in
    let b = i in
    let s = b.args in
    let l = i.loop-p in
    let cs = s.counts.now in
    let q : ℕ = l.p - 1 in
    let part : List Float = profile_part cs s.payoffs.now (get_or (profiles cs) s.k []) in
    let paid : get_or s.payoffs.now (s.k * length cs + q) nan ≡ get_or part q nan =
    sym (part_at cs s.payoffs.now (get_or (profiles cs) s.k []) q (omega arith) ∙ ap (λ (n : ℕ). get_or s.payoffs.now (n * length cs + q) nan) (offset_nth cs s.k b.requires.k_bound)) in (
      omega arith,
      ap₂ (λ (d : List Float) (v : Float). set d (s.at + q) v) l.invariant.1 paid
          ∙ fill_more _ s.utilities.now _ s.at nan l.p (each cs s.payoffs.now s.k b.requires.table b.requires.k_bound) i.loop-p-test.true l.invariant.0 b.requires.counts_in_bounds,
    )

pub returns : goal.returns
returns c =
    let s = c.args in
    let l = c.loop-p in
    let e : l.p ≡ 0 = omega arith in
    let cs = s.counts.now in
    l.invariant.1 ∙ ap (filled (profile_part cs s.payoffs.now (get_or (profiles cs) s.k [])) s.utilities.now (length cs) s.at) e ∙ rw add-zero refl
