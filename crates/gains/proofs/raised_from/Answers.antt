use mathlib.Core.Path.{◌≡◌, sym, ap, ◌∙◌, subst}
use mathlib.Core.Bool.{not}
use mathlib.Core.List.{List}
use Prim.Native.Nat.{ℕ, ◌+◌, ◌*◌, ◌<◌}
use native.Mathlib.Omega.{arith}
use lib.Dec.{eqb}
use lib.Ieee.{Float, nan}
use lib.ListN.{length, get_or}
use Rattle.game.specs.Finite.{below, filter}
use Rattle.game.proofs.Finite.{below_mem, filter_mem, map_cong}
use Rattle.sums.specs.Inner.{strided}
use Rattle.sums.proofs.Sums.{SideBySide, side_start, side_below}
use Rattle.candidate_input.specs.Input.{max_actions}
use Rattle.gains.specs.Gains.{gain}
use Rattle.gains.specs.Inner.{raise_all}
use Rattle.gains.proofs.raised_from.Invariants.{differences}
use Rattle.gains.proofs.raised_from.Goals as goal
use Rattle.gains.proofs.raised_from.Goals.{In-loop-o}

-- the payoffs of every strategy against the others' choice at hand lie within the table,
inside : (c : In-loop-o) →
    let a = c.args in (t : ℕ) → t < a.count → t * a.own + c.loop-o.o * a.other < length a.payoffs.now
inside c t h = c.requires.spans t c.loop-o.o h c.loop-o-test.true

-- that of s too
at : (c : In-loop-o) →
    let a = c.args in a.s * a.own + c.loop-o.o * a.other < length a.payoffs.now
at c = let s = c in inside c s.args.s s.requires.s_lt_count.0

pub loop-o-init : goal.loop-o-init
loop-o-init c =
    let s = c in
    let a = s.args in
    side_start max_actions a.count s.requires.s_lt_count.1 (strided a.weights.now a.own a.other a.s) (differences a.payoffs.now a.own a.other a.s)

pub offset_bounds-weights-place : goal.offset_bounds-weights-place
offset_bounds-weights-place c = omega (arith, at (goal.at.offset_bounds-weights-place c).In-loop-o)

pub bounds-weights-place : goal.bounds-weights-place
bounds-weights-place c = omega (arith, at (goal.at.bounds-weights-place c).In-loop-o, c.requires.weights_len)

pub offset_bounds-payoffs-place : goal.offset_bounds-payoffs-place
offset_bounds-payoffs-place c = omega (arith, at (goal.at.offset_bounds-payoffs-place c).In-loop-o)

pub bounds-payoffs-place : goal.bounds-payoffs-place
bounds-payoffs-place c = at (goal.at.bounds-payoffs-place c).In-loop-o

pub add_terms-requires : goal.add_terms-requires
add_terms-requires c = record { count_in_bounds = omega (arith, c.loop-o.invariant.0, c.requires.s_lt_count.1); by_index = inside (goal.at.add_terms-requires c).In-loop-o }

pub loop-o-preserved : goal.loop-o-preserved
loop-o-preserved c =
    let s = c in
    let l = c.loop-o in
    let a = strided s.args.weights.now s.args.own s.args.other s.args.s in
    let b = differences s.args.payoffs.now s.args.own s.args.other s.args.s in
    subst (λ (xs : List Float). SideBySide max_actions s.args.count a b (below (l.o + 1)) xs) (sym c.add_terms.ensures)
    (side_below max_actions s.args.count s.requires.s_lt_count.1 a b l.o l.gains l.invariant)

pub raised_by-requires : goal.raised_by-requires
raised_by-requires c = omega (arith, c.loop-o.invariant.0, c.requires.s_lt_count.1)

pub returns : goal.returns
returns c =
    let s = c in
    let l = c.loop-o in
    let a = s.args in
    let w = strided a.weights.now a.own a.other in
    let u = strided a.payoffs.now a.own a.other in
    let e : l.o ≡ a.others = omega (arith, l.auto.o-end, c.loop-o-test.false) in
    c.raised_by.ensures
    ∙ ap (raise_all a.best)
    (map_cong (λ t. get_or l.gains t nan) (gain w u (below a.others) a.s) (filter (λ t. not (eqb t a.s)) (below a.count))
    (λ t k.
    l.invariant.1 t ((below_mem a.count t).0 ((filter_mem (λ t. not (eqb t a.s)) (below a.count) t).0 k).0)
    ∙ ap (λ (n : ℕ). gain w u (below n) a.s t) e))
