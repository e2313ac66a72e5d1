use native.Mathlib.Omega.{arith}
use native.Mathlib.Nat.{le_refl, eq-or-lt_of_le}
use mathlib.Core.Path.{◌≡◌, sym, ap, ◌∙◌, subst, subst⁻¹}
use mathlib.Core.Bool.{Bool, true, false}
use mathlib.Core.List.{[]}
use mathlib.Core.Logic.{⊎_elim}
use Prim.Native.Nat.{ℕ, ◌-◌, ◌<◌}
use lib.Dec.{T}
use lib.ListN.{length, get_or}
use lib.Seq.{drop-length}
use Rattle.game.specs.Finite.{below, product}
use Rattle.game.specs.Game.{profiles}
use Rattle.game.proofs.Finite.{all_T, below_mem, test_true, test_false}
use Rattle.payoff_tables.specs.Table.{table_game}
use Rattle.payoff_tables.proofs.Walk.{Down, down}
use Rattle.marks.specs.Marks.{marked}
use Rattle.response_marks.specs.Marks.{settled}
use lib.Ieee.{Float}
use mathlib.Core.List.{List}
use Rattle.pure_nash.proofs.all_best.Goals as goal
use Rattle.pure_nash.proofs.all_best.Goals.{In-loop-p}

-- whether a player's choice is a best response
abbrev best : List ℕ → List Float → List Bool → ℕ → ℕ → Bool
best counts payoffs survivors k = settled (table_game counts payoffs) (marked survivors) (get_or (profiles counts) k [])

-- the player of a turn
turn : (c : In-loop-p) → Down c.args.counts.now (c.loop-p.p - 1) c.loop-p.stride
turn c =
    let l = c.loop-p in
    down c.args.counts.now l.p l.stride c.requires.table.shape c.loop-p-test.true l.invariant.0 l.invariant.1

pub loop-p-init : goal.loop-p-init
loop-p-init c = (le_refl _, sym (ap product (drop-length c.args.counts.now)), λ q l k. absurd (omega (arith, l, k)))

pub is_best-requires : goal.is_best-requires
is_best-requires c =
    let d = turn (goal.at.is_best-requires c).In-loop-p in
    record { table = c.requires.table; survivors_len = c.requires.survivors_len; player_in_bounds = (d.inside, c.requires.k_bound); stride_value = d.here }

pub returns-then-not-is_best : goal.returns-then-not-is_best
returns-then-not-is_best c =
    let a = c.args in
    let off : c.is_best.result ≡ false = c.if-not-is_best.true in
    sym (test_false _ (λ h.
    subst T (sym c.is_best.ensures ∙ off) ((all_T (best a.counts.now a.payoffs.now a.survivors.now a.k) (below (length a.counts.now))).0 h (c.loop-p.p - 1) ((below_mem _ _).1 (turn (goal.at.returns-then-not-is_best c).In-loop-p).inside))))

pub offset_bounds-counts-p : goal.offset_bounds-counts-p
offset_bounds-counts-p c = omega (arith, turn (goal.at.offset_bounds-counts-p c).In-loop-p)

pub bounds-counts-p : goal.bounds-counts-p
bounds-counts-p c = (turn (goal.at.bounds-counts-p c).In-loop-p).inside

pub overflow_mul-stride : goal.overflow_mul-stride
overflow_mul-stride c = omega (arith, turn (goal.at.overflow_mul-stride c).In-loop-p)

pub loop-p-preserved : goal.loop-p-preserved
loop-p-preserved c =
    let a = c.args in
    let l = c.loop-p in
    let is : ℕ → Bool = best a.counts.now a.payoffs.now a.survivors.now a.k in
    let on : c.is_best.result ≡ true = c.if-not-is_best.false in
    let here : T (is (l.p - 1)) = subst⁻¹ T (sym c.is_best.ensures ∙ on) tt in (
      omega (arith, l.invariant.0),
      (turn (goal.at.loop-p-preserved c).In-loop-p).next,
      λ q a b. ⊎_elim (λ (k : l.p - 1 ≡ q). subst (λ (n : ℕ). T (is n)) k here) (λ (k : l.p - 1 < q). l.invariant.2 q (omega (arith, k)) b) (eq-or-lt_of_le a),
    )

pub returns : goal.returns
returns c =
    let a = c.args in
    let l = c.loop-p in
    sym (test_true _ ((all_T (best a.counts.now a.payoffs.now a.survivors.now a.k) (below (length a.counts.now))).1 (λ q k. l.invariant.2 q (omega (arith, c.loop-p-test)) ((below_mem (length a.counts.now) q).0 k))))
