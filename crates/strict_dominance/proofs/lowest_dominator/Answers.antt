use mathlib.Core.Path.{◌≡◌, sym, ◌∙◌, subst}
use mathlib.Core.Bool.{Bool, true}
use mathlib.Core.Logic.{◌↔◌, ⊎_elim}
use Prim.Native.Nat.{ℕ, ◌+◌, ◌*◌, ◌<◌, ◌≤◌}
use native.Mathlib.Omega.{arith}
use borrow.Author.Count.{below_more}
use lib.Dec.{T, ltb}
use lib.ListN.{length}
use Rattle.game.specs.Finite.{product}
use Rattle.game.specs.Meaning.{Dominator}
use Rattle.game.proofs.Finite.{either, ltb_T}
use Rattle.game.proofs.Sorted.{lowest_none, lowest_some}
use Rattle.game.proofs.Solution.{dominator_law}
use Rattle.payoff_tables.specs.Limits.{max_strategies, max_cells}
use Rattle.payoff_tables.specs.Table.{table_game, cell_rank}
use Rattle.marks.specs.Marks.{marked}
use Rattle.marks.proofs.Marks.{mark_at}
use Rattle.strict_dominance.proofs.Rows.{first_start, start_beside, start_after, Player, player, seen_whole, Met, row_met, LessTo, less_beside, less_after, less_first, less_next, row, denied, dominates_all}
use Rattle.strict_dominance.proofs.lowest_dominator.Goals as goal
use Rattle.strict_dominance.proofs.lowest_dominator.Goals.{After-stride-stride, Else-not-exceeds, In-loop-base, then-whole, else-whole, else-t-strategy-via-then-t-strategy+else-marks-place, else-t-strategy-via-else-t-strategy}

-- what fits, of the player
facts : (c : After-stride-stride) → Player c.args.counts.now c.args.player c.stride-stride.result
facts c = player c.args.counts.now c.args.player c.stride-stride.result c.requires.table.shape c.requires.player_in_bounds c.stride-stride.ensures

-- a test that says of two ranks which is lower
compares : {b : Bool} {x y : ℕ} → b ≡ ltb x y → T b ↔ (x < y)
compares {b} {x} {y} e = subst (λ b. T b ↔ (x < y)) (sym e) (ltb_T x y)

pub overflow_mul-step : goal.overflow_mul-step
overflow_mul-step c = omega (arith, facts (goal.at.overflow_mul-step c).After-stride-stride)

pub loop-base-init : goal.loop-base-init
loop-base-init c =
    let a = c.args in
    elim c.if-whole.branch [
      | then-whole w ↦
          let yes : T a.whole = subst T (sym w.if-whole.true) tt in (
            rw w.first-is (λ d v o h. absurd (omega arith)),
            λ _. rw w.first-is (first_start (facts (goal.at.loop-base-init c).After-stride-stride).wide),
            λ h. absurd (h yes),
          )
      | else-whole w ↦
          let no : T a.whole → ⊥ = subst T w.if-whole.false in
          let r = w.first_row-first.ensures in (
            rw w.first-is (less_first a.counts.now a.payoffs.now a.marks.now a.player c.stride-stride.result a.strategy c.candidates.t c.stride-stride.ensures c.requires.player_in_bounds _ r.next_row),
            λ h. absurd (no h),
            λ _. rw (w.firsts-is, w.first-is) (λ h. (r.next_row.is h, r.kept h)),
          )
    ]

-- ---- a row

-- the row that stands here
before-end : (c : In-loop-base) → c.loop-base.base < product c.args.counts.now
before-end c = rw (← c.requires.profiles_value) c.loop-base-test.true

met : (c : In-loop-base) → Met c.args.counts.now c.args.marks.now c.args.player c.stride-stride.result c.loop-base.base
met c =
    let a = c.args in
    let r = c.requires in
    let i = c.loop-base.invariant in
    let end = before-end c in
    ⊎_elim (λ (h : T a.whole).
    record { within = _; start = i.1 h; seen = seen_whole a.counts.now a.marks.now a.player c.loop-base.base r.table.shape end (r.t h) })
    (λ (h : T a.whole → ⊥).
    row_met a.marks.now c.stride-stride.ensures r.player_in_bounds
    (player a.counts.now a.player c.stride-stride.result r.table.shape r.player_in_bounds c.stride-stride.ensures).wide (i.2 h end).0) (either a.whole)

-- both cells lie within the table
inside : (c : In-loop-base) → let a = c.args in
    let start = c.loop-base.base * length a.counts.now + a.player in
    let step = c.stride-stride.result * length a.counts.now in
    (start + c.candidates.t * step < length a.payoffs.now) × (start + a.strategy * step < length a.payoffs.now)
inside c =
    let r = c.requires in
    let cells = row r.table c.args.player c.stride-stride.result r.player_in_bounds c.stride-stride.ensures (met c).start (before-end c) in
    (cells.cells_fit _ (c.candidates-test.true), cells.cells_fit _ r.strategy_bound)

both : (c : In-loop-base) → let a = c.args in
    let start = c.loop-base.base * length a.counts.now + a.player in
    let step = c.stride-stride.result * length a.counts.now in
    (start + c.candidates.t * step < max_cells) × (start + a.strategy * step < max_cells)
both c =
    let t = c.requires.table in
    let room : length c.args.payoffs.now ≤ max_cells = rw t.full t.shape.room in
    let i = inside c in
    (omega (arith, i, room), omega (arith, i, room))

pub overflow_mul-t : goal.overflow_mul-t
overflow_mul-t c = omega (arith, both (goal.at.overflow_mul-t c).In-loop-base)

pub overflow_add-start-in-loop-base : goal.overflow_add-start-in-loop-base
overflow_add-start-in-loop-base c = omega (arith, both (goal.at.overflow_add-start-in-loop-base c).In-loop-base)

pub overflow_mul-strategy : goal.overflow_mul-strategy
overflow_mul-strategy c = omega (arith, both (goal.at.overflow_mul-strategy c).In-loop-base)

pub overflow_add-start-in-loop-base-2 : goal.overflow_add-start-in-loop-base-2
overflow_add-start-in-loop-base-2 c = omega (arith, both (goal.at.overflow_add-start-in-loop-base-2 c).In-loop-base)

pub exceeds-requires-clause-cell_in_bounds : goal.exceeds-requires-clause-cell_in_bounds
exceeds-requires-clause-cell_in_bounds c = inside (goal.at.exceeds-requires-clause-cell_in_bounds c).In-loop-base

pub candidates-preserved-then-not-exceeds : goal.candidates-preserved-then-not-exceeds
candidates-preserved-then-not-exceeds c =
    let a = c.args in
    let r = c.requires in
    let l = c.loop-base in
    let k = (goal.at.candidates-preserved-then-not-exceeds c).In-loop-base in
    let no : T c.exceeds.result → ⊥ = subst T c.if-not-exceeds.true in
    below_more (λ u. Dominator (table_game a.counts.now a.payoffs.now) (marked a.marks.now) a.player a.strategy u → ⊥) _
    c.candidates.invariant
    (denied r.table a.player c.stride-stride.result r.player_in_bounds c.stride-stride.ensures a.marks.now a.strategy c.candidates.t r.strategy_bound (met k).start (before-end k) (met k).seen
    (λ h. no ((compares c.exceeds.ensures).1 h)))

-- a row that was passed does not deny the candidate, so that none denies it up to the next
module _ (c : Else-not-exceeds) where
  passed : let a = c.args in
      let start = c.loop-base.base * length a.counts.now + a.player in
      let step = c.stride-stride.result * length a.counts.now in
      cell_rank a.payoffs.now (start + a.strategy * step) < cell_rank a.payoffs.now (start + c.candidates.t * step)
  passed = (compares c.exceeds.ensures).0 (subst T (sym c.if-not-exceeds.false) tt)

  beside : let a = c.args in LessTo a.counts.now a.payoffs.now a.marks.now a.player c.stride-stride.result a.strategy c.candidates.t (c.loop-base.base + 1)
  beside =
      let a = c.args in
      less_beside a.counts.now a.payoffs.now a.marks.now a.player c.stride-stride.result a.strategy c.candidates.t c.loop-base.base c.loop-base.invariant.0 (λ _. passed)

pub overflow_mul-base : goal.overflow_mul-base
overflow_mul-base c = omega (arith, facts (goal.at.overflow_mul-base c).After-stride-stride)

pub overflow_add-base-then-within-stride : goal.overflow_add-base-then-within-stride
overflow_add-base-then-within-stride c =
    omega (arith, before-end (goal.at.overflow_add-base-then-within-stride c).In-loop-base, facts (goal.at.overflow_add-base-then-within-stride c).After-stride-stride)

pub loop-base-preserved-then-within-stride : goal.loop-base-preserved-then-within-stride
loop-base-preserved-then-within-stride c =
    let a = c.args in
    let l = c.loop-base in
    let some = (facts (goal.at.loop-base-preserved-then-within-stride c).After-stride-stride).some in
    let yes : T a.whole = subst T (sym c.if-whole-2.true) tt in
    let here = l.invariant.1 yes in (
      less_after a.counts.now a.payoffs.now a.marks.now a.player c.stride-stride.result a.strategy _ here some c.if-within-stride.true
          (beside (goal.at.loop-base-preserved-then-within-stride c).Else-not-exceeds),
      λ _. start_after here some c.if-within-stride.true,
      λ h. absurd (h yes),
    )

pub loop-base-preserved-else-within-stride : goal.loop-base-preserved-else-within-stride
loop-base-preserved-else-within-stride c =
    let l = c.loop-base in
    let yes : T c.args.whole = subst T (sym c.if-whole-2.true) tt in (
      beside (goal.at.loop-base-preserved-else-within-stride c).Else-not-exceeds,
      λ _. start_beside (l.invariant.1 yes) c.if-within-stride.false,
      λ h. absurd (h yes),
    )

pub loop-base-preserved : goal.loop-base-preserved
loop-base-preserved c =
    let a = c.args in
    let l = c.loop-base in
    let no : T a.whole → ⊥ = subst T c.if-whole-2.false in
    let n = c.next_row-base.ensures in (
      less_next a.counts.now a.payoffs.now a.marks.now a.player c.stride-stride.result a.strategy c.candidates.t c.stride-stride.ensures c.requires.player_in_bounds l.base _ l.invariant.0
          (λ _. passed (goal.at.loop-base-preserved c).Else-not-exceeds) n.next_row,
      λ h. absurd (no h),
      λ _ h. (n.next_row.is h, n.kept_2 h),
    )

pub returns-then-marks-place : goal.returns-then-marks-place
returns-then-marks-place c =
    let a = c.args in
    let r = c.requires in
    let l = c.loop-base in
    let t : ℕ = c.candidates.t in
    let g = table_game a.counts.now a.payoffs.now in
    let low : t < max_strategies = omega (arith, facts (goal.at.returns-then-marks-place c).After-stride-stride, c.candidates-test) in
    let mark : marked a.marks.now a.player t ≡ true = mark_at a.marks.now a.player t low ∙ c.if-marks-place.true in
    let is : Dominator g (marked a.marks.now) a.player a.strategy c.candidates.t =
    dominates_all r.table a.player c.stride-stride.result r.player_in_bounds c.stride-stride.ensures a.marks.now a.strategy c.candidates.t r.strategy_bound
    c.candidates-test.true (rw mark tt) c.if-t-strategy.true
    {b = l.base} (rw (← r.profiles_value) c.loop-base-test.false) l.invariant.0 in
    sym (lowest_some (Dominator g (marked a.marks.now) a.player a.strategy) _ (dominator_law g (marked a.marks.now) a.player a.strategy) c.candidates.t is
    c.candidates.invariant)

pub candidates-preserved : goal.candidates-preserved
candidates-preserved c =
    let a = c.args in
    let t : ℕ = c.candidates.t in
    let low : t < max_strategies = omega (arith, facts (goal.at.candidates-preserved c).After-stride-stride, c.candidates-test) in
    below_more (λ u. Dominator (table_game a.counts.now a.payoffs.now) (marked a.marks.now) a.player a.strategy u → ⊥) t c.candidates.invariant
    (λ d.
    elim c.else-t-strategy.branch [
      | else-t-strategy-via-then-t-strategy+else-marks-place w ↦ subst T (mark_at a.marks.now a.player t low ∙ w.if-marks-place.false) d.1
      | else-t-strategy-via-else-t-strategy w ↦ d.2.0 w.if-t-strategy.false
    ])

pub returns : goal.returns
unfolding table_game
returns c =
    let a = c.args in
    let g = table_game a.counts.now a.payoffs.now in
    sym (lowest_none (Dominator g (marked a.marks.now) a.player a.strategy) _ (dominator_law g (marked a.marks.now) a.player a.strategy)
    (λ u d. c.candidates.invariant u (omega (arith, d.0, c.candidates-test)) d))
