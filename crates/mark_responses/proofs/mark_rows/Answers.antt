use mathlib.Core.Path.{◌≡◌, refl, ◌∙◌}
use mathlib.Core.Logic.{◌⊎◌, inl, inr}
use Prim.Native.Nat.{◌+◌, ◌*◌, ◌<◌, ◌≤◌}
use native.Mathlib.Omega.{arith}
use borrow.Author.Rules.{rules}
use lib.ListN.{length}
use Rattle.mark_responses.proofs.Rows.{next_within, first_more, first_all}
use Rattle.mark_responses.proofs.mark_rows.Goals as goal
use Rattle.mark_responses.proofs.mark_rows.Goals.{In-loop-i, Joined-i-number, else-i-number, then-i-number}

-- a row at hand begins within the table
inside : (c : In-loop-i) → let a = c.args in a.start + c.loop-i.i * a.gap < length a.payoffs.now
inside c =
    let a = c.args in
    omega (arith, c.requires.within (a.start + c.loop-i.i * a.gap) 0 (c.loop-i.i, c.loop-i-test.true, refl) c.requires.steps_nonzero)

pub overflow_mul-i : goal.overflow_mul-i
overflow_mul-i c = omega (arith, inside (goal.at.overflow_mul-i c).In-loop-i, c.requires.payoffs_len_bound)

pub overflow_add-start : goal.overflow_add-start
overflow_add-start c = omega (arith, inside (goal.at.overflow_add-start c).In-loop-i, c.requires.payoffs_len_bound)

-- whether there is a next row, and how far it is
next : (c : Joined-i-number) → let a = c.args in
    let i = c.loop-i.i in
    ((i + 1 < a.number) × (c.if-i-number.other ≡ a.gap)) ⊎ ((a.number ≤ i + 1) × (c.if-i-number.other ≡ 0))
next c = elim c.if-i-number.branch [ then-i-number w ↦ inl (w.if-i-number.true, w.other-is) | else-i-number w ↦ inr (omega (arith, w.if-i-number.false), w.other-is) ]

pub mark_pair-requires : goal.mark_pair-requires
mark_pair-requires c =
    let a = c.args in
    let r = c.requires in
    let l = c.loop-i in record {
      finites = r.finites;
      steps_nonzero = r.steps_nonzero;
      within = next_within a.payoffs.now a.steps.now a.start a.gap a.number l.i c.if-i-number.other c.loop-i-test.true (next (goal.at.mark_pair-requires c).Joined-i-number) (length a.payoffs.now) r.within;
      payoffs_in_bounds = omega (arith, l.invariant.1, r.payoffs_len_bound);
    }

pub loop-i-preserved : goal.loop-i-preserved
loop-i-preserved c =
    let a = c.args in
    let l = c.loop-i in
    let long : length c.mark_pair.new.marks ≡ length l.marks = search rules in (
      omega (arith, c.loop-i-test.true),
      long ∙ l.invariant.1,
      first_more a.payoffs.now a.steps.now a.start a.gap a.number l.i c.if-i-number.other c.loop-i-test.true (next (goal.at.loop-i-preserved c).Joined-i-number) l.invariant.2 c.mark_pair.ensures,
    )

pub returns : goal.returns
returns c =
    let a = c.args in
    let l = c.loop-i in
    first_all a.payoffs.now a.steps.now a.start a.gap a.number l.i (omega arith) l.invariant.2

pub returns-after-i-number : goal.returns-after-i-number
returns-after-i-number c =
    let a = c.args in
    let l = c.loop-i in
    first_all a.payoffs.now a.steps.now a.start a.gap a.number (l.i + 2) (omega arith)
    (first_more a.payoffs.now a.steps.now a.start a.gap a.number l.i c.if-i-number.other c.loop-i-test.true (next (goal.at.returns-after-i-number c).Joined-i-number) l.invariant.2 c.mark_pair.ensures)
