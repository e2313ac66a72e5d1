use mathlib.Core.Path.{◌≡◌, ◌∙◌}
use Prim.Native.Nat.{ℕ, ◌+◌, ◌*◌, ◌<◌}
use native.Mathlib.Omega.{arith}
use borrow.Author.Rules.{rules}
use lib.ListN.{length}
use Rattle.mark_responses.proofs.Rows.{nested_more}
use Rattle.mark_responses.proofs.mark_groups.Goals as goal
use Rattle.mark_responses.proofs.mark_groups.Goals.{In-loop-o}

-- the group at hand begins within the table
inside : (c : In-loop-o) → let a = c.args in a.start + c.loop-o.o * a.far < length a.payoffs.now
inside c =
    let a = c.args in
    let r = c.requires in
    let at : ℕ = a.start + c.loop-o.o * a.far in
    omega (arith, r.within at 0 (c.loop-o.o, c.loop-o-test.true, (0, r.payoffs_len_bound.2, omega arith)) r.steps_nonzero)

pub overflow_mul-o : goal.overflow_mul-o
overflow_mul-o c = omega (arith, inside (goal.at.overflow_mul-o c).In-loop-o, c.requires.payoffs_len_bound)

pub overflow_add-start : goal.overflow_add-start
overflow_add-start c = omega (arith, inside (goal.at.overflow_add-start c).In-loop-o, c.requires.payoffs_len_bound)

pub mark_rows-requires : goal.mark_rows-requires
mark_rows-requires c =
    let r = c.requires in
    let l = c.loop-o in record {
      finites = r.finites;
      steps_nonzero = r.steps_nonzero;
      within = λ at j w k. r.within at j (l.o, c.loop-o-test.true, w) k;
      payoffs_len_bound = (r.payoffs_len_bound.0, omega (arith, l.invariant.1, r.payoffs_len_bound), r.payoffs_len_bound.3);
    }

pub loop-o-preserved : goal.loop-o-preserved
loop-o-preserved c =
    let a = c.args in
    let l = c.loop-o in
    let long : length c.mark_rows.new.marks ≡ length l.marks = search rules in (
      omega (arith, c.loop-o-test.true),
      long ∙ l.invariant.1,
      nested_more a.payoffs.now a.steps.now a.start a.far a.gap a.number l.o l.invariant.2 c.mark_rows.ensures,
    )

pub returns : goal.returns
returns c =
    let l = c.loop-o in
    let done : l.o ≡ c.args.others = omega arith in
    rw (← done) l.invariant.2
