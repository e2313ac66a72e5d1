use mathlib.Core.Path.{◌≡◌, refl, ap, ◌∙◌}
use mathlib.Core.List.{List, [], ◌∷◌}
use Prim.Native.Nat.{ℕ, ◌+◌}
use native.Mathlib.Omega.{arith}
use lib.ListN.{length, take}
use Rattle.std.specs.Slice.Iter.{chunks_rest}
use Rattle.response_marks.specs.Marks.{ones}
use Rattle.response_marks.proofs.Counting.{ones_few, ones_joined}
use Rattle.mark_responses.proofs.count_ones.Goals as goal
use Rattle.mark_responses.proofs.count_ones.Goals.{After-from-number}

-- with the part's
more : (c : After-from-number) → let l = c.loop-part in
    l.number + c.from-number.result + ones (chunks_rest c.next.new.self) ≡ ones (take c.args.cells c.args.marks.now)
more c =
    let s = c.in-Some.ensures.steps in
    omega (arith, c.loop-part.invariant.1, c.from-number.ensures, c.count_run.ensures, ap ones s.1.0, ones_joined c.in-Some.part.now (chunks_rest c.next.new.self))

pub overflow_add-number : goal.overflow_add-number
overflow_add-number c = omega (arith, more (goal.at.overflow_add-number c).After-from-number, ones_few c.args.marks.now c.args.cells c.requires)

pub loop-part-preserved : goal.loop-part-preserved
loop-part-preserved c = (c.in-Some.ensures.steps.0 ∙ c.loop-part.invariant.0, more (goal.at.loop-part-preserved c).After-from-number)

-- nothing is left
none : (bs : List ℕ) → length bs ≡ 0 → ones bs ≡ 0
unfolding ones
none [] h = refl
none (b ∷ bs) h = absurd (omega (arith, h))

pub returns : goal.returns
returns c =
    let l = c.loop-part in
    omega (arith, l.invariant.1, none (chunks_rest l.part-iterator) c.in-None.ensures.steps.1.0)
