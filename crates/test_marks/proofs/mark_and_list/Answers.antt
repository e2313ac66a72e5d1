-- `mark_and_list` meets its contract: what each call ensures, and that on the marks which the sweep
-- wrote the listing is the plain one. Assumes nothing.
use mathlib.Core.Path.{◌≡◌, sym, ap, ◌∙◌}
use mathlib.Core.List.{List}
use Prim.Native.Nat.{ℕ}
use lib.ListN.{length}
use lib.Ieee.{Float}
use Rattle.refusal.specs.Told.{values}
use Rattle.written_lists.specs.Outputs.{over}
use Rattle.equilibria.specs.Answers.{equilibria_answer, equilibria_choices, equilibria_utilities}
use Rattle.response_marks.specs.Answers.{marks_answer, marks_written, from_marks_answer, from_marks_choices, from_marks_utilities}
use Rattle.response_marks.proofs.Listing.{same_answer, same_choices, same_utilities, swept_accepted}
use Rattle.test_marks.proofs.mark_and_list.Goals as goal

-- on the bytes that an accepted sweep left, the listing by marks is the plain one
same : (cs : List ℕ) (ps : List Float) (old bs : List ℕ) (n a b : ℕ)
    → values n ≡ marks_answer cs ps (length old) → bs ≡ over (marks_written cs ps (length old)) old
    → (from_marks_answer cs ps bs a b ≡ equilibria_answer cs ps a b)
    × (from_marks_choices cs ps bs a b ≡ equilibria_choices cs ps a b)
    × (from_marks_utilities cs ps bs a b ≡ equilibria_utilities cs ps a b)
same cs ps old bs n a b told left =
    let (ok, room) = swept_accepted cs ps old n told in (
      ap (λ (xs : List ℕ). from_marks_answer cs ps xs a b) left ∙ same_answer cs ps old ok room a b,
      ap (λ (xs : List ℕ). from_marks_choices cs ps xs a b) left ∙ same_choices cs ps old ok room a b,
      ap (λ (xs : List ℕ). from_marks_utilities cs ps xs a b) left ∙ same_utilities cs ps old ok room a b,
    )

pub returns-clause-by_index : goal.returns-clause-by_index
returns-clause-by_index c n h =
    let a = c.args in
    let sweep = c.best_response_marks-swept.ensures in
    let marked = c.marked_profiles-listed.ensures in
    let (told, choices, utilities) =
    same a.counts.now a.payoffs.now a.marks.now _ n _ _ (sym h ∙ sweep.result_value) sweep.marks_after in (
      marked.result_value ∙ told,
      marked.choices_after ∙ ap (λ (xs : List ℕ). over xs a.marked_choices.now) choices,
      marked.utilities_after ∙ ap (λ (xs : List Float). over xs a.marked_utilities.now) utilities,
    )
