-- The listing from marks: on the marks that the sweep writes, whatever stands past them, it is the plain listing, answer and both outputs, for
-- every table that is accepted. Assumes nothing.
use mathlib.Core.Path.{◌≡◌, sym, ap, ap₂, ◌∙◌}
use mathlib.Core.List.{List}
use mathlib.Core.Option.{none}
use Prim.Native.Nat.{ℕ, ◌≤◌}
use borrow.Author.Tests.{ltb-false}
use lib.Dec.{ltb}
use lib.ListN.{length}
use lib.Ieee.{Float}
use Rattle.game.specs.Game.{whole}
use Rattle.refusal.specs.Refusal.{Refusal, ◌then◌}
use Rattle.refusal.specs.Told.{values}
use Rattle.refusal.specs.declared.NormalFormError.TheVariants.{OutputTooShort}
use Rattle.refusal.proofs.Refusal.{when_none, then_none}
use Rattle.refusal.proofs.Told.{told_values}
use Rattle.written_lists.specs.Outputs.{over, short_refusal}
use Rattle.written_lists.proofs.Outputs.{over_length}
use Rattle.payoff_tables.specs.Table.{cells, table_game}
use Rattle.payoff_tables.specs.Checks.{table_refusal}
use Rattle.equilibria.specs.Answers.{listing_answer, listed_choices, listed_utilities, table_equilibria, equilibria_answer, equilibria_choices, equilibria_utilities}
use Rattle.response_marks.specs.Marks.{marked_profiles}
use Rattle.response_marks.specs.Answers.{table_marks, marks_refusal, marks_answer, marks_written, from_marks_answer, from_marks_choices, from_marks_utilities}
use Rattle.response_marks.proofs.Marks.{marks_enough, marks_fit, marks_length, marks_listed}

module _ (counts : List ℕ) (payoffs : List Float) (old : List ℕ) (h : table_refusal counts payoffs ≡ none) (room : cells counts ≤ length old) where
  -- the bytes that the sweep leaves
  abbrev swept : List ℕ
  swept = over (marks_written counts payoffs (length old)) old

  -- they list the equilibria,
  same_profiles : marked_profiles counts swept ≡ table_equilibria counts payoffs
  same_profiles =
      ap (λ (xs : List ℕ). marked_profiles counts (over xs old)) (marks_fit counts payoffs (length old) (marks_enough counts payoffs (length old) h room)).1
      ∙ marks_listed counts payoffs (whole (table_game counts payoffs)) old

  -- and there are enough of them.
  same_length : length swept ≡ length old
  unfolding table_game
  same_length =
      ap (λ (xs : List ℕ). length (over xs old)) (marks_fit counts payoffs (length old) (marks_enough counts payoffs (length old) h room)).1
      ∙ over_length (table_marks counts payoffs) old (rw (marks_length (table_game counts payoffs) (whole (table_game counts payoffs))) room)

  same_refusal : marks_refusal counts payoffs (length swept) ≡ table_refusal counts payoffs
  same_refusal = marks_enough counts payoffs (length swept) h (rw same_length room) ∙ sym h

  module _ (a b : ℕ) where
    pub same_answer : from_marks_answer counts payoffs swept a b ≡ equilibria_answer counts payoffs a b
    same_answer = ap₂ (λ (r : Refusal) (es : List (List ℕ)). listing_answer counts payoffs r es a b) same_refusal same_profiles

    pub same_choices : from_marks_choices counts payoffs swept a b ≡ equilibria_choices counts payoffs a b
    same_choices = ap₂ (λ (r : Refusal) (es : List (List ℕ)). listed_choices counts payoffs r es a b) same_refusal same_profiles

    pub same_utilities : from_marks_utilities counts payoffs swept a b ≡ equilibria_utilities counts payoffs a b
    same_utilities = ap₂ (λ (r : Refusal) (es : List (List ℕ)). listed_utilities counts payoffs r es a b) same_refusal same_profiles

-- Where the sweep told a number the table is accepted, and there are enough bytes.
pub swept_accepted : (counts : List ℕ) (payoffs : List Float) (old : List ℕ) (n : ℕ) → values n ≡ marks_answer counts payoffs (length old)
    → (table_refusal counts payoffs ≡ none) × (cells counts ≤ length old)
unfolding marks_refusal marks_answer
swept_accepted counts payoffs old n h =
    let (ok, is) = told_values (table_refusal counts payoffs then short_refusal (cells counts) (length old)) _ n h in
    let (table, bytes) = (then_none (table_refusal counts payoffs) _).0 ok in
    (table, ltb-false (length old) (cells counts) ((when_none (ltb (length old) (cells counts)) OutputTooShort).0 bytes))
