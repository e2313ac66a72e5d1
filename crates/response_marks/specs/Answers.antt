-- Change N3 of the scope: what `best_response_marks` and `marked_profiles` answer and write. Assumes nothing.
use Rattle.std.specs.Prelude.{◌≡◌, List, map, ℕ, ◌/◌, ◌≤◌, length, get_or, take, Float}
use Rattle.game.specs.Finite.{sum, below, product}
use Rattle.game.specs.Game.{whole}
use Rattle.refusal.specs.Refusal.{Refusal, ◌then◌}
use Rattle.refusal.specs.Told.{Told, unless}
use Rattle.refusal.specs.declared.Listed.{Listed}
use Rattle.written_lists.specs.Outputs.{short_refusal, written_of}
use Rattle.payoff_tables.specs.Table.{cells, table_game}
use Rattle.payoff_tables.specs.Checks.{table_refusal}
use Rattle.equilibria.specs.Answers.{listing_answer, listed_choices, listed_utilities}
use Rattle.response_marks.specs.Marks.{response_marks, ones, marked_profiles}

module _ (counts : List ℕ) (payoffs : List Float) where
  -- the marks of the whole table
  abbrev pub table_marks : List ℕ
  table_marks = response_marks (table_game counts payoffs) (whole (table_game counts payoffs))

  -- what refuses a buffer of n bytes: 1 to 7, then 13 where it has fewer bytes than the table has cells
  unfoldable pub marks_refusal : ℕ → Refusal
  marks_refusal n = table_refusal counts payoffs then short_refusal (cells counts) n

  -- the sweep into a buffer of n bytes: how many marks are set,
  unfoldable pub marks_answer : ℕ → Told ℕ
  marks_answer n = unless (marks_refusal n) (ones table_marks)

  -- and what is written, which is nothing where it refuses
  unfoldable pub marks_written : ℕ → List ℕ
  marks_written n = written_of (λ _. table_marks) (marks_answer n)

  -- The listing from a buffer of marks, into outputs of lengths a and b.
  module _ (marks : List ℕ) where
    abbrev pub from_marks_answer : ℕ → ℕ → Told Listed
    from_marks_answer = listing_answer counts payoffs (marks_refusal (length marks)) (marked_profiles counts marks)

    abbrev pub from_marks_choices : ℕ → ℕ → List ℕ
    from_marks_choices = listed_choices counts payoffs (marks_refusal (length marks)) (marked_profiles counts marks)

    abbrev pub from_marks_utilities : ℕ → ℕ → List Float
    from_marks_utilities = listed_utilities counts payoffs (marks_refusal (length marks)) (marked_profiles counts marks)

-- What the number n of marks means, where the sweep left these bytes.
pub record Counted (counts : List ℕ) (n : ℕ) (marks : List ℕ) : Type 0 where
  -- as many of the cells' bytes are 1
  pub is : n ≡ ones (take (cells counts) marks)
  -- at least the sum, over the players, of profiles divided by that player's count
  pub least : sum (map (λ p. product counts / get_or counts p 0) (below (length counts))) ≤ n
