-- Document 01, "The deposit file": faults are met left to right: length first; in a word its presence, kind, then payload. Which refusal each
-- fault of a word is. Assumes nothing.
use Rattle.std.specs.Prelude.{not, List, ℕ, ◌+◌, ◌%◌, ltb, eqb, length, get_or}
use Rattle.refusal.specs.Refusal.{Refusal, when, ◌then◌}
use Rattle.refusal.specs.declared.NormalFormError.TheVariants.{MissingWord, WrongKind, WrongPayload, TrailingWord}
use Rattle.file_words.specs.Words.{closing_kind, kind_of, payload_at}

-- byte length no multiple of 4 (17)
unfoldable pub length_fault : List ℕ → Refusal
length_fault bytes = when (not (eqb (length bytes % 4) 0)) MissingWord

-- a due word is absent (17), its kind isn't the one due (18); i words stand before it
unfoldable pub due_fault : List ℕ → ℕ → ℕ → Refusal
due_fault ws i kind =
    when (not (ltb i (length ws))) MissingWord
    then when (not (eqb (kind_of (get_or ws i 0)) kind)) WrongKind

-- the closing word: its kind, then its number isn't that of the i words before it (19), then a word
-- follows it (20)
unfoldable pub closing_fault : List ℕ → ℕ → Refusal
closing_fault ws i =
    due_fault ws i closing_kind
    then when (not (eqb (payload_at ws i) i)) WrongPayload
    then when (ltb (i + 1) (length ws)) TrailingWord
