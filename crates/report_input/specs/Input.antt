-- Document 01, "The report program": a deposit file of at most 2,048 cells. More bytes than 24,616
-- give 5 before any other check; more cells give 5 where the reader gives it. Assumes nothing.
use Rattle.std.specs.Prelude.{List, ℕ, cond, eqb, ltb, length, Float}
use Rattle.refusal.specs.Refusal.{Refusal, number_of, when, ◌then◌}
use Rattle.refusal.specs.Told.{Told, unless}
use Rattle.refusal.specs.declared.NormalFormError.{NormalFormError}
use Rattle.refusal.specs.declared.NormalFormError.TheVariants.{TooManyCells}
use Rattle.file_words.specs.Words.{words_of}
use Rattle.file_words.specs.Faults.{length_fault}
use Rattle.deposit_format.specs.Deposit.{counts_in, payoffs_in, head_fault, rest_fault}

-- a deposit file of at most 2,048 cells
abbrev pub max_report_cells : ℕ
max_report_cells = 2048

-- and of at most 24,616 bytes
abbrev pub max_file_bytes : ℕ
max_file_bytes = 24616

-- the bytes, then the reader's faults with the lower limit of cells
unfoldable pub input_refusal : List ℕ → Refusal
input_refusal bytes =
    let ws = words_of bytes in
    when (ltb max_file_bytes (length bytes)) TooManyCells
    then length_fault bytes
    then head_fault ws max_report_cells
    then rest_fault ws

-- the report's refusal for one of the reader's: 5 in place of 13
abbrev pub five : NormalFormError → NormalFormError
five e = cond (eqb (number_of e) 13) TooManyCells e

-- the table of the file, or the refusal
unfoldable pub input_table : List ℕ → Told (List ℕ × List Float)
input_table bytes = let ws = words_of bytes in unless (input_refusal bytes) (counts_in ws, payoffs_in ws)
