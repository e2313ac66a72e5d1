-- What a call of `write` and then of `read` tells, and the other way round. Nothing here says how a
-- file is laid out. Assumes nothing.
use Rattle.std.specs.Prelude.{List, ℕ, length, Float}
use Rattle.refusal.specs.Refusal.{◌then◌}
use Rattle.refusal.specs.Told.{Told, unless}
use Rattle.payoff_tables.specs.Checks.{table_refusal}
use Rattle.written_lists.specs.Outputs.{short_refusal}
use Rattle.deposit_format.specs.Deposit.{deposit, read_refusal}

-- the table itself, for every table with none of refusals 1 to 7, where the file, the counts and
-- the payoffs have room; else 1 to 7, or 13
abbrev pub written_read : List ℕ → List Float → ℕ → ℕ → ℕ → Told (List ℕ × List Float)
written_read counts payoffs bytesRoom countsRoom payoffsRoom =
    unless
    (table_refusal counts payoffs
    then short_refusal (length (deposit counts payoffs)) bytesRoom
    then short_refusal (length counts) countsRoom
    then short_refusal (length payoffs) payoffsRoom)
    (counts, payoffs)

-- the bytes themselves, for every accepted file, where they have room; else the reader's refusal,
-- or 13
abbrev pub read_written : List ℕ → ℕ → ℕ → ℕ → Told (List ℕ)
read_written bytes countsRoom payoffsRoom bytesRoom =
    unless (read_refusal bytes countsRoom payoffsRoom then short_refusal (length bytes) bytesRoom) bytes
