-- What the reader and the writer answer, and what their outputs hold afterwards: the definitions that the contracts name. Assumes nothing.
use Rattle.std.specs.Prelude.{List, ℕ, length, Float}
use Rattle.refusal.specs.Told.{Told, told_of}
use Rattle.written_lists.specs.Outputs.{written_of, over}
use Rattle.deposit_format.specs.Deposit.{file_of, table_of}

-- ---- the reader: from the file's bytes, and what the two outputs held

module _ (bytes counts : List ℕ) (payoffs : List Float) where
  -- P, which is the number of counts
  unfoldable pub read_answer : Told ℕ
  read_answer = told_of (λ t. length t.0) (table_of bytes (length counts) (length payoffs))

  -- the output for the counts
  unfoldable pub read_counts : List ℕ
  read_counts = over (written_of (λ t. t.0) (table_of bytes (length counts) (length payoffs))) counts

  -- the output for the payoffs
  unfoldable pub read_payoffs : List Float
  read_payoffs = over (written_of (λ t. t.1) (table_of bytes (length counts) (length payoffs))) payoffs

-- ---- the writer: from the table, and what the output held

module _ (counts : List ℕ) (payoffs : List Float) (bytes : List ℕ) where
  -- the number of bytes written
  unfoldable pub write_answer : Told ℕ
  write_answer = told_of length (file_of counts payoffs (length bytes))

  -- the output
  unfoldable pub write_bytes : List ℕ
  write_bytes = over (written_of (λ file. file) (file_of counts payoffs (length bytes))) bytes
