-- `deposit_reader::put_counts` meets its contract. The invariant: the counts before player p's are
-- written. Assumes nothing.
use mathlib.Core.Path.{◌≡◌}
use Prim.Native.Nat.{ℕ, ◌<◌}
use lib.ListN.{get_or}
use Rattle.file_words.specs.Words.{words_of}
use Rattle.deposit_format.specs.Deposit.{counts_in}
use Rattle.deposit_reader.proofs.put_counts.Given as goal

abbrev pub invariant-loop-p : goal.invariant-loop-p
invariant-loop-p l = (k : ℕ) → k < l.p → get_or l.count-items k 0 ≡ get_or (counts_in (words_of l.bytes)) k 0
