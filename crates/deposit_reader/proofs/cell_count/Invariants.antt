-- `deposit_reader::cell_count` meets its contract. The invariant: no count before player p's has a
-- fault, and their places are filled. Assumes nothing.
use mathlib.Core.Path.{◌≡◌}
use mathlib.Core.Option.{none}
use Prim.Native.Nat.{ℕ, ◌<◌}
use lib.ListN.{get_or}
use Rattle.file_words.specs.Words.{words_of}
use Rattle.deposit_format.specs.Deposit.{counts_in, count_fault}
use Rattle.deposit_reader.proofs.cell_count.Given as goal

abbrev pub invariant-loop-p : goal.invariant-loop-p
invariant-loop-p l = ((q : ℕ) → q < l.p → count_fault (words_of l.bytes) q ≡ none) × ((q : ℕ) → q < l.p → get_or l.count-items q 0 ≡ get_or (counts_in (words_of l.bytes)) q 0)
