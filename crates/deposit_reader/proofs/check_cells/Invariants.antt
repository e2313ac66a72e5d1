-- `deposit_reader::check_cells` meets its contract. The invariant: no cell before the i-th has a
-- fault. Assumes nothing.
use mathlib.Core.Path.{◌≡◌}
use mathlib.Core.Option.{none}
use Prim.Native.Nat.{ℕ, ◌+◌, ◌*◌, ◌<◌}
use Rattle.file_words.specs.Words.{words_of}
use Rattle.deposit_format.specs.Deposit.{cell_fault}
use Rattle.deposit_reader.proofs.check_cells.Given as goal

abbrev pub invariant-loop-i : goal.invariant-loop-i
invariant-loop-i l = (j : ℕ) → j < l.i → cell_fault (words_of l.bytes) (l.start + 3 * j) ≡ none
