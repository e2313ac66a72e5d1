-- `deposit_writer::write_counts` meets its contract. The invariant: the words of the counts before
-- player p's are put. Assumes nothing.
use mathlib.Core.Path.{◌≡◌}
use mathlib.Core.List.{map}
use lib.ListN.{take}
use Rattle.file_words.specs.Words.{word}
use Rattle.deposit_writer.specs.Put.{words_put}
use Rattle.deposit_writer.proofs.write_counts.Given as goal

abbrev pub invariant-loop-p : goal.invariant-loop-p
invariant-loop-p l = l.bytes ≡ words_put l.initial.bytes 1 (map (word 1) (take l.p l.counts))
