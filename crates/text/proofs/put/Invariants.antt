-- `text::put` meets its contract. The invariant: the bytes so far were put. Assumes nothing.
use lib.ListN.{take}
use Rattle.outputs.specs.Put.{Puts}
use Rattle.text.proofs.put.Given as goal

abbrev pub invariant-loop-byte : goal.invariant-loop-byte
invariant-loop-byte l = Puts l.initial.out l.at (take l.byte-index l.bytes) l.place l.out
