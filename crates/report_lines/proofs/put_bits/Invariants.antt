-- `report_lines::put_bits` meets its contract. The invariant: the bits of the payoffs so far were put, each after a space. Assumes nothing.
use mathlib.Core.List.{map}
use lib.ListN.{take}
use Rattle.outputs.specs.Put.{Puts}
use Rattle.digits_and_lines.specs.Text.{spaced}
use Rattle.report_layout.specs.Lines.{bits_word}
use Rattle.report_lines.proofs.put_bits.Given as goal

abbrev pub invariant-loop-utility : goal.invariant-loop-utility
invariant-loop-utility l = Puts l.initial.out l.at (spaced (map bits_word (take l.utility-index l.utilities))) l.place l.out
