-- `text::put_spaced` meets its contract. The invariant: the numbers so far were put, each after a space. Assumes nothing.
use mathlib.Core.List.{map}
use lib.ListN.{take}
use Rattle.outputs.specs.Put.{Puts}
use Rattle.digits_and_lines.specs.Text.{decimal, spaced}
use Rattle.text.proofs.put_spaced.Given as goal

abbrev pub invariant-loop-n : goal.invariant-loop-n
invariant-loop-n l = Puts l.initial.out l.at (spaced (map decimal (take l.n-index l.numbers))) l.place l.out
