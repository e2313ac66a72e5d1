-- `report_lines::put_lines` meets its contract. The invariant: the first i lines were put. Assumes nothing.
use mathlib.Core.List.{flat_map}
use Rattle.game.specs.Finite.{below}
use Rattle.outputs.specs.Put.{Puts}
use Rattle.report_layout.specs.Lines.{numbers_line, part}
use Rattle.report_lines.proofs.put_lines.Given as goal

abbrev pub invariant-loop-i : goal.invariant-loop-i
invariant-loop-i l = Puts l.initial.out l.at (flat_map (λ j. numbers_line (part l.width l.numbers j)) (below l.i)) l.place l.out
