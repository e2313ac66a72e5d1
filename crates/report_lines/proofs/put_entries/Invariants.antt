-- `report_lines::put_entries` meets its contract. The invariant: the first i lines were put. Assumes nothing.
use mathlib.Core.List.{flat_map}
use Rattle.game.specs.Finite.{below}
use Rattle.outputs.specs.Put.{Puts}
use Rattle.report_layout.specs.Lines.{entry_line, part}
use Rattle.report_lines.proofs.put_entries.Given as goal

abbrev pub invariant-loop-i : goal.invariant-loop-i
invariant-loop-i l =
    Puts l.initial.out l.at (flat_map (λ j. entry_line (part l.players l.choices j) (part l.players l.utilities j)) (below l.i)) l.place l.out
