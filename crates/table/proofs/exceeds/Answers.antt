-- `table::exceeds` meets its contract: the two utilities compare as the ranks of their cells. That an f64 in a slice fits its format is known
-- of every slice. Assumes nothing.
use mathlib.Core.Path.{◌∙◌}
use Rattle.payoff_tables.proofs.Game.{cells_greater}
use Rattle.table.proofs.exceeds.Goals as goal

pub returns : goal.returns
returns c =
    c.exceeds.ensures
    ∙ cells_greater c.args.payoffs.now c.requires.finites (λ i _. c.type_inv.payoffs i) c.args.cell c.args.other c.requires.cell_in_bounds.0 c.requires.cell_in_bounds.1
    c.of_finite-mine.ensures c.of_finite.ensures
