-- `bimatrix::Bimatrix::least_key` meets its contract: the four keys are those of the definition's four tables. Assumes nothing.
use mathlib.Core.Path.{ap, ◌∙◌}
use native.Mathlib.Omega.{arith}
use Rattle.bimatrix.specs.Matrices.{swap_rows, both}
use Rattle.bimatrix.specs.Keys.{key, least_key}
use Rattle.bimatrix.proofs.Bimatrix.least_key.Goals as goal

pub returns : goal.returns
unfolding least_key
returns c =
    let both-key = c.key-4.ensures ∙ ap key (c.swap_rows-both.ensures ∙ ap (both swap_rows) c.swap_columns-columns.ensures) in
    let columns-key = c.key-3.ensures ∙ ap key c.swap_columns-columns.ensures in
    let rows-key = c.key-2.ensures ∙ ap key c.swap_rows-rows.ensures in
    omega (arith, c.min.ensures, c.min-2.ensures, c.min-3.ensures)
