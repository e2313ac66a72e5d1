-- What swapping means, as a relation. Assumes nothing.
use Rattle.game.specs.Finite.{◌∈◌}
use Rattle.bimatrix.specs.declared.Bimatrix.{Bimatrix}
use Rattle.bimatrix.specs.Matrices.{swaps}

-- swapping rows, columns, both or neither turns b into c
abbrev pub Swapped : Bimatrix → Bimatrix → Type 0
Swapped b c = c ∈ swaps b
