-- `catalogue::rank` meets its contract: a rank among four numbers is how many of the four are less, one after the other. Assumes nothing.
use native.Mathlib.Omega.{arith}
use Rattle.bimatrix.proofs.Ranks.{at_most_one, rank_four}
use Rattle.catalogue.proofs.rank.Goals as goal

pub overflow_add-result : goal.overflow_add-result
overflow_add-result c = omega (arith, at_most_one _ _ _ c.less.ensures, at_most_one _ _ _ c.less-2.ensures)

pub overflow_add-result-2 : goal.overflow_add-result-2
overflow_add-result-2 c = omega (arith, at_most_one _ _ _ c.less.ensures, at_most_one _ _ _ c.less-2.ensures, at_most_one _ _ _ c.less-3.ensures)

pub overflow_add-result-3 : goal.overflow_add-result-3
overflow_add-result-3 c = omega (arith, at_most_one _ _ _ c.less.ensures, at_most_one _ _ _ c.less-2.ensures, at_most_one _ _ _ c.less-3.ensures, at_most_one _ _ _ c.less-4.ensures)

pub returns : goal.returns
returns c =
    rw (c.less-4.ensures, c.less-3.ensures, c.less-2.ensures, c.less.ensures)
    (rank_four _ _ _ _ _)
