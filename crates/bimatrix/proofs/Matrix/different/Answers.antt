-- `bimatrix::Matrix::different` meets its contract: the six tests are those of the definition, one after the other. Assumes nothing.
use mathlib.Core.Path.{◌≡◌, refl}
use mathlib.Core.Bool.{Bool, true, false, not, ◌&&◌}
use lib.Dec.{eqb}
use Rattle.bimatrix.specs.Keys.{different}
use Rattle.bimatrix.proofs.Matrix.different.Goals as goal

regrouped : (a b c d e f : Bool) → a && b && c && d && e && f ≡ a && (b && (c && true)) && (d && (e && true) && (f && true && true))
regrouped false b c d e f = refl
regrouped true false c d e f = refl
regrouped true true false d e f = refl
regrouped true true true false e f = refl
regrouped true true true true false f = refl
regrouped true true true true true false = refl
regrouped true true true true true true = refl

pub returns : goal.returns
unfolding different
returns c =
    let q = c.args.self in
    regrouped (not (eqb q.at00 q.at01)) (not (eqb q.at00 q.at10)) (not (eqb q.at00 q.at11))
    (not (eqb q.at01 q.at10)) (not (eqb q.at01 q.at11)) (not (eqb q.at10 q.at11))
