-- `catalogue::less` meets its contract: a truth value as a number is 1 or 0. Assumes nothing.
use mathlib.Core.Path.{◌≡◌, ap, ◌∙◌}
use mathlib.Core.Bool.{Bool, true, false, cond}
use mir.Val.{bool_byte}
use Rattle.bimatrix.specs.Keys.{one_if_less}
use Rattle.catalogue.proofs.less.Goals as goal

pub returns : goal.returns
unfolding one_if_less
returns c =
    c.from.ensures ∙ same _ _ c.exceeds.ensures
  where
    same : (b d : Bool) → b ≡ d → bool_byte b ≡ cond d 1 0
    same true d e = ap (λ (t : Bool). cond t 1 0) e
    same false d e = ap (λ (t : Bool). cond t 1 0) e
