use mathlib.Core.Path.{sym, subst, ◌∙◌}
use native.Mathlib.Omega.{arith}
use borrow.Author.Tests.{ltb-true}
use lib.Dec.{T}
use Rattle.game.proofs.Finite.{test_true}
use Rattle.strategy_row.proofs.Row.{unexceeded_T, exceeded}
use Rattle.strategy_row.proofs.unexceeded.Goals as goal

pub returns-then-exceeds : goal.returns-then-exceeds
returns-then-exceeds c =
    sym (exceeded _ _ _ _ _ _ _ c.loop-t.t c.loop-t-test.true (subst T (sym c.if-marks-place.true) tt)
    (ltb-true _ _ (sym c.exceeds.ensures ∙ c.if-exceeds.true)))

pub returns : goal.returns
returns c = sym (test_true _ ((unexceeded_T _ _ _ _ _ _ _).1 (λ t l. c.loop-t.invariant t (omega arith))))
