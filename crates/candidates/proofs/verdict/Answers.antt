-- `candidates::verdict` meets its contract: the tests are those of `verdictOf`. Assumes nothing.
use mathlib.Core.Path.{sym, ap, ◌∙◌}
use mathlib.Core.Bool.{Bool, not, ◌&&◌}
use lib.Ieee.{Float, lt}
use Rattle.candidates.specs.Checks.{incentives, verdict_of}
use Rattle.candidates.proofs.verdict.Goals as goal

pub returns-then-not-is_tolerable : goal.returns-then-not-is_tolerable
unfolding verdict_of
returns-then-not-is_tolerable c =
    let a = c.args in
    sym (ap (λ (b : Bool). b && not (lt a.tolerance (incentives a.m a.n a.u1.now a.u2.now a.weights.now))) (sym c.is_tolerable.ensures ∙ c.if-not-is_tolerable.true))

pub returns : goal.returns
unfolding verdict_of
returns c =
    let a = c.args in
    ap (λ (x : Float). not (lt a.tolerance x)) c.verify_correlated_equilibrium_incentives-gain.ensures
    ∙ sym (ap (λ (b : Bool). b && not (lt a.tolerance (incentives a.m a.n a.u1.now a.u2.now a.weights.now))) (sym c.is_tolerable.ensures ∙ c.if-not-is_tolerable.false))
