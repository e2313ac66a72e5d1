-- `gains::raised` meets its contract: the tests are those of `raise`. Assumes nothing.
use mathlib.Core.Path.{◌≡◌, sym, ◌∙◌}
use mathlib.Core.Bool.{true, false}
use Rattle.payoff_order.specs.Order.{finite}
use Rattle.gains.proofs.raised.Goals as goal

pub returns-then-not-is_finite : goal.returns-then-not-is_finite
returns-then-not-is_finite c =
    let x = c.args.gain in
    let e : finite x ≡ false = sym c.is_finite.ensures ∙ c.if-not-is_finite.true in
    c.infinity.ensures ∙ rw e

pub returns-then-best-gain : goal.returns-then-best-gain
returns-then-best-gain c =
    let x = c.args.gain in
    let e : finite x ≡ true = sym c.is_finite.ensures ∙ c.if-not-is_finite.false in
    rw (e, c.if-best-gain.true)

pub returns-else-best-gain : goal.returns-else-best-gain
returns-else-best-gain c =
    let x = c.args.gain in
    let e : finite x ≡ true = sym c.is_finite.ensures ∙ c.if-not-is_finite.false in
    rw (e, c.if-best-gain.false)
