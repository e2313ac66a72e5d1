-- `candidates::verify_minimax_residuals` meets its contract: the tests are those of `minimax`, and
-- an infinity as a bound lets every finite expectation pass. Assumes nothing.
use mathlib.Core.Path.{◌≡◌, sym, ap, ◌∙◌, subst}
use mathlib.Core.Bool.{true, false}
use native.Mathlib.Omega.{arith}
use lib.Dec.{T}
use lib.Ieee.{Float, nan, binary64, neg, add, sub}
use Rattle.game.specs.Finite.{all, below}
use Rattle.payoff_order.specs.Order.{finite}
use Rattle.payoff_order.proofs.All.{at_all}
use Rattle.candidate_input.specs.Input.{claimed}
use Rattle.candidate_input.specs.Meaning.{Claimed}
use Rattle.candidate_input.proofs.Meaning.{claimed_law}
use Rattle.mixed_strategies.specs.Distribution.{distribution}
use Rattle.mixed_strategies.specs.Inner.{within}
use Rattle.candidates.specs.Checks.{column_holds, minimax}
use Rattle.candidates.proofs.Shape.{rows_span, columns_span}
use Rattle.candidates.proofs.Expectations.{columns_are, rows_are}
use Rattle.candidates.proofs.verify_minimax_residuals.Goals as goal
use Rattle.candidates.proofs.verify_minimax_residuals.Goals.{After-expectations_between, Else-not-is_claim, Else-not-is_distribution, Else-not-is_distribution-2}

pub returns-then-not-is_claim : goal.returns-then-not-is_claim
unfolding minimax
returns-then-not-is_claim c =
    let a = c.args in
    let e : claimed a.m a.n a.payoffs.now a.p1.now a.p2.now a.claim ≡ false = sym c.is_claim.ensures ∙ c.if-not-is_claim.true in
    rw e

-- what is known after the first test, and after the second
claimed-is : (c : Else-not-is_claim) → let a = c.args in claimed a.m a.n a.payoffs.now a.p1.now a.p2.now a.claim ≡ true
claimed-is c = sym c.is_claim.ensures ∙ c.if-not-is_claim.false

claim-is : (c : Else-not-is_claim) → let a = c.args in Claimed a.m a.n a.payoffs.now a.p1.now a.p2.now a.claim
claim-is c =
    let a = c.args in
    (claimed_law a.m a.n a.payoffs.now a.p1.now a.p2.now a.claim).0 (subst T (sym (claimed-is c)) tt)

first-is : (c : Else-not-is_distribution) → let a = c.args in distribution a.p1.now a.claim.tolerance ≡ true
first-is c = sym c.is_distribution.ensures ∙ c.if-not-is_distribution.false

pub returns-then-not-is_distribution : goal.returns-then-not-is_distribution
unfolding minimax
returns-then-not-is_distribution c =
    let a = c.args in
    let e : distribution a.p1.now a.claim.tolerance ≡ false = sym c.is_distribution.ensures ∙ c.if-not-is_distribution.true in
    rw (claimed-is (goal.at.returns-then-not-is_distribution c).Else-not-is_claim, e)

pub returns-then-not-is_distribution-2 : goal.returns-then-not-is_distribution-2
unfolding minimax
returns-then-not-is_distribution-2 c =
    let a = c.args in
    let e : distribution a.p2.now a.claim.tolerance ≡ false = sym c.is_distribution-2.ensures ∙ c.if-not-is_distribution-2.true in
    rw (claimed-is (goal.at.returns-then-not-is_distribution-2 c).Else-not-is_claim, first-is (goal.at.returns-then-not-is_distribution-2 c).Else-not-is_distribution, e)

second_is : (c : Else-not-is_distribution-2) → let a = c.args in distribution a.p2.now a.claim.tolerance ≡ true
second_is c = sym c.is_distribution-2.ensures ∙ c.if-not-is_distribution-2.false

pub expectations_between-requires : goal.expectations_between-requires
expectations_between-requires c =
    let a = c.args in
    let k = claim-is (goal.at.expectations_between-requires c).Else-not-is_claim in
    record { count_nonzero = (k.size.columns, k.size.few_columns); others_in_bounds = omega (arith, k.first.long); payoffs_value = at_all finite nan a.payoffs.now k.table.each; spans = columns_span a.m a.n a.payoffs.now k.table.long }

columns-say : (c : After-expectations_between) → let a = c.args in c.expectations_between.result ≡ all (column_holds a.m a.n a.payoffs.now a.p1.now a.p2.now a.claim) (below a.n)
columns-say c =
    let a = c.args in
    c.expectations_between.ensures
    ∙ ap (within a.payoffs.now a.p1.now a.n 1 a.m a.n (sub binary64 a.claim.value a.claim.tolerance)) c.infinity.ensures
    ∙ columns_are a.m a.n a.payoffs.now a.p1.now a.p2.now a.claim

pub returns-then-not-expectations_between : goal.returns-then-not-expectations_between
unfolding minimax
returns-then-not-expectations_between c = rw (claimed-is (goal.at.returns-then-not-expectations_between c).Else-not-is_claim, first-is (goal.at.returns-then-not-expectations_between c).Else-not-is_distribution, second_is (goal.at.returns-then-not-expectations_between c).Else-not-is_distribution-2, sym (columns-say (goal.at.returns-then-not-expectations_between c).After-expectations_between) ∙ c.if-not-expectations_between.true)

pub expectations_between-requires-2 : goal.expectations_between-requires-2
expectations_between-requires-2 c =
    let a = c.args in
    let k = claim-is (goal.at.expectations_between-requires-2 c).Else-not-is_claim in
    record { count_nonzero = (k.size.rows, k.size.few_rows); others_in_bounds = omega (arith, k.second.long); payoffs_value = at_all finite nan a.payoffs.now k.table.each; spans = rows_span a.m a.n a.payoffs.now k.table.long }

pub returns : goal.returns
unfolding minimax
returns c =
    let a = c.args in
    c.expectations_between-2.ensures
    ∙ ap (λ (x : Float). within a.payoffs.now a.p2.now a.m a.n a.n 1 (neg x) (add binary64 a.claim.value a.claim.tolerance)) c.infinity-2.ensures
    ∙ rows_are a.m a.n a.payoffs.now a.p1.now a.p2.now a.claim
    ∙ rw (claimed-is (goal.at.returns c).Else-not-is_claim, first-is (goal.at.returns c).Else-not-is_distribution, second_is (goal.at.returns c).Else-not-is_distribution-2, sym (columns-say (goal.at.returns c).After-expectations_between) ∙ c.if-not-expectations_between.false)
