use mathlib.Core.Path.{◌≡◌, sym, ap, ap₂, ◌∙◌}
use mathlib.Core.Bool.{true, false, not}
use mathlib.Core.List.{List, [], ◌∷◌, map, map-append}
use Prim.Native.Nat.{ℕ, ◌+◌}
use native.Mathlib.Omega.{arith}
use borrow.Author.Tests.{eq-eqb, ne_eqb}
use lib.Dec.{eqb}
use lib.Ieee.{Float, nan}
use lib.ListN.{length, take, get_or}
use lib.Seq.{length-take-le, get_or-take}
use Rattle.game.specs.Finite.{below, filter}
use Rattle.game.proofs.Finite.{filter_yes, filter_not}
use Rattle.gains.specs.Inner.{raise, raise_all}
use Rattle.gains.proofs.Gains.{raise_append}
use Rattle.gains.proofs.raised_by.Invariants.{passed}
use Rattle.gains.proofs.raised_by.Goals as goal
use Rattle.gains.proofs.raised_by.Goals.{then-t-own, else-t-own}

-- one more of them, and the one that is left out
module _ (best : Float) (gains : List Float) (own t : ℕ) where
  next : not (eqb t own) ≡ true → raise_all best (passed gains own (t + 1)) ≡ raise (raise_all best (passed gains own t)) (get_or gains t nan)
  next h =
      ap (λ (is : List ℕ). raise_all best (map (λ i. get_or gains i nan) is)) (filter_yes (λ i. not (eqb i own)) t h)
      ∙ ap (raise_all best) (map-append (λ i. get_or gains i nan) (filter (λ i. not (eqb i own)) (below t)) (t ∷ []))
      ∙ raise_append best (passed gains own t) (get_or gains t nan ∷ [])

  skipped : not (eqb t own) ≡ false → raise_all best (passed gains own (t + 1)) ≡ raise_all best (passed gains own t)
  skipped h = ap (λ (is : List ℕ). raise_all best (map (λ i. get_or gains i nan) is)) (filter_not (λ i. not (eqb i own)) t h)

pub loop-t-preserved : goal.loop-t-preserved
loop-t-preserved c =
    let l = c.loop-t in
    let a = c.args in
    let n : length (take a.count a.gains.now) ≡ a.count = length-take-le a.count a.gains.now c.requires in
    let same : get_or (take a.count a.gains.now) l.t nan ≡ get_or a.gains.now l.t nan = get_or-take a.count a.gains.now l.t nan (omega (arith, n, c.loop-t-test.true)) in
    elim c.if-t-own.branch [
      | then-t-own w ↦
          w.top-is
          ∙ w.raised-top.ensures
          ∙ ap₂ raise l.invariant same
          ∙ sym (next a.best a.gains.now a.own l.t (ap not (ne_eqb l.t a.own w.if-t-own.true)))
      | else-t-own w ↦ w.top-is ∙ l.invariant ∙ sym (skipped a.best a.gains.now a.own l.t (ap not (eq-eqb l.t a.own w.if-t-own.false)))
    ]

pub returns : goal.returns
returns c =
    let a = c.args in
    let n : length (take a.count a.gains.now) ≡ a.count = length-take-le a.count a.gains.now c.requires in
    let e : c.loop-t.t ≡ a.count = omega (arith, n, c.loop-t.auto.t-end, c.loop-t-test.false) in
    c.loop-t.invariant ∙ ap (λ (n : ℕ). raise_all a.best (passed a.gains.now a.own n)) e
