use mathlib.Core.Bool.{Bool, true, false, true≢false}
use mathlib.Core.List.{List}
use mathlib.Core.Path.{◌≡◌, sym, subst, ◌∙◌}
use Prim.Native.Nat.{ℕ, ◌+◌, ◌*◌, ◌<◌}
use native.Mathlib.Omega.{arith}
use borrow.Author.Rules.{rules}
use borrow.Author.Tests.{ltb-true, ltb-false}
use lib.Dec.{T}
use lib.ListN.{length, get_or}
use lib.Ieee.{Float, nan, fits, binary64}
use Rattle.std.specs.Prelude.{Option, Some, None, IsTrue}
use Rattle.std.specs.Option.{MatchOption}
use Rattle.payoff_order.specs.Order.{greater}
use Rattle.utility.specs.Value.{value_of}
use Rattle.utility.specs.declared.Utility.{Utility}
use Rattle.payoff_tables.specs.Meaning.{Finites}
use Rattle.payoff_tables.proofs.Game.{cells_greater}
use Rattle.strategy_row.specs.Row.{row_lowest}
use Rattle.strategy_row.proofs.Row.{Found, found_old, found_new, found_end, On}
use Rattle.strategy_row.proofs.best.Invariants.{Best}
use Rattle.strategy_row.proofs.best.Goals as goal
use Rattle.strategy_row.proofs.best.Goals.{then-marks-place+then-is_none_or, then-marks-place+else-is_none_or, else-marks-place}

-- whether the utility is the first, or exceeds that of the best one so far
abbrev Better : Option (ℕ × Utility) → Utility → Bool → Type 0
Better o mine is = MatchOption o (IsTrue is) (λ x. is ≡ greater (value_of mine) (value_of x.1))

module _ (payoffs : List Float) (marks : List Bool) (place start step count : ℕ) (finites : Finites payoffs)
    (held : (i : ℕ) → i < length payoffs → T (fits binary64 (get_or payoffs i nan)))
    (inside : (t : ℕ) → t < count → start + t * step < length payoffs) where
  -- a strategy that is not marked changes nothing,
  unmarked : (o : Option (ℕ × Utility)) (n : ℕ) → Best payoffs marks place start step o n → (On payoffs marks place start step n → ⊥)
      → Best payoffs marks place start step o (n + 1)
  unmarked None n b off = found_old payoffs marks place start step false 0 n b (λ on. absurd (off on))
  unmarked (Some (s, top)) n b off = (b.0, found_old payoffs marks place start step true s n b.1 (λ on. absurd (off on)))

  module _ (n : ℕ) (l : n < count) (on : On payoffs marks place start step n) (mine : Utility) (e : value_of mine ≡ get_or payoffs (start + n * step) nan) where
    -- nor does one that is not better,
    kept : (o : Option (ℕ × Utility)) → Best payoffs marks place start step o n → Better o mine false → Best payoffs marks place start step o (n + 1)
    kept None b h = absurd (true≢false (sym h))
    kept (Some (s, top)) b h = (
      b.0,
      found_old payoffs marks place start step true s n b.1
          (λ _. (tt, ltb-false _ _ (sym (h ∙ cells_greater payoffs finites held _ _ (inside n l) (inside s (omega (arith, (b.1.something tt).0, l))) e b.0)))),
    )

    -- and a better one is the best from there on
    taken : (o : Option (ℕ × Utility)) → Best payoffs marks place start step o n → Better o mine true → Best payoffs marks place start step (Some (n, mine)) (n + 1)
    taken None b h = (e, found_new payoffs marks place start step false 0 n b on (λ k. absurd k))
    taken (Some (s, top)) b h = (
      e,
      found_new payoffs marks place start step true s n b.1 on
          (λ _. ltb-true _ _ (sym (h ∙ cells_greater payoffs finites held _ _ (inside n l) (inside s (omega (arith, (b.1.something tt).0, l))) e b.0))),
    )

  -- what is found of all strategies is the lowest best one
  ended : (o : Option (ℕ × Utility)) (r n : ℕ) → n ≡ count → Best payoffs marks place start step o n → MatchOption o (r ≡ 0) (λ x. r ≡ x.0)
      → r ≡ row_lowest payoffs marks place start step count
  ended None r n e b h = h ∙ found_end payoffs marks place start step false 0 count (subst (Found payoffs marks place start step false 0) e b)
  ended (Some (s, top)) r n e b h = h ∙ found_end payoffs marks place start step true s count (subst (Found payoffs marks place start step true s) e b.1)

pub loop-t-preserved : goal.loop-t-preserved
loop-t-preserved c =
    let l = c.loop-t in
    let a = c.args in
    let held = λ (i : ℕ) (_ : i < length a.payoffs.now). c.type_inv.payoffs i in
    elim c.if-marks-place.branch [
      | then-marks-place+then-is_none_or w ↦
          let h : Better l.best w.of_finite-mine.result w.is_none_or.result = search rules in
          rw w.best-is (taken a.payoffs.now a.marks.now a.place a.start a.step a.count c.requires.finites held c.requires.by_index l.t c.loop-t-test.true
          (subst T (sym w.if-marks-place.true) tt) w.of_finite-mine.result w.of_finite-mine.ensures l.best l.invariant (rw w.if-is_none_or.true at h))
      | then-marks-place+else-is_none_or w ↦
          let h : Better l.best w.of_finite-mine.result w.is_none_or.result = search rules in
          rw w.best-is (kept a.payoffs.now a.marks.now a.place a.start a.step a.count c.requires.finites held c.requires.by_index l.t c.loop-t-test.true
          (subst T (sym w.if-marks-place.true) tt) w.of_finite-mine.result w.of_finite-mine.ensures l.best l.invariant (rw w.if-is_none_or.false at h))
      | else-marks-place w ↦
          rw w.best-is (unmarked a.payoffs.now a.marks.now a.place a.start a.step a.count c.requires.finites held c.requires.by_index l.best l.t l.invariant
          (subst T w.if-marks-place.false))
    ]

pub returns : goal.returns
returns c =
    let a = c.args in
    ended a.payoffs.now a.marks.now a.place a.start a.step a.count c.requires.finites (λ i _. c.type_inv.payoffs i) c.requires.by_index c.loop-t.best c.map_or.result c.loop-t.t
    (omega arith) c.loop-t.invariant (search rules)
