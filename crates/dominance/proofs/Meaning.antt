-- What the dominance list has, in quantifiers: each dominated strategy of the player once, ascending, with the lowest of its dominators.
-- A refused call writes nothing. Assumes nothing.
use mathlib.Core.Path.{◌≡◌, refl, sym, ap, ap₂, subst}
use mathlib.Core.List.Memᴰ.{eq_of_singleton as in-singleton}
use mathlib.Core.List.Memᴰ.{head as here}
use mathlib.Core.List.Memᴰ.{not-nil as not-in-nil}
use mathlib.Core.List.{List}
use mathlib.Core.Logic.{◌↔◌}
use mathlib.Core.Option.{Option, none, some}
use Prim.Native.Nat.{ℕ, ◌<◌}
use native.Mathlib.Omega.{arith}
use lib.Ieee.{Float}
use Rattle.game.specs.Finite.{◌∈◌, below, Sorted, Lists, First}
use Rattle.game.specs.Game.{Game, count, Marks}
use Rattle.game.specs.Solution.{dominator}
use Rattle.game.specs.Meaning.{Dominator}
use Rattle.game.proofs.Finite.{below_mem, of_flat_map, to_flat_map}
use Rattle.game.proofs.Sorted.{sorted_flat_map, sorted_below, lowest_some, lists_iff}
use Rattle.game.proofs.Solution.{dominator_law}
use Rattle.refusal.specs.Told.{refused}
use Rattle.written_lists.specs.Outputs.{over}
use Rattle.written_lists.proofs.Outputs.{refused_kept}
use Rattle.dominance.specs.Answers.{DominatedStrategy, beside, dominated_of, strategies_of, dominators_of, dominated_answer, written_of, dominated_written}

-- ascending by strategy
abbrev pub Lower : DominatedStrategy → DominatedStrategy → Type 0
Lower c d = c.strategy < d.strategy

beside_mem : (s : ℕ) (o : Option ℕ) (d : DominatedStrategy) → (d ∈ beside s o) ↔ ((d.strategy ≡ s) × (o ≡ some d.dominated_by))
beside_mem s none d = (λ h. absurd (not-in-nil h), λ h. let z : ◌≡◌ {A = ℕ} 0 1 = cc h.1 in absurd (omega arith))
beside_mem s (some t) d = (
  λ h. let e = in-singleton h in (ap (λ (c : DominatedStrategy). c.strategy) e, ap {B = Option ℕ} some (sym (ap (λ (c : DominatedStrategy). c.dominated_by) e))),
  λ h. let e : t ≡ d.dominated_by = cc h.1 in here (ap₂ (λ (a b : ℕ). record { strategy = a; dominated_by = b }) h.0 (sym e)),
)

module _ (g : Game) (m : Marks) (p : ℕ) where
  -- s with its dominator, where it has one
  of : ℕ → List DominatedStrategy
  of s = beside s (dominator g m p s)

  one : (s : ℕ) (o : Option ℕ) → Sorted Lower (beside s o)
  one s none = tt
  one s (some t) = (λ y k. absurd (not-in-nil k), tt)

  -- just the strategies of the player that have a lowest dominator, each with it, ascending
  pub dominated_law : Lists Lower (λ d. (d.strategy < count g p) × (dominator g m p d.strategy ≡ some d.dominated_by)) (dominated_of g m p)
  unfolding dominated_of of
  dominated_law =
      record {
        members = λ d. (
          λ h.
              let (s, l, k) = of_flat_map of (below (count g p)) d h in
              let (e, f) = (beside_mem s (dominator g m p s) d).0 k in
              (rw e ((below_mem (count g p) s).0 l), rw e f),
          λ h.
              to_flat_map of (below (count g p)) d.strategy d ((below_mem (count g p) d.strategy).1 h.0)
              ((beside_mem d.strategy (dominator g m p d.strategy) d).1 (refl, h.1)),
        );
        sorted =
            sorted_flat_map ◌<◌ Lower of (λ s. one s (dominator g m p s))
            (λ s t h c d k l. omega (arith, h, ((beside_mem s (dominator g m p s) c).0 k).0, ((beside_mem t (dominator g m p t) d).0 l).0)) (below (count g p)) (sorted_below (count g p));
      }

  -- and so what dominates it, and that nothing lower does
  pub dominated_meaning : Lists Lower
      (λ d. (d.strategy < count g p) × First ◌<◌ (Dominator g m p d.strategy) (some d.dominated_by))
      (dominated_of g m p)
  dominated_meaning =
      lists_iff
      (λ d.
      let s = d.strategy in
      let law = dominator_law g m p s in (
        λ h. (h.0, subst (First ◌<◌ (Dominator g m p s)) h.1 law),
        λ h. (h.0, lowest_some (Dominator g m p s) (dominator g m p s) law d.dominated_by h.1.0 h.1.1),
      ))
      dominated_law

-- a call that refuses, by 13 too, leaves both outputs as they were
pub dominated_kept : (counts : List ℕ) (payoffs : List Float) (p a b e : ℕ) → dominated_answer counts payoffs p a b ≡ refused e → (old old' : List ℕ)
    → let w = dominated_written counts payoffs p a b in (over (strategies_of w) old ≡ old) × (over (dominators_of w) old' ≡ old')
dominated_kept counts payoffs p a b e is old old' = (
  refused_kept (λ t. strategies_of (written_of counts payoffs p t)) (λ _. refl) _ e is old,
  refused_kept (λ t. dominators_of (written_of counts payoffs p t)) (λ _. refl) _ e is old',
)
