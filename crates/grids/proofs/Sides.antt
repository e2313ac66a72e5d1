-- One player of a game, by its own strategy s and a choice o of the others (`Side`). For it, what
-- dominance is in ranks (`side-dominator`) and in whole numbers (`side-order`), what it is that
-- weights put nothing on a strategy (`side-law`), and that they put none on a dominated one where
-- no gain is above 0 (`side-dominated`). Rows and columns are two such sides. Assumes nothing.
use mathlib.Core.Path.{◌≡◌, sym, ap, ◌∙◌, subst, subst₂}
use mathlib.Core.Bool.{true, false}
use mathlib.Core.List.{List}
use mathlib.Core.Logic.{◌↔◌, ◌≢◌}
use Prim.Native.Nat.{ℕ, ◌<◌}
use lib.Dec.{T, ltb, ltb→lt, lt→ltb}
use lib.IntN.{ℤ}
use lib.ListN.{length, get_or, set}
use lib.Signed.{lt_z}
use lib.Ieee.{Float, nan, binary64, lt, eq, fits}
use Rattle.game.specs.Finite.{◌∈◌}
use Rattle.game.specs.Game.{Game, count, choice, Profile, whole}
use Rattle.game.specs.Meaning.{Dominator}
use Rattle.game.proofs.Game.{whole_law, inside_whole}
use Rattle.payoff_order.specs.Order.{rank}
use Rattle.payoff_tables.specs.Table.{offset}
use Rattle.sums.specs.Sums.{zero as nought}
use Rattle.gains.specs.Gains.{changes, gain}
use Rattle.whole_numbers.specs.Gains.{parts, GridPayoff, GridWeight}
use Rattle.whole_numbers.proofs.Gains.{rank_whole, unweighted}
use Rattle.grids.specs.Grid.{Unweighted}

-- player p's strategies and the others' choices make up the profiles, each of them once or more
pub record Side {I : Type 0} (g : Game) (weights : List Float) (p own : ℕ) (others : List I) (at : ℕ → I → List ℕ) (weight payoff : ℕ → I → Float) : Type 0 where
  pub counted : count g p ≡ own
  pub profile : (s : ℕ) (o : I) → s < own → o ∈ others → Profile g.counts (at s o)
  pub found : (x : List ℕ) → Profile g.counts x → (s : ℕ) × (o : I) × (s < own) × (o ∈ others) × (at s o ≡ x)
  pub chosen : (s : ℕ) (o : I) → choice (at s o) p ≡ s
  pub changed : (s t : ℕ) (o : I) → set (at s o) p t ≡ at t o
  pub pays : (s : ℕ) (o : I) → g.pay p (at s o) ≡ rank (payoff s o)
  pub weighs : (s : ℕ) (o : I) → get_or weights (offset g.counts (at s o)) nan ≡ weight s o

module _ {I : Type 0} (g : Game) (weights : List Float) (p own : ℕ) (others : List I) (at : ℕ → I → List ℕ) (weight payoff : ℕ → I → Float)
    (side : Side g weights p own others at weight payoff) where
  paid_after : (s t : ℕ) (o : I) → g.pay p (set (at s o) p t) ≡ rank (payoff t o)
  paid_after s t o = ap (g.pay p) (side.changed s t o) ∙ side.pays t o

  pub side_dominator : (s t : ℕ) → s < own
      → Dominator g (whole g) p s t ↔ ((t < own) × (t ≢ s) × ((o : I) → o ∈ others → rank (payoff s o) < rank (payoff t o)))
  side_dominator s t S = (
    λ (l, _, (apart, better)). (
      subst (λ (k : ℕ). t < k) side.counted l,
      apart,
      λ o h.
          let r = side.profile s o S h in
          subst₂ ◌<◌ (paid_after s s o) (paid_after s t o) (better (at s o) r (λ q Q _. inside_whole g (at s o) r q Q)),
    ),
    λ (l, apart, better).
        let L = subst (λ (k : ℕ). t < k) (sym side.counted) l in (
          L,
          (whole_law g p t).1 L,
          (
            apart,
            λ x r _.
                let (i, o, _, h, e) = side.found x r in
                subst (λ (x : List ℕ). g.pay p (set x p s) < g.pay p (set x p t)) e
                (subst₂ ◌<◌ (sym (paid_after i s o)) (sym (paid_after i t o)) (better o h)),
          ),
        ),
  )

  pub side_law : (s : ℕ) → Unweighted g.counts weights p s ↔ (s < own → (o : I) → o ∈ others → eq (weight s o) nought ≡ true)
  side_law s = (
    λ h S o i. ap (λ (w : Float). eq w nought) (sym (side.weighs s o)) ∙ h (at s o) (side.profile s o S i) (side.chosen s o),
    λ h x r c.
        let (i, o, l, k, e) = side.found x r in
        let q : i ≡ s = sym (side.chosen i o) ∙ ap (λ (x : List ℕ). choice x p) e ∙ c in
        ap (λ (x : List ℕ). eq (get_or weights (offset g.counts x) nan) nought) (sym e)
        ∙ ap (λ (w : Float). eq w nought) (side.weighs i o)
        ∙ subst (λ (j : ℕ). eq (weight j o) nought ≡ true) (sym q) (h (subst (λ (j : ℕ). j < own) q l) o k),
  )

  -- on a grid
  module _ (w : ℕ → I → ℕ) (u : ℕ → I → ℤ) (held : (s : ℕ) (o : I) → T (fits binary64 (payoff s o)))
      (paid : (s : ℕ) → s < own → (o : I) → o ∈ others → GridPayoff (payoff s o) (u s o)) where
    pub side_order : (s t : ℕ) → s < own
        → Dominator g (whole g) p s t ↔ ((t < own) × (t ≢ s) × ((o : I) → o ∈ others → T (lt_z (u s o) (u t o))))
    side_order s t S = (
      λ d.
          let (l, apart, better) = (side_dominator s t S).0 d in
          (l, apart, λ o h. subst T (same o h l) (lt→ltb (rank (payoff s o)) (rank (payoff t o)) (better o h))),
      λ (l, apart, better).
          (side_dominator s t S).1
          (l, apart, λ o h. ltb→lt (rank (payoff s o)) (rank (payoff t o)) (subst T (sym (same o h l)) (better o h))),
    )
      where
        same : (o : I) → o ∈ others → t < own → ltb (rank (payoff s o)) (rank (payoff t o)) ≡ lt_z (u s o) (u t o)
        same o h l = rank_whole (payoff s o) (payoff t o) (u s o) (u t o) (held s o) (held t o) (paid s S o h).whole (paid t l o h).whole

    pub side_dominated : ((s : ℕ) → s < own → (o : I) → o ∈ others → GridWeight (weight s o) (w s o)) → length others < parts
        → ((x : Float) → x ∈ changes (gain weight payoff others) own → lt nought x ≡ false)
        → (s t : ℕ) → Dominator g (whole g) p s t → Unweighted g.counts weights p s
    side_dominated weighted few top s t d =
        (side_law s).1
        (λ S.
        let (l, apart, better) = (side_order s t S).0 d in
        unweighted weight payoff others w u own weighted paid few top s t S l apart better)
