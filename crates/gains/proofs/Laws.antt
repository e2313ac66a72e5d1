-- A list of changes has f(s)(t) for every s and every t ≠ s, and nothing else (`changes-law`): the
-- gains of a player are such a list. Each gain is an f64 (`gain-fits`). Assumes nothing.
use mathlib.Core.Path.{sym, subst}
use mathlib.Core.Bool.{not}
use mathlib.Core.List.Memᴰ.{map as to_map}
use mathlib.Core.List.Memᴰ.{of_map}
use mathlib.Core.List.{List, map}
use mathlib.Core.Logic.{◌↔◌}
use Prim.Native.Nat.{ℕ}
use lib.Dec.{T, eqb}
use lib.Ieee.{Float, binary64, sub, mul, fits}
use Rattle.game.specs.Finite.{◌∈◌, below, filter}
use Rattle.game.proofs.Finite.{no_T, eqb_T, below_mem, filter_mem, of_flat_map, to_flat_map}
use Rattle.sums.proofs.Sums.{sum_fits}
use Rattle.gains.specs.Gains.{changes_from, changes}
use Rattle.gains.specs.Meaning.{Change, Gain}

module _ {A : Type 0} (f : ℕ → ℕ → A) (count : ℕ) where
  pub changes_law : (x : A) → (x ∈ changes f count) ↔ Change f count x
  changes_law x = (
    λ h.
        let (s, i, k) = of_flat_map (changes_from f count) (below count) x h in
        let (t, j, e) = of_map (f s) (filter (λ t. not (eqb t s)) (below count)) k in
        let (l, d) = (filter_mem (λ t. not (eqb t s)) (below count) t).0 j in
        record {
          from = s;
          to = t;
          strategy = (below_mem count s).0 i;
          change = (below_mem count t).0 l;
          another = λ q. (no_T (eqb t s)).0 d ((eqb_T t s).1 q);
          is = sym e;
        },
    λ r.
        let s = r.from in
        let t = r.to in
        to_flat_map (changes_from f count) (below count) s x ((below_mem count s).1 r.strategy)
        (subst (λ (y : A). y ∈ changes_from f count s) (sym r.is)
        (to_map (f s)
        ((filter_mem (λ t. not (eqb t s)) (below count) t).1 ((below_mem count t).1 r.change, (no_T (eqb t s)).1 (λ q. r.another ((eqb_T t s).0 q)))))),
  )

pub gain_fits : {I : Type 0} (weight payoff : ℕ → I → Float) (others : List I) (count : ℕ) (x : Float) → Gain weight payoff others count x → T (fits binary64 x)
gain_fits weight payoff others count x g =
    subst (λ (y : Float). T (fits binary64 y)) (sym g.is)
    (sum_fits (map (λ o. mul binary64 (weight g.from o) (sub binary64 (payoff g.to o) (payoff g.from o))) others))
