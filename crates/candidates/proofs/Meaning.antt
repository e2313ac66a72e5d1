-- The tests of `Checks` say what `Meaning` has: `verdict-law` and `minimax-law`. Assumes nothing.
use mathlib.Core.Path.{◌≡◌}
use mathlib.Core.Bool.{Bool, false, not, ◌&&◌}
use mathlib.Core.List.{List}
use mathlib.Core.Logic.Iff
use mathlib.Core.Logic.{◌↔◌}
use Prim.Native.Nat.{ℕ, ◌<◌}
use lib.Dec.{T}
use lib.Ieee.{Float, binary64, add, sub, lt}
use Rattle.game.specs.Finite.{all, below}
use Rattle.game.proofs.Finite.{all_T, below_mem}
use Rattle.payoff_order.specs.Order.{finite}
use Rattle.candidate_input.specs.Input.{tolerable, claimed}
use Rattle.candidate_input.specs.Meaning.{Tolerable}
use Rattle.candidate_input.specs.declared.Claim.{Claim}
use Rattle.candidate_input.proofs.Meaning.{both, none_T, tolerable_law, claimed_law}
use Rattle.mixed_strategies.specs.Distribution.{distribution}
use Rattle.mixed_strategies.proofs.Meaning.{distribution_law}
use Rattle.candidates.specs.Checks.{incentives, verdict_of, column, row, column_holds, row_holds, minimax}
use Rattle.candidates.specs.Meaning.{Minimax}

below_law : (f : ℕ → Bool) (n : ℕ) → T (all f (below n)) ↔ ((i : ℕ) → i < n → T (f i))
below_law f n = (λ h i l. (all_T f (below n)).0 h i ((below_mem n i).1 l), λ h. (all_T f (below n)).1 (λ i k. h i ((below_mem n i).0 k)))

pub verdict_law : (m n : ℕ) (u1 u2 weights : List Float) (tolerance : Float)
    → T (verdict_of m n u1 u2 weights tolerance) ↔ (Tolerable tolerance × (lt tolerance (incentives m n u1 u2 weights) ≡ false))
unfolding verdict_of
verdict_law m n u1 u2 weights t =
    both (tolerable t) (not (lt t (incentives m n u1 u2 weights))) (tolerable_law t) (none_T (lt t (incentives m n u1 u2 weights)))

pub minimax_law : (m n : ℕ) (payoffs p1 p2 : List Float) (claim : Claim) → T (minimax m n payoffs p1 p2 claim) ↔ Minimax m n payoffs p1 p2 claim
unfolding minimax
minimax_law m n payoffs p1 p2 claim =
    let t = claim.tolerance in
    let a : Bool = claimed m n payoffs p1 p2 claim in
    let b : Bool = distribution p1 t in
    let c : Bool = distribution p2 t in
    let f = column_holds m n payoffs p1 p2 claim in
    let g = row_holds m n payoffs p1 p2 claim in
    let column_T : (j : ℕ) → T (f j) ↔ _ = λ j. both (finite (column m n payoffs p1 j)) (not (lt (column m n payoffs p1 j) (sub binary64 claim.value t))) Iff.rfl (none_T (lt (column m n payoffs p1 j) (sub binary64 claim.value t))) in
    let row_T : (i : ℕ) → T (g i) ↔ _ = λ i. both (finite (row n payoffs p2 i)) (not (lt (add binary64 claim.value t) (row n payoffs p2 i))) Iff.rfl (none_T (lt (add binary64 claim.value t) (row n payoffs p2 i))) in
    let vectors = both (a && b) c (both a b (claimed_law m n payoffs p1 p2 claim) (distribution_law p1 t)) (distribution_law p2 t) in
    let (to, from) = both (a && b && c && all f (below n)) (all g (below m)) (both (a && b && c) (all f (below n)) vectors (below_law f n)) (below_law g m) in (
      λ h.
          let ((((x, y), z), u), v) = to h in
          record { claimed = x; first = y; second = z; columns = λ j l. (column_T j).0 (u j l); rows = λ i l. (row_T i).0 (v i l) },
      λ r. from ((((r.claimed, r.first), r.second), λ j l. (column_T j).1 (r.columns j l)), λ i l. (row_T i).1 (r.rows i l)),
    )
