-- The expectations that the minimax check compares: columns against a lower bound alone
-- (`columns-are`), rows against an upper one alone (`rows_are`). Assumes nothing.
use mathlib.Core.Path.{◌≡◌, ap, ◌∙◌}
use mathlib.Core.Bool.{false}
use mathlib.Core.List.{List}
use Prim.Native.Nat.{ℕ}
use lib.ListN.{get_or}
use lib.Ieee.{Float, nan, inf, binary64, neg, add, sub}
use Rattle.game.specs.Finite.{all, below}
use Rattle.payoff_order.proofs.All.{all_cong}
use Rattle.sums.specs.Sums.{sum_of_products}
use Rattle.candidate_input.specs.declared.Claim.{Claim}
use Rattle.mixed_strategies.specs.Inner.{between, within}
use Rattle.mixed_strategies.proofs.Bounds.{no_high, no_low}
use Rattle.candidates.specs.Checks.{column, row, column_holds, row_holds}
use Rattle.candidates.proofs.Shape.{by_rows, by_columns}

module _ (m n : ℕ) (payoffs p1 p2 : List Float) (claim : Claim) where
  pub columns_are : within payoffs p1 n 1 m n (sub binary64 claim.value claim.tolerance) (inf false) ≡ all (column_holds m n payoffs p1 p2 claim) (below n)
  columns_are =
      let low = sub binary64 claim.value claim.tolerance in
      ap (λ (f : ℕ → ℕ → Float). all (λ t. between low (inf false) (sum_of_products (λ o. get_or p1 o nan) (f t) (below m))) (below n)) (by_columns n payoffs)
      ∙ all_cong (λ j. between low (inf false) (column m n payoffs p1 j)) (column_holds m n payoffs p1 p2 claim) (below n)
      (λ j _. no_high low (column m n payoffs p1 j))

  pub rows_are : within payoffs p2 m n n 1 (neg (inf false)) (add binary64 claim.value claim.tolerance) ≡ all (row_holds m n payoffs p1 p2 claim) (below m)
  rows_are =
      let high = add binary64 claim.value claim.tolerance in
      ap (λ (f : ℕ → ℕ → Float). all (λ t. between (neg (inf false)) high (sum_of_products (λ o. get_or p2 o nan) (f t) (below n))) (below m)) (by_rows n payoffs)
      ∙ all_cong (λ i. between (neg (inf false)) high (row n payoffs p2 i)) (row_holds m n payoffs p1 p2 claim) (below m)
      (λ i _. no_low high (row n payoffs p2 i))
