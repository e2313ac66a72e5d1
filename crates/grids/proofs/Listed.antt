-- Within a table's limits the two tables side by side are an accepted table (`grid-accepted`). What
-- `strictly_dominated_strategies` lists of it are, by `dominated-meaning` of `dominance`, just the
-- strategies with a dominator as in `grid-dominated`; and an answer of 0 puts no weight on a
-- strategy that it writes (`grid-listed`). Assumes nothing.
use mathlib.Core.Path.{◌≡◌, sym, ◌∙◌, subst}
use mathlib.Core.List.Memᴰ.{of_map}
use mathlib.Core.List.{List, [], ◌∷◌}
use mathlib.Core.Option.{none}
use Prim.Native.Nat.{ℕ, zero, suc, ◌+◌, ◌*◌, ◌≤◌, ◌<◌}
use native.Mathlib.Nat.{mul-le-mul}
use native.Mathlib.Omega.{arith}
use lib.Dec.{T, lit≤, lit<}
use lib.IntN.{ℤ}
use lib.ListN.{length, get_or}
use lib.Ieee.{Float, nan}
use Rattle.game.specs.Finite.{◌∈◌}
use Rattle.game.specs.Game.{whole}
use Rattle.game.proofs.Finite.{take_mem}
use Rattle.payoff_order.specs.Order.{finite}
use Rattle.written_lists.specs.Outputs.{written}
use Rattle.payoff_tables.specs.Limits.{max_strategies}
use Rattle.payoff_tables.specs.Checks.{table_refusal}
use Rattle.payoff_tables.specs.Meaning.{Doubles, Shape}
use Rattle.payoff_tables.proofs.Checks.{table_law}
use Rattle.payoff_tables.proofs.Offsets.{digits}
use Rattle.dominance.specs.Answers.{DominatedStrategy, strategies_of, dominated_strategies, dominated_answer, dominated_written}
use Rattle.dominance.proofs.Meaning.{dominated_meaning}
use Rattle.sums.specs.Sums.{zero as nought}
use Rattle.candidates.specs.Checks.{incentives}
use Rattle.grids.specs.Grid.{Grid, paired, two_players, Unweighted}
use Rattle.grids.proofs.Pairs.{first_of, second_of, paired_length}
use Rattle.grids.proofs.Grid.{grid_finite, grid_dominated}

module _ (m n : ℕ) (u1 u2 weights : List Float) (U1 U2 : ℕ → ℕ → ℤ) (W : ℕ → ℕ → ℕ) (grid : Grid m n u1 u2 weights U1 U2 W) where
  same : length u1 ≡ length u2
  same = grid.long_first ∙ sym grid.long_second

  finites : (i : ℕ) → i < length (paired u1 u2) → T (finite (get_or (paired u1 u2) i nan))
  finites i l = go (digits (length u1) 2 i (omega (arith, paired_length u1 u2 same)))
    where
      go : (k : ℕ) × (b : ℕ) × (k < length u1) × (b < 2) × (k * 2 + b ≡ i) → T (finite (get_or (paired u1 u2) i nan))
      go (k, zero, K, _, e) =
          subst (λ (x : ℕ). T (finite (get_or (paired u1 u2) x nan))) e
          (subst (λ (x : Float). T (finite x)) (sym (first_of u1 u2 k same)) ((grid_finite m n u1 u2 weights U1 U2 W grid).0 k K))
      go (k, suc zero, K, _, e) =
          subst (λ (x : ℕ). T (finite (get_or (paired u1 u2) x nan))) e
          (subst (λ (x : Float). T (finite x)) (sym (second_of u1 u2 k same)) ((grid_finite m n u1 u2 weights U1 U2 W grid).1 k (omega (arith, same))))
      go (k, suc (suc b), K, B, e) = absurd (omega arith)

  module _ (few_rows : m ≤ max_strategies) (few_columns : n ≤ max_strategies) where
    shape : Shape (m ∷ n ∷ [])
    shape =
        record {
          some = lit< tt;
          few = lit≤ tt;
          low = low;
          high = high;
          room = omega (arith, mul-le-mul grid.size.few_rows grid.size.few_columns);
        }
      where
        low : (p : ℕ) → p < 2 → 0 < get_or (m ∷ n ∷ []) p 0
        low zero h = grid.size.rows
        low (suc zero) h = grid.size.columns
        low (suc (suc p)) h = absurd (omega arith)

        high : (p : ℕ) → p < 2 → get_or (m ∷ n ∷ []) p 0 ≤ max_strategies
        high zero h = few_rows
        high (suc zero) h = few_columns
        high (suc (suc p)) h = absurd (omega arith)

    pub grid_accepted : table_refusal (m ∷ n ∷ []) (paired u1 u2) ≡ none
    grid_accepted =
        (table_law (m ∷ n ∷ []) (paired u1 u2)).1
        (record { shape = shape; full = omega (arith, paired_length u1 u2 same, grid.long_first); finites = finites })

  pub grid_listed : Doubles u1 → Doubles u2 → incentives m n u1 u2 weights ≡ nought → (p a b s : ℕ)
      → s ∈ strategies_of (dominated_written (m ∷ n ∷ []) (paired u1 u2) p a b) → Unweighted (m ∷ n ∷ []) weights p s
  unfolding dominated_strategies
  grid_listed held1 held2 answer p a b s h =
      let counts : List ℕ = m ∷ n ∷ [] in
      let g = two_players m n u1 u2 in
      let (d, i, e) = of_map (λ (d : DominatedStrategy). d.strategy) (dominated_written counts (paired u1 u2) p a b) h in
      let j = take_mem (written (dominated_answer counts (paired u1 u2) p a b)) (dominated_strategies counts (paired u1 u2) p) d i in
      subst (Unweighted counts weights p) e
      (grid_dominated m n u1 u2 weights U1 U2 W grid held1 held2 answer p d.strategy d.dominated_by (((dominated_meaning g (whole g) p).members d).0 j).1.0)
