-- The two-player table with given payoffs has them at their cells (`first-at`, `second_at`), and
-- its players are two sides (`rows`, `columns`). That weights put nothing on a strategy says it of
-- a row, or of a column (`row-law`, `column-law`). Assumes nothing.
use mathlib.Core.Path.{◌≡◌, refl, ap, ◌∙◌}
use mathlib.Core.Bool.{true}
use mathlib.Core.List.{List, [], ◌∷◌}
use mathlib.Core.Logic.{◌↔◌}
use Prim.Native.Nat.{ℕ, zero, suc, ◌+◌, ◌*◌, ◌<◌}
use native.Mathlib.Omega.{arith}
use lib.Dec.{lit<}
use lib.ListN.{length, get_or}
use lib.Ieee.{Float, nan, eq}
use Rattle.game.specs.Finite.{below}
use Rattle.game.specs.Game.{choice, Profile}
use Rattle.game.proofs.Finite.{below_mem}
use Rattle.payoff_order.specs.Order.{rank}
use Rattle.payoff_tables.specs.Table.{offset, payoff_at, table_game}
use Rattle.sums.specs.Sums.{zero as nought}
use Rattle.candidates.specs.Checks.{entry}
use Rattle.grids.specs.Grid.{paired, two_players, Unweighted}
use Rattle.grids.proofs.Sides.{Side, side_law}

twice : (k p : ℕ) → suc k * 2 + p ≡ suc (suc (k * 2 + p))
twice k p = omega arith

pub first_of : (xs ys : List Float) (k : ℕ) → length xs ≡ length ys → get_or (paired xs ys) (k * 2 + 0) nan ≡ get_or xs k nan
first_of [] ys k h = refl
first_of (x ∷ xs) [] k h = let z : ◌≡◌ {A = ℕ} 0 1 = omega arith in absurd (omega arith)
first_of (x ∷ xs) (y ∷ ys) zero h = refl
first_of (x ∷ xs) (y ∷ ys) (suc k) h = rw (twice k 0) (first_of xs ys k (omega arith))

pub second_of : (xs ys : List Float) (k : ℕ) → length xs ≡ length ys → get_or (paired xs ys) (k * 2 + 1) nan ≡ get_or ys k nan
second_of [] [] k h = refl
second_of [] (y ∷ ys) k h = absurd (omega arith)
second_of (x ∷ xs) [] k h = absurd (omega arith)
second_of (x ∷ xs) (y ∷ ys) zero h = refl
second_of (x ∷ xs) (y ∷ ys) (suc k) h = rw (twice k 1) (second_of xs ys k (omega arith))

pub paired_length : (xs ys : List Float) → length xs ≡ length ys → length (paired xs ys) ≡ length xs * 2
paired_length [] ys h = refl
paired_length (x ∷ xs) [] h = absurd (omega arith)
paired_length (x ∷ xs) (y ∷ ys) h = omega (arith, paired_length xs ys (omega arith))

module _ (m n : ℕ) where
  place : (i j : ℕ) → offset (m ∷ n ∷ []) (i ∷ j ∷ []) ≡ i * n + j
  unfolding offset
  place i j = omega arith

  module _ (u1 u2 : List Float) (e : length u1 ≡ length u2) (i j : ℕ) where
    pub first_at : payoff_at (m ∷ n ∷ []) (paired u1 u2) 0 (i ∷ j ∷ []) ≡ entry n u1 i j
    unfolding payoff_at
    first_at = ap (λ (k : ℕ). get_or (paired u1 u2) (k * 2 + 0) nan) (place i j) ∙ first_of u1 u2 (i * n + j) e

    pub second_at : payoff_at (m ∷ n ∷ []) (paired u1 u2) 1 (i ∷ j ∷ []) ≡ entry n u2 i j
    unfolding payoff_at
    second_at = ap (λ (k : ℕ). get_or (paired u1 u2) (k * 2 + 1) nan) (place i j) ∙ second_of u1 u2 (i * n + j) e

  -- row i and column j make a profile, and every profile is one
  two_profile : (i j : ℕ) → i < m → j < n → Profile (m ∷ n ∷ []) (i ∷ j ∷ [])
  two_profile i j I J = record { each = refl; fits = each }
    where
      each : (p : ℕ) → p < 2 → choice (i ∷ j ∷ []) p < get_or (m ∷ n ∷ []) p 0
      each zero h = I
      each (suc zero) h = J
      each (suc (suc p)) h = absurd (omega arith)

  of_two : (x : List ℕ) → Profile (m ∷ n ∷ []) x → (i : ℕ) × (j : ℕ) × (i < m) × (j < n) × (i ∷ j ∷ [] ≡ x)
  of_two [] r = absurd (omega (arith, r.each))
  of_two (i ∷ []) r = absurd (omega (arith, r.each))
  of_two (i ∷ j ∷ []) r = (i, j, r.fits 0 (lit< tt), r.fits 1 (lit< tt), refl)
  of_two (i ∷ j ∷ k ∷ x) r = absurd (omega (arith, r.each))

  module _ (u1 u2 weights : List Float) (e : length u1 ≡ length u2) where
    -- player 0, who has the rows
    pub rows : Side (two_players m n u1 u2) weights 0 m (below n) (λ i j. i ∷ j ∷ []) (λ i j. entry n weights i j) (λ i j. entry n u1 i j)
    unfolding table_game
    rows =
        record {
          counted = refl;
          profile = λ i j I J. two_profile i j I ((below_mem n j).0 J);
          found = λ x r. let (i, j, I, J, e) = of_two x r in (i, j, I, (below_mem n j).1 J, e);
          chosen = λ i j. refl;
          changed = λ i k j. refl;
          pays = λ i j. ap rank (first_at u1 u2 e i j);
          weighs = λ i j. ap (λ (k : ℕ). get_or weights k nan) (place i j);
        }

    -- player 1, who has the columns
    pub columns : Side (two_players m n u1 u2) weights 1 n (below m) (λ j i. i ∷ j ∷ []) (λ j i. entry n weights i j) (λ j i. entry n u2 i j)
    unfolding table_game
    columns =
        record {
          counted = refl;
          profile = λ j i J I. two_profile i j ((below_mem m i).0 I) J;
          found = λ x r. let (i, j, I, J, e) = of_two x r in (j, i, J, (below_mem m i).1 I, e);
          chosen = λ j i. refl;
          changed = λ j k i. refl;
          pays = λ j i. ap rank (second_at u1 u2 e i j);
          weighs = λ j i. ap (λ (k : ℕ). get_or weights k nan) (place i j);
        }

  -- no weight on a strategy is no weight in its row, or in its column
  module _ (weights : List Float) (s : ℕ) where
    pub row_law : Unweighted (m ∷ n ∷ []) weights 0 s ↔ (s < m → (j : ℕ) → j < n → eq (entry n weights s j) nought ≡ true)
    unfolding table_game
    row_law =
        let (there, back) =
        side_law (two_players m n [] []) weights 0 m (below n) (λ i j. i ∷ j ∷ []) (λ i j. entry n weights i j) (λ i j. entry n [] i j)
        (rows [] [] weights refl) s in
        (λ h l j J. there h l j ((below_mem n j).1 J), λ h. back (λ l j J. h l j ((below_mem n j).0 J)))

    pub column_law : Unweighted (m ∷ n ∷ []) weights 1 s ↔ (s < n → (i : ℕ) → i < m → eq (entry n weights i s) nought ≡ true)
    unfolding table_game
    column_law =
        let (there, back) =
        side_law (two_players m n [] []) weights 1 n (below m) (λ j i. i ∷ j ∷ []) (λ j i. entry n weights i j) (λ j i. entry n [] i j)
        (columns [] [] weights refl) s in
        (λ h l i I. there h l i ((below_mem m i).1 I), λ h. back (λ l i I. h l i ((below_mem m i).0 I)))
