-- Whole-number grids, change N1 of the scope. Each gain, times 65,536, is the same sum in whole
-- numbers (`grid-row`, `grid-column`, and all of them `grid-gains`), and the answer, times 65,536,
-- is the greatest of these sums, or 0 (`grid-answer`). An answer of 0 puts no weight on a strategy
-- that is strictly dominated in the two-player table with those payoffs (`grid-dominated`), which
-- is dominance in the whole numbers (`grid-dominated-row`, `grid-dominated-column`); here the
-- payoffs are f64s, as the elements of a slice are. An answer that is not above 0 is the 0 meant
-- (`grid-zero`). Any lists of such numbers, of the right lengths, are a grid (`grid-some`). Assumes
-- nothing.
use mathlib.Core.Path.{◌≡◌, sym, ap, ◌∙◌, subst}
use mathlib.Core.Bool.{false, true≢false}
use mathlib.Core.List.Memᴰ.{append_left}
use mathlib.Core.List.Memᴰ.{append_right}
use mathlib.Core.List.{List, [], ◌∷◌}
use mathlib.Core.Logic.{◌↔◌, ◌≢◌, ⊎_elim}
use Prim.Native.Nat.{ℕ, zero, suc, ◌+◌, ◌*◌, ◌<◌, zero-le}
use native.Mathlib.Nat.{not-suc-le-zero}
use native.Mathlib.Omega.{arith}
use borrow.Author.Tests.{le-ltb}
use lib.Dec.{T, lit<}
use lib.Arith.{digits_lt}
use lib.IntN.{ℤ, pos, nat_abs}
use lib.ListN.{length, get_or}
use lib.Signed.{lt_z}
use lib.Ieee.{Float, nan, lt}
use Rattle.game.specs.Finite.{◌∈◌, all, below}
use Rattle.game.specs.Game.{whole}
use Rattle.game.specs.Meaning.{Dominator}
use Rattle.game.proofs.Finite.{test_true, all_T, below_mem, length_below}
use Rattle.payoff_order.specs.Order.{finite}
use Rattle.payoff_tables.specs.Table.{table_game}
use Rattle.payoff_tables.specs.Meaning.{Doubles}
use Rattle.payoff_tables.proofs.Offsets.{digits}
use Rattle.sums.specs.Sums.{zero as nought}
use Rattle.candidate_input.specs.Input.{well_formed}
use Rattle.candidate_input.specs.Meaning.{Sized}
use Rattle.candidate_input.proofs.Meaning.{well_formed_law}
use Rattle.gains.specs.Gains.{gain, gains_of, answer_of}
use Rattle.gains.specs.Meaning.{Greatest}
use Rattle.candidates.specs.Checks.{entry, gains, incentives}
use Rattle.candidates.proofs.Laws.{incentives_law}
use Rattle.whole_numbers.specs.Whole.{Times, AllTimes}
use Rattle.whole_numbers.specs.Gains.{parts, GridPayoff, GridWeight, whole_gain, greatest_whole}
use Rattle.whole_numbers.proofs.Exact.{lt_whole}
use Rattle.whole_numbers.proofs.Numbers.{whole_of, whole_of_lem, finite_whole, zero_whole}
use Rattle.whole_numbers.proofs.Gains.{one_gain, gains_exact, times_append, times_finite, times_greatest}
use Rattle.grids.specs.Grid.{Grid, whole_gains, two_players, Unweighted}
use Rattle.grids.proofs.Sides.{side_order, side_dominated}
use Rattle.grids.proofs.Pairs.{rows, columns}

pub grid_some : (m n : ℕ) (u1 u2 weights : List Float) → Sized m n → length u1 ≡ m * n → length u2 ≡ m * n → length weights ≡ m * n
    → ((k : ℕ) → k < length u1 → (z : ℤ) × GridPayoff (get_or u1 k nan) z) → ((k : ℕ) → k < length u2 → (z : ℤ) × GridPayoff (get_or u2 k nan) z)
    → ((k : ℕ) → k < length weights → (w : ℕ) × GridWeight (get_or weights k nan) w)
    → (U1 : ℕ → ℕ → ℤ) × (U2 : ℕ → ℕ → ℤ) × (W : ℕ → ℕ → ℕ) × Grid m n u1 u2 weights U1 U2 W
grid_some m n u1 u2 weights size e1 e2 ew p1 p2 q = (
  λ i j. whole_of 1 (entry n u1 i j),
  λ i j. whole_of 1 (entry n u2 i j),
  λ i j. nat_abs (whole_of parts (entry n weights i j)),
  record {
    size = size;
    long_first = e1;
    long_second = e2;
    long_weights = ew;
    first = λ i j I J. payoff (entry n u1 i j) (p1 (i * n + j) (inside u1 e1 i j I J));
    second = λ i j I J. payoff (entry n u2 i j) (p2 (i * n + j) (inside u2 e2 i j I J));
    weighted = λ i j I J. weight (entry n weights i j) (q (i * n + j) (inside weights ew i j I J));
  },
)
  where
    inside : (table : List Float) → length table ≡ m * n → (i j : ℕ) → i < m → j < n → i * n + j < length table
    inside table e i j I J = subst (λ (k : ℕ). i * n + j < k) (sym e) (digits_lt I J)

    payoff : (x : Float) → (z : ℤ) × GridPayoff x z → GridPayoff x (whole_of 1 x)
    payoff x (z, p) = subst (GridPayoff x) (sym (whole_of_lem 1 x z p.whole)) p

    weight : (x : Float) → (k : ℕ) × GridWeight x k → GridWeight x (nat_abs (whole_of parts x))
    weight x (k, p) = subst (GridWeight x) (sym (ap nat_abs (whole_of_lem parts x (pos k) p.whole))) p

module _ (m n : ℕ) (u1 u2 weights : List Float) (U1 U2 : ℕ → ℕ → ℤ) (W : ℕ → ℕ → ℕ) (grid : Grid m n u1 u2 weights U1 U2 W) where
  -- a number of a flat table stands in a row and a column
  at_all : (P : Float → Type 0) (table : List Float) → length table ≡ m * n → ((i j : ℕ) → i < m → j < n → P (entry n table i j))
      → (k : ℕ) → k < length table → P (get_or table k nan)
  at_all P table e h k l =
      let (i, j, I, J, q) = digits m n k (subst (λ (o : ℕ). k < o) e l) in subst (λ (o : ℕ). P (get_or table o nan)) q (h i j I J)

  few_rows : length (below m) < parts
  few_rows = let s = grid.size in omega (arith, length_below m)

  few_columns : length (below n) < parts
  few_columns = let s = grid.size in omega (arith, length_below n)

  -- payoffs and weights are finite
  pub grid_finite : ((k : ℕ) → k < length u1 → T (finite (get_or u1 k nan)))
      × ((k : ℕ) → k < length u2 → T (finite (get_or u2 k nan)))
      × ((k : ℕ) → k < length weights → T (finite (get_or weights k nan)))
  grid_finite = (
    at_all (λ x. T (finite x)) u1 grid.long_first (λ i j I J. finite_whole 1 _ _ (grid.first i j I J).whole),
    at_all (λ x. T (finite x)) u2 grid.long_second (λ i j I J. finite_whole 1 _ _ (grid.second i j I J).whole),
    at_all (λ x. T (finite x)) weights grid.long_weights (λ i j I J. finite_whole parts _ _ (grid.weighted i j I J).whole),
  )

  pub grid_formed : T (well_formed m n u1 u2 weights)
  grid_formed =
      (well_formed_law m n u1 u2 weights).1
      (record {
        size = grid.size;
        first = record { long = grid.long_first; each = grid_finite.0 };
        second = record { long = grid.long_second; each = grid_finite.1 };
        weighted = record { long = grid.long_weights; each = grid_finite.2 };
        not_negative =
            at_all (λ x. lt x nought ≡ false) weights grid.long_weights
            (λ i j I J. lt_whole parts (lit< tt) _ nought _ (pos 0) (grid.weighted i j I J).whole (zero_whole parts) ∙ le-ltb (W i j) 0 zero-le);
      })

  -- payoffs and weights by the own strategy and the others' choice
  row_weights : (i : ℕ) → i < m → (j : ℕ) → j ∈ below n → GridWeight (entry n weights i j) (W i j)
  row_weights i I j h = grid.weighted i j I ((below_mem n j).0 h)

  row_payoffs : (i : ℕ) → i < m → (j : ℕ) → j ∈ below n → GridPayoff (entry n u1 i j) (U1 i j)
  row_payoffs i I j h = grid.first i j I ((below_mem n j).0 h)

  column_weights : (j : ℕ) → j < n → (i : ℕ) → i ∈ below m → GridWeight (entry n weights i j) (W i j)
  column_weights j J i h = grid.weighted i j ((below_mem m i).0 h) J

  column_payoffs : (j : ℕ) → j < n → (i : ℕ) → i ∈ below m → GridPayoff (entry n u2 i j) (U2 i j)
  column_payoffs j J i h = grid.second i j ((below_mem m i).0 h) J

  pub grid_gains : AllTimes parts (gains m n u1 u2 weights) (whole_gains m n U1 U2 W)
  unfolding gains
  grid_gains =
      times_append parts
      (gains_exact (λ i j. entry n weights i j) (λ i j. entry n u1 i j) (below n) W U1 m row_weights row_payoffs few_columns)
      (gains_exact (λ j i. entry n weights i j) (λ j i. entry n u2 i j) (below m) (λ j i. W i j) (λ j i. U2 i j) n column_weights column_payoffs few_rows)

  -- the answer is the greatest gain, or +0.0
  law : Greatest (gains m n u1 u2 weights) (incentives m n u1 u2 weights)
  law = incentives_law m n u1 u2 weights grid_formed ((all_T finite (gains m n u1 u2 weights)).0 (times_finite parts grid_gains))

  not_above : incentives m n u1 u2 weights ≡ nought → (x : Float) → x ∈ gains m n u1 u2 weights → lt nought x ≡ false
  not_above answer x h = ap (λ (a : Float). lt a x) (sym answer) ∙ law.top x h

  pub grid_answer : Times parts (incentives m n u1 u2 weights) (greatest_whole (whole_gains m n U1 U2 W))
  unfolding incentives answer_of
  grid_answer =
      let gs = gains m n u1 u2 weights in
      rw (test_true (well_formed m n u1 u2 weights) grid_formed, test_true (all finite gs) (times_finite parts grid_gains))
      (times_greatest parts (lit< tt) nought (pos 0) (zero_whole parts) grid_gains)

  -- each gain by itself: of row k in place of row i, and of column k in place of column j
  pub grid_row : (i k : ℕ) → i < m → k < m
      → Times parts (gain (λ i j. entry n weights i j) (λ i j. entry n u1 i j) (below n) i k) (whole_gain W U1 (below n) i k)
  grid_row i k I K =
      one_gain (λ i j. entry n weights i j) (λ i j. entry n u1 i j) (below n) W U1 m row_weights row_payoffs few_columns i k I K

  pub grid_column : (j k : ℕ) → j < n → k < n
      → Times parts (gain (λ j i. entry n weights i j) (λ j i. entry n u2 i j) (below m) j k) (whole_gain (λ j i. W i j) (λ j i. U2 i j) (below m) j k)
  grid_column j k J K =
      one_gain (λ j i. entry n weights i j) (λ j i. entry n u2 i j) (below m) (λ j i. W i j) (λ j i. U2 i j) n column_weights column_payoffs few_rows j k J K

  -- an answer that is not above 0 is +0.0
  pub grid_zero : lt nought (incentives m n u1 u2 weights) ≡ false → incentives m n u1 u2 weights ≡ nought
  grid_zero h = ⊎_elim (λ e. e) (λ above. absurd (true≢false (sym above.1 ∙ h))) law.found

  -- ---- dominance

  same : length u1 ≡ length u2
  same = grid.long_first ∙ sym grid.long_second

  module _ (held1 : Doubles u1) (held2 : Doubles u2) where
    -- a row is strictly dominated by another that has more in every column, a column by another
    -- that has more in every row
    pub grid_dominated_row : (s t : ℕ) → s < m
        → Dominator (two_players m n u1 u2) (whole (two_players m n u1 u2)) 0 s t ↔ ((t < m) × (t ≢ s) × ((j : ℕ) → j < n → T (lt_z (U1 s j) (U1 t j))))
    grid_dominated_row s t S =
        let (there, back) =
        side_order (two_players m n u1 u2) weights 0 m (below n) (λ i j. i ∷ j ∷ []) (λ i j. entry n weights i j) (λ i j. entry n u1 i j)
        (rows m n u1 u2 weights same) W U1 (λ i j. held1 (i * n + j)) row_payoffs s t S in
        (λ d. let (l, apart, more) = there d in (l, apart, λ j J. more j ((below_mem n j).1 J)), λ (l, apart, more). back (l, apart, λ j h. more j ((below_mem n j).0 h)))

    pub grid_dominated_column : (s t : ℕ) → s < n
        → Dominator (two_players m n u1 u2) (whole (two_players m n u1 u2)) 1 s t ↔ ((t < n) × (t ≢ s) × ((i : ℕ) → i < m → T (lt_z (U2 i s) (U2 i t))))
    grid_dominated_column s t S =
        let (there, back) =
        side_order (two_players m n u1 u2) weights 1 n (below m) (λ j i. i ∷ j ∷ []) (λ j i. entry n weights i j) (λ j i. entry n u2 i j)
        (columns m n u1 u2 weights same) (λ j i. W i j) (λ j i. U2 i j) (λ j i. held2 (i * n + j)) column_payoffs s t S in
        (λ d. let (l, apart, more) = there d in (l, apart, λ i I. more i ((below_mem m i).1 I)), λ (l, apart, more). back (l, apart, λ i h. more i ((below_mem m i).0 h)))

    -- ---- an answer of 0

    pub grid_dominated : incentives m n u1 u2 weights ≡ nought → (p s t : ℕ) → Dominator (two_players m n u1 u2) (whole (two_players m n u1 u2)) p s t
        → Unweighted (m ∷ n ∷ []) weights p s
    unfolding table_game gains
    grid_dominated answer zero s t d =
        side_dominated (two_players m n u1 u2) weights 0 m (below n) (λ i j. i ∷ j ∷ []) (λ i j. entry n weights i j) (λ i j. entry n u1 i j)
        (rows m n u1 u2 weights same) W U1 (λ i j. held1 (i * n + j)) row_payoffs row_weights few_columns
        (λ x h. not_above answer x (append_left _ h)) s t d
    grid_dominated answer (suc zero) s t d =
        side_dominated (two_players m n u1 u2) weights 1 n (below m) (λ j i. i ∷ j ∷ []) (λ j i. entry n weights i j) (λ j i. entry n u2 i j)
        (columns m n u1 u2 weights same) (λ j i. W i j) (λ j i. U2 i j) (λ j i. held2 (i * n + j)) column_payoffs column_weights few_rows
        (λ x h. not_above answer x (append_right (gains_of (λ i j. entry n weights i j) (λ i j. entry n u1 i j) (below n) m) h)) s t d
    grid_dominated answer (suc (suc p)) s t d = absurd (not-suc-le-zero d.0)
