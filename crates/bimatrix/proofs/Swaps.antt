-- A swap undoes itself, and two swaps are a swap (`swap-back`, `swap-again`). What they mean: row i of the table with its rows swapped
-- is row 1 − i (`rows-law`, `columns-law`), and the ranks of the four tables are the four tables of ranks (`ranks-swaps`), since how many
-- are less does not depend on where they stand. Assumes nothing.
use mathlib.Core.Path.{◌≡◌, refl, ap, ap₂, ◌∙◌}
use mathlib.Core.List.Memᴰ.{cases_cons as in-cons}
use mathlib.Core.List.Memᴰ.{eq_of_singleton as in-singleton}
use mathlib.Core.List.Memᴰ.{head as here}
use mathlib.Core.List.Memᴰ.{tail as there}
use mathlib.Core.List.{List, [], ◌∷◌, map, flat_map}
use mathlib.Core.Logic.{⊎_elim}
use Prim.Native.Nat.{ℕ, ◌-◌}
use native.Mathlib.Omega.{arith}
use lib.ListN.{set}
use Rattle.game.specs.Game.{choice, profiles}
use Rattle.bimatrix.specs.declared.Matrix.{Matrix}
use Rattle.bimatrix.specs.declared.Bimatrix.{Bimatrix}
use Rattle.bimatrix.specs.Matrices.{matrix_of, in_order, swap_rows, swap_columns, bimatrix_of, both, swaps}
use Rattle.bimatrix.specs.Keys.{rank_among, ranked, ranks}
use Rattle.bimatrix.specs.Meaning.{Swapped}
use Rattle.bimatrix.proofs.Ranks.{rank_four}

-- ---- profiles

-- the numbers stand in profile order
pub order_law : (f : List ℕ → ℕ) → in_order (matrix_of f) ≡ map f (profiles (2 ∷ 2 ∷ []))
unfolding profiles flat_map
order_law f = refl

-- the table with its rows swapped has at each profile what the table has at that of the other row
pub rows_law : (f : List ℕ → ℕ) → swap_rows (matrix_of f) ≡ matrix_of (λ x. f (set x 0 (1 - choice x 0)))
rows_law f = refl

-- and with its columns swapped, what it has at that of the other column
pub columns_law : (f : List ℕ → ℕ) → swap_columns (matrix_of f) ≡ matrix_of (λ x. f (set x 1 (1 - choice x 1)))
columns_law f = refl

-- ---- the four swaps

-- what holds of each of the four holds of a table that is one of them
swap_cases : (P : Bimatrix → Type 0) {b c : Bimatrix} → Swapped b c
    → P b → P (both swap_rows b) → P (both swap_columns b) → P (both (λ q. swap_rows (swap_columns q)) b) → P c
swap_cases P {b} {c} h p q r s =
    ⊎_elim (λ (e : c ≡ b). rw e p)
    (λ h. ⊎_elim (λ (e : c ≡ both swap_rows b). rw e q)
    (λ h. ⊎_elim (λ (e : c ≡ both swap_columns b). rw e r)
    (λ h. let e : c ≡ both (λ q. swap_rows (swap_columns q)) b = in-singleton h in rw e s) (in-cons h)) (in-cons h)) (in-cons h)

first : (b : Bimatrix) → Swapped b b
first b = here refl

second : (b : Bimatrix) → Swapped b (both swap_rows b)
second b = there (here refl)

third : (b : Bimatrix) → Swapped b (both swap_columns b)
third b = there (there (here refl))

fourth : (b : Bimatrix) → Swapped b (both (λ q. swap_rows (swap_columns q)) b)
fourth b = there (there (there (here refl)))

pub swap_back : (b c : Bimatrix) → Swapped b c → Swapped c b
swap_back b c h = swap_cases (λ d. Swapped d b) h (first b) (second (both swap_rows b)) (third (both swap_columns b)) (fourth (both (λ q. swap_rows (swap_columns q)) b))

rows_again : (b c : Bimatrix) → Swapped b c → Swapped b (both swap_rows c)
rows_again b c h = swap_cases (λ d. Swapped b (both swap_rows d)) h (second b) (first b) (fourth b) (third b)

columns_again : (b c : Bimatrix) → Swapped b c → Swapped b (both swap_columns c)
columns_again b c h = swap_cases (λ d. Swapped b (both swap_columns d)) h (third b) (fourth b) (first b) (second b)

pub swap_again : (b c d : Bimatrix) → Swapped b c → Swapped c d → Swapped b d
swap_again b c d h k =
    swap_cases (Swapped b) k h (rows_again b c h) (columns_again b c h) (rows_again b (both swap_columns c) (columns_again b c h))

-- ---- ranks

module _ (a b c d x : ℕ) where
  rank_rows : rank_among (c ∷ d ∷ a ∷ b ∷ []) x ≡ rank_among (a ∷ b ∷ c ∷ d ∷ []) x
  rank_rows = omega (arith, rank_four a b c d x, rank_four c d a b x)

  rank_columns : rank_among (b ∷ a ∷ d ∷ c ∷ []) x ≡ rank_among (a ∷ b ∷ c ∷ d ∷ []) x
  rank_columns = omega (arith, rank_four a b c d x, rank_four b a d c x)

rows_ranked : (q : Matrix) → ranked (swap_rows q) ≡ swap_rows (ranked q)
rows_ranked q = simp (rank_rows q.at00 q.at01 q.at10 q.at11)

columns_ranked : (q : Matrix) → ranked (swap_columns q) ≡ swap_columns (ranked q)
columns_ranked q = simp (rank_columns q.at00 q.at01 q.at10 q.at11)

both_ranked : (f : Matrix → Matrix) → ((q : Matrix) → ranked (f q) ≡ f (ranked q)) → (b : Bimatrix) → ranks (both f b) ≡ both f (ranks b)
both_ranked f h b = ap₂ bimatrix_of (h b.first) (h b.second)

-- the ranks of the four tables are the four tables of ranks
pub ranks_swaps : (b : Bimatrix) → map ranks (swaps b) ≡ swaps (ranks b)
ranks_swaps b =
    cc (
      both_ranked swap_rows rows_ranked b,
      both_ranked swap_columns columns_ranked b,
      both_ranked (λ q. swap_rows (swap_columns q)) (λ q. rows_ranked (swap_columns q) ∙ ap swap_rows (columns_ranked q)) b,
    )
