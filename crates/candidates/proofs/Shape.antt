-- Where the numbers of a table with m rows and n columns stand: by the strides of player 1
-- (`rows-span`, `by_rows`) and of player 2 (`columns-span`, `by-columns`). Assumes nothing.
use mathlib.Core.Path.{◌≡◌, sym, ap, ◌∙◌, subst, fun_ext}
use mathlib.Core.List.{List}
use Prim.Native.Nat.{ℕ, ◌+◌, ◌*◌, ◌<◌}
use native.Mathlib.Nat.{mul-one, add_comm}
use lib.Arith.{digits_lt}
use lib.Ieee.{Float, nan}
use lib.ListN.{length, get_or}
use Rattle.sums.specs.Inner.{strided, Spans}
use Rattle.candidates.specs.Checks.{entry}

pub rows_span : (m n : ℕ) (table : List Float) → length table ≡ m * n → Spans table n 1 m n
rows_span m n table e s o h k = subst (λ (i : ℕ). s * n + o * 1 < i) (sym e) (subst (λ (i : ℕ). s * n + i < m * n) (sym (mul-one o)) (digits_lt h k))

pub columns_span : (m n : ℕ) (table : List Float) → length table ≡ m * n → Spans table 1 n n m
columns_span m n table e s o h k =
    subst (λ (i : ℕ). s * 1 + o * n < i) (sym e) (subst (λ (i : ℕ). i < m * n) (add_comm (o * n) (s * 1)) (subst (λ (i : ℕ). o * n + i < m * n) (sym (mul-one s)) (digits_lt k h)))

-- the same places as document 01 has them, row by row
pub by_rows : (n : ℕ) (table : List Float) → strided table n 1 ≡ (λ i j. entry n table i j)
by_rows n table = fun_ext (λ i. fun_ext (λ j. ap (λ (o : ℕ). get_or table (i * n + o) nan) (mul-one j)))

pub by_columns : (n : ℕ) (table : List Float) → strided table 1 n ≡ (λ j i. entry n table i j)
by_columns n table =
    fun_ext (λ j. fun_ext (λ i. ap (λ (s : ℕ). get_or table (s + i * n) nan) (mul-one j) ∙ ap (λ (k : ℕ). get_or table k nan) (add_comm j (i * n))))
