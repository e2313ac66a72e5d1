-- A table of the right sizes (`is-sized`) has few numbers (`few-cells`). Assumes nothing.
use mathlib.Core.Path.{◌≡◌, sym, subst}
use mathlib.Core.Bool.{true}
use Prim.Native.Nat.{ℕ, ◌*◌, ◌≤◌}
use native.Mathlib.Nat.{le_trans, mul-le-mul_right, mul-le-mul_left}
use lib.Dec.{T}
use Rattle.candidate_input.specs.Input.{max_actions, sized}
use Rattle.candidate_input.specs.Meaning.{Sized}
use Rattle.candidate_input.proofs.Meaning.{sized_law}

pub is_sized : (m n : ℕ) → sized m n ≡ true → Sized m n
is_sized m n e = (sized_law m n).0 (subst T (sym e) tt)

-- there are few numbers
pub few_cells : {m n : ℕ} → Sized m n → m * n ≤ max_actions * max_actions
few_cells {m} {n} r = le_trans (mul-le-mul_right n r.few_rows) (mul-le-mul_left max_actions r.few_columns)
