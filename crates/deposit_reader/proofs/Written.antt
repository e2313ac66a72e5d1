-- A loop that writes a list into the first places of an output: one element more (`next_written`),
-- and the whole of it (`all_written`). Assumes nothing.
use mathlib.Core.Path.{◌≡◌, ap, ◌∙◌}
use mathlib.Core.List.{List, ◌++◌}
use Prim.Native.Nat.{ℕ, ◌+◌, ◌<◌}
use native.Mathlib.Omega.{arith}
use borrow.Author.Count.{below_more}
use lib.ListN.{length, get_or, set, drop}
use lib.Seq.{ext_get_or, get_or-set_same, get_or-set_other}
use Rattle.written_lists.specs.Outputs.{over}

module _ {A : Type 0} (d : A) (from : List A) where
  pub next_written : (xs : List A) (i : ℕ) (x : A) → i < length xs → ((k : ℕ) → k < i → get_or xs k d ≡ get_or from k d) → x ≡ get_or from i d
      → (k : ℕ) → k < i + 1 → get_or (set xs i x) k d ≡ get_or from k d
  next_written xs i x h done is =
      below_more _ _
      (λ k l. get_or-set_other xs i k x d (λ (e : k ≡ i). omega (arith, l, e)) ∙ done k l)
      (get_or-set_same xs i x d h ∙ is)

  pub all_written : (xs old : List A) (n : ℕ) → n ≡ length from → length xs ≡ n → ((k : ℕ) → k < n → get_or xs k d ≡ get_or from k d)
      → xs ++ drop n old ≡ over from old
  all_written xs old n e size done =
      ap (λ (ys : List A). ys ++ drop n old) (ext_get_or d xs from (size ∙ e) (λ i l. done i (omega (arith, l, size))))
      ∙ ap (λ (m : ℕ). from ++ drop m old) e
