-- Document 01, "Best responses, dominance, equilibria": a listing into two outputs writes the first of its entries that both outputs hold
-- whole, and tells the total and the number written. Assumes nothing.
use Rattle.std.specs.Prelude.{List, ℕ, min, ◌/◌, length}
use Rattle.refusal.specs.declared.Listed.{Listed}

-- how many entries of n elements each two outputs, of lengths a and b, both hold whole
abbrev pub entries_held : (n a b : ℕ) → ℕ
entries_held n a b = min (a / n) (b / n)

-- what a listing of these entries tells: the total and the number written
unfoldable pub listed_of : {A : Type 0} → List A → (n a b : ℕ) → Listed
listed_of entries n a b = record { total = length entries; written = min (length entries) (entries_held n a b) }
