-- The sizes of tables by which the listings take their arrays: the code's SMALL_CELLS and
-- MIDDLE_CELLS, and the array of each table. Assumes nothing.
use Rattle.std.specs.Prelude.{ℕ, cond, leb}
use Rattle.payoff_tables.specs.Limits.{max_cells}

abbrev pub small_cells : ℕ
small_cells = 64

abbrev pub middle_cells : ℕ
middle_cells = 2048

-- how many bytes the array has in which a table of n cells is marked: the least of three sizes that
-- holds it
abbrev pub array_bytes : ℕ → ℕ
array_bytes n = cond (leb n small_cells) small_cells (cond (leb n middle_cells) middle_cells max_cells)
