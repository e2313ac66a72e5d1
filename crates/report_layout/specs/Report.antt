-- Document 01, "The report program": from a deposit file's bytes to the report's, and how many these may be. Assumes nothing.
use Rattle.std.specs.Prelude.{List, ℕ, ◌+◌, ◌*◌, Float}
use Rattle.refusal.specs.Told.{Told, values, refused}
use Rattle.payoff_tables.specs.Limits.{max_marks}
use Rattle.report_input.specs.Input.{max_report_cells, input_table}
use Rattle.report_layout.specs.Table.{number_line, table_report}

-- a refusal prints only `refused` and the number
abbrev pub told_report : Told (List ℕ × List Float) → List ℕ
told_report (values t) = table_report t.0 t.1
told_report (refused n) = number_line "refused" n

-- the report on a deposit file
unfoldable pub report : List ℕ → List ℕ
report bytes = told_report (input_table bytes)

-- ---- its size

-- The other lines than those of the lists, at their longest, with their ends: "players 8" has 10
-- bytes, "counts" with eight counts of two digits 31, "equilibria" with a number of four digits 16,
-- "struck" with one of three 11, and "catalogue none" 15.
abbrev pub other_lines : ℕ
other_lines = 10 + 31 + 16 + 11 + 15

-- the most bytes of a report: 20 for each cell, of which at most two are digits of a choice and 16 those of a payoff, 8 for each strike, and the other
-- lines
abbrev pub max_report_bytes : ℕ
max_report_bytes = 20 * max_report_cells + 8 * max_marks + other_lines
