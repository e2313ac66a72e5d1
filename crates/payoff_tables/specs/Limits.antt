-- Document 01, "The table": the limits of a table. No other definition writes these numbers. Assumes nothing.
use Rattle.std.specs.Prelude.{ℕ, ◌*◌}

-- P players, 1 to 8
abbrev pub max_players : ℕ
max_players = 8

-- each with 1 to 64 strategies
abbrev pub max_strategies : ℕ
max_strategies = 64

-- cells in all, at most 65,536
abbrev pub max_cells : ℕ
max_cells = 65536

-- marks: as many to a player as it may have strategies (document 01, "Strikes": 512 marks, 64 to a player)
abbrev pub max_marks : ℕ
max_marks = max_players * max_strategies
