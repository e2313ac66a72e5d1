-- Document 01, "Strikes", on the view of a table: the table that it holds. Assumes nothing.
use Rattle.std.specs.Prelude.{List, [], ℕ, Result, Ok, Err}
use Rattle.refusal.specs.declared.NormalFormError.{NormalFormError}
use Rattle.table.specs.Space.{space_of}
use Rattle.table.specs.declared.StrategySpace.{StrategySpace}
use Rattle.view_fields.specs.Counts.{first_counts}
use Rattle.view.specs.declared.PayoffMatrix.{PayoffMatrix}

-- P and the counts that a view holds
abbrev pub space_in : PayoffMatrix → StrategySpace
space_in t = record { players = t.players; counts = t.counts }

-- those of the view that an answer holds, or beside a refusal those of no table
abbrev pub space_beside : Result PayoffMatrix NormalFormError → StrategySpace
space_beside (Ok t) = space_in t
space_beside (Err e) = space_of []

-- the counts of the table that a view holds
abbrev pub counts_of : PayoffMatrix → List ℕ
counts_of t = first_counts t.players t.counts
