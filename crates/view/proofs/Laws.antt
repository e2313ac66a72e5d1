-- The law of the table that a view holds. Assumes nothing.
use mathlib.Core.Path.{◌≡◌, ap₂, ◌∙◌}
use mathlib.Core.List.{List}
use mathlib.Core.Option.{none}
use Prim.Native.Nat.{ℕ}
use lib.Ieee.{Float}
use Rattle.payoff_tables.specs.Checks.{table_refusal}
use Rattle.table.specs.Space.{space_of}
use Rattle.view_fields.specs.Counts.{first_counts}
use Rattle.view_fields.proofs.Laws.{view_of}
use Rattle.view.specs.Matrix.{counts_of}
use Rattle.view.specs.declared.PayoffMatrix.{PayoffMatrix}

-- A view with the fields that `new` gives it has the counts of the accepted table that it was made of.
pub counts_of_lem : (t : PayoffMatrix) (counts : List ℕ) (payoffs : List Float) → table_refusal counts payoffs ≡ none
    → t.players ≡ (space_of counts).players → t.counts ≡ (space_of counts).counts → counts_of t ≡ counts
counts_of_lem t counts payoffs h e f = ap₂ first_counts e f ∙ view_of counts payoffs h
