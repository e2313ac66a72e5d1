-- Strategy spaces, and the empty one that a refused call leaves. Assumes nothing.
use Rattle.std.specs.Prelude.{List, [], ◌++◌, ℕ, length, take, replicate}
use Rattle.std.proofs.Math.Option.{none, some}
use Rattle.refusal.specs.Refusal.{Refusal}
use Rattle.payoff_tables.specs.Limits.{max_players}
use Rattle.table.specs.declared.StrategySpace.{StrategySpace}

-- the counts in as many places as there may be players, a place from P on holding 0
abbrev pub places : List ℕ → List ℕ
places counts = take max_players (counts ++ replicate max_players 0)

-- P and the counts
unfoldable pub space_of : List ℕ → StrategySpace
space_of counts = record { players = length counts; counts = places counts }

-- the space of the counts, or beside a refusal P 0 and zeros
abbrev pub space_unless : Refusal → List ℕ → StrategySpace
space_unless none counts = space_of counts
space_unless (some e) counts = space_of []
