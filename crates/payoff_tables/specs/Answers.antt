-- What each call on a table answers: the definitions that the contracts name. Assumes nothing.
use Rattle.std.specs.Prelude.{List, [], ℕ, ◌*◌, length, Float}
use Rattle.game.specs.Finite.{product}
use Rattle.refusal.specs.Refusal.{◌then◌}
use Rattle.refusal.specs.Told.{Told, unless, unless_refused}
use Rattle.payoff_tables.specs.Table.{offset, payoff_at, profile_part}
use Rattle.payoff_tables.specs.Checks.{counts_refusal, table_refusal, player_refusal, profile_refusal}

-- the number of profiles, or a refusal of 1 to 5
abbrev pub counts_answer : List ℕ → Told ℕ
counts_answer counts = unless (counts_refusal counts) (product counts)

-- the number of profiles, or a refusal of 1 to 7
abbrev pub table_answer : List ℕ → List Float → Told ℕ
table_answer counts payoffs = unless (table_refusal counts payoffs) (product counts)

-- a profile's offset
abbrev pub offset_answer : List ℕ → List Float → List ℕ → Told ℕ
offset_answer counts payoffs x = unless (table_refusal counts payoffs then profile_refusal counts x) (offset counts x)

-- a player's payoff at a profile
abbrev pub payoff_answer : List ℕ → List Float → List ℕ → ℕ → Told Float
payoff_answer counts payoffs x p =
    unless (table_refusal counts payoffs then player_refusal counts p then profile_refusal counts x) (payoff_at counts payoffs p x)

-- the payoffs of one profile, and an empty part where the offset call refuses
abbrev pub profile_payoffs : List ℕ → List Float → List ℕ → List Float
profile_payoffs counts payoffs x = unless_refused (table_refusal counts payoffs then profile_refusal counts x) (profile_part counts payoffs x) []

-- where that part starts in the caller's payoffs: at offset × P, and an empty one at their start
abbrev pub part_first : List ℕ → List Float → List ℕ → ℕ
part_first counts payoffs x = unless_refused (table_refusal counts payoffs then profile_refusal counts x) (offset counts x * length counts) 0
