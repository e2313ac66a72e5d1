-- What the definition of foreign survivors means, in quantifiers. Assumes nothing.
use Rattle.std.specs.Prelude.{◌≡◌, List, ℕ, ◌<◌, T, length, get_or}
use Rattle.payoff_tables.specs.Limits.{max_players}
use Rattle.survivors.specs.declared.Survivors.{Survivors}
use Rattle.survivors.specs.Survivors.{marks_of}

-- survivors that are not foreign to a table with these counts
pub record Own (counts : List ℕ) (v : Survivors) : Type 0 where
  pub players_agree : v.players ≡ length counts
  pub counts_agree : (p : ℕ) → p < max_players → get_or v.counts p 0 ≡ get_or counts p 0
  pub some : (p : ℕ) → p < length counts → (s : ℕ) × T (marks_of v p s)
  pub within : (p s : ℕ) → p < max_players → T (marks_of v p s) → s < get_or counts p 0
