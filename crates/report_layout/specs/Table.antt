-- Document 01, "The report program": the report's text on a table, byte for byte. Report is that document's term. Assumes nothing.
use mathlib.Core.List.{List, [], ◌∷◌, ◌++◌, map, flat_map}
use Rattle.std.proofs.Math.Option.{Option, none, some}
use Prim.Native.Char.{code}
use Rattle.std.specs.Prelude.{ℕ, length, Float}
use Prim.Native.String.{String, [] as no-characters, ◌∷◌ as ◌and◌}
use Rattle.payoff_tables.specs.Table.{profile_part, table_game}
use Rattle.equilibria.specs.Answers.{table_equilibria}
use Rattle.catalogue.specs.Catalogue.{catalogue}
use Rattle.catalogue.specs.Answers.{game_number}
use Rattle.digits_and_lines.specs.Text.{decimal, line}
use Rattle.report_layout.specs.Lines.{entry_line, numbers_line}
use Rattle.strike_sweeps.specs.Sweeps.{strike_numbers, sweeps}

-- a text as the codes of its characters
abbrev pub codes : String → List ℕ
codes no-characters = []
codes (c and s) = code c ∷ codes s

-- a line of a word and a number
unfoldable pub number_line : String → ℕ → List ℕ
number_line name n = line (codes name ∷ decimal n ∷ [])

-- each list follows its length: the line that names it, and a line for each element
abbrev pub listed : {A : Type 0} → String → (A → List ℕ) → List A → List ℕ
listed name f xs = number_line name (length xs) ++ flat_map f xs

-- the catalogue's number, or none
unfoldable pub catalogue_line : Option ℕ → List ℕ
catalogue_line none = line (codes "catalogue" ∷ codes "none" ∷ [])
catalogue_line (some n) = number_line "catalogue" n

module _ (counts : List ℕ) (payoffs : List Float) where
  -- an equilibrium's choices, then its payoffs
  abbrev pub equilibrium_line : List ℕ → List ℕ
  equilibrium_line x = entry_line x (profile_part counts payoffs x)

  -- the equilibria are the whole table's
  unfoldable pub equilibria_text : List ℕ
  equilibria_text = listed "equilibria" equilibrium_line (table_equilibria counts payoffs)

  -- the strikes in strike order, each with player, strategy, dominator
  unfoldable pub struck_text : List ℕ
  struck_text = listed "struck" (λ k. numbers_line (strike_numbers k)) (sweeps counts payoffs).strikes

  -- P in the first line, the counts, the two lists, and in the last line the catalogue's number or none
  unfoldable pub table_report : List ℕ
  table_report =
      number_line "players" (length counts)
      ++ line (codes "counts" ∷ map decimal counts)
      ++ equilibria_text
      ++ struck_text
      ++ catalogue_line (game_number catalogue (table_game counts payoffs))
