-- What the calls on equilibria answer and write: the definitions that their contracts name. Assumes
-- nothing.
use Rattle.std.specs.Prelude.{◌≡◌, Bool, List, map, ℕ, length, Float}
use Rattle.game.specs.Game.{whole}
use Rattle.game.specs.Solution.{equilibrium, equilibria}
use Rattle.refusal.specs.Refusal.{Refusal, ◌then◌}
use Rattle.refusal.specs.Told.{Told, unless}
use Rattle.refusal.specs.declared.Listed.{Listed}
use Rattle.written_lists.specs.Outputs.{written_of, joined, over}
use Rattle.written_lists.specs.Listing.{listed_of}
use Rattle.payoff_tables.specs.Table.{profile_part, table_game}
use Rattle.payoff_tables.specs.Checks.{table_refusal, profile_refusal}

-- Of the profiles es, l tells how many there are and how many of them are written, and of each output the first so many are: P choices, and P
-- payoffs.
abbrev pub Wrote : List ℕ → List Float → List (List ℕ) → List ℕ → List ℕ → List Float → List Float → Listed → Type 0
Wrote counts payoffs es before choices before' utilities l =
    (l ≡ listed_of es (length counts) (length before) (length before'))
    × ((choices ≡ over (joined l.written es) before) × (utilities ≡ over (joined l.written (map (profile_part counts payoffs) es)) before'))

module _ (counts : List ℕ) (payoffs : List Float) where
  -- the equilibria of the whole table, in profile order
  abbrev pub table_equilibria : List (List ℕ)
  table_equilibria = equilibria (table_game counts payoffs) (whole (table_game counts payoffs))

  -- whether x is one of them, or 1 to 7, 11, and 12 in player order
  unfoldable pub is_equilibrium_answer : List ℕ → Told Bool
  is_equilibrium_answer x =
      unless (table_refusal counts payoffs then profile_refusal counts x) (equilibrium (table_game counts payoffs) (whole (table_game counts payoffs)) x)

  -- A listing of the profiles es: `earlier` is what refuses, and a and b are the lengths of the outputs.
  module _ (earlier : Refusal) (es : List (List ℕ)) (a b : ℕ) where
    -- how many there are and how many of them are written, or `earlier`: P choices of each go into one output, and P payoffs into the other
    unfoldable pub listing_answer : Told Listed
    listing_answer = unless earlier (listed_of es (length counts) a b)

    -- what is written: the choices of the first so many, one after the other,
    unfoldable pub listed_choices : List ℕ
    listed_choices = written_of (λ l. joined l.written es) listing_answer

    -- and the payoffs of each
    unfoldable pub listed_utilities : List Float
    listed_utilities = written_of (λ l. joined l.written (map (profile_part counts payoffs) es)) listing_answer

  -- the listing of the whole table's equilibria, which refuses 1 to 7
  abbrev pub equilibria_answer : ℕ → ℕ → Told Listed
  equilibria_answer = listing_answer (table_refusal counts payoffs) table_equilibria

  abbrev pub equilibria_choices : ℕ → ℕ → List ℕ
  equilibria_choices = listed_choices (table_refusal counts payoffs) table_equilibria

  abbrev pub equilibria_utilities : ℕ → ℕ → List Float
  equilibria_utilities = listed_utilities (table_refusal counts payoffs) table_equilibria
