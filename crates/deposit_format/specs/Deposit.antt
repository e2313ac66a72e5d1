-- Document 01, "The deposit file", on the words of `file_words`: from a table to bytes, and from bytes to a table or a refusal. Deposit is its term.
-- Assumes nothing.
use Rattle.std.specs.Prelude.{not, ℕ, ◌+◌, ◌*◌, ◌/◌, ◌%◌, ◌^◌, ltb, eqb, length, Float}
use mathlib.Core.List.{List, [], ◌∷◌, ◌++◌, map, flat_map}
use Rattle.std.specs.Float.{binary64}
use Rattle.std.specs.Float.Ieee.{of_bits, to_bits}
use Rattle.game.specs.Finite.{below}
use Rattle.refusal.specs.Refusal.{Refusal, when, ◌then◌, each}
use Rattle.refusal.specs.Told.{Told, unless}
use Rattle.refusal.specs.declared.NormalFormError.TheVariants.{NoPlayers, TooManyPlayers, TooManyCells, NonFiniteUtility, WrongPayload}
use Rattle.written_lists.specs.Outputs.{short_refusal}
use Rattle.payoff_order.specs.Order.{finite}
use Rattle.payoff_tables.specs.Limits.{max_players, max_cells}
use Rattle.payoff_tables.specs.Table.{cells}
use Rattle.payoff_tables.specs.Checks.{count_refusal, table_refusal}
use Rattle.file_words.specs.Words.{payloads, word, payload_at, bytes_of, closed, words_of}
use Rattle.file_words.specs.Faults.{length_fault, due_fault, closing_fault}

-- ---- the kinds of words

-- kind 0 opens
abbrev pub opening_kind : ℕ
opening_kind = 0

-- kind 1, one per player
abbrev pub count_kind : ℕ
count_kind = 1

-- kind 2, three per cell
abbrev pub cell_kind : ℕ
cell_kind = 2

-- ---- from a table to bytes

-- a cell's three words: the f64's top 4 bits, next 30, last 30
unfoldable pub payoff_words : Float → List ℕ
payoff_words x =
    let b = to_bits binary64 x in
    word cell_kind (b / 2 ^ 60) ∷ word cell_kind (b / payloads % payloads) ∷ word cell_kind (b % payloads) ∷ []

-- the opening word: 256 + P (edition 1); for each player the count; the cells in cell order; and
-- the closing word
unfoldable pub deposit : List ℕ → List Float → List ℕ
deposit counts payoffs = bytes_of (closed (word opening_kind (256 + length counts) ∷ map (word count_kind) counts ++ flat_map payoff_words payoffs))

-- its bytes, or 1 to 7, then 13, for an output with room for so many bytes
unfoldable pub file_of : List ℕ → List Float → ℕ → Told (List ℕ)
file_of counts payoffs bytesRoom =
    let file = deposit counts payoffs in unless (table_refusal counts payoffs then short_refusal (length file) bytesRoom) file

-- ---- from bytes to a table

module _ (ws : List ℕ) where
  -- the opening payload's remainder by 256 is P
  unfoldable pub players_in : ℕ
  players_in = payload_at ws 0 % 256

  -- the counts, each the payload of its word
  unfoldable pub counts_in : List ℕ
  counts_in = map (λ p. payload_at ws (1 + p)) (below players_in)

  -- how many words stand before those of the i-th cell
  abbrev pub cell_place : ℕ → ℕ
  cell_place i = 1 + players_in + 3 * i

  -- the f64 of the three payloads from a place on
  unfoldable pub payoff_in : ℕ → Float
  payoff_in place = of_bits binary64 (payload_at ws place * 2 ^ 60 + payload_at ws (place + 1) * payloads + payload_at ws (place + 2))

  -- the payoffs, in cell order
  unfoldable pub payoffs_in : List Float
  payoffs_in = map (λ i. payoff_in (cell_place i)) (below (cells counts_in))

  -- ---- its faults

  -- the opening word: its payload divided by 256 isn't 1 (19), P is 0 (1), P over the limit (2)
  unfoldable pub opening_fault : Refusal
  opening_fault =
      due_fault ws 0 opening_kind
      then when (not (eqb (payload_at ws 0 / 256) 1)) WrongPayload
      then when (eqb players_in 0) NoPlayers
      then when (ltb max_players players_in) TooManyPlayers

  -- player p's count word: 3 or 4
  unfoldable pub count_fault : ℕ → Refusal
  count_fault p = due_fault ws (1 + p) count_kind then count_refusal (payload_at ws (1 + p))

  -- a cell's three words, from a place on: the first payload over 15 (19), and after the third word a NaN or an infinity (7)
  unfoldable pub cell_fault : ℕ → Refusal
  cell_fault place =
      due_fault ws place cell_kind
      then when (ltb 15 (payload_at ws place)) WrongPayload
      then due_fault ws (place + 1) cell_kind
      then due_fault ws (place + 2) cell_kind
      then when (not (finite (payoff_in place))) NonFiniteUtility

  -- the opening word, the counts, then cells over a limit (5)
  unfoldable pub head_fault : ℕ → Refusal
  head_fault limit = opening_fault then each count_fault (below players_in) then when (ltb limit (cells counts_in)) TooManyCells

  -- the cells, the closing word
  unfoldable pub rest_fault : Refusal
  rest_fault = let n = cells counts_in in each (λ i. cell_fault (cell_place i)) (below n) then closing_fault ws (cell_place n)

  -- left to right: 13, when either output is short, follows 5
  unfoldable pub words_fault : ℕ → ℕ → Refusal
  words_fault countsRoom payoffsRoom =
      head_fault max_cells then short_refusal players_in countsRoom then short_refusal (cells counts_in) payoffsRoom then rest_fault

-- the length first, then the words
unfoldable pub read_refusal : List ℕ → ℕ → ℕ → Refusal
read_refusal bytes countsRoom payoffsRoom = length_fault bytes then words_fault (words_of bytes) countsRoom payoffsRoom

-- the table of a file, or its first fault, for outputs with room for so many counts and payoffs
unfoldable pub table_of : List ℕ → ℕ → ℕ → Told (List ℕ × List Float)
table_of bytes countsRoom payoffsRoom =
    let ws = words_of bytes in unless (read_refusal bytes countsRoom payoffsRoom) (counts_in ws, payoffs_in ws)
