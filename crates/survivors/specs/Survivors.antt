-- Document 01, "Strikes": the survivors of a table, which are fresh, and which foreign. Survivors, mark, fresh and foreign are that
-- document's terms. Assumes nothing.
use Rattle.std.specs.Prelude.{Bool, false, not, ◌&&◌, ℕ, ltb, leb, eqb, length, get_or, set}
use mathlib.Core.List.{List, [], map, flat_map}
use Rattle.game.specs.Finite.{all, below, filter, empty}
use Rattle.game.specs.Game.{Marks, Strategy}
use Rattle.refusal.specs.Refusal.{Refusal, when}
use Rattle.refusal.specs.declared.NormalFormError.TheVariants.{ForeignSurvivors}
use Rattle.payoff_tables.specs.Limits.{max_players, max_strategies}
use Rattle.table.specs.Space.{places}
use Rattle.marks.specs.Marks.{mark_place, marked}
use Rattle.survivors.specs.declared.Survivors.{Survivors}

-- ---- the marks

-- which strategies the record marks: the theorems read its marks through this definition
abbrev pub marks_of : Survivors → Marks
marks_of v = marked v.marks

-- the survivors without that one mark
unfoldable pub without_mark : Survivors → Strategy → Survivors
without_mark v c =
    record { players = v.players; counts = v.counts; marks = set v.marks (mark_place c.player c.number) false }

-- how many marks there are, wherever they stand
unfoldable pub mark_count : Survivors → ℕ
mark_count v = length (filter (λ b. b) v.marks)

-- ---- fresh survivors

-- a mark for every strategy below its count, as many places to a player as it may have strategies
unfoldable pub all_marks : List ℕ → List Bool
all_marks counts = flat_map (λ p. map (λ s. ltb s (get_or counts p 0)) (below max_strategies)) (below max_players)

-- P, the counts, 0 from P on, and every strategy marked
unfoldable pub fresh_of : List ℕ → Survivors
fresh_of counts = record { players = length counts; counts = places counts; marks = all_marks counts }

-- the survivors beside a refusal: P 0, counts 0 and no mark
abbrev pub no_survivors : Survivors
no_survivors = fresh_of []

-- ---- foreign survivors

-- player p has a mark at or past s
unfoldable pub marked_from : Marks → ℕ → ℕ → Bool
marked_from m p s = not (empty (filter (λ t. leb s t && m p t) (below max_strategies)))

module _ (counts : List ℕ) (v : Survivors) where
  -- P is the table's
  abbrev pub same_players : Bool
  same_players = eqb v.players (length counts)

  -- each of the eight counts is the table's, which from P on is 0
  abbrev pub same_counts : Bool
  same_counts = all (λ p. eqb (get_or v.counts p 0) (get_or counts p 0)) (below max_players)

  -- each player below P has a mark
  abbrev pub each_marked : Bool
  each_marked = all (λ p. marked_from (marks_of v) p 0) (below (length counts))

  -- no mark stands at or past a count
  abbrev pub none_past : Bool
  none_past = all (λ p. not (marked_from (marks_of v) p (get_or counts p 0))) (below max_players)

  -- foreign: P or any of the eight counts differs from the table's, a player below P has no mark, or a mark stands at or past a count
  unfoldable pub foreign : Bool
  foreign = not (same_players && same_counts && each_marked && none_past)

  -- foreign survivors (16)
  abbrev pub foreign_refusal : Refusal
  foreign_refusal = when foreign ForeignSurvivors
