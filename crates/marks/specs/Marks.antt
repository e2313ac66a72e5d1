-- Document 01, "Strikes": 512 marks, 64 to a player. Player after player, and a player's strategies ascending. Assumes nothing.
use Rattle.std.specs.Prelude.{Bool, false, ◌&&◌, List, ℕ, ◌+◌, ◌*◌, ltb, get_or}
use Rattle.game.specs.Game.{Marks}
use Rattle.payoff_tables.specs.Limits.{max_strategies}

-- where the mark of player p's strategy s stands
abbrev pub mark_place : ℕ → ℕ → ℕ
mark_place p s = p * max_strategies + s

-- the marks that a list of places holds: a strategy past the player's places, and a player past the list, has no mark
unfoldable pub marked : List Bool → Marks
marked marks p s = ltb s max_strategies && get_or marks (mark_place p s) false
