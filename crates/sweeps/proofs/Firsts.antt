-- The calls of a sweep, player by player. Assumes nothing.
use Rattle.std.proofs.Common.{◌≡◌, ap, ◌∙◌, List, ◌++◌, map, ℕ, ◌+◌, get_or}
use mathlib.Core.List.{flat_map}
use native.Mathlib.Numerals.{add-one}
use Rattle.game.specs.Finite.{below}
use Rattle.game.specs.Game.{Strategy, strategy}
use Rattle.game.proofs.Finite.{below_last, flat_map_last}

-- the calls that name the strategies of a player, and of the first p
abbrev pub calls : List ℕ → ℕ → List Strategy
calls counts q = map (strategy q) (below (get_or counts q 0))

abbrev pub firsts : List ℕ → ℕ → List Strategy
firsts counts p = flat_map (calls counts) (below p)

pub firsts_more : (counts : List ℕ) (p : ℕ) → firsts counts (p + 1) ≡ firsts counts p ++ calls counts p
firsts_more counts p = ap (firsts counts) (add-one p) ∙ ap (flat_map (calls counts)) (below_last p) ∙ flat_map_last (calls counts) (below p) p
