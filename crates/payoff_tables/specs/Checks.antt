-- Document 01, "Refusal table": which refusal of the table's own calls applies, in its order. Assumes nothing.
use Rattle.std.specs.Prelude.{not, List, ℕ, ltb, eqb, length, get_or, Float}
use Rattle.game.specs.Finite.{all, below}
use Rattle.game.specs.Game.{choice}
use Rattle.refusal.specs.Refusal.{Refusal, when, ◌then◌, each}
use Rattle.refusal.specs.declared.NormalFormError.TheVariants.{NoPlayers, TooManyPlayers, NoStrategies, TooManyStrategies, TooManyCells, PayoffCount, NonFiniteUtility, InvalidPlayer, ProfileCount, InvalidStrategy}
use Rattle.payoff_order.specs.Order.{finite}
use Rattle.payoff_tables.specs.Limits.{max_players, max_strategies, max_cells}
use Rattle.payoff_tables.specs.Table.{cells}

-- a count is 0 (3), or over the limit (4)
unfoldable pub count_refusal : ℕ → Refusal
count_refusal c = when (eqb c 0) NoStrategies then when (ltb max_strategies c) TooManyStrategies

-- P is 0 (1), P over the limit (2), then 3 and 4 player by player, then cells over the limit (5)
unfoldable pub counts_refusal : List ℕ → Refusal
counts_refusal counts =
    when (eqb (length counts) 0) NoPlayers
    then when (ltb max_players (length counts)) TooManyPlayers
    then each (λ p. count_refusal (get_or counts p 0)) (below (length counts))
    then when (ltb max_cells (cells counts)) TooManyCells

-- number of payoffs given differs from cells (6), a payoff is NaN or infinite (7)
unfoldable pub payoffs_refusal : List ℕ → List Float → Refusal
payoffs_refusal counts payoffs =
    when (not (eqb (length payoffs) (cells counts))) PayoffCount
    then when (not (all finite payoffs)) NonFiniteUtility

-- refusals 1 to 7, which every call on a table applies first
unfoldable pub table_refusal : List ℕ → List Float → Refusal
table_refusal counts payoffs = counts_refusal counts then payoffs_refusal counts payoffs

-- player not below P (8)
unfoldable pub player_refusal : List ℕ → ℕ → Refusal
player_refusal counts p = when (not (ltb p (length counts))) InvalidPlayer

-- number of choices given differs from P (11), then a choice not below its count (12) in player order
unfoldable pub profile_refusal : List ℕ → List ℕ → Refusal
profile_refusal counts x =
    when (not (eqb (length x) (length counts))) ProfileCount
    then each (λ p. when (not (ltb (choice x p) (get_or counts p 0))) InvalidStrategy) (below (length counts))
