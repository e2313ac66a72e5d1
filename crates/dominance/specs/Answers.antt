-- What `strictly_dominated_strategies` answers and writes: the definitions that its contract names. Assumes nothing.
use mathlib.Core.List.{List, [], ◌∷◌, map, flat_map}
use Rattle.std.proofs.Math.Option.{Option, none, some}
use Rattle.std.specs.Prelude.{ℕ, length, take, Float}
use Rattle.game.specs.Finite.{below}
use Rattle.game.specs.Game.{Game, count, Marks, whole}
use Rattle.game.specs.Solution.{dominator}
use Rattle.refusal.specs.Refusal.{◌then◌}
use Rattle.refusal.specs.Told.{Told, unless}
use Rattle.written_lists.specs.Outputs.{room_refusal, written}
use Rattle.payoff_tables.specs.Table.{table_game}
use Rattle.payoff_tables.specs.Checks.{table_refusal, player_refusal}

-- a dominated strategy and its lowest dominator: the Rust's record of the same name
pub record DominatedStrategy : Type 0 where
  pub strategy : ℕ
  pub dominated_by : ℕ

-- strategy s with its lowest dominator, where there is one
abbrev pub beside : ℕ → Option ℕ → List DominatedStrategy
beside s none = []
beside s (some t) = record { strategy = s; dominated_by = t } ∷ []

-- the dominance list, document 01's term: each dominated strategy of player p, ascending, with its lowest dominator
unfoldable pub dominated_of : Game → Marks → ℕ → List DominatedStrategy
dominated_of g m p = flat_map (λ s. beside s (dominator g m p s)) (below (count g p))

-- the strategies of such a list, and their dominators
abbrev pub strategies_of : List DominatedStrategy → List ℕ
strategies_of ds = map (λ d. d.strategy) ds

abbrev pub dominators_of : List DominatedStrategy → List ℕ
dominators_of ds = map (λ d. d.dominated_by) ds

module _ (counts : List ℕ) (payoffs : List Float) (p : ℕ) where
  -- those of a table
  unfoldable pub dominated_strategies : List DominatedStrategy
  dominated_strategies = dominated_of (table_game counts payoffs) (whole (table_game counts payoffs)) p

  -- how many there are, for outputs of lengths a and b, or 13
  abbrev pub delivered_answer : ℕ → ℕ → Told ℕ
  delivered_answer a b = unless (room_refusal (length dominated_strategies) a b) (length dominated_strategies)

  -- the same, or 1 to 7, then 8, last 13
  unfoldable pub dominated_answer : ℕ → ℕ → Told ℕ
  dominated_answer a b =
      unless (table_refusal counts payoffs then player_refusal counts p then room_refusal (length dominated_strategies) a b) (length dominated_strategies)

  -- those that a call with this answer writes
  abbrev pub written_of : Told ℕ → List DominatedStrategy
  written_of r = take (written r) dominated_strategies

  -- those that are written, for outputs of lengths a and b
  abbrev pub dominated_written : ℕ → ℕ → List DominatedStrategy
  dominated_written a b = written_of (dominated_answer a b)
