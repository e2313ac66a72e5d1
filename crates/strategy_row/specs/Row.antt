-- A row: the cells of one player's strategies, 0 to count − 1, against given choices of the others. Strategy t's payoff is in the cell
-- start + t × step, and its mark at place + t. What is here is best responses as a walk along a row meets them; the law `row-best` says
-- that they are the game's. Assumes nothing.
use Rattle.std.specs.Prelude.{Bool, false, not, ◌&&◌, List, ℕ, ◌+◌, ◌*◌, ltb, get_or, Float}
use Rattle.std.proofs.Math.Option.{Option, none, some}
use Rattle.game.specs.Finite.{all, below, filter, first}
use Rattle.payoff_tables.specs.Table.{cell_rank}

-- a number, or 0 where there is none
abbrev pub or_zero : Option ℕ → ℕ
or_zero none = 0
or_zero (some n) = n

module _ (payoffs : List Float) (marks : List Bool) (place start step : ℕ) where
  -- strategy t is marked, and its payoff exceeds that of the cell own
  abbrev pub exceeding : ℕ → ℕ → Bool
  exceeding own t = get_or marks (place + t) false && ltb (cell_rank payoffs own) (cell_rank payoffs (start + t * step))

  -- no marked strategy's payoff exceeds that of the cell own
  unfoldable pub row_unexceeded : ℕ → ℕ → Bool
  row_unexceeded count own = all (λ t. not (exceeding own t)) (below count)

  -- strategy s is marked, and no marked strategy's payoff exceeds its own
  unfoldable pub row_best : ℕ → ℕ → Bool
  row_best count s = get_or marks (place + s) false && row_unexceeded count (start + s * step)

  -- all of them, ascending
  unfoldable pub row_bests : ℕ → List ℕ
  row_bests count = filter (row_best count) (below count)

  -- the marked strategies whose payoff that of the cell top does not exceed, ascending: the best ones, where top is the cell of one of them
  unfoldable pub row_reaching : ℕ → ℕ → List ℕ
  row_reaching count top = filter (λ t. get_or marks (place + t) false && not (ltb (cell_rank payoffs (start + t * step)) (cell_rank payoffs top))) (below count)

  -- the lowest of the best ones, or 0 where no strategy is marked
  unfoldable pub row_lowest : ℕ → ℕ
  row_lowest count = or_zero (first (row_bests count))
