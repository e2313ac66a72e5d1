-- Document 01, "The report program": strikes, players then strategies ascending, sweep after sweep, until a sweep strikes nothing. Sweep is that
-- document's term: a list of strike calls that names every strategy once. The calls are those of `strikes`, chained by `strike_chains`.
-- Assumes nothing.
use mathlib.Core.List.{List, [], ◌∷◌, ◌++◌, flat_map}
use Rattle.std.specs.Prelude.{ℕ, zero, suc, Float}
use Rattle.game.specs.Finite.{sum}
use Rattle.game.specs.Game.{Strategy, strategies}
use Rattle.refusal.specs.Told.{Told, values, refused}
use Rattle.payoff_tables.specs.Table.{table_game}
use Rattle.survivors.specs.declared.Survivors.{Survivors}
use Rattle.survivors.specs.Survivors.{fresh_of}
use Rattle.strike_chains.specs.Answers.{Chain, chain_from}

-- an accepted strike: the strategy that it named, and the lowest dominator, which it answered
pub record Strike : Type 0 where
  pub struck : Strategy
  pub dominator : ℕ

-- the accepted strikes among calls with these answers, in their order
abbrev pub strikes_of : List Strategy → List (Told ℕ) → List Strike
strikes_of [] ans = []
strikes_of (c ∷ cs) [] = []
strikes_of (c ∷ cs) (values t ∷ ans) = record { struck = c; dominator = t } ∷ strikes_of cs ans
strikes_of (c ∷ cs) (refused e ∷ ans) = strikes_of cs ans

-- strikes, and the survivors after them
pub record Swept : Type 0 where
  pub strikes : List Strike
  pub survivors : Survivors

-- a sweep from v with these strikes, and what comes after it: a sweep that strikes nothing is the last
abbrev pub sweep_then : Survivors → List Strike → Swept → Swept
sweep_then v [] rest = record { strikes = []; survivors = v }
sweep_then v (k ∷ ks) rest = record { strikes = k ∷ ks ++ rest.strikes; survivors = rest.survivors }

module _ (counts : List ℕ) (payoffs : List Float) where
  -- what the calls cs strike from the survivors v
  abbrev pub struck_by : Survivors → List Strategy → List Strike
  struck_by v cs = strikes_of cs (chain_from counts payoffs v cs).answers

  -- the calls of a sweep: players then strategies ascending
  abbrev pub sweep_calls : List Strategy
  sweep_calls = strategies (table_game counts payoffs)

  -- a sweep from the survivors v
  abbrev pub sweep : Survivors → Chain
  sweep v = chain_from counts payoffs v sweep_calls

  -- what it strikes
  unfoldable pub struck_in : Survivors → List Strike
  struck_in v = struck_by v sweep_calls

  -- sweep after sweep from v until one strikes nothing, n sweeps at the most
  unfoldable pub sweeps_from : ℕ → Survivors → Swept
  sweeps_from zero v = record { strikes = []; survivors = v }
  sweeps_from (suc n) v = sweep_then v (struck_in v) (sweeps_from n (sweep v).survivors)

  -- from fresh survivors. As many sweeps as there are strategies are enough, since each but the last strikes at least one: a law (`sweeps-law`) says
  -- that the sweeps ended
  unfoldable pub sweeps : Swept
  sweeps = sweeps_from (sum counts) (fresh_of counts)

-- a strike as three numbers: player, strategy, dominator
abbrev pub strike_numbers : Strike → List ℕ
strike_numbers k = k.struck.player ∷ k.struck.number ∷ k.dominator ∷ []

-- the numbers of each strike, one after the other
unfoldable pub strikes_numbers : List Strike → List ℕ
unfolding flat_map
strikes_numbers ks = flat_map strike_numbers ks
