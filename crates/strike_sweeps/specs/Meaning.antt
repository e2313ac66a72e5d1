-- What the definitions of Sweeps mean. Assumes nothing.
use Rattle.std.specs.Prelude.{◌≡◌, List, [], ◌++◌, ◌≢◌, ℕ, ◌≤◌, length, Float}
use Rattle.game.specs.Finite.{◌∈◌, sum}
use Rattle.game.specs.Game.{Strategy, strategy}
use Rattle.game.specs.Meaning.{Has, Undominated}
use Rattle.refusal.specs.Told.{Told}
use Rattle.payoff_tables.specs.Table.{table_game}
use Rattle.survivors.specs.declared.Survivors.{Survivors}
use Rattle.survivors.specs.Survivors.{marks_of, fresh_of}
use Rattle.strike_chains.specs.Answers.{chain}
use Rattle.strike_chains.specs.Demand3.{Demand3}
use Rattle.outputs.specs.Put.{Puts}
use Rattle.strike_sweeps.specs.Sweeps.{Strike, strikes_of, sweep, struck_in, strikes_numbers}

module _ (counts : List ℕ) (payoffs : List Float) where
  -- sweep after sweep from v, until a sweep strikes nothing, these were the strikes, and w is what is left: there is no other end
  pub data Sweeps : Survivors → List Strike → Survivors → Type 0 where
    ended : {v : Survivors} → struck_in counts payoffs v ≡ [] → Sweeps v [] v
    again : {v w : Survivors} {ks : List Strike} → struck_in counts payoffs v ≢ [] → Sweeps (sweep counts payoffs v).survivors ks w
        → Sweeps v (struck_in counts payoffs v ++ ks) w

  -- a strike names a strategy of the table, and so does its dominator
  pub record Named (k : Strike) : Type 0 where
    pub struck : Has (table_game counts payoffs) k.struck
    pub dominator : Has (table_game counts payoffs) (strategy k.struck.player k.dominator)

  -- what sweeps of a table with none of refusals 1 to 7 did: ks were the strikes, and v is what is
  -- left
  pub record Done (ks : List Strike) (v : Survivors) : Type 0 where
    -- they ended
    pub sweeps : Sweeps (fresh_of counts) ks v
    -- They are one list of strike calls from fresh survivors. The strikes are its accepted calls,
    -- and demand 3 holds of it.
    pub calls : (cs : List Strategy) × (ans : List (Told ℕ)) × (ks ≡ strikes_of cs ans) × Demand3 counts payoffs cs (length ks) ans v
    -- each strike names strategies of the table
    pub named : (k : Strike) → k ∈ ks → Named k
    -- there are no more strikes than strategies
    pub few : length ks ≤ sum counts
    -- nobody is dominated any more
    pub undominated : Undominated (table_game counts payoffs) (marks_of v)
    -- and the survivors are those of every list of strikes that leaves nobody dominated
    pub same_survivors : (ds : List Strategy) → Undominated (table_game counts payoffs) (marks_of (chain counts payoffs ds).survivors)
        → marks_of v ≡ marks_of (chain counts payoffs ds).survivors

  -- The same of what was handed back and written: the survivors v, and an output that held `old`
  -- and holds `new`, where `end` is the place after the strikes.
  pub record DoneInto (v : Survivors) (old : List ℕ) (end : ℕ) (new : List ℕ) : Type 0 where
    pub strikes : List Strike
    -- the output holds the strikes, three numbers each, as far as there is room
    pub put : Puts old 0 (strikes_numbers strikes) end new
    pub done : Done strikes v
