-- Where a list of strike calls has come to, as the functions of this crate hand it on: what each needs, and what it does. Assumes nothing.
use Rattle.std.specs.Prelude.{◌≡◌, not, ◌||◌, List, ℕ, ◌≤◌, length, Float}
use Rattle.game.specs.Finite.{product, empty}
use Rattle.game.specs.Game.{Strategy}
use Rattle.payoff_tables.specs.Meaning.{Table}
use Rattle.survivors.specs.declared.Survivors.{Survivors}
use Rattle.strike_chains.specs.Answers.{chain_from, chain}
use Rattle.outputs.specs.Put.{Puts}
use Rattle.sweeps.specs.declared.Progress.{Progress}
use Rattle.strike_sweeps.specs.Sweeps.{struck_by, strikes_numbers}

module _ (counts : List ℕ) (payoffs : List Float) where
  -- survivors that some list of calls leaves
  abbrev pub Reached : Survivors → Type 0
  Reached v = (cs : List Strategy) × (v ≡ (chain counts payoffs cs).survivors)

  -- what is needed to go on from p, with the output out
  pub record Ready (profiles : ℕ) (p : Progress) (out : List ℕ) : Type 0 where
    pub table : Table counts payoffs
    pub number : profiles ≡ product counts
    pub reached : Reached p.survivors
    pub inside : p.end ≤ length out

  -- from p, with the output old, the calls cs came to r, with the output new
  pub record Runs (cs : List Strategy) (p : Progress) (old : List ℕ) (r : Progress) (new : List ℕ) : Type 0 where
    pub survivors : r.survivors ≡ (chain_from counts payoffs p.survivors cs).survivors
    pub any : r.any ≡ not (empty (struck_by counts payoffs p.survivors cs)) || p.any
    pub put : Puts old p.end (strikes_numbers (struck_by counts payoffs p.survivors cs)) r.end new
