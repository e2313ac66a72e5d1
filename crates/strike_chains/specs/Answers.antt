-- A chain of strike calls, and what `strikes` answers, hands back and writes, which runs one. Assumes nothing.
use Rattle.std.specs.Prelude.{List, [], ◌∷◌, ℕ, zero, suc, length, Float}
use Rattle.game.specs.Game.{Strategy, strategy}
use Rattle.game.specs.Finite.{filter}
use Rattle.refusal.specs.Refusal.{Refusal, ◌then◌}
use Rattle.refusal.specs.Told.{Told, values, refused as toldRefused, unless, tells, unless_refused}
use Rattle.written_lists.specs.Outputs.{room_refusal}
use Rattle.payoff_tables.specs.Checks.{table_refusal}
use Rattle.survivors.specs.declared.Survivors.{Survivors}
use Rattle.survivors.specs.Survivors.{fresh_of, no_survivors}
use Rattle.strikes.specs.Answers.{strike_answer, strike_leaves}

-- ---- a chain of calls

-- the calls that two lists name, of unequal lists as many as the shorter has
abbrev pub calls_of : List ℕ → List ℕ → List Strategy
calls_of [] ss = []
calls_of (p ∷ ps) [] = []
calls_of (p ∷ ps) (s ∷ ss) = strategy p s ∷ calls_of ps ss

-- what a chain of calls did: the answer to each, and the survivors that the last one handed back
pub record Chain : Type 0 where
  pub answers : List (Told ℕ)
  pub survivors : Survivors

module _ (counts : List ℕ) (payoffs : List Float) where
  -- the calls from the survivors v, each getting the survivors that the last one handed back
  abbrev pub chain_from : Survivors → List Strategy → Chain
  chain_from v [] = record { answers = []; survivors = v }
  chain_from v (c ∷ cs) =
      let rest = chain_from (strike_leaves counts payoffs v c) cs in
      record { answers = strike_answer counts payoffs v c ∷ rest.answers; survivors = rest.survivors }

  -- from fresh survivors
  abbrev pub chain : List Strategy → Chain
  chain cs = chain_from (fresh_of counts) cs

-- how many calls were accepted, by their answers
abbrev pub accepted_of : List (Told ℕ) → ℕ
accepted_of ans = length (filter tells ans)

-- the dominator, 0 where the call was refused
abbrev pub dominator_of : Told ℕ → ℕ
dominator_of (values t) = t
dominator_of (toldRefused e) = 0

-- what a written number says, beside the dominator that stands with it: 0 an acceptance, any other
-- number that refusal
abbrev pub answer_said : ℕ → ℕ → Told ℕ
answer_said zero t = values t
answer_said (suc e) t = toldRefused (suc e)

-- the answers to the first k calls, as two outputs say them
abbrev pub answers_said : ℕ → List ℕ → List ℕ → List (Told ℕ)
answers_said zero told by = []
answers_said (suc k) [] by = []
answers_said (suc k) (e ∷ told) [] = []
answers_said (suc k) (e ∷ told) (t ∷ by) = answer_said e t ∷ answers_said k told by

-- `strikes` with outputs of lengths a and b
module _ (counts : List ℕ) (payoffs : List Float) (cs : List Strategy) (a b : ℕ) where
  -- it refuses as `fresh` does, then 13: an answer and a dominator for each call
  abbrev pub strikes_refusal : Refusal
  strikes_refusal = table_refusal counts payoffs then room_refusal (length cs) a b

  -- how many calls were accepted
  unfoldable pub strikes_answer : Told ℕ
  strikes_answer = unless strikes_refusal (accepted_of (chain counts payoffs cs).answers)

  -- the survivors beside it, which are refused fresh survivors where it refuses
  unfoldable pub strikes_leave : Survivors
  strikes_leave = unless_refused strikes_refusal (chain counts payoffs cs).survivors no_survivors

  -- the answers that are written, each as 0 or the refusal's number into one output and as the dominator into the other: all, or none
  -- where it refuses
  unfoldable pub strikes_written : List (Told ℕ)
  strikes_written = unless_refused strikes_refusal (chain counts payoffs cs).answers []
