-- What the definitions of Answers mean, in quantifiers. Assumes nothing.
use Rattle.std.specs.Prelude.{◌≡◌, List, [], ◌∷◌, ℕ, Float}
use Rattle.game.specs.Game.{Strategy}
use Rattle.game.specs.Strikes.{without}
use Rattle.game.specs.Demand3.{Accepted, Refused}
use Rattle.refusal.specs.Told.{Told, values, refused}
use Rattle.payoff_tables.specs.Table.{table_game}
use Rattle.survivors.specs.declared.Survivors.{Survivors}
use Rattle.survivors.specs.Survivors.{marks_of}
use Rattle.strikes.specs.Answers.{strike_answer, strike_leaves}

-- From the survivors v the calls get the answers, each on the survivors that the last one handed back, and w is handed back at last. A call
-- that answers with t is accepted: t is the lowest dominator among the survivors, and what is handed back lacks just the mark that the call
-- names. One that is refused with e gets 8, 14 or 15 by the rule, and its survivors back.
pub data Struck (counts : List ℕ) (payoffs : List Float) : Survivors → List Strategy → List (Told ℕ) → Survivors → Type 0 where
  done : {v : Survivors} → Struck counts payoffs v [] [] v
  struck : {v w : Survivors} {c : Strategy} {t : ℕ} {cs : List Strategy} {ans : List (Told ℕ)}
      → strike_answer counts payoffs v c ≡ values t
      → Accepted (table_game counts payoffs) (marks_of v) c t
      → marks_of (strike_leaves counts payoffs v c) ≡ without (marks_of v) c
      → Struck counts payoffs (strike_leaves counts payoffs v c) cs ans w
      → Struck counts payoffs v (c ∷ cs) (values t ∷ ans) w
  kept : {v w : Survivors} {c : Strategy} {e : ℕ} {cs : List Strategy} {ans : List (Told ℕ)}
      → strike_answer counts payoffs v c ≡ refused e
      → Refused (table_game counts payoffs) (marks_of v) c e
      → strike_leaves counts payoffs v c ≡ v
      → Struck counts payoffs v cs ans w
      → Struck counts payoffs v (c ∷ cs) (refused e ∷ ans) w
