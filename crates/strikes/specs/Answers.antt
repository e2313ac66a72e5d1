-- Document 01, "Strikes": what a strike and the survivors' listing answer, hand back and write: the
-- definitions that their contracts name. A strike's answer is that of the plain machine of `game`, at
-- the game that the table is and among the survivors' marks. Assumes nothing.
use Rattle.std.specs.Prelude.{List, ℕ, Float}
use Rattle.std.proofs.Math.Option.{none, some}
use Rattle.game.specs.Game.{Strategy}
use Rattle.game.specs.Solution.{equilibria}
use Rattle.game.specs.Strikes.{Answer, refused, accepted, answer}
use Rattle.refusal.specs.Refusal.{Refusal, number_of, ◌then◌}
use Rattle.refusal.specs.Told.{Told, values, refused as toldRefused}
use Rattle.refusal.specs.declared.Listed.{Listed}
use Rattle.payoff_tables.specs.Table.{table_game}
use Rattle.payoff_tables.specs.Checks.{table_refusal}
use Rattle.equilibria.specs.Answers.{listing_answer, listed_choices, listed_utilities}
use Rattle.survivors.specs.declared.Survivors.{Survivors}
use Rattle.survivors.specs.Survivors.{marks_of, without_mark, foreign_refusal}

-- ---- one strike

-- what the machine's answer tells: the dominator, or 8, 14 or 15
abbrev pub told_answer : Answer → Told ℕ
told_answer (refused e) = toldRefused e
told_answer (accepted t) = values t

-- a refusal, or else what is told
abbrev pub or_else : Refusal → Told ℕ → Told ℕ
or_else none t = t
or_else (some e) t = toldRefused (number_of e)

-- the survivors that a strike with this answer hands back: accepted, without the mark it names, and refused, unchanged
abbrev pub handed_back : Survivors → Strategy → Told ℕ → Survivors
handed_back v c (values t) = without_mark v c
handed_back v c (toldRefused e) = v

module _ (counts : List ℕ) (payoffs : List Float) where
  -- 1 to 7, then 16
  abbrev pub survivors_refusal : Survivors → Refusal
  survivors_refusal v = table_refusal counts payoffs then foreign_refusal counts v

  -- a strike: 1 to 7, 16, then 8, 14, 15; accepted exactly when the strategy survives and a surviving strategy of that player strictly
  -- dominates it against all surviving choices of the others, with the lowest such dominator
  unfoldable pub strike_answer : Survivors → Strategy → Told ℕ
  strike_answer v c = or_else (survivors_refusal v) (told_answer (answer (table_game counts payoffs) (marks_of v) c))

  -- the survivors that it hands back
  unfoldable pub strike_leaves : Survivors → Strategy → Survivors
  strike_leaves v c = handed_back v c (strike_answer v c)

  -- ---- the survivors' listing, which refuses 1 to 7, then 16

  -- the equilibria in profiles of survivors, with changes to survivors only
  abbrev pub surviving_equilibria : Survivors → List (List ℕ)
  surviving_equilibria v = equilibria (table_game counts payoffs) (marks_of v)

  abbrev pub surviving_answer : Survivors → ℕ → ℕ → Told Listed
  surviving_answer v = listing_answer counts payoffs (survivors_refusal v) (surviving_equilibria v)

  abbrev pub surviving_choices : Survivors → ℕ → ℕ → List ℕ
  surviving_choices v = listed_choices counts payoffs (survivors_refusal v) (surviving_equilibria v)

  abbrev pub surviving_utilities : Survivors → ℕ → ℕ → List Float
  surviving_utilities v = listed_utilities counts payoffs (survivors_refusal v) (surviving_equilibria v)
