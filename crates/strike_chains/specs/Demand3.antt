-- Demand 3 at the calls (document 01, "Strikes"): one claim about a table with none of refusals 1
-- to 7 and a list of strike calls from its fresh survivors, empty or not, accepted and refused
-- mixed, naming any numbers. It is a claim about what the list did: how many calls were accepted,
-- the answer to each, and the survivors that the last one handed back. The contract of `strikes`,
-- which runs such a list, has it of its result and of its outputs. The table is one value through
-- all the calls: nobody writes it meanwhile. Assumes nothing.
use Rattle.std.specs.Prelude.{◌≡◌, List, map, ◌⊎◌, ℕ, ◌+◌, ◌*◌, ◌≤◌, length, Float}
use Rattle.std.proofs.Math.Option.{none}
use Rattle.game.specs.Finite.{sum}
use Rattle.game.specs.Game.{Strategy}
use Rattle.game.specs.Strikes.{run}
use Rattle.game.specs.Meaning.{Undominated}
use Rattle.refusal.specs.Told.{Told, told_of}
use Rattle.payoff_tables.specs.Table.{table_game}
use Rattle.equilibria.specs.Answers.{table_equilibria, equilibria_answer, equilibria_choices, equilibria_utilities}
use Rattle.survivors.specs.declared.Survivors.{Survivors}
use Rattle.survivors.specs.Survivors.{marks_of, mark_count, fresh_of, foreign_refusal}
use Rattle.strikes.specs.Answers.{told_answer, surviving_answer, surviving_choices, surviving_utilities}
use Rattle.strike_chains.specs.Answers.{chain, accepted_of}
use Rattle.strike_chains.specs.Meaning.{Struck}

module _ (counts : List ℕ) (payoffs : List Float) where
  -- the survivors' listing into outputs of lengths a and b, and the whole table's into outputs of lengths c and d, tell the same total, or
  -- the same refusal
  abbrev pub SameTotal : Survivors → (a b c d : ℕ) → Type 0
  SameTotal v a b c d = told_of (λ l. l.total) (surviving_answer counts payoffs v a b) ≡ told_of (λ l. l.total) (equilibria_answer counts payoffs c d)

  -- they tell the same number written too, and write the same: entry for entry and bit for bit, or nothing
  pub record SameListing (v : Survivors) (a b c d : ℕ) : Type 0 where
    pub answer : surviving_answer counts payoffs v a b ≡ equilibria_answer counts payoffs c d
    pub choices : surviving_choices counts payoffs v a b ≡ equilibria_choices counts payoffs c d
    pub utilities : surviving_utilities counts payoffs v a b ≡ equilibria_utilities counts payoffs c d

  -- an output of length n holds all of the table's equilibria: P elements of each
  abbrev pub HoldsAll : ℕ → Type 0
  HoldsAll n = length (table_equilibria counts payoffs) * length counts ≤ n

  -- outputs of lengths a and b, and of c and d, have equal lengths or hold them all
  abbrev pub EqualOrHoldAll : (a b c d : ℕ) → Type 0
  EqualOrHoldAll a b c d = ((a ≡ c) × (b ≡ d)) ⊎ (HoldsAll a × HoldsAll b × HoldsAll c × HoldsAll d)

  -- The claim about the list of calls cs: its answers are ans, n of them tell that a call was
  -- accepted, and v is handed back at last.
  pub record Demand3 (cs : List Strategy) (n : ℕ) (ans : List (Told ℕ)) (v : Survivors) : Type 0 where
    -- Exactly the calls that the plain machine accepts, at the game that the table is, answer as accepted, with the machine's dominator. The
    -- others answer with the machine's refusal.
    pub answers : ans ≡ map told_answer (run (table_game counts payoffs) cs).answers
    -- Each accepted call took just the mark it names, each refused one none, and 8, 14 and 15 are the only refusals.
    pub calls : Struck counts payoffs (fresh_of counts) cs ans v
    -- After the list exactly the strategies that the machine has left are marked.
    pub marks : marks_of v ≡ (run (table_game counts payoffs) cs).marks
    -- The survivors are not foreign.
    pub own : foreign_refusal counts v ≡ none
    -- There are as many equilibria over the survivors as of the whole table, whatever the outputs' lengths.
    pub same_total : (a b c d : ℕ) → SameTotal v a b c d
    -- Those that are written are the same, where the outputs have equal lengths or hold them all.
    pub same_listing : (a b c d : ℕ) → EqualOrHoldAll a b c d → SameListing v a b c d
    -- Accepted strikes are counted by their answers.
    pub number : n ≡ accepted_of ans
    -- Accepted + marks = the strategies at the start, the sum of the counts.
    pub counted : n + mark_count v ≡ sum counts
    -- Any other list leaves the same marks, where each of the two leaves no survivor that is strictly dominated by another survivor of the
    -- same player against the others' survivors.
    pub same_marks : (ds : List Strategy)
        → Undominated (table_game counts payoffs) (marks_of v)
        → Undominated (table_game counts payoffs) (marks_of (chain counts payoffs ds).survivors)
        → marks_of v ≡ marks_of (chain counts payoffs ds).survivors
