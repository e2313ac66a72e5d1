-- What the answers say: the whole table is the case where every strategy is marked, and a profile is said to be an equilibrium exactly where
-- the list has it. Assumes nothing.
use mathlib.Core.Path.{◌≡◌}
use mathlib.Core.Bool.{Bool, true}
use mathlib.Core.List.{List}
use mathlib.Core.Logic.Iff
use mathlib.Core.Logic.{◌↔◌}
use Prim.Native.Nat.{ℕ}
use lib.Dec.{T}
use lib.ListN.{replicate}
use lib.Ieee.{Float}
use Rattle.game.specs.Finite.{◌∈◌, Lists}
use Rattle.game.specs.Game.{Profile, Earlier, whole}
use Rattle.game.specs.Meaning.{Equilibrium}
use Rattle.game.specs.Solution.{equilibrium, equilibria}
use Rattle.game.proofs.Finite.{same_test}
use Rattle.game.proofs.Ordinal.{marks_read}
use Rattle.game.proofs.Solution.{equilibrium_listed, equilibria_law}
use Rattle.refusal.specs.Refusal.{◌then◌}
use Rattle.refusal.specs.Told.{values}
use Rattle.refusal.proofs.Told.{told_values}
use Rattle.refusal.proofs.Refusal.{then_none}
use Rattle.payoff_tables.specs.Limits.{max_marks}
use Rattle.payoff_tables.specs.Table.{table_game}
use Rattle.payoff_tables.specs.Meaning.{Shape}
use Rattle.payoff_tables.specs.Checks.{table_refusal, profile_refusal}
use Rattle.payoff_tables.proofs.Checks.{profile_law}
use Rattle.marks.specs.Marks.{marked}
use Rattle.marks.proofs.Marks.{marks_whole}
use Rattle.equilibria.specs.Answers.{table_equilibria, is_equilibrium_answer}

module _ (counts : List ℕ) (payoffs : List Float) where
  -- With a mark on every place, the equilibria are the whole table's,
  pub whole_equilibria : Shape counts → equilibria (table_game counts payoffs) (marked (replicate max_marks true)) ≡ table_equilibria counts payoffs
  whole_equilibria h =
      (marks_read (table_game counts payoffs) (marked (replicate max_marks true)) (whole (table_game counts payoffs)) (marks_whole counts payoffs h)).same_equilibria

  -- and so is the test of a profile.
  pub whole_equilibrium : Shape counts → (x : List ℕ) → Profile counts x
      → equilibrium (table_game counts payoffs) (marked (replicate max_marks true)) x ≡ equilibrium (table_game counts payoffs) (whole (table_game counts payoffs)) x
  unfolding table_game
  whole_equilibrium h x r =
      let g = table_game counts payoffs in
      same_test _ _ (Iff.trans (equilibrium_listed g (marked (replicate max_marks true)) x r)
      (Iff.trans (rw (whole_equilibria h) (λ i. i, λ i. i)) (Iff.symm (equilibrium_listed g (whole g) x r))))

  -- `is_equilibrium` answers yes exactly for the members of that list.
  pub equilibrium_is_member : (x : List ℕ) (b : Bool) → values b ≡ is_equilibrium_answer counts payoffs x → T b ↔ (x ∈ table_equilibria counts payoffs)
  unfolding is_equilibrium_answer table_game
  equilibrium_is_member x b h =
      let (ok, is) = told_values (table_refusal counts payoffs then profile_refusal counts x) _ b h in
      let r : Profile counts x = (profile_law counts x).0 ((then_none (table_refusal counts payoffs) (profile_refusal counts x)).0 ok).1 in
      rw is (equilibrium_listed (table_game counts payoffs) (whole (table_game counts payoffs)) x r)

  -- The list has each profile that is an equilibrium, once, in profile order.
  pub equilibria_are : Lists Earlier (λ x. Profile counts x × Equilibrium (table_game counts payoffs) (whole (table_game counts payoffs)) x) (table_equilibria counts payoffs)
  unfolding table_game
  equilibria_are = equilibria_law (table_game counts payoffs) (whole (table_game counts payoffs))
