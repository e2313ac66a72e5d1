-- Steps at the edges of a table of 2, 3 and 4 strategies, computed: each is true by the definitions alone. Assumes nothing.
use mathlib.Core.Path.{◌≡◌, refl}
use mathlib.Core.Bool.{true, false}
use mathlib.Core.List.{List, [], ◌∷◌}
use Prim.Native.Nat.{ℕ}
use Rattle.profile_step.specs.Step.{step}

-- three players, of 2, 3 and 4 strategies
counts : List ℕ
counts = 2 ∷ 3 ∷ 4 ∷ []

record Computed : Type 0 where
  -- the last choice goes up, a choice that has no room begins again, and the last profile has no next one
  step_up : step counts (1 ∷ 2 ∷ 2 ∷ []) ≡ record { more = true; profile = 1 ∷ 2 ∷ 3 ∷ [] }
  step_carries : step counts (0 ∷ 2 ∷ 3 ∷ []) ≡ record { more = true; profile = 1 ∷ 0 ∷ 0 ∷ [] }
  step_from_last : step counts (1 ∷ 2 ∷ 3 ∷ []) ≡ record { more = false; profile = 0 ∷ 0 ∷ 0 ∷ [] }
  -- a choice past its count has no room, and choices past the counts stay
  step_past_count : step counts (0 ∷ 1 ∷ 9 ∷ []) ≡ record { more = true; profile = 0 ∷ 2 ∷ 0 ∷ [] }
  step_past_counts : step counts (0 ∷ 0 ∷ 3 ∷ 7 ∷ []) ≡ record { more = true; profile = 0 ∷ 1 ∷ 0 ∷ 7 ∷ [] }

computed : Computed
unfolding counts
computed =
    record {
      step_up = refl;
      step_carries = refl;
      step_from_last = refl;
      step_past_count = refl;
      step_past_counts = refl;
    }
