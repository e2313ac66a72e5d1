-- Stepping a profile: document 01's `advance_profile`, which goes to the next profile in lexicographic order. Defined for any counts and
-- choices. Assumes nothing.
use Rattle.std.specs.Prelude.{true, false, cond, List, [], ◌∷◌, ℕ, ◌+◌, ltb}
use Rattle.profile_step.specs.declared.Advanced.{Advanced}

-- Player with count c and choice s, once the players after it have stepped. Where these had a next choice, s stays. Else s goes up by
-- one, if that is below c, and where it is not (s may be at or past c, up to the largest number) s goes to 0, and the player before
-- this one is to go up.
abbrev pub carried : ℕ → ℕ → Advanced → Advanced
carried c s r =
    cond r.more
    (record { more = true; profile = s ∷ r.profile })
    (cond (ltb (s + 1) c)
    (record { more = true; profile = (s + 1) ∷ r.profile })
    (record { more = false; profile = 0 ∷ r.profile }))

-- Whether there is a next one, and the choices after the step: all 0 where there is none. Choices past the counts stay as they are.
abbrev pub step : List ℕ → List ℕ → Advanced
step [] x = record { more = false; profile = x }
step (c ∷ cs) [] = record { more = false; profile = [] }
step (c ∷ cs) (s ∷ x) = carried c s (step cs x)
