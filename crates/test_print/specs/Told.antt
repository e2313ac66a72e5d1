-- What a call that tells does to the text. Assumes nothing.
use Rattle.std.specs.Prelude.{ℕ, List, ◌++◌, ◌≡◌}

-- now is the text before with nothing of it changed and nothing or more after it
abbrev pub IsAdded : List ℕ → List ℕ → Type 0
IsAdded before now = (told : List ℕ) × (now ≡ before ++ told)
