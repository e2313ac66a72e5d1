-- What an output holds after a list was put into it from a place on, as far as there is room: `sets old at xs`, of the toolchain's library, which
-- stores the elements one after the other, and none past the end. And the place after them. Assumes nothing.
use Rattle.std.specs.Prelude.{◌≡◌, List, ℕ, ◌+◌, min, length}
use Rattle.std.proofs.lemmas.List.Edits.{sets}

-- the place after xs, put into old from `at` on: the end of old where there was no room for all
abbrev pub past : {A : Type 0} → List A → ℕ → List A → ℕ
past old at xs = min (length old) (at + length xs)

-- xs was put into old from `at` on: the place after it is end, and the output is new
abbrev pub Puts : {A : Type 0} → List A → ℕ → List A → ℕ → List A → Type 0
Puts old at xs end new = (end ≡ past old at xs) × (new ≡ sets old at xs)
