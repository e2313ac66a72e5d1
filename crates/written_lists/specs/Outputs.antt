-- What an output holds after a call that writes a list into it. Assumes nothing.
use mathlib.Core.List.{List, [], ◌++◌, flat_map}
use Rattle.std.specs.Prelude.{ℕ, ltb, length, take, drop}
use Rattle.refusal.specs.Refusal.{Refusal, when, ◌then◌}
use Rattle.refusal.specs.Told.{Told, values, refused}
use Rattle.refusal.specs.declared.NormalFormError.TheVariants.{OutputTooShort}

-- an output is shorter than the result needs (13)
abbrev pub short_refusal : ℕ → ℕ → Refusal
short_refusal need room = when (ltb room need) OutputTooShort

-- the same of n elements into each of two outputs, of lengths a and b
unfoldable pub room_refusal : ℕ → ℕ → ℕ → Refusal
room_refusal n a b = short_refusal n a then short_refusal n b

-- how many entries of its list a call writes: as many as it answers, and none where it refuses
abbrev pub written : Told ℕ → ℕ
written (values n) = n
written (refused e) = 0

-- what a call writes of what it tells: nothing where it refuses
abbrev pub written_of : {A B : Type 0} → (A → List B) → Told A → List B
written_of f (values v) = f v
written_of f (refused e) = []

module _ {A : Type 0} where
  -- the first k entries, one after the other
  abbrev pub joined : ℕ → List (List A) → List A
  joined k entries = flat_map (λ x. x) (take k entries)

  -- xs, and then what stood in the output: elements past those written keep their contents
  abbrev pub over : List A → List A → List A
  over xs old = xs ++ drop (length xs) old
