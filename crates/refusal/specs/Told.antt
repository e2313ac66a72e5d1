-- What an answer tells: values, or a refusal's number alone. The contract of every call that may refuse speaks of its answer through this type.
-- Assumes nothing.
use Rattle.std.specs.Prelude.{Bool, true, false, ℕ, Result, Ok, Err, Option as Answered, None, Some}
use Rattle.std.proofs.Math.Option.{Option, none, some}
use Rattle.refusal.specs.Refusal.{Refusal, number_of}
use Rattle.refusal.specs.declared.NormalFormError.{NormalFormError}

-- an answer with values of type A
pub data Told (A : Type 0) : Type 0 where
  values : A → Told A
  refused : ℕ → Told A

-- the values v, unless a refusal applies
abbrev pub unless : {A : Type 0} → Refusal → A → Told A
unless none v = values v
unless (some e) v = refused (number_of e)

-- v, or w where a refusal applies: what is handed back beside an answer
abbrev pub unless_refused : {A : Type 0} → Refusal → A → A → A
unless_refused none v w = v
unless_refused (some e) v w = w

-- what is told of the values by f, or the same refusal
abbrev pub told_of : {A B : Type 0} → (A → B) → Told A → Told B
told_of f (values v) = values (f v)
told_of f (refused n) = refused n

-- what an answer tells as one number: 0, or the refusal's
abbrev pub status : {A : Type 0} → Told A → ℕ
status (values v) = 0
status (refused n) = n

-- whether it tells values
abbrev pub tells : {A : Type 0} → Told A → Bool
tells (values v) = true
tells (refused n) = false

-- what the code's answers tell
abbrev pub told : {A : Type 0} → Result A NormalFormError → Told A
told (Ok v) = values v
told (Err e) = refused (number_of e)

-- a value or none, which the code's answers and the definitions each have a type for
abbrev pub optional : {A : Type 0} → Answered A → Option A
optional None = none
optional (Some v) = some v

-- a truth value as a byte: 1, or 0 for no
abbrev pub byte_of : Bool → ℕ
byte_of true = 1
byte_of false = 0
