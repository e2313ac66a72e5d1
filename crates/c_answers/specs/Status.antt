-- How a call tells its answer to C: a status, which is `refusal`'s, and outputs that hold the values or, refused, what they held.
-- Assumes nothing.
use Rattle.std.specs.Prelude.{not, List, map, ℕ, ◌*◌, eqb, length, Float}
use Rattle.std.proofs.Math.Option.{Option, none, some}
use Rattle.refusal.specs.Refusal.{◌then◌}
use Rattle.refusal.specs.Told.{Told, values, refused, unless, byte_of}
use Rattle.payoff_tables.specs.Table.{offset}
use Rattle.payoff_tables.specs.Checks.{table_refusal, profile_refusal}
use Rattle.survivors.specs.declared.Survivors.{Survivors}

-- what an output is left with: the value told, or what it held before
abbrev pub output : {A : Type 0} → Told A → A → A
output (values v) old = v
output (refused n) old = old

-- what an output beside an answer is left with: v where values are told, or what it held before
abbrev pub beside : {A B : Type 0} → Told A → B → B → B
beside (values a) v old = v
beside (refused n) v old = old

-- a number or none goes to C as the byte of whether there is one, and the number, 0 where there is
-- none
abbrev pub some_byte : Option ℕ → ℕ
some_byte none = 0
some_byte (some n) = 1

abbrev pub or_zero : Option ℕ → ℕ
or_zero none = 0
or_zero (some n) = n

-- a part of the caller's table goes to C as its first place and its length: the P payoffs at offset × P, where the offset call tells it
abbrev pub part_start : List ℕ → List Float → List ℕ → Told ℕ
part_start counts payoffs x = unless (table_refusal counts payoffs then profile_refusal counts x) (offset counts x * length counts)

abbrev pub part_length : List ℕ → List Float → List ℕ → Told ℕ
part_length counts payoffs x = unless (table_refusal counts payoffs then profile_refusal counts x) (length counts)

-- ---- survivors in C: P, the eight counts, and a byte for each mark

-- the survivors that are handed in: 0 is no mark, and any other byte is one
unfoldable pub survivors_of : ℕ → List ℕ → List ℕ → Survivors
survivors_of players counts bytes = record { players = players; counts = counts; marks = map (λ b. not (eqb b 0)) bytes }

-- the bytes of marks
abbrev pub mark_bytes : Survivors → List ℕ
mark_bytes v = map byte_of v.marks
