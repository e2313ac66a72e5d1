-- `words::closing` meets its contract: the word that is due, its number, then what follows it.
-- Assumes nothing.
use mathlib.Core.Path.{◌≡◌, refl, sym, ◌∙◌}
use mathlib.Core.List.{List}
use mathlib.Core.Option.{none}
use Prim.Native.Nat.{ℕ, ◌^◌, ◌<◌}
use native.Mathlib.Omega.{arith}
use lib.ListN.{get_or}
use Rattle.refusal.proofs.Told.{told_values, hands_on}
use Rattle.file_words.specs.Words.{words_of, payload_at}
use Rattle.file_words.specs.Faults.{due_fault, closing_fault}
use Rattle.file_words.proofs.Words.{payload_lt, words_length}
use Rattle.file_words.proofs.Faults.{wrong_number, followed, closes}
use Rattle.words.proofs.closing.Goals as goal
use Rattle.words.proofs.closing.Goals.{In_ok-number}

-- the arm where the word is there and closes
module _ (c : In_ok-number) where
  abbrev ws : List ℕ
  ws = words_of c.args.bytes.now

  abbrev place : ℕ
  place = c.args.place

  abbrev number : ℕ
  number = c.in_ok-number.number

  read : (due_fault ws place 3 ≡ none) × (number ≡ payload_at ws place)
  read = told_values (due_fault ws place 3) (payload_at ws place) number c.in_ok-number.ensures

  small : number < 2 ^ 30
  small = rw read.1 (payload_lt (get_or ws place 0))

pub returns-then-number-place : goal.returns-then-number-place
returns-then-number-place c = let k = c in rw (wrong_number (ws (goal.at.returns-then-number-place k).In_ok-number) (place (goal.at.returns-then-number-place k).In_ok-number) (read (goal.at.returns-then-number-place k).In_ok-number).0 (λ e. c.if-number-place.true ((read (goal.at.returns-then-number-place k).In_ok-number).1 ∙ e))) refl

pub overflow_add-number : goal.overflow_add-number
overflow_add-number c = omega (arith, small (goal.at.overflow_add-number c).In_ok-number)

pub returns-then-number-bytes : goal.returns-then-number-bytes
returns-then-number-bytes c =
    let k = c in
    let same = c.if-number-place.false in
    rw (followed (ws (goal.at.returns-then-number-bytes k).In_ok-number) (place (goal.at.returns-then-number-bytes k).In_ok-number) (read (goal.at.returns-then-number-bytes k).In_ok-number).0 (sym (read (goal.at.returns-then-number-bytes k).In_ok-number).1 ∙ same) (rw words_length (omega (arith, same, c.if-number-bytes.true)))) refl

pub returns-in_err-number : goal.returns-in_err-number
unfolding closing_fault
returns-in_err-number c =
    hands_on _ _ (due_fault (words_of c.args.bytes.now) c.args.place 3) _ _ _ c.from_residual.ensures.1 c.in_err-number.ensures

pub returns : goal.returns
returns c =
    let k = c in
    let same = c.if-number-place.false in
    rw (closes (ws (goal.at.returns k).In_ok-number) (place (goal.at.returns k).In_ok-number) (read (goal.at.returns k).In_ok-number).0 (sym (read (goal.at.returns k).In_ok-number).1 ∙ same) (rw words_length (omega (arith, same, c.if-number-bytes.false)))) refl
