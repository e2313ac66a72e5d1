-- `deposit::opening` meets its contract: the length, the word, the edition, then P. Assumes
-- nothing.
use mathlib.Core.Path.{◌≡◌, refl, sym, ap, ◌∙◌}
use mathlib.Core.List.{List}
use mathlib.Core.Option.{none}
use Prim.Native.Nat.{ℕ, ◌/◌, ◌%◌}
use native.Mathlib.Omega.{arith}
use Rattle.refusal.proofs.Told.{told_values, hands_on}
use Rattle.file_words.specs.Words.{words_of, payload_at}
use Rattle.file_words.specs.Faults.{length_fault, due_fault}
use Rattle.deposit_format.specs.Deposit.{players_in, opening_fault}
use Rattle.deposit_format.proofs.Faults.{players_is, wrong_edition, opens_none, opens_many, opens}
use Rattle.deposit.proofs.opening.Goals as goal
use Rattle.deposit.proofs.opening.Goals.{In_ok-whole, In_ok-payload}

-- the bytes are whole words
even : (c : In_ok-whole) → length_fault c.args.bytes.now ≡ none
even c = (told_values _ _ _ c.in_ok-whole.ensures).0

-- and the opening word is there
module _ (c : In_ok-payload) where
  abbrev ws : List ℕ
  ws = words_of c.args.bytes.now

  abbrev payload : ℕ
  payload = c.in_ok-payload.payload

  whole : length_fault c.args.bytes.now ≡ none
  whole = (told_values _ _ _ c.in_ok-whole.ensures).0

  read : (due_fault ws 0 0 ≡ none) × (payload ≡ payload_at ws 0)
  read = told_values (due_fault ws 0 0) (payload_at ws 0) payload c.in_ok-payload.ensures

  edition : payload / 256 ≡ 1 → payload_at ws 0 / 256 ≡ 1
  edition h = ap (λ (w : ℕ). w / 256) (sym read.1) ∙ h

  players : payload % 256 ≡ players_in ws
  players = ap (λ (w : ℕ). w % 256) read.1 ∙ players_is ws

pub returns-then-payload-ne-EDITION : goal.returns-then-payload-ne-EDITION
returns-then-payload-ne-EDITION c =
    let k = c in
    rw (whole (goal.at.returns-then-payload-ne-EDITION k).In_ok-payload, wrong_edition (ws (goal.at.returns-then-payload-ne-EDITION k).In_ok-payload) (read (goal.at.returns-then-payload-ne-EDITION k).In_ok-payload).0 (λ e. c.if-payload-ne-EDITION.true (ap (λ (w : ℕ). w / 256) (read (goal.at.returns-then-payload-ne-EDITION k).In_ok-payload).1 ∙ e))) refl

pub returns-then-players-eq0 : goal.returns-then-players-eq0
returns-then-players-eq0 c =
    let k = c in
    rw (whole (goal.at.returns-then-players-eq0 k).In_ok-payload, opens_none (ws (goal.at.returns-then-players-eq0 k).In_ok-payload) (read (goal.at.returns-then-players-eq0 k).In_ok-payload).0 (edition (goal.at.returns-then-players-eq0 k).In_ok-payload c.if-payload-ne-EDITION.false) (sym (players (goal.at.returns-then-players-eq0 k).In_ok-payload) ∙ c.if-players-eq0.true)) refl

pub returns-then-players-gt-MAX_PLAYERS : goal.returns-then-players-gt-MAX_PLAYERS
returns-then-players-gt-MAX_PLAYERS c =
    let k = c in
    rw (whole (goal.at.returns-then-players-gt-MAX_PLAYERS k).In_ok-payload, opens_many (ws (goal.at.returns-then-players-gt-MAX_PLAYERS k).In_ok-payload) (read (goal.at.returns-then-players-gt-MAX_PLAYERS k).In_ok-payload).0 (edition (goal.at.returns-then-players-gt-MAX_PLAYERS k).In_ok-payload c.if-payload-ne-EDITION.false) (omega (arith, players (goal.at.returns-then-players-gt-MAX_PLAYERS k).In_ok-payload, c.if-players-gt-MAX_PLAYERS.true))) refl

pub returns-in_err-whole : goal.returns-in_err-whole
returns-in_err-whole c =
    hands_on _ _ (length_fault c.args.bytes.now) _ _ _ c.from_residual.ensures.1 c.in_err-whole.ensures

pub returns-in_err-payload : goal.returns-in_err-payload
unfolding opening_fault
returns-in_err-payload c =
    rw (even (goal.at.returns-in_err-payload c).In_ok-whole)
    (hands_on _ _ (due_fault (words_of c.args.bytes.now) 0 0) _ _ _ c.from_residual-in_err-payload.ensures.1 c.in_err-payload.ensures)

pub returns : goal.returns
returns c =
    let k = c in
    rw (
      whole (goal.at.returns k).In_ok-payload,
      opens (ws (goal.at.returns k).In_ok-payload) (read (goal.at.returns k).In_ok-payload).0 (edition (goal.at.returns k).In_ok-payload c.if-payload-ne-EDITION.false) (omega (arith, players (goal.at.returns k).In_ok-payload, c.if-players-eq0.false)) (omega (arith, players (goal.at.returns k).In_ok-payload, c.if-players-gt-MAX_PLAYERS.false)),
      players (goal.at.returns k).In_ok-payload,
    )
    refl
