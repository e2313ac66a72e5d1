-- `test_round_trips::read_write` meets its contract: what is written is the table that was read.
-- Assumes nothing.
use mathlib.Core.Path.{◌≡◌, sym, ap, ap₂, ◌∙◌}
use mathlib.Core.List.{List}
use mathlib.Core.Option.{none}
use Prim.Native.Nat.{ℕ, ◌-◌, ◌*◌, ◌≤◌}
use native.Mathlib.Omega.{arith}
use lib.ListN.{length, take}
use lib.Ieee.{Float}
use Rattle.game.specs.Finite.{product}
use Rattle.refusal.specs.Refusal.{Refusal}
use Rattle.refusal.specs.Told.{values, unless}
use Rattle.refusal.proofs.Told.{apart, told_values, handed_on}
use Rattle.payoff_tables.specs.Meaning.{Table}
use Rattle.payoff_tables.specs.Answers.{counts_answer}
use Rattle.written_lists.specs.Outputs.{over}
use Rattle.payoff_tables.proofs.Checks.{counts_law}
use Rattle.written_lists.proofs.Outputs.{over_length}
use Rattle.file_words.specs.Words.{Bytes, words_of}
use Rattle.deposit_format.specs.Deposit.{counts_in, payoffs_in, read_refusal}
use Rattle.deposit_format.specs.Answers.{write_answer, write_bytes}
use Rattle.deposit_format.proofs.Reader.{read_accepted, stages_none}
use Rattle.deposit_format.proofs.Tables.{counts_length, payoffs_length}
use Rattle.deposit_format.proofs.Back.{table_read}
use Rattle.test_round_trips.proofs.Calls.{taken, read_told, not_read, written_of_read}
use Rattle.test_round_trips.proofs.read_write.Goals as goal
use Rattle.test_round_trips.proofs.read_write.Goals.{In_ok-players}

-- where the file is accepted
module _ (c : In_ok-players) where
  abbrev bytes : List ℕ
  bytes = c.args.bytes.now

  abbrev counts : List ℕ
  counts = c.args.counts.now

  abbrev payoffs : List Float
  payoffs = c.args.payoffs.now

  abbrev cs : List ℕ
  cs = counts_in (words_of bytes)

  abbrev ps : List Float
  ps = payoffs_in (words_of bytes)

  abbrev players : ℕ
  players = c.in_ok-players.players

  bytes_fit : Bytes bytes
  bytes_fit i = omega (arith, c.type_inv.bytes i)

  told : (read_refusal bytes (length counts) (length payoffs) ≡ none) × (players ≡ length cs)
  told = read_told bytes counts payoffs players c.in_ok-players.ensures.result_value

  table : Table cs ps
  table = table_read bytes bytes_fit (length counts) (length payoffs) told.0

  room : (length cs ≤ length counts) × (length ps ≤ length payoffs)
  room =
      let t = stages_none bytes (length counts) (length payoffs) told.0 in
      (omega (arith, counts_length (words_of bytes), t.2), omega (arith, payoffs_length (words_of bytes), t.3))

  counts-now : c.read.new.counts ≡ over cs counts
  counts-now = c.read.ensures.counts_after ∙ sym (read_accepted bytes counts payoffs told.0).1.0

  payoffs-now : c.read.new.payoffs ≡ over ps payoffs
  payoffs-now = c.read.ensures.payoffs_after ∙ sym (read_accepted bytes counts payoffs told.0).1.1

  counts-part : take (players - 0) c.read.new.counts ≡ cs
  counts-part = ap (λ (xs : List ℕ). take (players - 0) xs) counts-now ∙ taken cs counts players told.1

  wide : players ≤ length c.read.new.counts
  wide = let e = ap length counts-now ∙ over_length cs counts room.0 in omega (arith, e, told.1, room.0)

  -- its counts have no refusal
  counted : counts_answer (take (players - 0) c.read.new.counts) ≡ values (product cs)
  counted = ap counts_answer counts-part ∙ ap (λ (r : Refusal). unless r (product cs)) ((counts_law cs).1 table.shape)

pub slice_bounds-profile_count-end : goal.slice_bounds-profile_count-end
slice_bounds-profile_count-end c = wide (goal.at.slice_bounds-profile_count-end c).In_ok-players

pub slice_bounds-write-end : goal.slice_bounds-write-end
slice_bounds-write-end c = wide (goal.at.slice_bounds-write-end c).In_ok-players

-- they make as many cells as there are payoffs
size : (k : In_ok-players) (profiles : ℕ) → values profiles ≡ counts_answer (take (players k - 0) k.read.new.counts) → profiles * players k ≡ length (ps k)
size k profiles h = ap₂ (λ (m n : ℕ). m * n) (told_values none (product (cs k)) profiles (h ∙ counted k)).1 (told k).1 ∙ sym (table k).full

pub overflow_mul-profiles : goal.overflow_mul-profiles
overflow_mul-profiles c =
    let k = (goal.at.overflow_mul-profiles c).In_ok-players in
    omega (arith, size k c.in_ok-profiles.profiles c.in_ok-profiles.ensures, (table k).full, (table k).shape.room)

pub slice_bounds-write-end-2 : goal.slice_bounds-write-end-2
slice_bounds-write-end-2 c =
    let k = (goal.at.slice_bounds-write-end-2 c).In_ok-players in
    let e = ap length (payoffs-now k) ∙ over_length (ps k) (payoffs k) (room k).1 in
    omega (arith, e, size k c.in_ok-profiles.profiles c.in_ok-profiles.ensures, (room k).1)

pub returns-in_err-players-clause-result_value : goal.returns-in_err-players-clause-result_value
returns-in_err-players-clause-result_value c =
    let a = c.args in handed_on _ _ c.from_residual.ensures.1 ∙ (not_read a.bytes.now a.counts.now a.payoffs.now a.bytes_back.now _ c.in_err-players.ensures.result_value).0

pub returns-in_err-players-clause-bytes_back_after : goal.returns-in_err-players-clause-bytes_back_after
returns-in_err-players-clause-bytes_back_after c =
    let a = c.args in (not_read a.bytes.now a.counts.now a.payoffs.now a.bytes_back.now _ c.in_err-players.ensures.result_value).1

pub returns-in_err-profiles : goal.returns-in_err-profiles
returns-in_err-profiles c =
    absurd (apart _ _ (sym (c.in_err-profiles.ensures ∙ counted (goal.at.returns-in_err-profiles c).In_ok-players)))

-- what is written is the table that was read
payoffs-part : (k : In_ok-players) (profiles : ℕ) → values profiles ≡ counts_answer (take (players k - 0) k.read.new.counts)
    → take (profiles * players k - 0) k.read.new.payoffs ≡ ps k
payoffs-part k profiles h =
    ap (λ (xs : List Float). take (profiles * players k - 0) xs) (payoffs-now k) ∙ taken (ps k) (payoffs k) (profiles * players k) (size k profiles h)

pub returns-clause-result_value : goal.returns-clause-result_value
returns-clause-result_value c =
    let k = (goal.at.returns-clause-result_value c).In_ok-players in
    let back = c.args.bytes_back.now in
    c.write.ensures.result_value
    ∙ ap₂ (λ (a : List ℕ) (b : List Float). write_answer a b back) (counts-part k) (payoffs-part k c.in_ok-profiles.profiles c.in_ok-profiles.ensures)
    ∙ (written_of_read (bytes k) (counts k) (payoffs k) back (bytes_fit k) (told k).0).0

pub returns-clause-bytes_back_after : goal.returns-clause-bytes_back_after
returns-clause-bytes_back_after c =
    let k = (goal.at.returns-clause-bytes_back_after c).In_ok-players in
    let back = c.args.bytes_back.now in
    c.write.ensures.bytes_after
    ∙ ap₂ (λ (a : List ℕ) (b : List Float). write_bytes a b back) (counts-part k) (payoffs-part k c.in_ok-profiles.profiles c.in_ok-profiles.ensures)
    ∙ (written_of_read (bytes k) (counts k) (payoffs k) back (bytes_fit k) (told k).0).1
