-- What each of two calls tells the next one. Reading what was written is `read_back`, and writing
-- what was read `write-back`, of `deposit`.
-- Assumes nothing.
use mathlib.Core.Path.{◌≡◌, refl, sym, ap, ◌∙◌}
use mathlib.Core.List.{List}
use mathlib.Core.Option.{none, some}
use Prim.Native.Nat.{ℕ, ◌-◌, ◌≤◌}
use native.Mathlib.Omega.{arith}
use borrow.Author.Tests.{le-ltb, ltb-false}
use lib.Dec.{ltb}
use lib.ListN.{length, take, drop}
use lib.Seq.{take_at}
use lib.Ieee.{Float}
use Rattle.refusal.specs.Refusal.{Refusal, ◌then◌, when}
use Rattle.refusal.specs.Told.{Told, values, refused, told_of}
use Rattle.refusal.specs.declared.NormalFormError.{NormalFormError}
use Rattle.refusal.specs.declared.NormalFormError.TheVariants.{OutputTooShort}
use Rattle.refusal.proofs.Refusal.{some_none, when_none, then_none}
use Rattle.refusal.proofs.Told.{told_values, told_refused, told_of_lem}
use Rattle.payoff_tables.specs.Checks.{table_refusal}
use Rattle.written_lists.specs.Outputs.{written_of, over}
use Rattle.payoff_tables.proofs.Checks.{table_law}
use Rattle.file_words.specs.Words.{Bytes, words_of}
use Rattle.deposit_format.specs.Deposit.{deposit, file_of, counts_in, payoffs_in, read_refusal, table_of}
use Rattle.payoff_tables.specs.Meaning.{Doubles}
use Rattle.deposit_format.specs.Answers.{read_answer, read_counts, read_payoffs, write_answer, write_bytes}
use Rattle.deposit_format.proofs.Back.{read_back, table_read, write_back}
use Rattle.test_round_trips.specs.RoundTrips.{written_read, read_written}

first_of : (a b c : Refusal) (e : NormalFormError) → (a then b) ≡ some e → (a then b then c) ≡ some e
first_of none none c e h = absurd (some_none e (sym h))
first_of none (some d) c e h = h
first_of (some d) b c e h = h

-- the start of an output is what was written over it
pub taken : {A : Type 0} (xs old : List A) (n : ℕ) → n ≡ length xs → take (n - 0) (over xs old) ≡ xs
taken xs old n e = let m : length xs ≡ n - 0 = omega (arith, e) in take_at xs (drop (length xs) old) (n - 0) m

-- ---- `write`, then `read`

module _ (counts : List ℕ) (payoffs : List Float) (bytes : List ℕ) where
  abbrev short : Refusal
  short = when (ltb (length bytes) (length (deposit counts payoffs))) OutputTooShort

  pub write_told : (n : ℕ) → values n ≡ write_answer counts payoffs bytes
      → (table_refusal counts payoffs ≡ none) × (length (deposit counts payoffs) ≤ length bytes) × (n ≡ length (deposit counts payoffs))
  unfolding write_answer file_of
  write_told n h =
      let (r, e) = told_values (table_refusal counts payoffs then short) (length (deposit counts payoffs)) n (h ∙ told_of_lem length (table_refusal counts payoffs then short) (deposit counts payoffs)) in
      let (a, b) = (then_none (table_refusal counts payoffs) short).0 r in
      let room = ltb (length bytes) (length (deposit counts payoffs)) in
      (a, ltb-false (length bytes) (length (deposit counts payoffs)) ((when_none room OutputTooShort).0 b), e)

  module _ (counts' : List ℕ) (payoffs' : List Float) where
    abbrev both : Told (List ℕ × List Float)
    both = written_read counts payoffs (length bytes) (length counts') (length payoffs')

    pub not_written : (n : ℕ) → refused n ≡ write_answer counts payoffs bytes
        → (refused n ≡ told_of (λ t. length t.0) both) × ((counts' ≡ over (written_of (λ t. t.0) both) counts') × (payoffs' ≡ over (written_of (λ t. t.1) both) payoffs'))
    unfolding write_answer file_of
    not_written n h =
        let t = told_refused (table_refusal counts payoffs then short) (length (deposit counts payoffs)) n (h ∙ told_of_lem length (table_refusal counts payoffs then short) (deposit counts payoffs)) in
        let back = when (ltb (length counts') (length counts)) OutputTooShort then when (ltb (length payoffs') (length payoffs)) OutputTooShort in
        rw (first_of (table_refusal counts payoffs) short back t.0 t.1) (ap (λ (m : ℕ). refused m) t.2, (refl, refl))

    pub read_of_written : Doubles payoffs → table_refusal counts payoffs ≡ none → length (deposit counts payoffs) ≤ length bytes
        → (read_answer (deposit counts payoffs) counts' payoffs' ≡ told_of (λ t. length t.0) both)
        × ((read_counts (deposit counts payoffs) counts' payoffs' ≡ over (written_of (λ t. t.0) both) counts')
        × (read_payoffs (deposit counts payoffs) counts' payoffs' ≡ over (written_of (λ t. t.1) both) payoffs'))
    unfolding read_answer read_counts read_payoffs
    read_of_written d fits room =
        rw (read_back counts payoffs ((table_law counts payoffs).0 fits) d (length counts') (length payoffs'), fits, le-ltb (length bytes) (length (deposit counts payoffs)) room)
        (refl, (refl, refl))

-- ---- `read`, then `write`

module _ (bytes counts : List ℕ) (payoffs : List Float) where
  pub read_told : (p : ℕ) → values p ≡ read_answer bytes counts payoffs
      → (read_refusal bytes (length counts) (length payoffs) ≡ none) × (p ≡ length (counts_in (words_of bytes)))
  unfolding read_answer table_of
  read_told p h =
      told_values (read_refusal bytes (length counts) (length payoffs)) (length (counts_in (words_of bytes))) p
      (h ∙ told_of_lem (λ t. length t.0) (read_refusal bytes (length counts) (length payoffs)) (counts_in (words_of bytes), payoffs_in (words_of bytes)))

  module _ (back : List ℕ) where
    abbrev again : Told (List ℕ)
    again = read_written bytes (length counts) (length payoffs) (length back)

    pub not_read : (n : ℕ) → refused n ≡ read_answer bytes counts payoffs → (refused n ≡ told_of length again) × (back ≡ over (written_of (λ b. b) again) back)
    unfolding read_answer table_of
    not_read n h =
        let t = told_refused (read_refusal bytes (length counts) (length payoffs)) (length (counts_in (words_of bytes))) n
        (h ∙ told_of_lem (λ t. length t.0) (read_refusal bytes (length counts) (length payoffs)) (counts_in (words_of bytes), payoffs_in (words_of bytes))) in
        rw t.1 (ap (λ (m : ℕ). refused m) t.2, refl)

    pub written_of_read : Bytes bytes → read_refusal bytes (length counts) (length payoffs) ≡ none
        → (write_answer (counts_in (words_of bytes)) (payoffs_in (words_of bytes)) back ≡ told_of length again)
        × (write_bytes (counts_in (words_of bytes)) (payoffs_in (words_of bytes)) back ≡ over (written_of (λ b. b) again) back)
    unfolding write_answer write_bytes file_of
    written_of_read B h =
        let t = table_read bytes B (length counts) (length payoffs) h in
        rw ((table_law (counts_in (words_of bytes)) (payoffs_in (words_of bytes))).1 t, write_back bytes B (length counts) (length payoffs) h, h) (refl, refl)
