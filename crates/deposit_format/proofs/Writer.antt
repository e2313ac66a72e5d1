-- How long a table's file is (`deposit-length`), and what the writer answers and leaves. Assumes nothing.
use mathlib.Core.Path.{◌≡◌, refl, ◌∙◌}
use mathlib.Core.List.{List, ◌∷◌, ◌++◌, map, flat_map}
use mathlib.Core.Option.{none, some}
use Prim.Native.Nat.{ℕ, ◌+◌, ◌*◌, ◌<◌, ◌≤◌}
use native.Mathlib.Omega.{arith}
use borrow.Author.Tests.{lt-ltb, le-ltb}
use lib.ListN.{length, length-append, length-map}
use lib.Ieee.{Float}
use Rattle.game.proofs.Finite.{length_flat_map, sum_equal}
use Rattle.refusal.specs.Refusal.{number_of}
use Rattle.refusal.specs.Told.{values, refused}
use Rattle.refusal.specs.declared.NormalFormError.{NormalFormError}
use Rattle.refusal.proofs.Told.{told_of_refused}
use Rattle.written_lists.specs.Outputs.{written_of, over}
use Rattle.written_lists.proofs.Outputs.{refused_kept}
use Rattle.payoff_tables.specs.Checks.{table_refusal}
use Rattle.file_words.specs.Words.{word, closed}
use Rattle.file_words.proofs.Words.{bytes_length, closed_length}
use Rattle.deposit_format.specs.Deposit.{payoff_words, deposit, file_of}
use Rattle.deposit_format.specs.Answers.{write_answer, write_bytes}
use Rattle.deposit_format.specs.Meaning.{words_before}

pub words_three : (x : Float) → length (payoff_words x) ≡ 3
unfolding payoff_words
words_three x = refl

pub payoffs_words : (xs : List Float) → length (flat_map payoff_words xs) ≡ length xs * 3
payoffs_words xs = length_flat_map payoff_words xs ∙ sum_equal (λ x. length (payoff_words x)) 3 words_three xs

module _ (counts : List ℕ) (payoffs : List Float) where
  -- the words before the closing one
  abbrev pub body : List ℕ
  body = word 0 (256 + length counts) ∷ map (word 1) counts ++ flat_map payoff_words payoffs

  pub body_length : length body ≡ words_before counts payoffs
  body_length =
      let cs : length (map (word 1) counts ++ flat_map payoff_words payoffs) ≡ length (map (word 1) counts) + length (flat_map payoff_words payoffs) =
      length-append (map (word 1) counts) (flat_map payoff_words payoffs) in
      omega (arith, cs, length-map counts (word 1), payoffs_words payoffs)

  pub deposit_length : length (deposit counts payoffs) ≡ 4 * (words_before counts payoffs + 1)
  unfolding deposit
  deposit_length = omega (arith, bytes_length (closed body), closed_length body, body_length)

-- ---- what is answered and written

module _ (counts : List ℕ) (payoffs : List Float) (bytes : List ℕ) where
  pub write_refused : (e : NormalFormError) (n : ℕ) → n ≡ number_of e → table_refusal counts payoffs ≡ some e
      → (refused n ≡ write_answer counts payoffs bytes) × (bytes ≡ write_bytes counts payoffs bytes)
  unfolding write_answer write_bytes file_of
  write_refused e n is h = rw (h, is) (refl, refl)

  module _ (fits : table_refusal counts payoffs ≡ none) where
    pub write_short : length bytes < length (deposit counts payoffs) → (refused 13 ≡ write_answer counts payoffs bytes) × (bytes ≡ write_bytes counts payoffs bytes)
    unfolding write_answer write_bytes file_of
    write_short h = rw (fits, lt-ltb (length bytes) (length (deposit counts payoffs)) h) (refl, refl)

    pub write_accepted : length (deposit counts payoffs) ≤ length bytes
        → (values (length (deposit counts payoffs)) ≡ write_answer counts payoffs bytes) × (over (deposit counts payoffs) bytes ≡ write_bytes counts payoffs bytes)
    unfolding write_answer write_bytes file_of
    write_accepted h = rw (fits, le-ltb (length bytes) (length (deposit counts payoffs)) h) (refl, refl)

  -- a writer that refuses, by 13 too, leaves the output as it was
  pub write_kept : (e : ℕ) → write_answer counts payoffs bytes ≡ refused e → write_bytes counts payoffs bytes ≡ bytes
  unfolding write_answer write_bytes
  write_kept e is = refused_kept (written_of (λ file. file)) (λ _. refl) _ e (told_of_refused length (file_of counts payoffs (length bytes)) e is) bytes
