-- The reader's refusals in the stages in which they are met: the opening word, the counts, the room, the rest. What is answered and written where
-- one of them refuses, and where none does. Assumes nothing.
use mathlib.Core.Path.{◌≡◌, refl, sym, ap, ◌∙◌}
use mathlib.Core.List.{List}
use mathlib.Core.Option.{none, some}
use Prim.Native.Nat.{ℕ, ◌+◌, ◌*◌, ◌<◌, ◌≤◌}
use borrow.Author.Tests.{lt-ltb, le-ltb, ltb-false}
use lib.Dec.{ltb}
use lib.ListN.{length}
use lib.Ieee.{Float}
use Rattle.game.specs.Finite.{below}
use Rattle.refusal.specs.Refusal.{Refusal, number_of, when, ◌then◌, each}
use Rattle.refusal.specs.Told.{values, refused}
use Rattle.refusal.specs.declared.NormalFormError.{NormalFormError}
use Rattle.refusal.specs.declared.NormalFormError.TheVariants.{TooManyCells, OutputTooShort}
use Rattle.refusal.proofs.Refusal.{when_none, then_none, then_assoc}
use Rattle.refusal.proofs.Told.{told_of_refused}
use Rattle.written_lists.specs.Outputs.{written_of, over}
use Rattle.written_lists.proofs.Outputs.{refused_kept}
use Rattle.payoff_tables.specs.Limits.{max_cells}
use Rattle.payoff_tables.specs.Table.{cells}
use Rattle.file_words.specs.Words.{words_of}
use Rattle.file_words.specs.Faults.{length_fault, closing_fault}
use Rattle.deposit_format.specs.Deposit.{players_in, counts_in, payoffs_in, opening_fault, count_fault, cell_fault, head_fault, rest_fault, words_fault, read_refusal, table_of}
use Rattle.deposit_format.specs.Answers.{read_answer, read_counts, read_payoffs}
use Rattle.deposit_format.proofs.Tables.{counts_length}

-- the cells from the place after P counts on, n of them, and the closing word
abbrev pub rest_from : List ℕ → ℕ → ℕ → Refusal
rest_from ws p n = each (λ i. cell_fault ws (1 + p + 3 * i)) (below n) then closing_fault ws (1 + p + 3 * n)

module _ (bytes : List ℕ) where
  abbrev pub opened : Refusal
  opened = length_fault bytes then opening_fault (words_of bytes)

  abbrev pub counted : Refusal
  counted = let ws = words_of bytes in each (count_fault ws) (below (players_in ws)) then when (ltb max_cells (cells (counts_in ws))) TooManyCells

  abbrev pub rest : Refusal
  rest = rest_from (words_of bytes) (players_in (words_of bytes)) (cells (counts_in (words_of bytes)))

  module _ (a b : ℕ) where
    abbrev room : Refusal
    room = when (ltb a (players_in (words_of bytes))) OutputTooShort then when (ltb b (cells (counts_in (words_of bytes)))) OutputTooShort then rest

    pub stages : read_refusal bytes a b ≡ (opened then counted then room)
    unfolding read_refusal words_fault head_fault rest_fault
    stages =
        let ws = words_of bytes in
        ap (λ (r : Refusal). length_fault bytes then r) (then_assoc (opening_fault ws) counted room)
        ∙ sym (then_assoc (length_fault bytes) (opening_fault ws) (counted then room))

    pub bad_opening : (e : NormalFormError) → opened ≡ some e → read_refusal bytes a b ≡ some e
    bad_opening e h = stages ∙ rw h refl

    module _ (o : opened ≡ none) where
      pub bad_counts : (e : NormalFormError) → counted ≡ some e → read_refusal bytes a b ≡ some e
      bad_counts e h = stages ∙ rw (o, h) refl

      module _ (c : counted ≡ none) where
        pub short_counts : a < players_in (words_of bytes) → read_refusal bytes a b ≡ some OutputTooShort
        short_counts h = stages ∙ rw (o, c, lt-ltb a (players_in (words_of bytes)) h) refl

        module _ (p : players_in (words_of bytes) ≤ a) where
          pub short_payoffs : b < cells (counts_in (words_of bytes)) → read_refusal bytes a b ≡ some OutputTooShort
          short_payoffs h = stages ∙ rw (o, c, le-ltb a (players_in (words_of bytes)) p, lt-ltb b (cells (counts_in (words_of bytes))) h) refl

          pub room_is_rest : cells (counts_in (words_of bytes)) ≤ b → read_refusal bytes a b ≡ rest
          room_is_rest h = stages ∙ rw (o, c, le-ltb a (players_in (words_of bytes)) p, le-ltb b (cells (counts_in (words_of bytes))) h) refl

    -- no stage refuses where none is given
    pub stages_none : read_refusal bytes a b ≡ none
        → (opened ≡ none) × (counted ≡ none) × (players_in (words_of bytes) ≤ a) × (cells (counts_in (words_of bytes)) ≤ b) × (rest ≡ none)
    stages_none h =
        let p = players_in (words_of bytes) in
        let n = cells (counts_in (words_of bytes)) in
        let (o, r) = (then_none opened (counted then room)).0 (sym stages ∙ h) in
        let (c, s) = (then_none counted room).0 r in
        let (d, t) = (then_none (when (ltb a p) OutputTooShort) (when (ltb b n) OutputTooShort then rest)).0 s in
        let (e, u) = (then_none (when (ltb b n) OutputTooShort) rest).0 t in
        (o, c, ltb-false a p ((when_none (ltb a p) OutputTooShort).0 d), ltb-false b n ((when_none (ltb b n) OutputTooShort).0 e), u)

-- ---- what is answered and written

module _ (bytes counts : List ℕ) (payoffs : List Float) where
  pub read_refused : (e : NormalFormError) (n : ℕ) → n ≡ number_of e → read_refusal bytes (length counts) (length payoffs) ≡ some e
      → (refused n ≡ read_answer bytes counts payoffs) × ((counts ≡ read_counts bytes counts payoffs) × (payoffs ≡ read_payoffs bytes counts payoffs))
  unfolding read_answer read_counts read_payoffs table_of
  read_refused e n is h = rw (h, is) (refl, (refl, refl))

  pub read_accepted : read_refusal bytes (length counts) (length payoffs) ≡ none
      → (values (players_in (words_of bytes)) ≡ read_answer bytes counts payoffs)
      × ((over (counts_in (words_of bytes)) counts ≡ read_counts bytes counts payoffs)
      × (over (payoffs_in (words_of bytes)) payoffs ≡ read_payoffs bytes counts payoffs))
  unfolding read_answer read_counts read_payoffs table_of
  read_accepted h = rw h (ap (λ (n : ℕ). values n) (sym (counts_length (words_of bytes))), (refl, refl))

  -- a reader that refuses, by 13 too, leaves both outputs as they were
  pub read_kept : (e : ℕ) → read_answer bytes counts payoffs ≡ refused e
      → (read_counts bytes counts payoffs ≡ counts) × (read_payoffs bytes counts payoffs ≡ payoffs)
  unfolding read_answer read_counts read_payoffs
  read_kept e is =
      let told = told_of_refused (λ (t : List ℕ × List Float). length t.0) (table_of bytes (length counts) (length payoffs)) e is in
      (refused_kept (written_of (λ t. t.0)) (λ _. refl) _ e told counts, refused_kept (written_of (λ t. t.1)) (λ _. refl) _ e told payoffs)
