-- What the faults of a word rule out, and which is met first. Assumes nothing.
use mathlib.Core.Path.{◌≡◌, refl, sym, ap, ◌∙◌}
use mathlib.Core.Bool.{not}
use mathlib.Core.List.{List}
use mathlib.Core.Logic.{◌↔◌}
use mathlib.Core.Option.{none, some}
use Prim.Native.Nat.{ℕ, ◌+◌, ◌/◌, ◌%◌, ◌^◌, ◌<◌, ◌≤◌}
use native.Mathlib.Omega.{arith}
use lib.Dec.{ltb, eqb}
use lib.ListN.{length, get_or}
use borrow.Author.Tests.{lt-ltb, le-ltb, eq-eqb, ne_eqb, ltb-true, ltb-false, eqb-true, not-false}
use Rattle.refusal.specs.Refusal.{when, ◌then◌}
use Rattle.refusal.specs.declared.NormalFormError.TheVariants.{MissingWord, WrongKind, WrongPayload, TrailingWord}
use Rattle.refusal.proofs.Refusal.{when_none, then_none}
use Rattle.file_words.specs.Words.{word, kind_of, payload_of, payload_at, word_at, words_of}
use Rattle.file_words.specs.Faults.{length_fault, due_fault, closing_fault}
use Rattle.file_words.proofs.Words.{kind_word, payload_word, word_parts, words_length, words_at}

-- ---- the length

-- 17 is not given exactly where the bytes are whole words
pub length_law : (bytes : List ℕ) → (length_fault bytes ≡ none) ↔ (length bytes % 4 ≡ 0)
unfolding length_fault
length_law bytes =
    let test = eqb (length bytes % 4) 0 in (
      λ h. eqb-true (length bytes % 4) 0 (not-false test ((when_none (not test) MissingWord).0 h)),
      λ e. rw (eq-eqb (length bytes % 4) 0 e) refl,
    )

pub uneven : (bytes : List ℕ) → (length bytes % 4 ≡ 0 → ⊥) → length_fault bytes ≡ some MissingWord
unfolding length_fault
uneven bytes h = rw (ne_eqb (length bytes % 4) 0 h) refl

-- ---- a word that is due

module _ (ws : List ℕ) (i k : ℕ) where
  pub absent : length ws ≤ i → due_fault ws i k ≡ some MissingWord
  unfolding due_fault
  absent h = rw (le-ltb i (length ws) h) refl

  pub other_kind : i < length ws → (kind_of (get_or ws i 0) ≡ k → ⊥) → due_fault ws i k ≡ some WrongKind
  unfolding due_fault
  other_kind h n = rw (lt-ltb i (length ws) h, ne_eqb (kind_of (get_or ws i 0)) k n) refl

  -- none is given exactly where the word is there and has the kind
  pub due_law : (due_fault ws i k ≡ none) ↔ ((i < length ws) × (kind_of (get_or ws i 0) ≡ k))
  unfolding due_fault
  due_law =
      let there = ltb i (length ws) in
      let same = eqb (kind_of (get_or ws i 0)) k in (
        λ h.
            let (a, b) = (then_none (when (not there) MissingWord) (when (not same) WrongKind)).0 h in (
              ltb-true i (length ws) (not-false there ((when_none (not there) MissingWord).0 a)),
              eqb-true (kind_of (get_or ws i 0)) k (not-false same ((when_none (not same) WrongKind).0 b)),
            ),
        λ (h, e). rw (lt-ltb i (length ws) h, eq-eqb (kind_of (get_or ws i 0)) k e) refl,
      )

  -- so the word is made of the kind and its payload
  pub due_word : due_fault ws i k ≡ none → get_or ws i 0 ≡ word k (payload_at ws i)
  due_word h = sym (word_parts (get_or ws i 0)) ∙ ap (λ (j : ℕ). word j (payload_at ws i)) (due_law.0 h).1

  -- and a word so made is the one due
  pub word_due : (n : ℕ) → i < length ws → n < 2 ^ 30 → get_or ws i 0 ≡ word k n → (due_fault ws i k ≡ none) × (payload_at ws i ≡ n)
  word_due n h l e = (due_law.1 (h, ap kind_of e ∙ kind_word k n l), ap payload_of e ∙ payload_word k n l)

-- the same of the words of bytes
module _ (bytes : List ℕ) (i k : ℕ) where
  pub bytes_absent : length bytes / 4 ≤ i → due_fault (words_of bytes) i k ≡ some MissingWord
  bytes_absent h = absent (words_of bytes) i k (rw words_length h)

  pub bytes_other : i < length bytes / 4 → (word_at bytes i / 2 ^ 30 ≡ k → ⊥) → due_fault (words_of bytes) i k ≡ some WrongKind
  unfolding kind_of
  bytes_other h n = other_kind (words_of bytes) i k (rw words_length h) (λ e. n (ap (λ (w : ℕ). w / 2 ^ 30) (sym (words_at bytes i h)) ∙ e))

  pub bytes_due : i < length bytes / 4 → word_at bytes i / 2 ^ 30 ≡ k → due_fault (words_of bytes) i k ≡ none
  unfolding kind_of
  bytes_due h e = (due_law (words_of bytes) i k).1 (rw words_length h, ap (λ (w : ℕ). w / 2 ^ 30) (words_at bytes i h) ∙ e)

-- ---- the closing word

module _ (ws : List ℕ) (i : ℕ) where
  pub wrong_number : due_fault ws i 3 ≡ none → (payload_at ws i ≡ i → ⊥) → closing_fault ws i ≡ some WrongPayload
  unfolding closing_fault
  wrong_number h n = rw (h, ne_eqb (payload_at ws i) i n) refl

  pub followed : due_fault ws i 3 ≡ none → payload_at ws i ≡ i → i + 1 < length ws → closing_fault ws i ≡ some TrailingWord
  unfolding closing_fault
  followed h e l = rw (h, eq-eqb (payload_at ws i) i e, lt-ltb (i + 1) (length ws) l) refl

  pub closes : due_fault ws i 3 ≡ none → payload_at ws i ≡ i → length ws ≤ i + 1 → closing_fault ws i ≡ none
  unfolding closing_fault
  closes h e l = rw (h, eq-eqb (payload_at ws i) i e, le-ltb (i + 1) (length ws) l) refl

  -- none is given exactly where the last word has i words before it, kind 3, and i as its payload
  pub closing_law : i < 2 ^ 30 → (closing_fault ws i ≡ none) ↔ ((length ws ≡ i + 1) × (get_or ws i 0 ≡ word 3 i))
  unfolding closing_fault
  closing_law small =
      let same = eqb (payload_at ws i) i in
      let more = ltb (i + 1) (length ws) in (
        λ h.
            let (a, rest) = (then_none (due_fault ws i 3) (when (not same) WrongPayload then when more TrailingWord)).0 h in
            let (b, c) = (then_none (when (not same) WrongPayload) (when more TrailingWord)).0 rest in
            let here = ((due_law ws i 3).0 a).0 in
            let last = ltb-false (i + 1) (length ws) ((when_none more TrailingWord).0 c) in
            let number = eqb-true (payload_at ws i) i (not-false same ((when_none (not same) WrongPayload).0 b)) in
            (omega (arith, here, last), due_word ws i 3 a ∙ ap (word 3) number),
        λ (l, e). let (a, b) = word_due ws i 3 i (omega (arith, l)) small e in closes a b (omega (arith, l)),
      )
