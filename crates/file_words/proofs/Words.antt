-- A word is its kind and its payload (`kind-word`, `payload-word`, `word-parts`), and words and bytes give each other back (`words_back`,
-- `bytes_back`). Each byte is a digit of its word, to the base 256. Assumes nothing.
use mathlib.Core.Path.{◌≡◌, refl, sym, ap, ◌∙◌}
use mathlib.Core.List.{List, [], ◌∷◌}
use Prim.Native.Nat.{ℕ, zero, suc, ◌+◌, ◌*◌, ◌/◌, ◌%◌, ◌^◌, ◌≤◌, ◌<◌}
use native.Mathlib.Nat.{div-add-mod', mod-lt}
use native.Mathlib.Omega.{arith}
use lib.Arith.{digits_div, digits_mod}
use lib.Pow.{pow_pos}
use lib.ListN.{length, get_or, length-append, length-map, get_or-append, get_or-eq_default}
use lib.Seq.{ext_get_or, get_or-append_seam}
use Rattle.game.specs.Finite.{below}
use Rattle.game.proofs.Finite.{length_below, length_flat_map, sum_equal}
use Rattle.payoff_tables.proofs.Offsets.{get_or_map, get_or_flat_map, get_or_below}
use Rattle.file_words.specs.Words.{word, kind_of, payload_of, payload_at, word_bytes, bytes_of, closed, word_at, words_of, Bytes}

-- ---- a word's kind and payload

pub kind_word : (k n : ℕ) → n < 2 ^ 30 → kind_of (word k n) ≡ k
unfolding kind_of word
kind_word k n h = digits_div k h

pub payload_word : (k n : ℕ) → n < 2 ^ 30 → payload_of (word k n) ≡ n
unfolding payload_of word
payload_word k n h = digits_mod k h

pub word_parts : (w : ℕ) → word (kind_of w) (payload_of w) ≡ w
unfolding word kind_of payload_of
word_parts w = div-add-mod' w (2 ^ 30)

pub payload_lt : (w : ℕ) → payload_of w < 2 ^ 30
unfolding payload_of
payload_lt w = mod-lt w (pow_pos 30)

-- ---- the bytes of words

bytes_four : (w : ℕ) → length (word_bytes w) ≡ 4
unfolding word_bytes
bytes_four w = refl

pub bytes_length : (ws : List ℕ) → length (bytes_of ws) ≡ length ws * 4
unfolding bytes_of
bytes_length ws = length_flat_map word_bytes ws ∙ sum_equal (λ w. length (word_bytes w)) 4 bytes_four ws

-- the j-th byte of the i-th word
byte_at : (ws : List ℕ) (i j at : ℕ) → i < length ws → j < 4 → at ≡ i * 4 + j → get_or (bytes_of ws) at 0 ≡ get_or (word_bytes (get_or ws i 0)) j 0
unfolding bytes_of
byte_at ws i j at h k e = rw e (get_or_flat_map word_bytes 4 bytes_four ws i j 0 0 h k)

-- ---- the words of bytes

pub words_length : (bytes : List ℕ) → length (words_of bytes) ≡ length bytes / 4
unfolding words_of
words_length bytes = length-map (below (length bytes / 4)) (word_at bytes) ∙ length_below (length bytes / 4)

pub words_at : (bytes : List ℕ) (i : ℕ) → i < length bytes / 4 → get_or (words_of bytes) i 0 ≡ word_at bytes i
unfolding words_of
words_at bytes i h =
    get_or_map (word_at bytes) (below (length bytes / 4)) i 0 0 (rw length_below h) ∙ ap (word_at bytes) (get_or_below (length bytes / 4) i h)

-- the payload of the i-th word, and of none
pub payload_here : (bytes : List ℕ) (i : ℕ) → i < length bytes / 4 → word_at bytes i % 2 ^ 30 ≡ payload_at (words_of bytes) i
unfolding payload_of
payload_here bytes i h = ap (λ (w : ℕ). w % 2 ^ 30) (sym (words_at bytes i h))

pub payload_none : (bytes : List ℕ) (i : ℕ) → length bytes / 4 ≤ i → 0 ≡ payload_at (words_of bytes) i
unfolding payload_of
payload_none bytes i h = ap (λ (w : ℕ). w % 2 ^ 30) (sym (get_or-eq_default (words_of bytes) 0 (rw words_length h)))

-- ---- there and back

same_word : (w : ℕ) → w / 2 ^ 24 * 2 ^ 24 + w / 2 ^ 16 % 256 * 2 ^ 16 + w / 2 ^ 8 % 256 * 2 ^ 8 + w % 256 ≡ w
same_word w = omega arith

quarter : (n : ℕ) → n * 4 / 4 ≡ n
quarter n = omega arith

word_back : (ws : List ℕ) (i : ℕ) → i < length ws → word_at (bytes_of ws) i ≡ get_or ws i 0
unfolding word_at word_bytes
word_back ws i h =
    rw (
      byte_at ws i 0 (4 * i) h (omega arith) (omega arith),
      byte_at ws i 1 (4 * i + 1) h (omega arith) (omega arith),
      byte_at ws i 2 (4 * i + 2) h (omega arith) (omega arith),
      byte_at ws i 3 (4 * i + 3) h (omega arith) (omega arith),
    )
    (same_word (get_or ws i 0))

-- the words of a file's bytes are the file
pub words_back : (ws : List ℕ) → words_of (bytes_of ws) ≡ ws
words_back ws = ext_get_or 0 (words_of (bytes_of ws)) ws size (λ i h. words_at (bytes_of ws) i (rw words_length at h) ∙ word_back ws i (rw size at h))
  where
    size : length (words_of (bytes_of ws)) ≡ length ws
    size = words_length (bytes_of ws) ∙ ap (λ n. n / 4) (bytes_length ws) ∙ quarter (length ws)

module _ (a b c d : ℕ) (A : a < 256) (B : b < 256) (C : c < 256) (D : d < 256) where
  -- the bytes of the word of four bytes
  four_back : word_bytes (a * 2 ^ 24 + b * 2 ^ 16 + c * 2 ^ 8 + d) ≡ a ∷ b ∷ c ∷ d ∷ []
  unfolding word_bytes
  four_back = rw (first, second, third, fourth) refl
    where
      first : (a * 2 ^ 24 + b * 2 ^ 16 + c * 2 ^ 8 + d) / 2 ^ 24 ≡ a
      first = omega arith

      second : (a * 2 ^ 24 + b * 2 ^ 16 + c * 2 ^ 8 + d) / 2 ^ 16 % 256 ≡ b
      second = omega arith

      third : (a * 2 ^ 24 + b * 2 ^ 16 + c * 2 ^ 8 + d) / 2 ^ 8 % 256 ≡ c
      third = omega arith

      fourth : (a * 2 ^ 24 + b * 2 ^ 16 + c * 2 ^ 8 + d) % 256 ≡ d
      fourth = omega arith

-- the j-th of the four bytes of a word read from bytes
byte_back : (bytes : List ℕ) (i j : ℕ) → Bytes bytes → j < 4 → get_or (word_bytes (word_at bytes i)) j 0 ≡ get_or bytes (4 * i + j) 0
unfolding word_at
byte_back bytes i j B h = rw (four_back (get_or bytes (4 * i) 0) (get_or bytes (4 * i + 1) 0) (get_or bytes (4 * i + 2) 0) (get_or bytes (4 * i + 3) 0) (B _) (B _) (B _) (B _)) (go j h)
  where
    go : (j : ℕ) → j < 4 → get_or (get_or bytes (4 * i) 0 ∷ get_or bytes (4 * i + 1) 0 ∷ get_or bytes (4 * i + 2) 0 ∷ get_or bytes (4 * i + 3) 0 ∷ []) j 0 ≡ get_or bytes (4 * i + j) 0
    go zero h = ap (λ (n : ℕ). get_or bytes n 0) (omega arith)
    go (suc zero) h = refl
    go (suc (suc zero)) h = refl
    go (suc (suc (suc zero))) h = refl
    go (suc (suc (suc (suc j)))) h = absurd (omega arith)

-- the bytes of a file's words are the file, where they are whole words
pub bytes_back : (bytes : List ℕ) → Bytes bytes → length bytes % 4 ≡ 0 → bytes_of (words_of bytes) ≡ bytes
bytes_back bytes B e = ext_get_or 0 (bytes_of (words_of bytes)) bytes size (λ k h. byte k (rw size at h))
  where
    size : length (bytes_of (words_of bytes)) ≡ length bytes
    size = bytes_length (words_of bytes) ∙ rw words_length (omega arith)

    byte : (k : ℕ) → k < length bytes → get_or (bytes_of (words_of bytes)) k 0 ≡ get_or bytes k 0
    byte k h =
        let i = k / 4 in
        let inside : i < length bytes / 4 = omega arith in
        byte_at (words_of bytes) i (k % 4) k (rw words_length inside) (omega arith) (omega arith)
        ∙ rw (words_at bytes i inside) (byte_back bytes i (k % 4) B (omega arith) ∙ ap (λ (n : ℕ). get_or bytes n 0) (omega arith))

-- ---- the closing word

pub closed_length : (ws : List ℕ) → length (closed ws) ≡ length ws + 1
unfolding closed
closed_length ws = length-append ws _

pub closed_before : (ws : List ℕ) (i : ℕ) → i < length ws → get_or (closed ws) i 0 ≡ get_or ws i 0
unfolding closed
closed_before ws i h = get_or-append ws _ 0 i h

pub closed_last : (ws : List ℕ) → get_or (closed ws) (length ws) 0 ≡ word 3 (length ws)
unfolding closed
closed_last ws = get_or-append_seam ws (word 3 (length ws)) [] 0
