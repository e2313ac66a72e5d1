-- Words put one after the other are their list put at once (`put-more`), and from the first place
-- on they stand before the old rest (`put_whole`). So the words of a table's file are the file
-- (`file-put`). Assumes nothing.
use mathlib.Core.Path.{◌≡◌, refl, sym, ap, ◌∙◌}
use mathlib.Core.List.{List, [], ◌∷◌, ◌++◌, map, flat_map, append_assoc, append-nil, map-append}
use Prim.Native.Nat.{ℕ, suc, ◌+◌, ◌*◌, ◌/◌, ◌%◌, ◌^◌, ◌<◌, ◌≤◌}
use native.Mathlib.Nat.{add-zero, zero-add, add-suc, suc-add}
use native.Mathlib.Numerals.{add-one}
use native.Mathlib.Omega.{arith}
use lib.ListN.{length, get_or, set, take, drop, length-map}
use lib.Seq.{sets, sets-eq, length-sets, take-suc, take-length, length-take-le}
use borrow.Rule.Slice.PartMut.{put_mid}
use Rattle.std.proofs.lemmas.Slice.{put_mid-paste}
use Rattle.std.specs.Int.{w32, w64, to_be_bytes}
use lib.Ieee.{Float, nan}
use Rattle.game.proofs.Finite.{flat_map_last}
use Rattle.written_lists.specs.Outputs.{over}
use Rattle.file_words.specs.Words.{word, word_bytes, bytes_of, closed}
use Rattle.file_words.proofs.Words.{bytes_length}
use Rattle.deposit_format.specs.Deposit.{payoff_words, deposit}
use Rattle.deposit_format.specs.Meaning.{words_before}
use Rattle.deposit_format.proofs.Writer.{payoffs_words, body, body_length}
use Rattle.deposit_writer.specs.Put.{words_put}

-- ---- stores one after the other

sets_append : (vs us l : List ℕ) (i : ℕ) → sets l i (vs ++ us) ≡ sets (sets l i vs) (i + length vs) us
sets_append [] us l i = ap (λ (k : ℕ). sets l k us) (sym (add-zero i))
sets_append (a ∷ vs) us l i =
    sets_append vs us (set l i a) (suc i) ∙ ap (λ (k : ℕ). sets (sets (set l i a) (suc i) vs) k us) (suc-add i (length vs) ∙ sym (add-suc i (length vs)))

pub bytes_append : (xs ys : List ℕ) → bytes_of (xs ++ ys) ≡ bytes_of xs ++ bytes_of ys
unfolding bytes_of flat_map
bytes_append [] ys = refl
bytes_append (x ∷ xs) ys = ap (λ (r : List ℕ). word_bytes x ++ r) (bytes_append xs ys) ∙ sym (append_assoc (word_bytes x) (bytes_of xs) (bytes_of ys))

pub put_more : (bytes : List ℕ) (i j : ℕ) (xs ys : List ℕ) → j ≡ i + length xs → words_put (words_put bytes i xs) j ys ≡ words_put bytes i (xs ++ ys)
put_more bytes i j xs ys e =
    let at : 4 * j ≡ 4 * i + length (bytes_of xs) = omega (arith, e, bytes_length xs) in
    ap (λ (k : ℕ). sets (words_put bytes i xs) k (bytes_of ys)) at
    ∙ sym (ap (λ (r : List ℕ). sets bytes (4 * i) r) (bytes_append xs ys) ∙ sets_append (bytes_of xs) (bytes_of ys) bytes (4 * i))

pub put_length : (bytes : List ℕ) (i : ℕ) (ws : List ℕ) → length (words_put bytes i ws) ≡ length bytes
put_length bytes i ws = length-sets bytes (4 * i) (bytes_of ws)

pub put_none : (bytes : List ℕ) (i : ℕ) → words_put bytes i [] ≡ bytes
unfolding bytes_of flat_map
put_none bytes i = refl

pub put_whole : (bytes ws : List ℕ) → length ws * 4 ≤ length bytes → words_put bytes 0 ws ≡ over (bytes_of ws) bytes
put_whole bytes ws h =
    sets-eq (bytes_of ws) bytes 0 (omega (arith, h, bytes_length ws)) ∙ ap (λ (n : ℕ). bytes_of ws ++ drop n bytes) (zero-add (length (bytes_of ws)))

-- ---- bytes copied over a part of an output

pub part_stores : (bytes : List ℕ) (at k : ℕ) (vs : List ℕ) → k ≡ length vs → at + length vs ≤ length bytes → put_mid at k bytes vs ≡ sets bytes at vs
part_stores bytes at k vs e h =
    put_mid-paste at k bytes vs vs (length vs) refl (sym e) refl
    ∙ ap (λ (r : List ℕ). take at bytes ++ r ++ drop (at + length vs) bytes) (take-length vs)
    ∙ sym (sets-eq vs bytes at h)

-- ---- the four bytes of a word

pub word_stores : (bytes : List ℕ) (place w : ℕ) → sets bytes (4 * place) (word_bytes w) ≡ words_put bytes place (w ∷ [])
unfolding bytes_of flat_map
word_stores bytes place w = ap (λ (r : List ℕ). sets bytes (4 * place) r) (sym (append-nil (word_bytes w)))

pub be_word : (w : ℕ) → w < 2 ^ 32 → to_be_bytes w32 w ≡ word_bytes w
unfolding word_bytes
be_word w h = let first : w / 2 ^ 24 % 256 ≡ w / 2 ^ 24 = omega (arith, h) in rw first refl

-- ---- the eight bytes of two words, which are one number

pub pair_bytes : (n : ℕ) → bytes_of (n / 2 ^ 32 ∷ n % 2 ^ 32 ∷ []) ≡ n / 2 ^ 56 ∷ n / 2 ^ 48 % 256 ∷ n / 2 ^ 40 % 256 ∷ n / 2 ^ 32 % 256 ∷ n / 2 ^ 24 % 256 ∷ n / 2 ^ 16 % 256 ∷ n / 2 ^ 8 % 256 ∷ n % 256 ∷ []
unfolding bytes_of flat_map word_bytes
pair_bytes n = rw (first, second, third, fifth, sixth, seventh, eighth) refl
  where
    first : n / 2 ^ 32 / 2 ^ 24 ≡ n / 2 ^ 56
    first = omega arith

    second : n / 2 ^ 32 / 2 ^ 16 % 256 ≡ n / 2 ^ 48 % 256
    second = omega arith

    third : n / 2 ^ 32 / 2 ^ 8 % 256 ≡ n / 2 ^ 40 % 256
    third = omega arith

    fifth : n % 2 ^ 32 / 2 ^ 24 ≡ n / 2 ^ 24 % 256
    fifth = omega arith

    sixth : n % 2 ^ 32 / 2 ^ 16 % 256 ≡ n / 2 ^ 16 % 256
    sixth = omega arith

    seventh : n % 2 ^ 32 / 2 ^ 8 % 256 ≡ n / 2 ^ 8 % 256
    seventh = omega arith

    eighth : n % 2 ^ 32 % 256 ≡ n % 256
    eighth = omega arith

pub be_pair : (n : ℕ) → n < 2 ^ 64 → to_be_bytes w64 n ≡ bytes_of (n / 2 ^ 32 ∷ n % 2 ^ 32 ∷ [])
be_pair n h = let first : n / 2 ^ 56 % 256 ≡ n / 2 ^ 56 = omega (arith, h) in rw (pair_bytes n, first) refl

-- ---- the counts, and the payoffs

pub counts_more : (bytes counts : List ℕ) (p : ℕ) → p < length counts
    → words_put (words_put bytes 1 (map (word 1) (take p counts))) (1 + p) (word 1 (get_or counts p 0) ∷ []) ≡ words_put bytes 1 (map (word 1) (take (p + 1) counts))
counts_more bytes counts p h =
    let size : length (map (word 1) (take p counts)) ≡ p = length-map (take p counts) (word 1) ∙ length-take-le p counts (omega (arith, h)) in
    put_more bytes 1 (1 + p) (map (word 1) (take p counts)) (word 1 (get_or counts p 0) ∷ []) (omega (arith, size))
    ∙ ap (λ (r : List ℕ). words_put bytes 1 r) (sym (rw (add-one p, take-suc counts p 0 h) (map-append (word 1) (take p counts) (get_or counts p 0 ∷ []))))

pub payoffs_more : (bytes : List ℕ) (start : ℕ) (xs : List Float) (i : ℕ) → i < length xs
    → words_put (words_put bytes start (flat_map payoff_words (take i xs))) (start + 3 * i) (payoff_words (get_or xs i nan)) ≡ words_put bytes start (flat_map payoff_words (take (i + 1) xs))
payoffs_more bytes start xs i h =
    let size : length (flat_map payoff_words (take i xs)) ≡ i * 3 = payoffs_words (take i xs) ∙ ap (λ (n : ℕ). n * 3) (length-take-le i xs (omega (arith, h))) in
    put_more bytes start (start + 3 * i) (flat_map payoff_words (take i xs)) (payoff_words (get_or xs i nan)) (omega (arith, size))
    ∙ ap (λ (r : List ℕ). words_put bytes start r) (sym (rw (add-one i, take-suc xs i nan h) (flat_map_last payoff_words (take i xs) (get_or xs i nan))))

-- ---- the whole file

module _ (counts : List ℕ) (payoffs : List Float) where
  -- the opening word, the counts, the payoffs and the closing word, each put after the last
  pub file_put : (bytes : List ℕ) → length (deposit counts payoffs) ≤ length bytes
      → words_put (words_put (words_put (words_put bytes 0 (word 0 (256 + length counts) ∷ [])) 1 (map (word 1) counts)) (1 + length counts) (flat_map payoff_words payoffs)) (words_before counts payoffs) (word 3 (words_before counts payoffs) ∷ [])
      ≡ over (deposit counts payoffs) bytes
  unfolding deposit closed
  file_put bytes h =
      let o = word 0 (256 + length counts) in
      let cs = map (word 1) counts in
      let ps = flat_map payoff_words payoffs in
      ap (λ (r : List ℕ). words_put (words_put r (1 + length counts) ps) (words_before counts payoffs) (word 3 (words_before counts payoffs) ∷ [])) (put_more bytes 0 1 (o ∷ []) cs refl)
      ∙ ap (λ (r : List ℕ). words_put r (words_before counts payoffs) (word 3 (words_before counts payoffs) ∷ [])) (put_more bytes 0 (1 + length counts) (o ∷ cs) ps (omega (arith, length-map counts (word 1))))
      ∙ put_more bytes 0 (words_before counts payoffs) (body counts payoffs) (word 3 (words_before counts payoffs) ∷ []) (omega (arith, body_length counts payoffs))
      ∙ ap (λ (n : ℕ). words_put bytes 0 (body counts payoffs ++ (word 3 n ∷ []))) (sym (body_length counts payoffs))
      ∙ put_whole bytes (closed (body counts payoffs)) (omega (arith, h, bytes_length (closed (body counts payoffs))))
