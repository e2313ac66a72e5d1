-- A table's file has its layout (`layout`), and no other list of words has it (`layout-once`). Assumes nothing.
use mathlib.Core.Path.{◌≡◌, sym, ap, ◌∙◌}
use mathlib.Core.List.{List, ◌++◌, map, flat_map}
use mathlib.Core.Logic.{⊎_elim}
use Prim.Native.Nat.{ℕ, suc, ◌+◌, ◌*◌, ◌-◌, ◌/◌, ◌%◌, ◌<◌, ◌≤◌}
use native.Mathlib.Omega.{arith}
use lib.ListN.{length, get_or, length-map, get_or-append}
use lib.Seq.{ext_get_or, get_or-append-add}
use lib.Ieee.{Float, nan}
use Rattle.game.proofs.Finite.{le_or_lt}
use Rattle.payoff_tables.proofs.Offsets.{get_or_map, get_or_flat_map}
use Rattle.file_words.specs.Words.{word, closed}
use Rattle.file_words.proofs.Words.{closed_length, closed_before, closed_last}
use Rattle.deposit_format.specs.Deposit.{payoff_words}
use Rattle.deposit_format.specs.Meaning.{words_before, Layout}
use Rattle.deposit_format.proofs.Writer.{words_three, body, body_length}

module _ (counts : List ℕ) (payoffs : List Float) where
  abbrev cs : List ℕ
  cs = map (word 1) counts

  abbrev ps : List ℕ
  ps = flat_map payoff_words payoffs

  -- past the opening word
  past : (i j : ℕ) → i ≡ suc j → get_or (body counts payoffs) i 0 ≡ get_or (cs ++ ps) j 0
  past i j e = ap (λ (k : ℕ). get_or (body counts payoffs) k 0) e

  body_count : (p : ℕ) → p < length counts → get_or (body counts payoffs) (1 + p) 0 ≡ word 1 (get_or counts p 0)
  body_count p h =
      past (1 + p) p (omega arith)
      ∙ get_or-append cs ps 0 p (omega (arith, h, length-map counts (word 1)))
      ∙ get_or_map (word 1) counts p 0 0 h

  body_cell : (i j : ℕ) → i < length payoffs → j < 3
      → get_or (body counts payoffs) (1 + length counts + 3 * i + j) 0 ≡ get_or (payoff_words (get_or payoffs i nan)) j 0
  body_cell i j h k =
      past (1 + length counts + 3 * i + j) (length cs + (i * 3 + j)) (omega (arith, length-map counts (word 1)))
      ∙ get_or-append-add cs ps (i * 3 + j) 0
      ∙ get_or_flat_map payoff_words 3 words_three payoffs i j nan 0 h k

  pub layout : Layout counts payoffs (closed (body counts payoffs))
  layout =
      let n = body_length counts payoffs in record {
        number = omega (arith, closed_length (body counts payoffs), n);
        opening = closed_before (body counts payoffs) 0 (omega (arith, n));
        count = λ p h. closed_before (body counts payoffs) (1 + p) (omega (arith, h, n)) ∙ body_count p h;
        cell = λ i j h k. closed_before (body counts payoffs) (1 + length counts + 3 * i + j) (omega (arith, h, k, n)) ∙ body_cell i j h k;
        closing =
            ap (λ (k : ℕ). get_or (closed (body counts payoffs)) k 0) (sym n) ∙ closed_last (body counts payoffs) ∙ ap (word 3) n;
      }

  -- two lists of words with the layout have the same word at every place
  module _ {us ws : List ℕ} (u : Layout counts payoffs us) (w : Layout counts payoffs ws) where
    of_count : (i : ℕ) → 0 < i → i ≤ length counts → get_or us i 0 ≡ get_or ws i 0
    of_count i h k =
        let e : 1 + (i - 1) ≡ i = omega (arith, h) in
        let l : i - 1 < length counts = omega (arith, h, k) in
        ap (λ (m : ℕ). get_or us m 0) (sym e) ∙ u.count (i - 1) l ∙ sym (w.count (i - 1) l) ∙ ap (λ (m : ℕ). get_or ws m 0) e

    of_cell : (i : ℕ) → length counts < i → i < words_before counts payoffs → get_or us i 0 ≡ get_or ws i 0
    of_cell i h k =
        let m = i - 1 - length counts in
        let e : 1 + length counts + 3 * (m / 3) + m % 3 ≡ i = omega (arith, h) in
        let l : m / 3 < length payoffs = omega (arith, h, k) in
        let r : m % 3 < 3 = omega arith in
        ap (λ (a : ℕ). get_or us a 0) (sym e) ∙ u.cell (m / 3) (m % 3) l r ∙ sym (w.cell (m / 3) (m % 3) l r) ∙ ap (λ (a : ℕ). get_or ws a 0) e

    of_last : (i : ℕ) → i ≡ words_before counts payoffs → get_or us i 0 ≡ get_or ws i 0
    of_last i e = ap (λ (m : ℕ). get_or us m 0) e ∙ u.closing ∙ sym w.closing ∙ ap (λ (m : ℕ). get_or ws m 0) (sym e)

    same_word : (i : ℕ) → i < length us → get_or us i 0 ≡ get_or ws i 0
    same_word i h =
        ⊎_elim
        (λ (z : i ≤ 0). let e : i ≡ 0 = omega (arith, z) in ap (λ (m : ℕ). get_or us m 0) e ∙ u.opening ∙ sym w.opening ∙ ap (λ (m : ℕ). get_or ws m 0) (sym e))
        (λ (z : 0 < i).
        ⊎_elim (of_count i z)
        (λ (y : length counts < i).
        ⊎_elim (λ (x : words_before counts payoffs ≤ i). of_last i (omega (arith, x, h, u.number))) (of_cell i y) (le_or_lt (words_before counts payoffs) i))
        (le_or_lt i (length counts)))
        (le_or_lt i 0)

    pub layout_once : us ≡ ws
    layout_once = ext_get_or 0 us ws (u.number ∙ sym w.number) same_word
