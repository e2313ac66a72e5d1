-- Reading what was written gives the table back (`read_back`), and writing what was read gives the bytes back (`write-back`): both are the one
-- layout of words, whose kinds and payloads give each word back. Assumes nothing.
use mathlib.Core.Path.{◌≡◌, refl, sym, ap, ap₂, ◌∙◌, subst}
use mathlib.Core.List.{List}
use mathlib.Core.Option.{none}
use Prim.Native.Nat.{ℕ, zero, suc, ◌+◌, ◌*◌, ◌/◌, ◌%◌, ◌^◌, ◌<◌, ◌≤◌}
use native.Mathlib.Omega.{arith}
use borrow.Author.Tests.{le-ltb, ltb-false}
use lib.Dec.{T, ltb}
use lib.ListN.{length, get_or}
use lib.Seq.{ext_get_or}
use lib.Ieee.{Float, nan, binary64, of_bits, to_bits}
use lib.Ieee.Bits.{of_bits-to_bits, to_bits-lt}
use Rattle.game.specs.Finite.{below}
use Rattle.refusal.specs.Refusal.{Refusal, ◌then◌, when, each}
use Rattle.refusal.specs.Told.{values, unless}
use Rattle.refusal.specs.declared.NormalFormError.TheVariants.{TooManyCells}
use Rattle.refusal.proofs.Refusal.{when_none, then_none, then_last, each_none, none_each}
use Rattle.refusal.proofs.Told.{told_values}
use Rattle.written_lists.specs.Outputs.{short_refusal}
use Rattle.payoff_order.specs.Order.{finite}
use Rattle.payoff_tables.specs.Limits.{max_players, max_cells}
use Rattle.payoff_tables.specs.Table.{cells}
use Rattle.payoff_tables.specs.Meaning.{Doubles, Table}
use Rattle.payoff_tables.specs.Checks.{count_refusal, counts_refusal}
use Rattle.payoff_tables.proofs.Checks.{count_fits, counts_law}
use Rattle.file_words.specs.Words.{word, payload_at, words_of, bytes_of, closed, Bytes}
use Rattle.file_words.specs.Faults.{length_fault, due_fault, closing_fault}
use Rattle.file_words.proofs.Words.{payload_lt, words_back, bytes_back}
use Rattle.file_words.proofs.Faults.{length_law, due_word, word_due, closing_law}
use Rattle.deposit_format.specs.Deposit.{payoff_words, deposit, players_in, counts_in, cell_place, payoff_in, payoffs_in, opening_fault, count_fault, cell_fault, read_refusal, table_of}
use Rattle.deposit_format.specs.Meaning.{words_before, Layout}
use Rattle.deposit_format.proofs.Bits.{bits_there, bits_parts, top_part, next_part, last_part}
use Rattle.deposit_format.proofs.Faults.{players_is, opening_law, count_fault_law, Cell, cell_law, payoff_bits}
use Rattle.deposit_format.proofs.Tables.{counts_length, counts_at, payoffs_length, payoffs_at, counts_left}
use Rattle.deposit_format.proofs.Reader.{opened, counted, rest_from, rest, stages, stages_none}
use Rattle.deposit_format.proofs.Writer.{body, deposit_length}
use Rattle.deposit_format.proofs.Places.{layout, layout_once}

-- ---- reading a table's words

module _ (counts : List ℕ) (payoffs : List Float) (ws : List ℕ) (t : Table counts payoffs) (d : Doubles payoffs) (w : Layout counts payoffs ws) where
  few : (0 < length counts) × (length counts ≤ max_players) × (length payoffs ≤ max_cells)
  few = (t.shape.some, t.shape.few, omega (arith, t.full, t.shape.room))

  open_word : (due_fault ws 0 0 ≡ none) × (payload_at ws 0 ≡ 256 + length counts)
  open_word = word_due ws 0 0 (256 + length counts) (omega (arith, w.number)) (omega (arith, few)) w.opening

  pub players_same : players_in ws ≡ length counts
  players_same =
      let r : (256 + length counts) % 256 ≡ length counts = omega (arith, few) in sym (players_is ws) ∙ ap (λ (n : ℕ). n % 256) open_word.1 ∙ r

  opening_none : opening_fault ws ≡ none
  opening_none =
      (opening_law ws).1
      (open_word.0, open_word.1 ∙ ap (λ (n : ℕ). 256 + n) (sym players_same), omega (arith, players_same, few), omega (arith, players_same, few))

  count_word : (p : ℕ) → p < length counts → (due_fault ws (1 + p) 1 ≡ none) × (payload_at ws (1 + p) ≡ get_or counts p 0)
  count_word p h =
      word_due ws (1 + p) 1 (get_or counts p 0) (omega (arith, h, w.number)) (omega (arith, t.shape.high p h)) (w.count p h)

  pub counts_same : counts_in ws ≡ counts
  counts_same =
      ext_get_or 0 (counts_in ws) counts (counts_length ws ∙ players_same)
      (λ p h.
      let l : p < length counts = omega (arith, h, counts_length ws, players_same) in counts_at ws p (omega (arith, l, players_same)) ∙ (count_word p l).1)

  count_none : (p : ℕ) → p < length counts → count_fault ws p ≡ none
  count_none p h =
      (count_fault_law ws p).1
      ((count_word p h).0, ap count_refusal (count_word p h).1 ∙ count_fits (get_or counts p 0) (t.shape.low p h) (t.shape.high p h))

  cells_same : cells (counts_in ws) ≡ length payoffs
  cells_same = ap cells counts_same ∙ sym t.full

  module _ (i : ℕ) (h : i < length payoffs) where
    abbrev at : ℕ
    at = 1 + length counts + 3 * i

    abbrev x : Float
    x = get_or payoffs i nan

    abbrev b : ℕ
    b = to_bits binary64 x

    small : b < 2 ^ 64
    small = to_bits-lt binary64 x (d i)

    first : (due_fault ws at 2 ≡ none) × (payload_at ws at ≡ b / 2 ^ 60)
    unfolding payoff_words
    first =
        let e : at ≡ at + 0 = omega arith in
        word_due ws at 2 (b / 2 ^ 60) (omega (arith, h, w.number)) (omega (arith, small))
        (ap (λ (k : ℕ). get_or ws k 0) e ∙ w.cell i 0 h (omega arith))

    second : (due_fault ws (at + 1) 2 ≡ none) × (payload_at ws (at + 1) ≡ b / 2 ^ 30 % 2 ^ 30)
    unfolding payoff_words
    second = word_due ws (at + 1) 2 (b / 2 ^ 30 % 2 ^ 30) (omega (arith, h, w.number)) (omega arith) (w.cell i 1 h (omega arith))

    third : (due_fault ws (at + 2) 2 ≡ none) × (payload_at ws (at + 2) ≡ b % 2 ^ 30)
    unfolding payoff_words
    third = word_due ws (at + 2) 2 (b % 2 ^ 30) (omega (arith, h, w.number)) (omega arith) (w.cell i 2 h (omega arith))

    payoff_same : payoff_in ws at ≡ x
    payoff_same =
        payoff_bits ws at (b / 2 ^ 60) (b / 2 ^ 30 % 2 ^ 30) (b % 2 ^ 30) (sym first.1) (sym second.1) (sym third.1)
        ∙ ap (of_bits binary64) (bits_parts b)
        ∙ of_bits-to_bits binary64 x (d i)

    cell_none : cell_fault ws at ≡ none
    cell_none =
        (cell_law ws at).1
        (record {
          first = first.0;
          small = rw first.1 (omega (arith, small));
          second = second.0;
          third = third.0;
          held = subst (λ (y : Float). T (finite y)) (sym payoff_same) (t.finites i h);
        })

  place_same : (i : ℕ) → cell_place ws i ≡ 1 + length counts + 3 * i
  place_same i = ap (λ (p : ℕ). 1 + p + 3 * i) players_same

  pub payoffs_same : payoffs_in ws ≡ payoffs
  payoffs_same =
      ext_get_or nan (payoffs_in ws) payoffs (payoffs_length ws ∙ cells_same)
      (λ i h.
      let l : i < length payoffs = omega (arith, h, payoffs_length ws, cells_same) in
      payoffs_at ws i (omega (arith, l, cells_same)) ∙ ap (payoff_in ws) (place_same i) ∙ payoff_same i l)

  closing_none : closing_fault ws (words_before counts payoffs) ≡ none
  closing_none = (closing_law ws (words_before counts payoffs) (omega (arith, few))).1 (w.number, w.closing)

module _ (counts : List ℕ) (payoffs : List Float) (t : Table counts payoffs) (d : Doubles payoffs) where
  abbrev file : List ℕ
  file = deposit counts payoffs

  abbrev file_words : List ℕ
  file_words = words_of file

  file_layout : Layout counts payoffs file_words
  unfolding deposit
  file_layout = subst (Layout counts payoffs) (sym (words_back (closed (body counts payoffs)))) (layout counts payoffs)

  players_back : players_in file_words ≡ length counts
  players_back = players_same counts payoffs file_words t d file_layout

  cells_back : cells (counts_in file_words) ≡ length payoffs
  cells_back = cells_same counts payoffs file_words t d file_layout

  opened_none : opened file ≡ none
  opened_none =
      let even : length file % 4 ≡ 0 = omega (arith, deposit_length counts payoffs) in
      (then_none (length_fault file) (opening_fault file_words)).1 ((length_law file).1 even, opening_none counts payoffs file_words t d file_layout)

  counted_none : counted file ≡ none
  counted_none =
      let many = ltb max_cells (cells (counts_in file_words)) in
      (then_none (each (count_fault file_words) (below (players_in file_words))) (when many TooManyCells)).1 (
        each_none (players_in file_words) (count_fault file_words)
            (λ p h. count_none counts payoffs file_words t d file_layout p (omega (arith, h, players_back))),
        (when_none many TooManyCells).1 (le-ltb max_cells (cells (counts_in file_words)) (omega (arith, cells_back, t.full, t.shape.room))),
      )

  rest_none : rest file ≡ none
  rest_none =
      ap (λ (p : ℕ). rest_from file_words p (cells (counts_in file_words))) players_back
      ∙ ap (rest_from file_words (length counts)) cells_back
      ∙ (then_none (each (λ i. cell_fault file_words (1 + length counts + 3 * i)) (below (length payoffs))) (closing_fault file_words (words_before counts payoffs))).1 (
        each_none (length payoffs) (λ i. cell_fault file_words (1 + length counts + 3 * i)) (cell_none counts payoffs file_words t d file_layout),
        closing_none counts payoffs file_words t d file_layout,
      )

  -- reading what was written gives the table back, counts and payoffs bit for bit; or 13 where an output is short
  pub read_back : (countsRoom payoffsRoom : ℕ)
      → table_of file countsRoom payoffsRoom ≡ unless (short_refusal (length counts) countsRoom then short_refusal (length payoffs) payoffsRoom) (counts, payoffs)
  unfolding table_of
  read_back countsRoom payoffsRoom =
      ap (λ (r : Refusal). unless r (counts_in file_words, payoffs_in file_words)) refusal
      ∙ ap₂ (λ (cs : List ℕ) (ps : List Float). unless short (cs, ps)) (counts_same counts payoffs file_words t d file_layout) (payoffs_same counts payoffs file_words t d file_layout)
    where
      short : Refusal
      short = short_refusal (length counts) countsRoom then short_refusal (length payoffs) payoffsRoom

      refusal : read_refusal file countsRoom payoffsRoom ≡ short
      refusal = stages file countsRoom payoffsRoom ∙ rw (opened_none, counted_none, rest_none, players_back, cells_back) (ap (λ (r : Refusal). short_refusal (length counts) countsRoom then r) (then_last (short_refusal (length payoffs) payoffsRoom)))

-- ---- writing a file's table

module _ (bytes : List ℕ) (B : Bytes bytes) (countsRoom payoffsRoom : ℕ) (accepted : read_refusal bytes countsRoom payoffsRoom ≡ none) where
  abbrev ws : List ℕ
  ws = words_of bytes

  none_met : (opened bytes ≡ none) × (counted bytes ≡ none) × (players_in ws ≤ countsRoom) × (cells (counts_in ws) ≤ payoffsRoom) × (rest bytes ≡ none)
  none_met = stages_none bytes countsRoom payoffsRoom accepted

  opening_read : (due_fault ws 0 0 ≡ none) × (payload_at ws 0 ≡ 256 + players_in ws) × (0 < players_in ws) × (players_in ws ≤ max_players)
  opening_read = (opening_law ws).0 ((then_none (length_fault bytes) (opening_fault ws)).0 none_met.0).1

  even : length bytes % 4 ≡ 0
  even = (length_law bytes).0 ((then_none (length_fault bytes) (opening_fault ws)).0 none_met.0).0

  counts_read : (each (count_fault ws) (below (players_in ws)) ≡ none) × (when (ltb max_cells (cells (counts_in ws))) TooManyCells ≡ none)
  counts_read = (then_none (each (count_fault ws) (below (players_in ws))) (when (ltb max_cells (cells (counts_in ws))) TooManyCells)).0 none_met.1

  count_read : (p : ℕ) → p < players_in ws → (due_fault ws (1 + p) 1 ≡ none) × (count_refusal (payload_at ws (1 + p)) ≡ none)
  count_read p h = (count_fault_law ws p).0 (none_each (players_in ws) (count_fault ws) counts_read.0 p h)

  rest_read : (each (λ i. cell_fault ws (cell_place ws i)) (below (cells (counts_in ws))) ≡ none) × (closing_fault ws (cell_place ws (cells (counts_in ws))) ≡ none)
  rest_read =
      (then_none (each (λ i. cell_fault ws (cell_place ws i)) (below (cells (counts_in ws)))) (closing_fault ws (cell_place ws (cells (counts_in ws))))).0
      none_met.4

  cell_read : (i : ℕ) → i < cells (counts_in ws) → Cell ws (cell_place ws i)
  cell_read i h = (cell_law ws (cell_place ws i)).0 (none_each (cells (counts_in ws)) (λ i. cell_fault ws (cell_place ws i)) rest_read.0 i h)

  many : cells (counts_in ws) ≤ max_cells
  many = ltb-false max_cells (cells (counts_in ws)) ((when_none (ltb max_cells (cells (counts_in ws))) TooManyCells).0 counts_read.1)

  closing_read : (length ws ≡ cell_place ws (cells (counts_in ws)) + 1) × (get_or ws (cell_place ws (cells (counts_in ws))) 0 ≡ word 3 (cell_place ws (cells (counts_in ws))))
  closing_read = (closing_law ws (cell_place ws (cells (counts_in ws))) (omega (arith, many, opening_read.3))).0 rest_read.1

  -- it is a table
  pub table_read : Table (counts_in ws) (payoffs_in ws)
  table_read =
      let shape : counts_refusal (counts_in ws) ≡ none =
      counts_left (counts_in ws) (omega (arith, counts_length ws, opening_read.2)) (omega (arith, counts_length ws, opening_read.3))
      (λ p h. let l : p < players_in ws = omega (arith, h, counts_length ws) in ap count_refusal (counts_at ws p l) ∙ (count_read p l).1)
      ∙ counts_read.1 in record {
        shape = (counts_law (counts_in ws)).0 shape;
        full = payoffs_length ws;
        finites = λ i h.
            let l : i < cells (counts_in ws) = omega (arith, h, payoffs_length ws) in
            subst (λ (x : Float). T (finite x)) (sym (payoffs_at ws i l)) (cell_read i l).held;
      }

  -- the bits of the i-th cell's payoff are its three payloads
  module _ (i : ℕ) (h : i < cells (counts_in ws)) where
    abbrev place : ℕ
    place = cell_place ws i

    abbrev top : ℕ
    top = payload_at ws place

    abbrev next : ℕ
    next = payload_at ws (place + 1)

    abbrev last : ℕ
    last = payload_at ws (place + 2)

    bits_read : to_bits binary64 (get_or (payoffs_in ws) i nan) ≡ top * 2 ^ 60 + next * 2 ^ 30 + last
    bits_read =
        let e = payoff_bits ws place top next last refl refl refl in
        let l : top * 2 ^ 60 + next * 2 ^ 30 + last < 2 ^ 64 =
        omega (arith, (cell_read i h).small, payload_lt (get_or ws (place + 1) 0), payload_lt (get_or ws (place + 2) 0)) in
        ap (to_bits binary64) (payoffs_at ws i h ∙ e)
        ∙ bits_there (top * 2 ^ 60 + next * 2 ^ 30 + last) l (subst (λ (x : Float). T (finite x)) e (cell_read i h).held)

    words_read : (j : ℕ) → j < 3 → get_or ws (place + j) 0 ≡ get_or (payoff_words (get_or (payoffs_in ws) i nan)) j 0
    unfolding payoff_words
    words_read zero l =
        let e : place + 0 ≡ place = omega arith in
        ap (λ (k : ℕ). get_or ws k 0) e
        ∙ due_word ws place 2 (cell_read i h).first
        ∙ ap (word 2) (sym (ap (λ (n : ℕ). n / 2 ^ 60) bits_read ∙ top_part top next last (payload_lt (get_or ws (place + 1) 0)) (payload_lt (get_or ws (place + 2) 0))))
    words_read (suc zero) l =
        due_word ws (place + 1) 2 (cell_read i h).second
        ∙ ap (word 2) (sym (ap (λ (n : ℕ). n / 2 ^ 30 % 2 ^ 30) bits_read ∙ next_part top next last (payload_lt (get_or ws (place + 1) 0)) (payload_lt (get_or ws (place + 2) 0))))
    words_read (suc (suc zero)) l =
        due_word ws (place + 2) 2 (cell_read i h).third
        ∙ ap (word 2) (sym (ap (λ (n : ℕ). n % 2 ^ 30) bits_read ∙ last_part top next last (payload_lt (get_or ws (place + 1) 0)) (payload_lt (get_or ws (place + 2) 0))))
    words_read (suc (suc (suc j))) l = absurd (omega (arith, l))

  -- the file's words have the layout of its table
  layout_read : Layout (counts_in ws) (payoffs_in ws) ws
  layout_read =
      let p = counts_length ws in
      let n = payoffs_length ws in
      let last : words_before (counts_in ws) (payoffs_in ws) ≡ cell_place ws (cells (counts_in ws)) = omega (arith, p, n) in record {
        number = omega (arith, last, closing_read.0);
        opening = due_word ws 0 0 opening_read.0 ∙ ap (word 0) (opening_read.1 ∙ ap (λ (m : ℕ). 256 + m) (sym p));
        count = λ q h.
            let l : q < players_in ws = omega (arith, h, p) in due_word ws (1 + q) 1 (count_read q l).0 ∙ ap (word 1) (sym (counts_at ws q l));
        cell = λ i j h k.
            let l : i < cells (counts_in ws) = omega (arith, h, n) in
            ap (λ (m : ℕ). get_or ws (1 + m + 3 * i + j) 0) p ∙ words_read i l j k;
        closing = ap (λ (m : ℕ). get_or ws m 0) last ∙ closing_read.1 ∙ ap (word 3) (sym last);
      }

  -- the file of its table is the file: writing what was read gives the bytes back
  pub write_back : deposit (counts_in ws) (payoffs_in ws) ≡ bytes
  unfolding deposit
  write_back =
      ap bytes_of (layout_once (counts_in ws) (payoffs_in ws) (layout (counts_in ws) (payoffs_in ws)) layout_read) ∙ bytes_back bytes B even

-- so no two files hold one table
pub one_file : (bytes other : List ℕ) (a b c d : ℕ) → Bytes bytes → Bytes other → (table : List ℕ × List Float)
    → table_of bytes a b ≡ values table → table_of other c d ≡ values table → bytes ≡ other
unfolding table_of
one_file bytes other a b c d B O table h k =
    let (r, e) = told_values (read_refusal bytes a b) (counts_in (words_of bytes), payoffs_in (words_of bytes)) table (sym h) in
    let (s, f) = told_values (read_refusal other c d) (counts_in (words_of other), payoffs_in (words_of other)) table (sym k) in
    sym (write_back bytes B a b r) ∙ ap (λ (t : List ℕ × List Float). deposit t.0 t.1) (sym e ∙ f) ∙ write_back other O c d s
