-- The reader, with outputs that have room for a file within the report's limits, refuses as the
-- report does, but by 13 where the report gives 5 for the cells. None of its other faults is 13.
-- Assumes nothing.
use mathlib.Core.Path.{◌≡◌, refl, sym, ap, ap₂, ◌∙◌}
use mathlib.Core.Bool.{Bool, true, false, cond}
use mathlib.Core.List.{List, [], ◌∷◌}
use mathlib.Core.Logic.{⊎_elim}
use mathlib.Core.Option.{none, some}
use Prim.Native.Nat.{ℕ, ◌≤◌, ◌<◌}
use native.Mathlib.Omega.{arith}
use borrow.Author.Tests.{le-ltb, lt-ltb}
use lib.Dec.{ltb, eqb}
use lib.ListN.{length}
use lib.Ieee.{Float}
use Rattle.game.specs.Finite.{below}
use Rattle.game.proofs.Finite.{le_or_lt}
use Rattle.refusal.specs.Refusal.{Refusal, number_of, when, ◌then◌, each}
use Rattle.refusal.specs.declared.NormalFormError.{NormalFormError}
use Rattle.refusal.specs.declared.NormalFormError.TheVariants.{TooManyCells, OutputTooShort}
use Rattle.std.specs.Prelude.{Result, Ok, Err, IsErrAnd, MatchResult}
use Rattle.refusal.specs.Told.{Told, values, refused, unless, told, told_of}
use Rattle.refusal.proofs.Refusal.{some_none, then_none, then_assoc}
use Rattle.refusal.proofs.Told.{told_of_lem, told_values}
use Rattle.written_lists.specs.Outputs.{written_of, over}
use Rattle.payoff_tables.specs.Limits.{max_players, max_cells}
use Rattle.payoff_tables.specs.Table.{cells}
use Rattle.payoff_tables.specs.Checks.{count_refusal}
use Rattle.payoff_tables.specs.Meaning.{Table, Doubles}
use Rattle.file_words.specs.Words.{Bytes, words_of}
use Rattle.file_words.specs.Faults.{length_fault, due_fault, closing_fault}
use Rattle.deposit_format.specs.Deposit.{deposit, players_in, counts_in, payoffs_in, cell_place, opening_fault, count_fault, cell_fault, head_fault, rest_fault, words_fault, read_refusal, table_of}
use Rattle.deposit_format.specs.Answers.{read_answer, read_counts, read_payoffs}
use Rattle.deposit_format.proofs.Faults.{opening_law}
use Rattle.deposit_format.proofs.Tables.{payoffs_length}
use Rattle.deposit_format.proofs.Reader.{stages_none}
use Rattle.deposit_format.proofs.Writer.{deposit_length}
use Rattle.deposit_format.proofs.Back.{read_back, table_read}
use Rattle.report_input.specs.Input.{max_report_cells, max_file_bytes, input_refusal, five, input_table}

abbrev pub fives : Refusal → Refusal
fives none = none
fives (some e) = some (five e)

-- ---- a refusal that is not 13 stays

fives_when : (b : Bool) (e : NormalFormError) → fives (when b e) ≡ when b (five e)
fives_when true e = refl
fives_when false e = refl

fives_then : (a b : Refusal) → fives (a then b) ≡ (fives a then fives b)
fives_then none b = refl
fives_then (some e) b = refl

fives_each : (f : ℕ → Refusal) → ((p : ℕ) → fives (f p) ≡ f p) → (ps : List ℕ) → fives (each f ps) ≡ each f ps
fives_each f h [] = refl
fives_each f h (p ∷ ps) = fives_then (f p) (each f ps) ∙ ap₂ (λ (r s : Refusal). r then s) (h p) (fives_each f h ps)

fives_length : (bytes : List ℕ) → fives (length_fault bytes) ≡ length_fault bytes
unfolding length_fault
fives_length bytes = simp (fives_when) refl

module _ (ws : List ℕ) where
  fives_due : (i kind : ℕ) → fives (due_fault ws i kind) ≡ due_fault ws i kind
  unfolding due_fault
  fives_due i kind = simp (fives_then, fives_when) refl

  fives_opening : fives (opening_fault ws) ≡ opening_fault ws
  unfolding opening_fault
  fives_opening = simp (fives_then, fives_when, fives_due) refl

  fives_count : (p : ℕ) → fives (count_fault ws p) ≡ count_fault ws p
  unfolding count_fault count_refusal
  fives_count p = simp (fives_then, fives_when, fives_due) refl

  fives_cell : (at : ℕ) → fives (cell_fault ws at) ≡ cell_fault ws at
  unfolding cell_fault
  fives_cell at = simp (fives_then, fives_when, fives_due) refl

  fives_closing : (at : ℕ) → fives (closing_fault ws at) ≡ closing_fault ws at
  unfolding closing_fault
  fives_closing at = simp (fives_then, fives_when, fives_due) refl

  -- the faults before the limit of cells
  abbrev before : Refusal
  before = opening_fault ws then each (count_fault ws) (below (players_in ws))

  fives_before : fives before ≡ before
  fives_before =
      fives_then (opening_fault ws) (each (count_fault ws) (below (players_in ws)))
      ∙ ap₂ (λ (r s : Refusal). r then s) fives_opening (fives_each (count_fault ws) fives_count (below (players_in ws)))

  head_is : (limit : ℕ) → head_fault ws limit ≡ (before then when (ltb limit (cells (counts_in ws))) TooManyCells)
  unfolding head_fault
  head_is limit = sym (then_assoc (opening_fault ws) (each (count_fault ws) (below (players_in ws))) (when (ltb limit (cells (counts_in ws))) TooManyCells))

  fives_head : (limit : ℕ) → fives (head_fault ws limit) ≡ head_fault ws limit
  fives_head limit =
      let many : Refusal = when (ltb limit (cells (counts_in ws))) TooManyCells in
      rw (head_is limit) (fives_then before many ∙ ap₂ (λ (r s : Refusal). r then s) fives_before (fives_when (ltb limit (cells (counts_in ws))) TooManyCells))

  fives_rest : fives (rest_fault ws) ≡ rest_fault ws
  unfolding rest_fault
  fives_rest =
      let n = cells (counts_in ws) in
      let f : ℕ → Refusal = λ i. cell_fault ws (cell_place ws i) in
      fives_then (each f (below n)) (closing_fault ws (cell_place ws n))
      ∙ ap₂ (λ (r s : Refusal). r then s) (fives_each f (λ i. fives_cell (cell_place ws i)) (below n)) (fives_closing (cell_place ws n))

  few : before ≡ none → players_in ws ≤ max_players
  few h = ((opening_law ws).0 ((then_none (opening_fault ws) (each (count_fault ws) (below (players_in ws)))).0 h).0).3

-- ---- 13 of the payoffs' output is 5

module _ (n p : ℕ) (rest : Refusal) where
  abbrev reads : Refusal → Refusal
  reads a =
      (a then when (ltb max_cells n) TooManyCells)
      then fives (when (ltb max_players p) OutputTooShort)
      then fives (when (ltb max_report_cells n) OutputTooShort)
      then rest

  abbrev reports : Refusal → Refusal
  reports a = (a then when (ltb max_report_cells n) TooManyCells) then rest

  over_both : max_cells < n → reads none ≡ reports none
  over_both h = rw (lt-ltb max_cells n h, lt-ltb max_report_cells n (omega (arith, h))) refl

  over_one : p ≤ max_players → n ≤ max_cells → max_report_cells < n → reads none ≡ reports none
  over_one k l h = rw (le-ltb max_players p k, le-ltb max_cells n l, lt-ltb max_report_cells n h) refl

  within : p ≤ max_players → n ≤ max_report_cells → reads none ≡ reports none
  within k h = rw (le-ltb max_players p k, le-ltb max_cells n (omega (arith, h)), le-ltb max_report_cells n h) refl

  same : (a : Refusal) → (a ≡ none → p ≤ max_players) → reads a ≡ reports a
  same (some e) k = refl
  same none k =
      ⊎_elim (λ h. within (k refl) h)
      (λ h. ⊎_elim (λ l. over_one (k refl) l h) (λ l. over_both l) (le_or_lt n max_cells))
      (le_or_lt n max_report_cells)

module _ (bytes : List ℕ) where
  abbrev ws : List ℕ
  ws = words_of bytes

  read_is :
      fives (read_refusal bytes max_players max_report_cells)
      ≡ (length_fault bytes then reads (cells (counts_in ws)) (players_in ws) (rest_fault ws) (before ws))
  unfolding read_refusal words_fault
  read_is =
      let short : Refusal = fives (when (ltb max_players (players_in ws)) OutputTooShort) then fives (when (ltb max_report_cells (cells (counts_in ws))) OutputTooShort) then rest_fault ws in
      simp (fives_then, fives_length, fives_head, fives_rest) refl
      ∙ ap (λ (r : Refusal). length_fault bytes then r then short) (head_is ws max_cells)

  pub input_read : length bytes ≤ max_file_bytes → input_refusal bytes ≡ fives (read_refusal bytes max_players max_report_cells)
  unfolding input_refusal
  input_read h =
      ap (λ (b : Bool). when b TooManyCells then length_fault bytes then head_fault ws max_report_cells then rest_fault ws) (le-ltb max_file_bytes (length bytes) h)
      ∙ ap (λ (r : Refusal). length_fault bytes then r then rest_fault ws) (head_is ws max_report_cells)
      ∙ ap (λ (r : Refusal). length_fault bytes then r) (sym (same (cells (counts_in ws)) (players_in ws) (rest_fault ws) (before ws) (few ws)))
      ∙ sym read_is

  pub input_over : max_file_bytes < length bytes → input_refusal bytes ≡ some TooManyCells
  unfolding input_refusal
  input_over h =
      ap (λ (b : Bool). when b TooManyCells then length_fault bytes then head_fault ws max_report_cells then rest_fault ws) (lt-ltb max_file_bytes (length bytes) h)

-- ---- an accepted file

fives_none : (r : Refusal) → fives r ≡ none → r ≡ none
fives_none none h = refl
fives_none (some e) h = absurd (some_none (five e) h)

-- it has a table of no more cells than the report takes
pub input_accepted : (bytes : List ℕ) → Bytes bytes → input_refusal bytes ≡ none
    → let ws = words_of bytes in Table (counts_in ws) (payoffs_in ws) × (length (payoffs_in ws) ≤ max_report_cells)
input_accepted bytes B h = ⊎_elim go (λ (l : max_file_bytes < length bytes). absurd (some_none TooManyCells (sym (input_over bytes l) ∙ h))) (le_or_lt (length bytes) max_file_bytes)
  where
    go : length bytes ≤ max_file_bytes → Table (counts_in (words_of bytes)) (payoffs_in (words_of bytes)) × (length (payoffs_in (words_of bytes)) ≤ max_report_cells)
    go l =
        let n = fives_none (read_refusal bytes max_players max_report_cells) (sym (input_read bytes l) ∙ h) in (
          table_read bytes B max_players max_report_cells n,
          omega (arith, payoffs_length (words_of bytes), (stages_none bytes max_players max_report_cells n).3),
        )

-- the file of every table of no more cells is accepted, and is that table's: the limit of bytes
-- refuses none
module _ (counts : List ℕ) (payoffs : List Float) (t : Table counts payoffs) (d : Doubles payoffs) (few : length payoffs ≤ max_report_cells) where
  abbrev file : List ℕ
  file = deposit counts payoffs

  table_back : table_of file max_players max_report_cells ≡ values (counts, payoffs)
  table_back =
      read_back counts payoffs t d max_players max_report_cells
      ∙ ap₂ (λ (a b : Bool). unless (when a OutputTooShort then when b OutputTooShort) (counts, payoffs)) (le-ltb max_players (length counts) t.shape.few) (le-ltb max_report_cells (length payoffs) few)

  pub input_back : input_table file ≡ values (counts, payoffs)
  unfolding input_table table_of
  input_back =
      let short : length file ≤ max_file_bytes = omega (arith, deposit_length counts payoffs, t.shape.few, few) in
      let e = told_values (read_refusal file max_players max_report_cells) (counts_in (words_of file), payoffs_in (words_of file)) (counts, payoffs) (sym table_back) in
      ap (λ (r : Refusal). unless r (counts_in (words_of file), payoffs_in (words_of file))) (input_read file short ∙ ap fives e.0)
      ∙ ap (λ (x : List ℕ × List Float). values x) (sym e.1)

-- ---- what is told and written

-- 5 told in place of 13
abbrev pub told_five : Told ℕ → Told ℕ
told_five (values n) = values n
told_five (refused n) = refused (cond (eqb n 13) 5 n)

number_five : (b : Bool) (e : NormalFormError) → number_of (cond b TooManyCells e) ≡ cond b 5 (number_of e)
number_five true e = refl
number_five false e = refl

-- what is told of an answer whose refusal was replaced
pub told_reported : (r s : Result ℕ NormalFormError) → MatchResult r (λ n. s ≡ Ok n) (λ e. IsErrAnd s (λ d. d ≡ five e)) → told s ≡ told_five (told r)
told_reported (Ok n) s h = ap told h
told_reported (Err e) (Ok n) h = absurd h
told_reported (Err e) (Err d) h = ap (λ (x : NormalFormError). refused (number_of x)) h ∙ ap (λ (m : ℕ). refused m) (number_five (eqb (number_of e) 13) e)

told_five_lem : (r : Refusal) (n : ℕ) → unless (fives r) n ≡ told_five (unless r n)
told_five_lem none n = refl
told_five_lem (some e) n = ap (λ (m : ℕ). refused m) (number_five (eqb (number_of e) 13) e)

written_five : {A B : Type 0} (f : A → List B) (r : Refusal) (v : A) → written_of f (unless r v) ≡ written_of f (unless (fives r) v)
written_five f none v = refl
written_five f (some e) v = refl

module _ (bytes counts : List ℕ) (payoffs : List Float) where
  -- beyond the limit of bytes
  pub over_told : max_file_bytes < length bytes
      → (refused 5 ≡ told_of (λ t. length t.0) (input_table bytes))
      × ((counts ≡ over (written_of (λ t. t.0) (input_table bytes)) counts) × (payoffs ≡ over (written_of (λ t. t.1) (input_table bytes)) payoffs))
  unfolding input_table
  over_told h = rw (input_over bytes h) (refl, (refl, refl))

  module _ (room : (length counts ≡ max_players) × (length payoffs ≡ max_report_cells)) (h : length bytes ≤ max_file_bytes) where
    abbrev refusal : Refusal
    refusal = read_refusal bytes (length counts) (length payoffs)

    abbrev read : List ℕ × List Float
    read = (counts_in (words_of bytes), payoffs_in (words_of bytes))

    table_is : input_table bytes ≡ unless (fives refusal) read
    unfolding input_table
    table_is =
        ap (λ (r : Refusal). unless r read) (input_read bytes h ∙ ap₂ (λ (a b : ℕ). fives (read_refusal bytes a b)) (sym room.0) (sym room.1))

    -- what the reader wrote is what the report's reader writes
    pub counts_written : read_counts bytes counts payoffs ≡ over (written_of (λ t. t.0) (input_table bytes)) counts
    unfolding read_counts table_of
    counts_written = ap (λ (xs : List ℕ). over xs counts) (written_five (λ t. t.0) refusal read ∙ ap (written_of (λ t. t.0)) (sym table_is))

    pub payoffs_written : read_payoffs bytes counts payoffs ≡ over (written_of (λ t. t.1) (input_table bytes)) payoffs
    unfolding read_payoffs table_of
    payoffs_written = ap (λ (xs : List Float). over xs payoffs) (written_five (λ t. t.1) refusal read ∙ ap (written_of (λ t. t.1)) (sym table_is))

    -- and what it told, with 5 in place of 13
    pub answer_is : told_five (read_answer bytes counts payoffs) ≡ told_of (λ t. length t.0) (input_table bytes)
    unfolding read_answer table_of
    answer_is =
        let n = length (counts_in (words_of bytes)) in
        ap told_five (told_of_lem (λ t. length t.0) refusal read)
        ∙ sym (told_five_lem refusal n)
        ∙ sym (told_of_lem (λ t. length t.0) (fives refusal) read)
        ∙ ap (told_of (λ t. length t.0)) (sym table_is)
