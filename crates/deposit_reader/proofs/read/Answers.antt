-- `deposit_reader::read` meets its contract, stage by stage. Assumes nothing.
use mathlib.Core.Path.{◌≡◌, refl, ap, ◌∙◌}
use mathlib.Core.List.{List}
use mathlib.Core.Option.{none}
use Prim.Native.Nat.{ℕ, ◌<◌, ◌≤◌}
use native.Mathlib.Omega.{arith}
use borrow.Author.Tests.{ltb-false}
use lib.Dec.{ltb}
use lib.ListN.{length}
use Rattle.game.specs.Finite.{below}
use Rattle.refusal.specs.Refusal.{when, each, ◌then◌}
use Rattle.refusal.specs.declared.NormalFormError.TheVariants.{TooManyCells, OutputTooShort}
use Rattle.refusal.specs.Told.{Told, values, unless}
use Rattle.refusal.proofs.Refusal.{when_none, then_none, none_each}
use Rattle.refusal.proofs.Told.{told_values, told_refused, handed_on}
use Rattle.payoff_tables.specs.Limits.{max_players, max_cells}
use Rattle.payoff_tables.specs.Table.{cells}
use Rattle.file_words.specs.Words.{words_of}
use Rattle.file_words.specs.Faults.{length_fault, closing_fault}
use Rattle.deposit_format.specs.Deposit.{players_in, counts_in, cell_place, opening_fault, count_fault, cell_fault}
use Rattle.deposit_format.proofs.Faults.{opening_law}
use Rattle.deposit_format.proofs.Reader.{opened, counted, rest_from, rest, bad_opening, bad_counts, short_counts, short_payoffs, room_is_rest, read_refused, read_accepted}
use Rattle.deposit_reader.proofs.read.Goals as goal

-- the opening word has no fault: the players
module _ (bytes : List ℕ) (n : ℕ) where
  opens : values n ≡ unless (opened bytes) (players_in (words_of bytes)) → (opened bytes ≡ none) × (n ≡ players_in (words_of bytes))
  opens e = told_values (opened bytes) (players_in (words_of bytes)) n e

  few : (opened bytes ≡ none) × (n ≡ players_in (words_of bytes)) → (0 < n) × (n ≤ max_players)
  few o =
      let t = (opening_law (words_of bytes)).0 ((then_none (length_fault bytes) (opening_fault (words_of bytes))).0 o.0).1 in
      (rw o.1 t.2, rw o.1 t.3)

-- what the counts told
cells_told : (bytes : List ℕ) (n : ℕ) → n ≡ players_in (words_of bytes) → (r : Told ℕ)
    → r ≡ unless (each (count_fault (words_of bytes)) (below n) then when (ltb max_cells (cells (counts_in (words_of bytes)))) TooManyCells) (cells (counts_in (words_of bytes)))
    → r ≡ unless (counted bytes) (cells (counts_in (words_of bytes)))
cells_told bytes n is r e =
    let w = words_of bytes in
    e ∙ ap (λ (n : ℕ). unless (each (count_fault w) (below n) then when (ltb max_cells (cells (counts_in w))) TooManyCells) (cells (counts_in w))) is

-- the counts have none either: the cells
module _ (bytes : List ℕ) (m : ℕ) where
  count : values m ≡ unless (counted bytes) (cells (counts_in (words_of bytes))) → (counted bytes ≡ none) × (m ≡ cells (counts_in (words_of bytes)))
  count e = told_values (counted bytes) (cells (counts_in (words_of bytes))) m e

  many : (counted bytes ≡ none) × (m ≡ cells (counts_in (words_of bytes))) → m ≤ max_cells
  many k =
      let ws = words_of bytes in
      rw k.1 (ltb-false max_cells (cells (counts_in ws)) ((when_none (ltb max_cells (cells (counts_in ws))) TooManyCells).0 ((then_none (each (count_fault ws) (below (players_in ws))) (when (ltb max_cells (cells (counts_in ws))) TooManyCells)).0 k.0).1))

-- what the rest told
rest_told : (bytes : List ℕ) (n m : ℕ) → n ≡ players_in (words_of bytes) → m ≡ cells (counts_in (words_of bytes)) → (r : Told Unit)
    → r ≡ unless (rest_from (words_of bytes) n m) tt
    → r ≡ unless (rest bytes) tt
rest_told bytes n m is many r e =
    let ws = words_of bytes in
    e
    ∙ ap (λ (p : ℕ). unless (rest_from ws p m) tt) is
    ∙ ap (λ (n : ℕ). unless (rest_from ws (players_in ws) n) tt) many

-- no fault is left
cell : (bytes : List ℕ) → rest bytes ≡ none → (i : ℕ) → i < cells (counts_in (words_of bytes)) → cell_fault (words_of bytes) (cell_place (words_of bytes) i) ≡ none
cell bytes sound i h =
    let ws = words_of bytes in
    none_each (cells (counts_in ws)) (λ i. cell_fault ws (cell_place ws i))
    ((then_none (each (λ i. cell_fault ws (cell_place ws i)) (below (cells (counts_in ws)))) (closing_fault ws (cell_place ws (cells (counts_in ws))))).0 sound).0
    i
    h

pub cell_count-requires : goal.cell_count-requires
cell_count-requires c =
    let bytes = c.args.bytes.now in
    let o = opens bytes c.in_ok-players.players c.in_ok-players.ensures in
    let f = few bytes c.in_ok-players.players o in
    (o.1, f.0, f.1)

pub returns-then-counts-players : goal.returns-then-counts-players
returns-then-counts-players c =
    let bytes = c.args.bytes.now in
    let o = opens bytes c.in_ok-players.players c.in_ok-players.ensures in
    let k = count bytes c.in_ok-cells.cells (cells_told bytes c.in_ok-players.players o.1 _ c.in_ok-cells.ensures) in
    let t =
    read_refused bytes c.args.counts.now c.args.payoffs.now OutputTooShort 13 refl
    (short_counts bytes _ _ o.0 k.0 (omega (arith, o.1, c.if-counts-players.true))) in
    record { result_value = t.0; counts_after = t.1.0; payoffs_after = t.1.1 }

pub returns-then-payoffs-cells : goal.returns-then-payoffs-cells
returns-then-payoffs-cells c =
    let bytes = c.args.bytes.now in
    let o = opens bytes c.in_ok-players.players c.in_ok-players.ensures in
    let k = count bytes c.in_ok-cells.cells (cells_told bytes c.in_ok-players.players o.1 _ c.in_ok-cells.ensures) in
    let t =
    read_refused bytes c.args.counts.now c.args.payoffs.now OutputTooShort 13 refl
    (short_payoffs bytes _ _ o.0 k.0 (omega (arith, o.1, c.if-counts-players.false)) (omega (arith, k.1, c.if-payoffs-cells.true))) in
    record { result_value = t.0; counts_after = t.1.0; payoffs_after = t.1.1 }

pub check_rest-requires : goal.check_rest-requires
check_rest-requires c =
    let bytes = c.args.bytes.now in
    let o = opens bytes c.in_ok-players.players c.in_ok-players.ensures in
    let k = count bytes c.in_ok-cells.cells (cells_told bytes c.in_ok-players.players o.1 _ c.in_ok-cells.ensures) in
    ((few bytes c.in_ok-players.players o).1, many bytes c.in_ok-cells.cells k)

pub put_counts-requires : goal.put_counts-requires
put_counts-requires c =
    let bytes = c.args.bytes.now in
    let o = opens bytes c.in_ok-players.players c.in_ok-players.ensures in
    (o.1, (few bytes c.in_ok-players.players o).1, c.if-counts-players.false)

pub put_payoffs-requires : goal.put_payoffs-requires
put_payoffs-requires c =
    let bytes = c.args.bytes.now in
    let o = opens bytes c.in_ok-players.players c.in_ok-players.ensures in
    let k = count bytes c.in_ok-cells.cells (cells_told bytes c.in_ok-players.players o.1 _ c.in_ok-cells.ensures) in
    let sound =
    (told_values (rest bytes) tt tt (rest_told bytes c.in_ok-players.players c.in_ok-cells.cells o.1 k.1 (values tt) c.in_ok-check_rest.ensures)).0 in
    record {
      players_value = (o.1, (few bytes c.in_ok-players.players o).1);
      number_value = (k.1, many bytes c.in_ok-cells.cells k, c.if-payoffs-cells.false);
      by_index = λ i h. cell bytes sound i (omega (arith, h, k.1));
    }

pub returns-in_err-players : goal.returns-in_err-players
returns-in_err-players c =
    let bytes = c.args.bytes.now in
    let t = told_refused (opened bytes) _ _ c.in_err-players.ensures in
    let r = read_refused bytes c.args.counts.now c.args.payoffs.now t.0 _ t.2 (bad_opening bytes _ _ t.0 t.1) in
    record { result_value = handed_on _ _ c.from_residual.ensures.1 ∙ r.0; counts_after = r.1.0; payoffs_after = r.1.1 }

pub returns-in_err-cells : goal.returns-in_err-cells
returns-in_err-cells c =
    let bytes = c.args.bytes.now in
    let o = opens bytes c.in_ok-players.players c.in_ok-players.ensures in
    let t = told_refused (counted bytes) _ _ (cells_told bytes c.in_ok-players.players o.1 _ c.in_err-cells.ensures) in
    let r = read_refused bytes c.args.counts.now c.args.payoffs.now t.0 _ t.2 (bad_counts bytes _ _ o.0 t.0 t.1) in
    record { result_value = handed_on _ _ c.from_residual-in_err-cells.ensures.1 ∙ r.0; counts_after = r.1.0; payoffs_after = r.1.1 }

pub returns-in_err-check_rest : goal.returns-in_err-check_rest
returns-in_err-check_rest c =
    let bytes = c.args.bytes.now in
    let o = opens bytes c.in_ok-players.players c.in_ok-players.ensures in
    let k = count bytes c.in_ok-cells.cells (cells_told bytes c.in_ok-players.players o.1 _ c.in_ok-cells.ensures) in
    let left = room_is_rest bytes (length c.args.counts.now) (length c.args.payoffs.now) o.0 k.0 (omega (arith, o.1, c.if-counts-players.false)) (omega (arith, k.1, c.if-payoffs-cells.false)) in
    let t = told_refused (rest bytes) _ _ (rest_told bytes c.in_ok-players.players c.in_ok-cells.cells o.1 k.1 _ c.in_err-check_rest.ensures) in
    let r = read_refused bytes c.args.counts.now c.args.payoffs.now t.0 _ t.2 (left ∙ t.1) in
    record { result_value = handed_on _ _ c.from_residual-in_err-check_rest.ensures.1 ∙ r.0; counts_after = r.1.0; payoffs_after = r.1.1 }

pub returns : goal.returns
returns c =
    let bytes = c.args.bytes.now in
    let o = opens bytes c.in_ok-players.players c.in_ok-players.ensures in
    let k = count bytes c.in_ok-cells.cells (cells_told bytes c.in_ok-players.players o.1 _ c.in_ok-cells.ensures) in
    let left = room_is_rest bytes (length c.args.counts.now) (length c.args.payoffs.now) o.0 k.0 (omega (arith, o.1, c.if-counts-players.false)) (omega (arith, k.1, c.if-payoffs-cells.false)) in
    let sound =
    (told_values (rest bytes) tt tt (rest_told bytes c.in_ok-players.players c.in_ok-cells.cells o.1 k.1 (values tt) c.in_ok-check_rest.ensures)).0 in
    let t = read_accepted bytes c.args.counts.now c.args.payoffs.now (left ∙ sound) in
    record {
      result_value = ap (λ (n : ℕ). values n) o.1 ∙ t.0;
      counts_after = c.put_counts.ensures ∙ t.1.0;
      payoffs_after = c.put_payoffs.ensures ∙ t.1.1;
    }
