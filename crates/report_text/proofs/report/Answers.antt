-- `report_text::report` meets its contract: the output has room for every report (`report_size`), so all of it is put. Assumes nothing.
use mathlib.Core.Path.{◌≡◌, sym, ap, ◌∙◌, subst⁻¹}
use mathlib.Core.List.{List}
use Prim.Native.Nat.{ℕ, ◌≤◌}
use native.Mathlib.Omega.{arith}
use lib.ListN.{length, take, replicate}
use lib.Ieee.{Float, binary64, of_bits}
use Rattle.written_lists.specs.Outputs.{written_of, over}
use Rattle.refusal.specs.Refusal.{number_of}
use Rattle.refusal.specs.Told.{values, refused, told_of}
use Rattle.payoff_tables.specs.Table.{cells}
use Rattle.payoff_tables.specs.Meaning.{Table}
use Rattle.file_words.specs.Words.{Bytes, words_of}
use Rattle.deposit_format.specs.Deposit.{counts_in, payoffs_in}
use Rattle.outputs.proofs.Puts.{puts_same}
use Rattle.report_input.specs.Input.{max_report_cells, input_table}
use Rattle.report_layout.specs.Table.{number_line, table_report}
use Rattle.report_layout.specs.Report.{told_report, report}
use Rattle.report_text.proofs.Read.{report_refused, accepted, table, counts_read, payoffs_read, counts_size, payoffs_size, report_accepted, put_whole}
use Rattle.report_layout.proofs.Size.{report_size}
use Rattle.report_text.proofs.report.Goals as goal

-- an accepted file, and the two outputs after it was read
module _
    (bytes : List ℕ)
    (B : Bytes bytes)
    (players : ℕ)
    (told : values players ≡ told_of (λ t. length t.0) (input_table bytes))
    (counts : List ℕ)
    (e : counts ≡ over (written_of (λ t. t.0) (input_table bytes)) (replicate 8 0))
    (payoffs : List Float)
    (f : payoffs ≡ over (written_of (λ t. t.1) (input_table bytes)) (replicate 2048 (of_bits binary64 0)))
  where
    abbrev cs : List ℕ
    cs = counts_in (words_of bytes)

    abbrev ps : List Float
    ps = payoffs_in (words_of bytes)

    counts_long : 8 ≡ length counts
    counts_long = sym (ap length e ∙ counts_size bytes B players told (replicate 8 0) (omega arith))

    payoffs_long : 2048 ≡ length payoffs
    payoffs_long = sym (ap length f ∙ payoffs_size bytes B players told (replicate 2048 (of_bits binary64 0)) (omega arith))

    counts_are : take players counts ≡ cs
    counts_are = ap (take players) e ∙ counts_read bytes B players told (replicate 8 0)

    payoffs_are : take (cells cs) payoffs ≡ ps
    payoffs_are = ap (take (cells cs)) f ∙ payoffs_read bytes B players told (replicate 2048 (of_bits binary64 0))

    the_table : Table cs ps × (length ps ≤ max_report_cells)
    the_table = table bytes B players told

    ready :
        ((players ≤ length counts) × (cells (take players counts) ≤ length payoffs))
        × (Table (take players counts) (take (cells (take players counts)) payoffs) × (cells (take players counts) ≤ max_report_cells))
    ready =
        let few : length cs ≤ 8 = the_table.0.shape.few in
        let full : length ps ≡ cells cs = the_table.0.full in
        let less : cells cs ≤ max_report_cells = omega (arith, full, the_table.1) in
        let P : List ℕ → Type 0 = λ xs. ((players ≤ length counts) × (cells xs ≤ length payoffs)) × (Table xs (take (cells xs) payoffs) × (cells xs ≤ max_report_cells)) in
        subst⁻¹ P counts_are (
          (omega (arith, few, counts_long, (accepted bytes B players told).1), omega (arith, less, payoffs_long)),
          (subst⁻¹ (Table cs) payoffs_are the_table.0, less),
        )

    reports : table_report (take players counts) (take (cells (take players counts)) payoffs) ≡ report bytes
    reports =
        ap (λ (xs : List ℕ). table_report xs (take (cells xs) payoffs)) counts_are
        ∙ ap (table_report cs) payoffs_are
        ∙ report_accepted bytes B players told

pub put_read-requires : goal.put_read-requires
put_read-requires c =
    let r = c.read.ensures in
    let B : Bytes c.args.bytes.now = λ i. omega (arith, c.type_inv.bytes i) in
    let t = ready c.args.bytes.now B c.in-Ok.players c.in-Ok.ensures.result_value c.read.new.counts r.counts_after c.read.new.payoffs r.payoffs_after in
    record { players_in_bounds = t.0; table = t.1.0; counts_bound = t.1.1 }

pub returns-in-Err : goal.returns-in-Err
unfolding number_line
returns-in-Err c =
    let bytes = c.args.bytes.now in
    let out = c.args.out.now in
    let B : Bytes bytes = λ i. omega (arith, c.type_inv.bytes i) in
    let is = report_refused bytes (number_of c.in-Err.e) c.in-Err.ensures.result_value in
    let room : length (report bytes) ≤ length out = omega (arith, report_size bytes B, c.told-out) in
    let d = c.put_number_line.ensures in
    let t =
    put_whole out (report bytes) c.put_number_line.result c.put_number_line.new.out room
    (puts_same out 0 (ap (λ (n : ℕ). told_report (refused n)) c.number.ensures ∙ is) (d.value, d.out_after)) in
    record { prefix_len = t.0; value = t.1.0; out_after = t.1.1 }

pub returns-in-Ok : goal.returns-in-Ok
returns-in-Ok c =
    let bytes = c.args.bytes.now in
    let out = c.args.out.now in
    let r = c.read.ensures in
    let B : Bytes bytes = λ i. omega (arith, c.type_inv.bytes i) in
    let is = reports bytes B c.in-Ok.players c.in-Ok.ensures.result_value c.read.new.counts r.counts_after c.read.new.payoffs r.payoffs_after in
    let room : length (report bytes) ≤ length out = omega (arith, report_size bytes B, c.told-out) in
    let d = c.put_read.ensures in
    let t = put_whole out (report bytes) c.put_read.result c.put_read.new.out room (puts_same out 0 is (d.value, d.out_after)) in
    record { prefix_len = t.0; value = t.1.0; out_after = t.1.1 }
