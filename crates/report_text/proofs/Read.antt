-- What was read, and the report on it. Assumes nothing.
use mathlib.Core.Path.{◌≡◌, sym, ap, ◌∙◌}
use mathlib.Core.List.{List}
use mathlib.Core.Option.{none}
use Prim.Native.Nat.{ℕ, ◌≤◌}
use native.Mathlib.Omega.{arith}
use lib.ListN.{length, take, drop}
use lib.Seq.{take_at, length-take-le}
use lib.Ieee.{Float}
use Rattle.written_lists.specs.Outputs.{written_of, over}
use Rattle.written_lists.proofs.Outputs.{over_length}
use Rattle.io.specs.Counts.{IsPrefixLen}
use Rattle.refusal.specs.Refusal.{Refusal}
use Rattle.refusal.specs.Told.{Told, values, refused, told_of, unless}
use Rattle.refusal.proofs.Told.{apart, told_of_lem, told_values}
use Rattle.payoff_tables.specs.Limits.{max_players}
use Rattle.payoff_tables.specs.Table.{cells}
use Rattle.payoff_tables.specs.Meaning.{Table}
use Rattle.file_words.specs.Words.{Bytes, words_of}
use Rattle.deposit_format.specs.Deposit.{counts_in, payoffs_in}
use Rattle.outputs.proofs.Puts.{past_all, sets_all}
use Rattle.outputs.specs.Put.{Puts}
use Rattle.report_input.specs.Input.{max_report_cells, input_refusal, input_table}
use Rattle.report_input.proofs.Input.{input_accepted}
use Rattle.report_layout.specs.Table.{table_report}
use Rattle.report_layout.specs.Report.{told_report, report}

-- ---- a refused file

refused_report : (n : ℕ) (x : Told (List ℕ × List Float)) → refused n ≡ told_of (λ t. length t.0) x → told_report (refused n) ≡ told_report x
refused_report n (values t) h = absurd (apart (length t.0) n (sym h))
refused_report n (refused m) h = let e : n ≡ m = cc in ap (λ (k : ℕ). told_report (refused k)) e

pub report_refused : (bytes : List ℕ) (n : ℕ) → refused n ≡ told_of (λ t. length t.0) (input_table bytes) → told_report (refused n) ≡ report bytes
unfolding report
report_refused bytes n h = refused_report n (input_table bytes) h

-- ---- an accepted file

module _ (bytes : List ℕ) (B : Bytes bytes) (p : ℕ) (h : values p ≡ told_of (λ t. length t.0) (input_table bytes)) where
  abbrev cs : List ℕ
  cs = counts_in (words_of bytes)

  abbrev ps : List Float
  ps = payoffs_in (words_of bytes)

  pub accepted : (input_refusal bytes ≡ none) × (p ≡ length cs)
  unfolding input_table
  accepted = told_values (input_refusal bytes) (length cs) p (h ∙ told_of_lem (λ t. length t.0) (input_refusal bytes) (cs, ps))

  pub table : Table cs ps × (length ps ≤ max_report_cells)
  table = input_accepted bytes B accepted.0

  table_told : input_table bytes ≡ values (cs, ps)
  unfolding input_table
  table_told = ap (λ (r : Refusal). unless r (cs, ps)) accepted.0

  -- the outputs begin with the counts and with the payoffs
  pub counts_read : (old : List ℕ) → take p (over (written_of (λ t. t.0) (input_table bytes)) old) ≡ cs
  counts_read old =
      ap (λ (x : Told (List ℕ × List Float)). take p (over (written_of (λ t. t.0) x) old)) table_told
      ∙ take_at cs (drop (length cs) old) p (sym accepted.1)

  pub payoffs_read : (old : List Float) → take (cells cs) (over (written_of (λ t. t.1) (input_table bytes)) old) ≡ ps
  payoffs_read old =
      ap (λ (x : Told (List ℕ × List Float)). take (cells cs) (over (written_of (λ t. t.1) x) old)) table_told
      ∙ take_at ps (drop (length ps) old) (cells cs) table.0.full

  -- and keep their lengths
  pub counts_size : (old : List ℕ) → max_players ≤ length old → length (over (written_of (λ t. t.0) (input_table bytes)) old) ≡ length old
  counts_size old l =
      ap (λ (x : Told (List ℕ × List Float)). length (over (written_of (λ t. t.0) x) old)) table_told
      ∙ over_length cs old (omega (arith, table.0.shape.few, l))

  pub payoffs_size : (old : List Float) → max_report_cells ≤ length old → length (over (written_of (λ t. t.1) (input_table bytes)) old) ≡ length old
  payoffs_size old l =
      ap (λ (x : Told (List ℕ × List Float)). length (over (written_of (λ t. t.1) x) old)) table_told
      ∙ over_length ps old (omega (arith, table.1, l))

  pub report_accepted : table_report cs ps ≡ report bytes
  unfolding report
  report_accepted = ap told_report (sym table_told)

-- ---- a text that the output holds

pub put_whole : (out text : List ℕ) (r : ℕ) (new : List ℕ) → length text ≤ length out → Puts out 0 text r new
    → IsPrefixLen r new × ((r ≡ length text) × (new ≡ over text out))
put_whole out text r new h q =
    let e : r ≡ length text = q.0 ∙ past_all out text h in
    let w : new ≡ over text out = q.1 ∙ sets_all out text h in
    let n : length new ≡ length out = ap length w ∙ over_length text out h in
    let less : r ≤ length new = omega (arith, e, n, h) in
    ((less, sym (length-take-le r new less)), (e, w))
