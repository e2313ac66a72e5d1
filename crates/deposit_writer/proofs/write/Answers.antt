-- `deposit_writer::write` meets its contract: the opening word, the counts, the payoffs and the
-- closing word, put one after the other, are the file (`file-put`). Assumes nothing.
use mathlib.Core.Path.{◌≡◌, sym, ap, ◌∙◌}
use mathlib.Core.List.{List, [], ◌∷◌, map, flat_map}
use Prim.Native.Nat.{ℕ, ◌+◌, ◌*◌, ◌≤◌}
use native.Mathlib.Omega.{arith}
use lib.ListN.{length}
use lib.Ieee.{Float}
use Rattle.refusal.specs.Told.{values}
use Rattle.refusal.proofs.Told.{told_refused, handed_on}
use Rattle.payoff_tables.specs.Limits.{max_players, max_cells}
use Rattle.payoff_tables.specs.Checks.{table_refusal}
use Rattle.payoff_tables.proofs.Table.{TableTold, table_told}
use Rattle.file_words.specs.Words.{word}
use Rattle.deposit_format.specs.Deposit.{payoff_words, deposit}
use Rattle.deposit_writer.specs.Put.{words_put}
use Rattle.deposit_format.specs.Meaning.{words_before}
use Rattle.deposit_writer.proofs.Puts.{file_put}
use Rattle.deposit_format.proofs.Writer.{deposit_length, write_refused, write_short, write_accepted}
use Rattle.deposit_writer.proofs.write.Goals as goal

-- the table has no refusal
module _ (counts : List ℕ) (payoffs : List Float) where
  few : (profiles : ℕ) → TableTold counts payoffs profiles → (length counts ≤ max_players) × (length payoffs ≤ max_cells)
  few profiles told = (told.table.shape.few, omega (arith, told.table.full, told.table.shape.room))

  long : length (deposit counts payoffs) ≡ 4 * (words_before counts payoffs + 1)
  long = deposit_length counts payoffs

pub returns-then-bytes-size : goal.returns-then-bytes-size
returns-then-bytes-size c =
    let a = c.args in
    let told = table_told a.counts.now a.payoffs.now _ c.in_ok-table_profile_count.ensures in
    let t = write_short a.counts.now a.payoffs.now a.bytes.now told.none_applies (omega (arith, long a.counts.now a.payoffs.now, c.if-bytes-size.true)) in
    record { result_value = t.0; bytes_after = t.1 }

pub returns-in_err-table_profile_count : goal.returns-in_err-table_profile_count
returns-in_err-table_profile_count c =
    let a = c.args in
    let t = told_refused (table_refusal a.counts.now a.payoffs.now) _ _ c.in_err-table_profile_count.ensures in
    let r = write_refused a.counts.now a.payoffs.now a.bytes.now t.0 _ t.2 t.1 in
    record { result_value = handed_on _ _ c.from_residual.ensures.1 ∙ r.0; bytes_after = r.1 }

pub overflow_cast-counts : goal.overflow_cast-counts
overflow_cast-counts c = omega (arith, few c.args.counts.now c.args.payoffs.now _ (table_told c.args.counts.now c.args.payoffs.now _ c.in_ok-table_profile_count.ensures))

pub put_word-requires : goal.put_word-requires
put_word-requires c =
    let f = few c.args.counts.now c.args.payoffs.now _ (table_told c.args.counts.now c.args.payoffs.now _ c.in_ok-table_profile_count.ensures) in
    (omega arith, omega (arith, f), omega (arith, c.if-bytes-size.false))

pub write_counts-requires : goal.write_counts-requires
write_counts-requires c =
    let told = table_told c.args.counts.now c.args.payoffs.now _ c.in_ok-table_profile_count.ensures in
    (told.table.shape, omega (arith, c.put_word.auto.bytes, c.if-bytes-size.false))

pub write_payoffs-requires : goal.write_payoffs-requires
write_payoffs-requires c =
    let told = table_told c.args.counts.now c.args.payoffs.now _ c.in_ok-table_profile_count.ensures in
    (told.table.finites, omega (arith, c.write_counts.auto.bytes, c.put_word.auto.bytes, c.if-bytes-size.false))

pub overflow_cast-last : goal.overflow_cast-last
overflow_cast-last c = omega (arith, few c.args.counts.now c.args.payoffs.now _ (table_told c.args.counts.now c.args.payoffs.now _ c.in_ok-table_profile_count.ensures))

pub put_word-requires-2 : goal.put_word-requires-2
put_word-requires-2 c =
    let f = few c.args.counts.now c.args.payoffs.now _ (table_told c.args.counts.now c.args.payoffs.now _ c.in_ok-table_profile_count.ensures) in
    (omega arith, omega (arith, f), omega (arith, c.write_payoffs.auto.bytes, c.write_counts.auto.bytes, c.put_word.auto.bytes, c.if-bytes-size.false))

pub returns : goal.returns
returns c =
    let counts = c.args.counts.now in
    let payoffs = c.args.payoffs.now in
    let bytes = c.args.bytes.now in
    let told = table_told counts payoffs _ c.in_ok-table_profile_count.ensures in
    let p = 1 + length counts in
    let n = words_before counts payoffs in
    let fits : length (deposit counts payoffs) ≤ length bytes = omega (arith, long counts payoffs, c.if-bytes-size.false) in
    let t = write_accepted counts payoffs bytes told.none_applies fits in
    record {
      result_value = ap (λ (m : ℕ). values m) (sym (long counts payoffs)) ∙ t.0;
      bytes_after = c.put_word-2.ensures
          ∙ ap (λ (r : List ℕ). words_put r n (word 3 n ∷ [])) c.write_payoffs.ensures
          ∙ ap (λ (r : List ℕ). words_put (words_put r p (flat_map payoff_words payoffs)) n (word 3 n ∷ [])) c.write_counts.ensures
          ∙ ap (λ (r : List ℕ). words_put (words_put (words_put r 1 (map (word 1) counts)) p (flat_map payoff_words payoffs)) n (word 3 n ∷ [])) c.put_word.ensures
          ∙ file_put counts payoffs bytes fits
          ∙ t.1;
    }
