-- `test_round_trips::write_read` meets its contract: what is read is the file that was written.
-- Assumes nothing.
use mathlib.Core.Path.{◌≡◌, sym, ap, ◌∙◌}
use mathlib.Core.List.{List}
use mathlib.Core.Option.{none}
use Prim.Native.Nat.{ℕ, ◌-◌, ◌≤◌}
use native.Mathlib.Omega.{arith}
use lib.ListN.{length, take}
use lib.Ieee.{Float}
use Rattle.refusal.proofs.Told.{handed_on}
use Rattle.payoff_tables.specs.Checks.{table_refusal}
use Rattle.written_lists.specs.Outputs.{over}
use Rattle.written_lists.proofs.Outputs.{over_length}
use Rattle.deposit_format.specs.Deposit.{deposit}
use Rattle.payoff_tables.specs.Meaning.{Doubles}
use Rattle.deposit_format.specs.Answers.{read_answer, read_counts, read_payoffs}
use Rattle.deposit_format.proofs.Writer.{write_accepted}
use Rattle.test_round_trips.proofs.Calls.{taken, write_told, not_written, read_of_written}
use Rattle.test_round_trips.proofs.write_read.Goals as goal
use Rattle.test_round_trips.proofs.write_read.Goals.{In_ok-n}

-- where the file was written
module _ (c : In_ok-n) where
  abbrev counts : List ℕ
  counts = c.args.counts.now

  abbrev payoffs : List Float
  payoffs = c.args.payoffs.now

  abbrev bytes : List ℕ
  bytes = c.args.bytes.now

  abbrev n : ℕ
  n = c.in_ok-n.n

  told : (table_refusal counts payoffs ≡ none) × (length (deposit counts payoffs) ≤ length bytes) × (n ≡ length (deposit counts payoffs))
  told = write_told counts payoffs bytes n c.in_ok-n.ensures.result_value

  output : c.write.new.bytes ≡ over (deposit counts payoffs) bytes
  output = c.write.ensures.bytes_after ∙ sym (write_accepted counts payoffs bytes told.0 told.1).1

  file : take (n - 0) c.write.new.bytes ≡ deposit counts payoffs
  file = ap (λ (b : List ℕ). take (n - 0) b) output ∙ taken (deposit counts payoffs) bytes n told.2

  doubles : Doubles payoffs
  doubles = c.type_inv.payoffs

pub slice_bounds-read-end : goal.slice_bounds-read-end
slice_bounds-read-end c =
    let k = (goal.at.slice_bounds-read-end c).In_ok-n in
    let e = ap length (output k) ∙ over_length (deposit (counts k) (payoffs k)) (bytes k) (told k).1 in
    omega (arith, told k, e)

pub returns-in_err-n-clause-result_value : goal.returns-in_err-n-clause-result_value
returns-in_err-n-clause-result_value c =
    let a = c.args in
    handed_on _ _ c.from_residual.ensures.1 ∙ (not_written a.counts.now a.payoffs.now a.bytes.now a.counts_back.now a.payoffs_back.now _ c.in_err-n.ensures.result_value).0

pub returns-in_err-n-clause-counts_back_after : goal.returns-in_err-n-clause-counts_back_after
returns-in_err-n-clause-counts_back_after c =
    let a = c.args in
    (not_written a.counts.now a.payoffs.now a.bytes.now a.counts_back.now a.payoffs_back.now _ c.in_err-n.ensures.result_value).1.0

pub returns-in_err-n-clause-payoffs_back_after : goal.returns-in_err-n-clause-payoffs_back_after
returns-in_err-n-clause-payoffs_back_after c =
    let a = c.args in
    (not_written a.counts.now a.payoffs.now a.bytes.now a.counts_back.now a.payoffs_back.now _ c.in_err-n.ensures.result_value).1.1

pub returns-clause-result_value : goal.returns-clause-result_value
returns-clause-result_value c =
    let k = (goal.at.returns-clause-result_value c).In_ok-n in
    let cs = c.args.counts_back.now in
    let ps = c.args.payoffs_back.now in
    c.read.ensures.result_value
    ∙ ap (λ (b : List ℕ). read_answer b cs ps) (file k)
    ∙ (read_of_written (counts k) (payoffs k) (bytes k) cs ps (doubles k) (told k).0 (told k).1).0

pub returns-clause-counts_back_after : goal.returns-clause-counts_back_after
returns-clause-counts_back_after c =
    let k = (goal.at.returns-clause-counts_back_after c).In_ok-n in
    let cs = c.args.counts_back.now in
    let ps = c.args.payoffs_back.now in
    c.read.ensures.counts_after
    ∙ ap (λ (b : List ℕ). read_counts b cs ps) (file k)
    ∙ (read_of_written (counts k) (payoffs k) (bytes k) cs ps (doubles k) (told k).0 (told k).1).1.0

pub returns-clause-payoffs_back_after : goal.returns-clause-payoffs_back_after
returns-clause-payoffs_back_after c =
    let k = (goal.at.returns-clause-payoffs_back_after c).In_ok-n in
    let cs = c.args.counts_back.now in
    let ps = c.args.payoffs_back.now in
    c.read.ensures.payoffs_after
    ∙ ap (λ (b : List ℕ). read_payoffs b cs ps) (file k)
    ∙ (read_of_written (counts k) (payoffs k) (bytes k) cs ps (doubles k) (told k).0 (told k).1).1.1
