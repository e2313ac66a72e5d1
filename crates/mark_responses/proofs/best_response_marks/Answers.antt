-- `mark_responses::best_response_marks` meets its contract: with a mark on every place the marks are the whole table's. Assumes nothing.
use mathlib.Core.Path.{◌≡◌, refl, sym, ap, ◌∙◌}
use mathlib.Core.Bool.{true}
use mathlib.Core.List.{List}
use Prim.Native.Nat.{ℕ}
use lib.ListN.{length, take, replicate}
use lib.Ieee.{Float}
use Rattle.game.specs.Game.{whole}
use Rattle.refusal.specs.Told.{Told, values, refused}
use Rattle.refusal.specs.declared.NormalFormError.TheVariants.{OutputTooShort}
use Rattle.refusal.proofs.Told.{told_refused, handed_on}
use Rattle.payoff_tables.specs.Limits.{max_marks}
use Rattle.payoff_tables.specs.Table.{cells, table_game}
use Rattle.marks.specs.Marks.{marked}
use Rattle.payoff_tables.specs.Checks.{table_refusal}
use Rattle.written_lists.specs.Outputs.{over}
use Rattle.payoff_tables.proofs.Table.{table_told}
use Rattle.marks.proofs.Marks.{marks_whole}
use Rattle.response_marks.specs.Marks.{response_marks, ones}
use Rattle.response_marks.specs.Answers.{table_marks, marks_answer, marks_written, Counted}
use Rattle.response_marks.proofs.Marks.{marks_same, marks_table, marks_few, marks_enough, marks_refused, marks_fit, take_marks}
use Rattle.response_marks.proofs.Counting.{marks_counted}
use Rattle.mark_responses.proofs.Players.{whole_ready}
use Rattle.mark_responses.proofs.best_response_marks.Goals as goal

first : (counts : List ℕ) (payoffs : List Float) (old : List ℕ) → take (cells counts) (over (table_marks counts payoffs) old) ≡ table_marks counts payoffs
unfolding table_game
first counts payoffs old = take_marks (table_game counts payoffs) (whole (table_game counts payoffs)) old

-- what the number means follows from what is told and what is left
number_means : (counts : List ℕ) (payoffs : List Float) (old : List ℕ) (told : Told ℕ) (left : List ℕ)
    → told ≡ marks_answer counts payoffs (length old) → left ≡ over (marks_written counts payoffs (length old)) old
    → (n : ℕ) → told ≡ values n → Counted counts n left
number_means counts payoffs old told left e h n is = rw h (marks_counted counts payoffs old n (sym is ∙ e))

pub returns-then-marks-cells : goal.returns-then-marks-cells
returns-then-marks-cells c =
    let f = table_told c.args.counts.now c.args.payoffs.now _ c.in_ok-profiles.ensures in
    let a = c.args in
    let n = length a.marks.now in
    let r = marks_refused a.counts.now a.payoffs.now n OutputTooShort (marks_few a.counts.now a.payoffs.now n f.none_applies (rw (← f.table.full) c.if-marks-cells.true)) in
    let left = sym (ap (λ (xs : List ℕ). over xs a.marks.now) r.1) in
    record { result_value = r.0; marks_after = left; by_index = number_means a.counts.now a.payoffs.now a.marks.now _ _ r.0 left }

pub mark_all-requires : goal.mark_all-requires
mark_all-requires c =
    let f = table_told c.args.counts.now c.args.payoffs.now _ c.in_ok-profiles.ensures in
    let a = c.args in
    record { table = f.table; survivors_len = refl; profiles_value = f.is; payoffs_in_bounds = c.if-marks-cells.false; by_index = whole_ready a.counts.now a.marks.now f.table.shape }

pub returns-in_err-profiles : goal.returns-in_err-profiles
returns-in_err-profiles c =
    let a = c.args in
    let (e, is, number) = told_refused (table_refusal a.counts.now a.payoffs.now) _ _ c.in_err-profiles.ensures in
    let r = marks_refused a.counts.now a.payoffs.now (length a.marks.now) e (marks_table a.counts.now a.payoffs.now (length a.marks.now) e is) in
    let told = handed_on _ _ c.from_residual.ensures.1 ∙ ap (λ (n : ℕ). refused n) number ∙ r.0 in
    let left = sym (ap (λ (xs : List ℕ). over xs a.marks.now) r.1) in
    record { result_value = told; marks_after = left; by_index = number_means a.counts.now a.payoffs.now a.marks.now _ _ told left }

pub returns : goal.returns
returns c =
    let m = c in
    let f = table_told c.args.counts.now c.args.payoffs.now _ c.in_ok-profiles.ensures in
    let a = m.args in
    let counts = a.counts.now in
    let g = table_game counts a.payoffs.now in
    let same : response_marks g (marked (replicate max_marks true)) ≡ table_marks counts a.payoffs.now =
    marks_same g (marked (replicate max_marks true)) (whole g) (marks_whole counts a.payoffs.now f.table.shape) in
    let written = m.mark_all.ensures ∙ ap (λ (xs : List ℕ). over xs a.marks.now) same in
    let r = marks_fit counts a.payoffs.now (length a.marks.now) (marks_enough counts a.payoffs.now (length a.marks.now) f.none_applies (rw (← f.table.full) m.if-marks-cells.false)) in
    let counted = c.count_ones.ensures ∙ ap (λ (xs : List ℕ). ones (take (length a.payoffs.now) xs)) written
    ∙ ap (λ (n : ℕ). ones (take n (over (table_marks counts a.payoffs.now) a.marks.now))) f.table.full ∙ ap ones (first counts a.payoffs.now a.marks.now) in
    let told = ap (λ (n : ℕ). values n) counted ∙ r.0 in
    let left = written ∙ sym (ap (λ (xs : List ℕ). over xs a.marks.now) r.1) in
    record { result_value = told; marks_after = left; by_index = number_means counts a.payoffs.now a.marks.now _ _ told left }
