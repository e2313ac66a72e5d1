use mathlib.Core.Path.{refl, ap, ◌∙◌}
use Prim.Native.Nat.{ℕ, ◌+◌, ◌*◌}
use native.Mathlib.Omega.{arith}
use borrow.Author.Count.{below_more}
use Rattle.refusal.specs.Refusal.{Refusal}
use Rattle.refusal.specs.Told.{refused}
use Rattle.refusal.proofs.Refusal.{each_none, each_some}
use Rattle.refusal.proofs.Told.{told_values, told_refused, handed_on}
use Rattle.file_words.specs.Words.{words_of}
use Rattle.deposit_format.specs.Deposit.{cell_fault}
use Rattle.deposit_reader.proofs.check_cells.Goals as goal

pub returns-in_err-check_cell : goal.returns-in_err-check_cell
returns-in_err-check_cell c =
    let l = c.loop-i in
    let a = c.args in
    let f : ℕ → Refusal = λ i. cell_fault (words_of a.bytes.now) (a.start + 3 * i) in
    let t = told_refused (f l.i) tt _ c.in_err-check_cell.ensures in
    rw (each_some a.cells f l.i t.0 c.loop-i-test.true l.invariant t.1) (handed_on _ _ c.from_residual.ensures.1 ∙ ap (λ (n : ℕ). refused n) t.2)

pub loop-i-preserved : goal.loop-i-preserved
loop-i-preserved c = below_more _ _ c.loop-i.invariant (told_values _ _ _ c.in_ok-check_cell.ensures).0

pub returns : goal.returns
returns c =
    let l = c.loop-i in
    let a = c.args in
    rw (each_none a.cells (λ i. cell_fault (words_of a.bytes.now) (a.start + 3 * i)) (λ j h. l.invariant j (omega (arith, h, c.loop-i-test.false)))) refl
