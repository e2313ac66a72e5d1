-- `deposit_reader::check_rest` meets its contract: the cells' faults come before the closing
-- word's. Assumes nothing.
use Prim.Native.Nat.{◌+◌, ◌*◌}
use Rattle.game.specs.Finite.{below}
use Rattle.refusal.specs.Refusal.{Refusal, each}
use Rattle.refusal.proofs.Told.{told_values, hands_on}
use Rattle.file_words.specs.Words.{words_of}
use Rattle.deposit_format.specs.Deposit.{cell_fault}
use Rattle.deposit_reader.proofs.check_rest.Goals as goal

pub returns-in_err-check_cells : goal.returns-in_err-check_cells
returns-in_err-check_cells c =
    let a = c.args in
    hands_on _ _ (each (λ i. cell_fault (words_of a.bytes.now) (1 + a.players + 3 * i)) (below a.cells)) _ _ _ c.from_residual.ensures.1 c.in_err-check_cells.ensures

pub returns : goal.returns
returns c =
    let k = c in
    let a = k.args in
    let cells : Refusal = each (λ i. cell_fault (words_of a.bytes.now) (1 + a.players + 3 * i)) (below a.cells) in
    rw (told_values cells tt tt k.in_ok-check_cells.ensures).0 c.closing.ensures
