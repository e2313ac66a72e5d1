-- `deposit_reader::put_payoffs` meets its contract. The invariant: the payoffs of the cells before
-- the i-th are written. Assumes nothing.
use mathlib.Core.Path.{◌≡◌}
use Prim.Native.Nat.{ℕ, ◌<◌}
use lib.ListN.{get_or}
use lib.Ieee.{nan}
use Rattle.file_words.specs.Words.{words_of}
use Rattle.deposit_format.specs.Deposit.{payoffs_in}
use Rattle.deposit_reader.proofs.put_payoffs.Given as goal

abbrev pub invariant-loop-i : goal.invariant-loop-i
invariant-loop-i l = (k : ℕ) → k < l.i → get_or l.payoff-items k nan ≡ get_or (payoffs_in (words_of l.bytes)) k nan
