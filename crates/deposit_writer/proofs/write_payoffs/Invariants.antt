-- `deposit_writer::write_payoffs` meets its contract. The invariant: the words of the payoffs
-- before the i-th are put. Assumes nothing.
use mathlib.Core.Path.{◌≡◌}
use mathlib.Core.List.{flat_map}
use lib.ListN.{take}
use Rattle.deposit_format.specs.Deposit.{payoff_words}
use Rattle.deposit_writer.specs.Put.{words_put}
use Rattle.deposit_writer.proofs.write_payoffs.Given as goal

abbrev pub invariant-loop-i : goal.invariant-loop-i
invariant-loop-i l = l.bytes ≡ words_put l.initial.bytes l.start (flat_map payoff_words (take l.i l.payoffs))
