-- `mixed_strategies::expectations_between` meets its contract. The loop's invariant: the
-- expectations stand side by side, summed over the others' choices passed. Assumes nothing.
use lib.Ieee.{nan}
use lib.ListN.{get_or}
use Rattle.game.specs.Finite.{below}
use Rattle.sums.specs.Inner.{strided}
use Rattle.sums.proofs.Sums.{SideBySide}
use Rattle.candidate_input.specs.Input.{max_actions}
use Rattle.mixed_strategies.proofs.expectations_between.Given as goal

abbrev pub invariant-loop-o : goal.invariant-loop-o
invariant-loop-o l = SideBySide max_actions l.count (λ i. get_or l.vector i nan) (strided l.payoffs l.own l.other) (below l.o) l.sums
