-- `gains::raised_from` meets its contract. The loop's invariant: the gains stand side by side,
-- summed over the others' choices passed. Assumes nothing.
use Rattle.game.specs.Finite.{below}
use Rattle.sums.specs.Inner.{strided}
use Rattle.sums.proofs.Sums.{SideBySide}
use Rattle.candidate_input.specs.Input.{max_actions}
use mathlib.Core.List.{List}
use Prim.Native.Nat.{ℕ}
use lib.Ieee.{Float, binary64, sub}
use Rattle.gains.proofs.raised_from.Given as goal

-- what player's payoff changes by, for strategy t in place of s
abbrev pub differences : List Float → ℕ → ℕ → ℕ → ℕ → ℕ → Float
differences payoffs own other s t o = sub binary64 (strided payoffs own other t o) (strided payoffs own other s o)

abbrev pub invariant-loop-o : goal.invariant-loop-o
invariant-loop-o l = SideBySide max_actions l.count (strided l.weights l.own l.other l.s) (differences l.payoffs l.own l.other l.s) (below l.o) l.gains
