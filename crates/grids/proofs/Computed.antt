-- A grid computed: the prisoner's dilemma, (2,2) (0,3) (3,0) (1,1). With all weight on 1 1 the
-- answer is 0, and 0 is strictly dominated by 1 for both players, so that `grid-dominated` says
-- something of it. With all weight on 0 0 either player gains 1, and the answer is 1.0. Assumes
-- nothing.
use mathlib.Core.Path.{◌≡◌, refl}
use mathlib.Core.Bool.{true}
use mathlib.Core.List.{[], ◌∷◌, flat_map}
use Prim.Native.Nat.{ℕ, zero, suc, ◌+◌, ◌*◌, ◌<◌}
use native.Mathlib.Omega.{arith}
use lib.Dec.{T, lit≤, lit<}
use lib.IntN.{ℤ, pos, negsuc}
use lib.ListN.{get_or}
use lib.Ieee as Ieee
use lib.Ieee.{Float, binary64, of_bits, fits}
use Rattle.game.specs.Game.{Game, profiles, whole, others}
use Rattle.game.specs.Solution.{dominates}
use Rattle.game.proofs.Solution.{dominates_law}
use Rattle.payoff_order.specs.Order.{finite, key, rank}
use Rattle.payoff_tables.specs.Table.{offset, payoff_at, table_game}
use Rattle.payoff_tables.specs.Meaning.{Doubles}
use Rattle.sums.specs.Sums.{zero as nought, one}
use Rattle.candidate_input.specs.Input.{well_formed}
use Rattle.gains.specs.Gains.{answer_of}
use Rattle.candidates.specs.Checks.{entry, gains, incentives}
use Rattle.candidates.proofs.Computed.{two, three, first, second, at_start, at_end}
use Rattle.whole_numbers.specs.Gains.{GridPayoff, GridWeight, greatest_whole}
use Rattle.grids.specs.Grid.{Grid, whole_gains, two_players, Unweighted}
use Rattle.grids.proofs.Grid.{grid_dominated}

-- the payoffs and both weights in whole numbers
U1 : ℕ → ℕ → ℤ
U1 i j = get_or (pos 2 ∷ pos 0 ∷ pos 3 ∷ pos 1 ∷ []) (i * 2 + j) (pos 0)

U2 : ℕ → ℕ → ℤ
U2 i j = get_or (pos 2 ∷ pos 3 ∷ pos 0 ∷ pos 1 ∷ []) (i * 2 + j) (pos 0)

end : ℕ → ℕ → ℕ
end i j = get_or (0 ∷ 0 ∷ 0 ∷ 65536 ∷ []) (i * 2 + j) 0

start : ℕ → ℕ → ℕ
start i j = get_or (65536 ∷ 0 ∷ 0 ∷ 0 ∷ []) (i * 2 + j) 0

-- what is true of the four places
four : (P : ℕ → ℕ → Type 0) → P 0 0 → P 0 1 → P 1 0 → P 1 1 → (i j : ℕ) → i < 2 → j < 2 → P i j
four P a b c d zero zero h k = a
four P a b c d zero (suc zero) h k = b
four P a b c d (suc zero) zero h k = c
four P a b c d (suc zero) (suc zero) h k = d
four P a b c d zero (suc (suc j)) h k = absurd (omega arith)
four P a b c d (suc zero) (suc (suc j)) h k = absurd (omega arith)
four P a b c d (suc (suc i)) j h k = absurd (omega arith)

payoffs1 : (i j : ℕ) → i < 2 → j < 2 → GridPayoff (entry 2 first i j) (U1 i j)
unfolding first two three U1 of_bits
payoffs1 =
    four _ (record { whole = refl; most = lit≤ tt }) (record { whole = refl; most = lit≤ tt }) (record { whole = refl; most = lit≤ tt })
    (record { whole = refl; most = lit≤ tt })

payoffs2 : (i j : ℕ) → i < 2 → j < 2 → GridPayoff (entry 2 second i j) (U2 i j)
unfolding second two three U2 of_bits
payoffs2 =
    four _ (record { whole = refl; most = lit≤ tt }) (record { whole = refl; most = lit≤ tt }) (record { whole = refl; most = lit≤ tt })
    (record { whole = refl; most = lit≤ tt })

weights_end : (i j : ℕ) → i < 2 → j < 2 → GridWeight (entry 2 at_end i j) (end i j)
unfolding at_end end of_bits
weights_end =
    four _ (record { whole = refl; most = lit≤ tt }) (record { whole = refl; most = lit≤ tt }) (record { whole = refl; most = lit≤ tt })
    (record { whole = refl; most = lit≤ tt })

grid : Grid 2 2 first second at_end U1 U2 end
unfolding first second at_end
grid =
    record {
      size = record { rows = lit≤ tt; few_rows = lit≤ tt; columns = lit≤ tt; few_columns = lit≤ tt };
      long_first = refl;
      long_second = refl;
      long_weights = refl;
      first = payoffs1;
      second = payoffs2;
      weighted = weights_end;
    }

-- the payoffs are f64s
held : (a b c d : Float) → T (fits binary64 a) → T (fits binary64 b) → T (fits binary64 c) → T (fits binary64 d) → Doubles (a ∷ b ∷ c ∷ d ∷ [])
unfolding fits
held a b c d p q r s zero = p
held a b c d p q r s (suc zero) = q
held a b c d p q r s (suc (suc zero)) = r
held a b c d p q r s (suc (suc (suc zero))) = s
held a b c d p q r s (suc (suc (suc (suc i)))) = tt

held1 : Doubles first
unfolding first two three of_bits fits
held1 = held two nought three one tt tt tt tt

held2 : Doubles second
unfolding second two three of_bits fits
held2 = held two three nought one tt tt tt tt

abbrev dilemma : Game
dilemma = two_players 2 2 first second

record Computed : Type 0 where
  answer : incentives 2 2 first second at_end ≡ nought
  -- a change from 1 to 0 costs either player 1, which is 65,536 parts; one from 0 has no weight
  whole_gains_lem : whole_gains 2 2 U1 U2 end ≡ pos 0 ∷ negsuc 65535 ∷ pos 0 ∷ negsuc 65535 ∷ []
  dominated_row : dominates dilemma (whole dilemma) 0 1 0 ≡ true
  dominated_column : dominates dilemma (whole dilemma) 1 1 0 ≡ true
  -- so the theorem says that 0 has no weight
  no_row : Unweighted (2 ∷ 2 ∷ []) at_end 0 0
  no_column : Unweighted (2 ∷ 2 ∷ []) at_end 1 0
  -- with weight on the dominated 0 0
  other_answer : incentives 2 2 first second at_start ≡ one
  other_gains : whole_gains 2 2 U1 U2 start ≡ pos 65536 ∷ pos 0 ∷ pos 65536 ∷ pos 0 ∷ []
  other_greatest : greatest_whole (whole_gains 2 2 U1 U2 start) ≡ pos 65536

computed : Computed
unfolding flat_map Ieee.of_bits Ieee.to_bits Ieee.add Ieee.sub Ieee.mul Ieee.neg Ieee.lt finite key rank well_formed answer_of gains incentives first second at_end at_start two three U1 U2 end start profiles whole others dominates offset payoff_at table_game
computed =
    record {
      answer = refl;
      whole_gains_lem = refl;
      dominated_row = refl;
      dominated_column = refl;
      no_row = grid_dominated 2 2 first second at_end U1 U2 end grid held1 held2 refl 0 0 1 (lit< tt, tt, (dominates_law dilemma (whole dilemma) 0 1 0).0 tt);
      no_column = grid_dominated 2 2 first second at_end U1 U2 end grid held1 held2 refl 1 0 1 (lit< tt, tt, (dominates_law dilemma (whole dilemma) 1 1 0).0 tt);
      other_answer = refl;
      other_gains = refl;
      other_greatest = refl;
    }
