-- Lines of a report, computed: each is true by the definitions alone. `games` has document 01's
-- whole example. Assumes nothing.
use mathlib.Core.Path.{◌≡◌, refl}
use mathlib.Core.List.{[], ◌∷◌, flat_map}
use lib.Ieee as Ieee
use Rattle.game.specs.Game.{strategies, profiles, whole, inside}
use Rattle.game.specs.Solution.{gains, deviations, equilibrium, equilibria}
use Rattle.payoff_order.specs.Order.{key, rank}
use Rattle.payoff_tables.specs.Table.{offset, payoff_at, profile_part, table_game}
use Rattle.payoff_tables.proofs.Examples.{one, two, pair, dilemma}
use Rattle.digits_and_lines.specs.Text.{decimal, hexadecimal, spaced, joined, line}
use Rattle.report_layout.specs.Lines.{bits_word, entry_line, numbers_line}
use Rattle.report_layout.specs.Table.{codes, number_line, equilibria_text}

record Computed : Type 0 where
  -- choices, then the bits of each payoff
  entry : entry_line (0 ∷ 1 ∷ []) (one ∷ two ∷ []) ≡ codes "0 1 3ff0000000000000 4000000000000000\n"
  -- player, strategy, dominator
  strike : numbers_line (1 ∷ 0 ∷ 64 ∷ []) ≡ codes "1 0 64\n"
  -- a list after its length
  equilibria_listed : equilibria_text pair dilemma ≡ codes "equilibria 1\n1 1 3ff0000000000000 3ff0000000000000\n"

computed : Computed
unfolding flat_map strategies profiles whole inside gains deviations equilibrium equilibria key rank Ieee.to_bits Ieee.of_bits offset payoff_at profile_part table_game decimal hexadecimal spaced joined line bits_word entry_line numbers_line number_line equilibria_text
computed =
    record {
      entry = refl;
      strike = refl;
      equilibria_listed = refl;
    }
