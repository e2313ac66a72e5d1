-- Document 01's example of a report ("The report program"), shown true by computing the definition: its text, word by word, is the report on the
-- deposit of its table. Assumes nothing.
use mathlib.Core.Path.{◌≡◌, refl}
use mathlib.Core.List.{flat_map}
use lib.Ieee as Ieee
use Rattle.game.specs.Game.{strategies, profiles, whole, inside, others}
use Rattle.game.specs.Solution.{dominates, dominators, dominator, gains, deviations, equilibrium, equilibria}
use Rattle.game.specs.Strikes.{answer}
use Rattle.payoff_order.specs.Order.{finite, key as orderKey, rank}
use Rattle.payoff_tables.specs.Table.{offset, payoff_at, profile_part, table_game}
use Rattle.payoff_tables.specs.Checks.{count_refusal, counts_refusal, payoffs_refusal, table_refusal}
use Rattle.payoff_tables.proofs.Examples.{pair, dilemma}
use Rattle.marks.specs.Marks.{marked}
use Rattle.survivors.specs.Survivors.{without_mark, all_marks, fresh_of, marked_from, foreign}
use Rattle.strikes.specs.Answers.{strike_answer, strike_leaves}
use Rattle.file_words.specs.Words.{word, kind_of, payload_of, word_bytes, bytes_of, closed, word_at, words_of}
use Rattle.file_words.specs.Faults.{length_fault, due_fault, closing_fault}
use Rattle.deposit_format.specs.Deposit.{payoff_words, deposit, players_in, counts_in, payoff_in, payoffs_in, opening_fault, count_fault, cell_fault, head_fault, rest_fault}
use Rattle.bimatrix.specs.Keys.{rank_among, different, strictly_ranked, key, least_key}
use Rattle.catalogue.specs.Catalogue.{orders, rankings, catalogue, place}
use Rattle.catalogue.specs.Answers.{two_by_two, game_number}
use Rattle.digits_and_lines.specs.Text.{decimal, hexadecimal, spaced, joined, line}
use Rattle.report_input.specs.Input.{input_refusal, input_table}
use Rattle.report_layout.specs.Lines.{bits_word, entry_line, numbers_line}
use Rattle.strike_sweeps.specs.Sweeps.{struck_in, sweeps_from, sweeps}
use Rattle.report_layout.specs.Table.{codes, number_line, catalogue_line, equilibria_text, struck_text, table_report}
use Rattle.report_layout.specs.Report.{report}

dilemma_report :
    report (deposit pair dilemma)
    ≡ codes "players 2\ncounts 2 2\nequilibria 1\n1 1 3ff0000000000000 3ff0000000000000\nstruck 2\n0 0 1\n1 0 1\ncatalogue 71\n"
unfolding flat_map strategies profiles whole inside others dominates dominators dominator gains deviations equilibrium equilibria answer finite orderKey rank Ieee.to_bits Ieee.of_bits offset payoff_at profile_part table_game marked count_refusal counts_refusal payoffs_refusal table_refusal without_mark all_marks fresh_of marked_from foreign strike_answer strike_leaves word kind_of payload_of word_bytes bytes_of closed word_at words_of length_fault due_fault closing_fault payoff_words deposit players_in counts_in payoff_in payoffs_in opening_fault count_fault cell_fault head_fault rest_fault rank_among different strictly_ranked key least_key orders rankings catalogue place two_by_two game_number decimal hexadecimal spaced joined line input_refusal input_table bits_word entry_line numbers_line struck_in sweeps_from sweeps number_line catalogue_line equilibria_text struck_text table_report report
dilemma_report = refl
