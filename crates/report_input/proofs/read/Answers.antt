-- `report_input::read` meets its contract: the outputs have room for every file within the limits,
-- so 13 means that there are too many cells. Assumes nothing.
use mathlib.Core.Path.{◌≡◌, ap, ◌∙◌}
use lib.ListN.{length}
use Rattle.payoff_tables.specs.Limits.{max_players}
use Rattle.report_input.specs.Input.{max_report_cells}
use Rattle.report_input.proofs.Input.{over_told, counts_written, payoffs_written, told_five, told_reported, answer_is}
use Rattle.report_input.proofs.read.Goals as goal

pub returns-then-bytes-gt-MAX_FILE_BYTES : goal.returns-then-bytes-gt-MAX_FILE_BYTES
returns-then-bytes-gt-MAX_FILE_BYTES c =
    let t = over_told c.args.bytes.now c.args.counts.now c.args.payoffs.now c.if-bytes-gt-MAX_FILE_BYTES.true in
    record { result_value = t.0; counts_after = t.1.0; payoffs_after = t.1.1 }

pub returns : goal.returns
returns c =
    let bytes = c.args.bytes.now in
    let counts = c.args.counts.now in
    let payoffs = c.args.payoffs.now in
    let room : (length counts ≡ max_players) × (length payoffs ≡ max_report_cells) = (c.told-counts, c.told-payoffs) in
    let within = c.if-bytes-gt-MAX_FILE_BYTES.false in
    record {
      result_value =
          told_reported c.read.result _ c.map_err.ensures.cases
          ∙ ap told_five c.read.ensures.result_value
          ∙ answer_is bytes counts payoffs room within;
      counts_after = c.read.ensures.counts_after ∙ counts_written bytes counts payoffs room within;
      payoffs_after = c.read.ensures.payoffs_after ∙ payoffs_written bytes counts payoffs room within;
    }
