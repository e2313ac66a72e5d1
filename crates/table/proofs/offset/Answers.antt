-- `table::offset` meets its contract: a refusal of the table comes first, and else `profile_offset` answers. Assumes nothing.
use Rattle.refusal.proofs.Told.{told_values}
use Rattle.payoff_tables.proofs.Checks.{table_counts}
use Rattle.table.proofs.offset.Goals as goal

pub profile_offset-requires : goal.profile_offset-requires
profile_offset-requires c = table_counts _ _ (told_values _ _ _ c.in_ok-table_profile_count.ensures).0
