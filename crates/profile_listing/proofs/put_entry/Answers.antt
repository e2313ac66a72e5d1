-- `profile_listing::put_entry` meets its contract, by the two ways of writing the choices. Assumes nothing.
use Rattle.profile_listing.proofs.put_entry.Goals as goal

pub put_utilities-requires : goal.put_utilities-requires
put_utilities-requires c = record { table = c.requires.table; k_bound = c.requires.k_bound; counts_in_bounds = c.requires.counts_in_bounds.1 }

pub put_next_choices-requires : goal.put_next_choices-requires
put_next_choices-requires c =
    record { shape = c.requires.table.shape; k_bound = c.requires.k_bound; counts_in_bounds = c.requires.counts_in_bounds.0; before = c.requires.before c.if-k-after.true }

pub put_choices-requires : goal.put_choices-requires
put_choices-requires c = record { shape = c.requires.table.shape; k_bound = c.requires.k_bound; counts_in_bounds = c.requires.counts_in_bounds.0 }
