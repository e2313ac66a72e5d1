-- `profile_listing::list_marked` meets its contract: in both outputs those before the k-th profile are written, as far as there is room, and
-- the rest is as it was (`Listing`); and the last entry is that of the profile before `after`, or `after` is past all profiles. Assumes nothing.
use mathlib.Core.Path.{◌≡◌}
use Prim.Native.Nat.{ℕ, ◌*◌, min, ◌≤◌, ◌<◌}
use lib.ListN.{length}
use Rattle.game.specs.Game.{profiles}
use Rattle.written_lists.specs.Listing.{entries_held}
use Rattle.payoff_tables.specs.Table.{profile_part}
use Rattle.response_marks.specs.Marks.{all_marked}
use Rattle.profile_listing.specs.Entry.{Before}
use Rattle.profile_listing.proofs.Write.{Listing}
use Rattle.profile_listing.proofs.list_marked.Given as goal

abbrev pub invariant-loop-k : goal.invariant-loop-k
invariant-loop-k l =
    let held : ℕ = entries_held (length l.counts) (length l.initial.choices) (length l.initial.utilities) in
    (l.k ≤ l.profiles)
    × (l.total ≤ l.k)
    × (l.written ≡ min l.total held)
    × Listing (λ x. x) (all_marked l.counts l.marks) (profiles l.counts) (length l.counts) held l.initial.choices l.choices l.total l.k
    × Listing (profile_part l.counts l.payoffs) (all_marked l.counts l.marks) (profiles l.counts) (length l.counts) held l.initial.utilities l.utilities l.total l.k
    × (l.after ≤ l.profiles)
    × (l.after < l.profiles → Before l.counts l.after l.choices (l.written * length l.counts))
