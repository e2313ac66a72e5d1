-- `profile_listing::all_marked` meets its contract: none of the marks before the p-th is 0. Assumes nothing.
use mathlib.Core.Path.{◌≡◌}
use Prim.Native.Nat.{ℕ, ◌+◌, ◌<◌, ◌≤◌}
use lib.ListN.{get_or}
use Rattle.profile_listing.proofs.all_marked.Given as goal

abbrev pub invariant-loop-p : goal.invariant-loop-p
invariant-loop-p l = (l.p ≤ l.number) × ((q : ℕ) → q < l.p → get_or l.marks (l.at + q) 0 ≡ 0 → ⊥)
