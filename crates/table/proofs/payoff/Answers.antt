-- `table::payoff` meets its contract: the refusals of the table, the player and the profile come in this order, and else the cell is read,
-- which lies within the payoffs and holds a finite value. Assumes nothing.
use mathlib.Core.Path.{◌≡◌, ap, ◌∙◌}
use mathlib.Core.List.{List}
use mathlib.Core.Option.{none}
use Prim.Native.Nat.{ℕ, ◌+◌, ◌*◌, ◌<◌, ◌≤◌}
use native.Mathlib.Omega.{arith}
use lib.ListN.{length, get_or}
use lib.Ieee.{Float, nan}
use Rattle.refusal.specs.Told.{values, told_of}
use Rattle.utility.specs.Value.{value_of}
use Rattle.refusal.proofs.Told.{told_values, refused_again, handed_on}
use Rattle.utility.proofs.Made.{finite_told}
use Rattle.payoff_tables.specs.Limits.{max_cells}
use Rattle.payoff_tables.specs.Table.{offset, cell, payoff_at}
use Rattle.payoff_tables.specs.Checks.{table_refusal, profile_refusal}
use Rattle.payoff_tables.specs.Meaning.{Table}
use Rattle.payoff_tables.proofs.Checks.{table_counts, table_law, player_law, no_player, profile_law}
use Rattle.payoff_tables.proofs.Offsets.{cell_below}
use Rattle.table.proofs.payoff.Goals as goal
use Rattle.table.proofs.payoff.Goals.{In_ok-table_profile_count, In_ok-at}

-- where the table has no refusal
module _ (c : In_ok-table_profile_count) where
  abbrev counts : List ℕ
  counts = c.args.counts.now

  abbrev payoffs : List Float
  payoffs = c.args.payoffs.now

  checked : table_refusal counts payoffs ≡ none
  checked = (told_values _ _ _ c.in_ok-table_profile_count.ensures).0

  table : Table counts payoffs
  table = (table_law counts payoffs).0 checked

pub returns-then-counts-player : goal.returns-then-counts-player
returns-then-counts-player c = rw (checked (goal.at.returns-then-counts-player c).In_ok-table_profile_count, no_player (counts (goal.at.returns-then-counts-player c).In_ok-table_profile_count) _ c.if-counts-player.true)

pub profile_offset-requires : goal.profile_offset-requires
profile_offset-requires c = table_counts _ _ (checked (goal.at.profile_offset-requires c).In_ok-table_profile_count)

-- where the profile has none either
module _ (c : In_ok-at) where
  abbrev cs : List ℕ
  cs = c.args.counts.now

  abbrev xs : List Float
  xs = c.args.payoffs.now

  abbrev profile : List ℕ
  profile = c.args.profile.now

  abbrev player : ℕ
  player = c.args.player

  abbrev place : ℕ
  place = c.in_ok-at.at * length cs + player

  checks : table_refusal cs xs ≡ none
  checks = (told_values _ _ _ c.in_ok-table_profile_count.ensures).0

  full_table : Table cs xs
  full_table = (table_law cs xs).0 checks

  told : (profile_refusal cs profile ≡ none) × (c.in_ok-at.at ≡ offset cs profile)
  told = told_values _ _ _ c.in_ok-at.ensures

  mine : player < length cs
  mine = c.if-counts-player.false

  here : place ≡ cell cs profile player
  here = ap (λ (n : ℕ). n * length cs + player) told.1

  within : (place < length xs) × (length xs ≤ max_cells)
  within =
      let full = full_table.full in (rw (here, full) (cell_below player ((profile_law cs profile).0 told.0) mine), rw full full_table.shape.room)

pub overflow_mul-at : goal.overflow_mul-at
overflow_mul-at c = omega (arith, within (goal.at.overflow_mul-at c).In_ok-at)

pub overflow_add-at : goal.overflow_add-at
overflow_add-at c = omega (arith, within (goal.at.overflow_add-at c).In_ok-at)

pub offset_bounds-payoffs-at : goal.offset_bounds-payoffs-at
offset_bounds-payoffs-at c = omega (arith, within (goal.at.offset_bounds-payoffs-at c).In_ok-at)

pub bounds-payoffs-at : goal.bounds-payoffs-at
bounds-payoffs-at c = (within (goal.at.bounds-payoffs-at c).In_ok-at).0

pub returns-in_err-at : goal.returns-in_err-at
returns-in_err-at c =
    let w = (goal.at.returns-in_err-at c).In_ok-table_profile_count in
    rw (checked w, (player_law (counts w) _).1 c.if-counts-player.false)
    (ap (told_of value_of) (handed_on _ _ c.from_residual-in_err-at.ensures.1)
    ∙ refused_again (profile_refusal (counts w) c.args.profile.now) _ _ _ c.in_err-at.ensures)

pub returns : goal.returns
unfolding payoff_at
returns c =
    let w = (goal.at.returns c).In_ok-at in
    let fits = (full_table w).finites _ (within w).0 in
    rw (checks w, (player_law (cs w) (player w)).1 (mine w), (told w).0)
    (c.new.ensures ∙ finite_told _ fits ∙ ap (λ (n : ℕ). values (get_or (xs w) n nan)) (here w))
