-- The payoffs of one profile as a part of the table: they begin at offset × P, so the part's p-th is player p's payoff. Assumes nothing.
use mathlib.Core.Path.{◌≡◌, ap}
use mathlib.Core.List.{List}
use mathlib.Core.Option.{none}
use Prim.Native.Nat.{ℕ, ◌+◌, ◌*◌, ◌≤◌, ◌<◌}
use native.Mathlib.Nat.{suc-mul, mul-le-mul_right}
use native.Mathlib.Omega.{arith}
use lib.ListN.{length, get_or, drop, length-drop}
use lib.Seq.{length-take-le, get_or-take, get_or-drop}
use lib.Ieee.{Float, nan}
use Rattle.game.specs.Finite.{product}
use Rattle.game.specs.Game.{Profile}
use Rattle.refusal.specs.Refusal.{◌then◌}
use Rattle.refusal.specs.Told.{values}
use Rattle.refusal.proofs.Refusal.{then_none}
use Rattle.refusal.proofs.Told.{told_values}
use Rattle.payoff_tables.specs.Limits.{max_cells}
use Rattle.payoff_tables.specs.Table.{cells, offset, payoff_at, profile_part}
use Rattle.payoff_tables.specs.Checks.{table_refusal, profile_refusal}
use Rattle.payoff_tables.specs.Meaning.{Table}
use Rattle.payoff_tables.specs.Answers.{table_answer, offset_answer}
use Rattle.payoff_tables.proofs.Checks.{table_law, profile_law}
use Rattle.payoff_tables.proofs.Offsets.{offset_below}

-- The part's p-th payoff is player p's.
pub part_at : (cs : List ℕ) (payoffs : List Float) (x : List ℕ) (p : ℕ) → p < length cs
    → get_or (profile_part cs payoffs x) p nan ≡ payoff_at cs payoffs p x
unfolding profile_part payoff_at
part_at cs payoffs x p h = rw (get_or-take, get_or-drop)

module _ {cs x : List ℕ} (r : Profile cs x) (payoffs : List Float) (whole : length payoffs ≡ cells cs) where
  -- The part lies within the table.
  pub part_within : offset cs x * length cs + length cs ≤ length payoffs
  part_within = rw whole (omega (arith, suc-mul (offset cs x) (length cs), mul-le-mul_right (length cs) (offset_below r)))

  -- It has one payoff for each player.
  pub part_length_lem : length (profile_part cs payoffs x) ≡ length cs
  unfolding profile_part
  part_length_lem =
      length-take-le (length cs) (drop (offset cs x * length cs) payoffs) (rw length-drop (omega (arith, part_within)))

-- a caller that was told the number of profiles: no refusal applies
pub record TableTold (counts : List ℕ) (payoffs : List Float) (n : ℕ) : Type 0 where
  pub none_applies : table_refusal counts payoffs ≡ none
  pub table : Table counts payoffs
  pub is : n ≡ product counts

pub table_told : (counts : List ℕ) (payoffs : List Float) (n : ℕ) → values n ≡ table_answer counts payoffs → TableTold counts payoffs n
table_told counts payoffs n h =
    let told = told_values (table_refusal counts payoffs) (product counts) n h in
    record { none_applies = told.0; table = (table_law counts payoffs).0 told.0; is = told.1 }

-- a caller that was told an offset: no refusal applies, and the part of P payoffs at offset × P lies within the payoffs
pub record PartTold (counts : List ℕ) (payoffs : List Float) (x : List ℕ) (n : ℕ) : Type 0 where
  pub none_applies : (table_refusal counts payoffs then profile_refusal counts x) ≡ none
  pub is : n ≡ offset counts x
  pub within : n * length counts + length counts ≤ length payoffs
  pub room : length payoffs ≤ max_cells

pub part_told : (counts : List ℕ) (payoffs : List Float) (x : List ℕ) (n : ℕ) → values n ≡ offset_answer counts payoffs x → PartTold counts payoffs x n
part_told counts payoffs x n h =
    let told = told_values (table_refusal counts payoffs then profile_refusal counts x) (offset counts x) n h in
    let both = (then_none (table_refusal counts payoffs) (profile_refusal counts x)).0 told.0 in
    let table : Table counts payoffs = (table_law counts payoffs).0 both.0 in
    let end = part_within ((profile_law counts x).0 both.1) payoffs table.full in
    record {
      none_applies = told.0;
      is = told.1;
      within = omega (arith, end, ap (λ (k : ℕ). k * length counts) told.1);
      room = omega (arith, table.full, table.shape.room);
    }
