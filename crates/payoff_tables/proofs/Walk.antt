-- What a walk over a table cites: the strides of the players from the last one down, and the row of a player's cells against given choices
-- of the others. Assumes nothing.
use mathlib.Core.Path.{◌≡◌, refl, sym, ap, ◌∙◌}
use mathlib.Core.List.{List, []}
use Prim.Native.Nat.{ℕ, suc, ◌+◌, ◌*◌, ◌-◌, ◌/◌, ◌%◌, ◌≤◌, ◌<◌}
use native.Mathlib.Nat.{mul_comm, mul_assoc, add-mul, zero-mul, le-mul_of_pos_right, mul-le-mul_right, le_trans}
use native.Mathlib.Omega.{arith}
use lib.ListN.{length, get_or, set, take, drop}
use lib.Ieee.{Float}
use Rattle.game.specs.Finite.{product}
use Rattle.game.specs.Game.{Profile, profiles}
use Rattle.game.proofs.Game.{set_profile}
use Rattle.payoff_tables.specs.Limits.{max_players, max_strategies, max_cells}
use Rattle.payoff_tables.specs.Table.{cells, offset, stride, cell, payoff_at, cell_rank, table_game}
use Rattle.payoff_tables.specs.Meaning.{Shape}
use Rattle.payoff_tables.proofs.Products.{product_positive}
use Rattle.payoff_tables.proofs.Offsets.{product_drop, take_at_most, drop_at_most, drop_positive, offset_so_far, offset_set, cell_below, walk_base}

-- ---- counts without a refusal

-- There is a profile,
pub shape_some : {cs : List ℕ} → Shape cs → 0 < product cs
shape_some {cs} h = product_positive cs h.low

-- and there are no more profiles than there may be cells.
pub shape_room : {cs : List ℕ} → Shape cs → product cs ≤ max_cells
shape_room {cs} h = le_trans (le-mul_of_pos_right (product cs) h.some) h.room

-- An offset so far, with the next player's choice, is below the limit.
pub offset_room : {cs : List ℕ} → Shape cs → (n s p : ℕ) → p < length cs → n < product (take p cs) → s < get_or cs p 0
    → n * get_or cs p 0 + s ≤ max_cells
offset_room {cs} h n s p l k j = omega (arith, offset_so_far n s p cs l k j, take_at_most cs (p + 1) (shape_some h), shape_room h)

-- A player's step from cell to cell is below the limit.
pub step_room : {cs : List ℕ} → Shape cs → (p : ℕ) → stride cs p * length cs ≤ max_cells
unfolding stride
step_room {cs} h p = le_trans (mul-le-mul_right (length cs) (drop_at_most cs (suc p) (shape_some h))) h.room

-- One player down: q is the last of the players that are left, and s the product of the counts after it.
pub record Down (cs : List ℕ) (q s : ℕ) : Type 0 where
  pub inside : q < length cs
  pub few : length cs ≤ max_players
  pub low : 0 < get_or cs q 0
  pub high : get_or cs q 0 ≤ max_strategies
  pub wide : 0 < s
  pub here : s ≡ stride cs q
  pub next : s * get_or cs q 0 ≡ product (drop q cs)
  pub room : s * get_or cs q 0 ≤ max_cells

pub down : (cs : List ℕ) (p s : ℕ) → Shape cs → 0 < p → p ≤ length cs → s ≡ product (drop p cs) → Down cs (p - 1) s
unfolding stride
down cs p s h some most e =
    let q : ℕ = p - 1 in
    let l : q < length cs = omega arith in
    let d : p ≡ suc q = omega arith in
    let is : s ≡ stride cs q = e ∙ ap (λ (n : ℕ). product (drop n cs)) d in
    let up : s * get_or cs q 0 ≡ product (drop q cs) = ap (λ (n : ℕ). n * get_or cs q 0) is ∙ mul_comm (stride cs q) (get_or cs q 0) ∙ sym (product_drop cs q l) in
    record {
      inside = l;
      few = h.few;
      low = h.low q l;
      high = h.high q l;
      wide = rw e (drop_positive cs p (shape_some h));
      here = is;
      next = up;
      room = rw up (le_trans (drop_at_most cs q (shape_some h)) (shape_room h));
    }

-- ---- rows

-- Against the others' choices in the profile x, player p's strategy 0 stands at an offset, and strategy t at t strides of p from there,
-- so that its cell is the first one's and t times the stride and P.
module _ {cs x : List ℕ} (p : ℕ) (r : Profile cs x) (mine : p < length cs) (some : 0 < get_or cs p 0) where
  pub row_offset : (t : ℕ) → t < get_or cs p 0 → offset cs (set x p t) ≡ offset cs (set x p 0) + t * stride cs p
  row_offset t l = omega (arith, offset_set p t r mine l, offset_set p 0 r mine some, zero-mul (stride cs p))

  pub row_cell : (t : ℕ) → t < get_or cs p 0
      → offset cs (set x p 0) * length cs + p + t * (stride cs p * length cs) ≡ cell cs (set x p t) p
  row_cell t l = rw (row_offset t l, add-mul (offset cs (set x p 0)) (t * stride cs p) (length cs), mul_assoc t) (omega arith)

  pub row_inside : (t : ℕ) → t < get_or cs p 0 → offset cs (set x p 0) * length cs + p + t * (stride cs p * length cs) < cells cs
  row_inside t l = rw (row_cell t l) (cell_below p (set_profile cs x r p t mine l) mine)

  -- What the game pays is the rank of the cell.
  pub row_pay : (payoffs : List Float) (t : ℕ) → t < get_or cs p 0
      → (table_game cs payoffs).pay p (set x p t) ≡ cell_rank payoffs (offset cs (set x p 0) * length cs + p + t * (stride cs p * length cs))
  unfolding table_game payoff_at cell_rank
  row_pay payoffs t l = rw (row_cell t l) refl

-- the row of the k-th profile starts at k without p's part
pub row_start_lem : (cs : List ℕ) (k p : ℕ) → k < product cs → p < length cs → 0 < get_or cs p 0
    → k - k / stride cs p % get_or cs p 0 * stride cs p ≡ offset cs (set (get_or (profiles cs) k []) p 0)
row_start_lem cs k p h l some = omega (arith, walk_base cs k p h l 0 some, zero-mul (stride cs p))
