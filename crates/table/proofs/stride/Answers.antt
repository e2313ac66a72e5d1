use native.Mathlib.Nat.{le_trans, le-mul_of_pos_right}
use native.Mathlib.Numerals.{add-one}
use native.Mathlib.Omega.{arith}
use Prim.Native.Nat.{ℕ, ◌+◌, ◌*◌, ◌-◌, ◌≤◌, ◌<◌}
use mathlib.Core.Path.{◌≡◌, ap, ◌∙◌}
use mathlib.Core.List.{List}
use lib.ListN.{length, get_or, take, drop, length-drop}
use Rattle.std.proofs.lemmas.List.{take_all}
use Rattle.game.specs.Finite.{product}
use Rattle.payoff_tables.specs.Limits.{max_cells}
use Rattle.payoff_tables.specs.Meaning.{Shape}
use Rattle.payoff_tables.specs.Table.{stride}
use Rattle.payoff_tables.proofs.Products.{product_more, product_end}
use Rattle.payoff_tables.proofs.Offsets.{drop_positive, drop_at_most}
use Rattle.payoff_tables.proofs.Walk.{shape_some, shape_room}
use Rattle.table.proofs.stride.Goals as goal

-- as many of the counts after the player as there are, are all of them
tail : (cs : List ℕ) (p : ℕ) → take (length cs - (p + 1)) (drop (p + 1) cs) ≡ drop (p + 1) cs
tail cs p = take_all _ (drop (p + 1) cs) (omega (arith, length-drop (p + 1) cs))

-- one more factor is at most the product of all
factor_room : (cs : List ℕ) (p m : ℕ) → 0 < product cs → p < length cs → m * product (drop p cs) ≡ product cs → m * get_or cs p 0 ≤ product cs
factor_room cs p m some h e =
    rw (product_more cs p m (product cs) h e) at (le-mul_of_pos_right (m * get_or cs p 0) (drop_positive cs (p + 1) some))

-- the product of the counts after the player: there is a profile of those players, and there are no more than there may be cells
after : (cs : List ℕ) (p : ℕ) → Shape cs → (0 < product (take (length cs - (p + 1)) (drop (p + 1) cs))) × (product (take (length cs - (p + 1)) (drop (p + 1) cs)) ≤ max_cells)
after cs p h =
    rw (tail cs p)
    (drop_positive cs (p + 1) (shape_some h), le_trans (drop_at_most cs (p + 1) (shape_some h)) (shape_room h))

pub overflow_mul-stride : goal.overflow_mul-stride
overflow_mul-stride c =
    let l = c.loop-count in
    let a = after c.args.counts.now c.args.player c.requires.shape in
    omega (arith, a.1, factor_room _ l.count-index l.stride a.0 c.loop-count-test.true l.invariant)

pub returns : goal.returns
unfolding stride
returns c =
    let l = c.loop-count in
    product_end _ l.count-index l.stride (omega arith) l.invariant ∙ ap product (tail c.args.counts.now c.args.player) ∙ ap (λ (n : ℕ). product (drop n c.args.counts.now)) (add-one _)
