-- `table::profile_payoffs` meets its contract: where the offset is told, the part from offset × P
-- to P further lies within the payoffs, and is the one handed back. Assumes nothing.
use mathlib.Core.Path.{◌≡◌, refl, sym, ap, ◌∙◌}
use mathlib.Core.List.{List, []}
use Prim.Native.Nat.{ℕ, ◌+◌, ◌*◌, ◌-◌}
use native.Mathlib.Omega.{arith}
use lib.ListN.{length, take, drop}
use lib.Ieee.{Float}
use Rattle.refusal.specs.Refusal.{Refusal}
use Rattle.refusal.specs.Told.{unless_refused}
use Rattle.payoff_tables.specs.Table.{profile_part}
use Rattle.payoff_tables.proofs.Table.{PartTold, part_told}
use Rattle.table.proofs.profile_payoffs.Goals as goal
use Rattle.table.proofs.profile_payoffs.Goals.{In-Ok}

-- the arm where the offset is told
module _ (c : In-Ok) where
  abbrev counts : List ℕ
  counts = c.args.counts.now

  abbrev payoffs : List Float
  payoffs = c.args.payoffs.now

  abbrev profile : List ℕ
  profile = c.args.profile.now

  abbrev at : ℕ
  at = c.in-Ok.at

  told : PartTold counts payoffs profile at
  told = part_told counts payoffs profile at c.in-Ok.ensures

pub overflow_mul-start : goal.overflow_mul-start
overflow_mul-start c = omega (arith, told (goal.at.overflow_mul-start c).In-Ok)

pub overflow_add-end : goal.overflow_add-end
overflow_add-end c = omega (arith, told (goal.at.overflow_add-end c).In-Ok)

pub offset_bounds-payoffs-start : goal.offset_bounds-payoffs-start
offset_bounds-payoffs-start c = omega (arith, told (goal.at.offset_bounds-payoffs-start c).In-Ok)

pub slice_bounds-result-end-in-Ok : goal.slice_bounds-result-end-in-Ok
slice_bounds-result-end-in-Ok c = (told (goal.at.slice_bounds-result-end-in-Ok c).In-Ok).within

pub returns-in-Ok : goal.returns-in-Ok
unfolding profile_part
returns-in-Ok c =
    let w = (goal.at.returns-in-Ok c).In-Ok in
    let p = length (counts w) in
    let e : at w * p + p - at w * p ≡ p = omega arith in record {
      result_value = ap (λ (n : ℕ). take n (drop (at w * p) (payoffs w))) e
          ∙ ap (λ (n : ℕ). take p (drop (n * p) (payoffs w))) (told w).is
          ∙ sym (ap (λ (r : Refusal). unless_refused r (profile_part (counts w) (payoffs w) (profile w)) []) (told w).none_applies);
      ref_ptr_value = refl;
      ref_ptr_value_2 = rw ((told w).none_applies, ← (told w).is) (omega arith);
    }
