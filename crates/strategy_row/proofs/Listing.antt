-- The two outputs while a row is walked: those of the first n strategies that reach a cell stand in one, the payoff of each in the other, and
-- then what stood there before. Assumes nothing.
use mathlib.Core.Path.{◌≡◌, refl, sym, ap, ◌∙◌}
use mathlib.Core.Bool.{Bool}
use mathlib.Core.List.{List, [], ◌∷◌, ◌++◌, map, map-append}
use Prim.Native.Nat.{ℕ, ◌+◌, ◌*◌, ◌≤◌, ◌<◌}
use native.Mathlib.Omega.{arith}
use lib.ListN.{length, get_or, set, length-map}
use lib.Ieee.{Float, nan}
use Rattle.written_lists.specs.Outputs.{over}
use Rattle.written_lists.proofs.Outputs.{over_length, over_more}
use Rattle.payoff_tables.specs.Table.{cell_rank}
use Rattle.strategy_row.specs.Row.{row_reaching}
use Rattle.strategy_row.proofs.Row.{On, at, reaching_yes, reaching_one, reaching_not, reaching_grows}

module _ (payoffs : List Float) (marks : List Bool) (place start step top : ℕ) (old : List ℕ) (old' : List Float) where
  -- what is to be written of the first n strategies
  abbrev reached : ℕ → List ℕ
  reached n = row_reaching payoffs marks place start step n top

  abbrev paid : ℕ → Float
  paid t = get_or payoffs (start + t * step) nan

  pub record Listed (n number : ℕ) (strategies : List ℕ) (utilities : List Float) : Type 0 where
    pub many : number ≡ length (reached n)
    pub listed : strategies ≡ over (reached n) old
    pub beside : utilities ≡ over (map paid (reached n)) old'

  pub listed_none : Listed 0 0 old old'
  unfolding row_reaching
  listed_none = record { many = refl; listed = refl; beside = refl }

  module _ {n number : ℕ} {strategies : List ℕ} {utilities : List Float} (u : Listed n number strategies utilities) where
    -- a strategy that does not reach is passed over
    pub listed_not : (On payoffs marks place start step n → at payoffs marks place start step n < cell_rank payoffs top)
        → Listed (n + 1) number strategies utilities
    listed_not h =
        let e : reached (n + 1) ≡ reached n = reaching_not payoffs marks place start step top n h in
        record {
          many = u.many ∙ sym (ap length e);
          listed = u.listed ∙ sym (ap (λ (xs : List ℕ). over xs old) e);
          beside = u.beside ∙ sym (ap (λ (xs : List ℕ). over (map paid xs) old') e);
        }

  -- with room for those of all strategies
  module _ (count : ℕ) (room : length (reached count) ≤ length old) (room' : length (reached count) ≤ length old') {n number : ℕ}
      {strategies : List ℕ} {utilities : List Float} (u : Listed n number strategies utilities) where
    -- the outputs keep their lengths
    pub listed_length : n ≤ count → (length strategies ≡ length old) × (length utilities ≡ length old')
    listed_length h =
        let few : length (reached n) ≤ length (reached count) = reaching_grows payoffs marks place start step top n count h in (
          ap length u.listed ∙ over_length (reached n) old (omega arith),
          ap length u.beside ∙ over_length (map paid (reached n)) old' (omega (arith, length-map (reached n) paid)),
        )

    -- for one that does there is room, and it is written
    module _ (less : n < count) (on : On payoffs marks place start step n)
        (reaches : cell_rank payoffs top ≤ at payoffs marks place start step n) where
      more : reached (n + 1) ≡ reached n ++ (n ∷ [])
      more = reaching_yes payoffs marks place start step top n on reaches

      one : length (reached (n + 1)) ≡ length (reached n) + 1
      one = reaching_one payoffs marks place start step top n on reaches

      below_all : length (reached n) < length (reached count)
      below_all = omega (arith, one, reaching_grows payoffs marks place start step top (n + 1) count (omega arith))

      pub listed_room : (number < length strategies) × (number < length utilities)
      listed_room =
          let (l, l') = listed_length (omega arith) in (omega (arith, u.many, below_all), omega (arith, u.many, below_all))

      pub listed_yes : Listed (n + 1) (number + 1) (set strategies number n) (set utilities number (paid n))
      listed_yes =
          record {
            many = omega (arith, u.many, one);
            listed = rw (u.many, u.listed, more) (over_more (reached n) old n (omega (arith, below_all)));
            beside =
                rw (u.many, u.beside, more, map-append paid (reached n) (n ∷ []))
                (ap (λ (k : ℕ). set (over (map paid (reached n)) old') k (paid n)) (sym (length-map (reached n) paid))
                ∙ over_more (map paid (reached n)) old' (paid n) (omega (arith, below_all, length-map (reached n) paid)));
          }
