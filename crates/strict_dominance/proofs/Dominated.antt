-- How a walk up the strategies collects the dominance list, and that the list fits where it is collected. Assumes nothing.
use mathlib.Core.Path.{◌≡◌, sym, ap, ◌∙◌}
use mathlib.Core.List.{List, [], ◌∷◌, ◌++◌, map, flat_map, append-nil, map-append}
use mathlib.Core.Option.{Option, none, some}
use Prim.Native.Nat.{ℕ, zero, suc, ◌+◌, ◌≤◌, ◌<◌}
use native.Mathlib.Omega.{arith}
use lib.ListN.{length, get_or, set, take, drop, length-append, length-map}
use lib.Seq.{take_at, take_all}
use lib.Ieee.{Float}
use Rattle.game.specs.Finite.{below}
use Rattle.game.specs.Game.{Game, Marks, whole}
use Rattle.game.specs.Solution.{dominator}
use Rattle.game.proofs.Finite.{below_last, flat_map_last}
use Rattle.written_lists.specs.Outputs.{over}
use Rattle.written_lists.proofs.Outputs.{over_length, over_more}
use Rattle.payoff_tables.specs.Limits.{max_strategies}
use Rattle.payoff_tables.specs.Table.{table_game}
use Rattle.payoff_tables.specs.Meaning.{Shape}
use Rattle.dominance.specs.Answers.{DominatedStrategy, beside, dominated_of, strategies_of, dominators_of, dominated_strategies}

-- ---- one strategy after the other

module _ (g : Game) (m : Marks) (p : ℕ) where
  -- the dominated among the strategies below n, each with its lowest dominator
  abbrev pub dominated_below : ℕ → List DominatedStrategy
  dominated_below n = flat_map (λ s. beside s (dominator g m p s)) (below n)

  pub dominated_more : (n : ℕ) → dominated_below (suc n) ≡ dominated_below n ++ beside n (dominator g m p n)
  dominated_more n =
      let f : ℕ → List DominatedStrategy = λ s. beside s (dominator g m p s) in ap (flat_map f) (below_last n) ∙ flat_map_last f (below n) n

  -- no more than there are strategies
  pub dominated_few : (n : ℕ) → length (dominated_below n) ≤ n
  unfolding flat_map
  dominated_few zero = omega arith
  dominated_few (suc n) =
      let e : length (dominated_below (suc n)) ≡ length (dominated_below n) + length (beside n (dominator g m p n)) =
      ap length (dominated_more n) ∙ length-append (dominated_below n) (beside n (dominator g m p n)) in
      omega (arith, e, dominated_few n, one n (dominator g m p n))
    where
      one : (s : ℕ) (o : Option ℕ) → length (beside s o) ≤ 1
      one s none = omega arith
      one s (some t) = omega arith

-- no more than a table may have
pub table_few : (cs : List ℕ) (payoffs : List Float) (p : ℕ) → Shape cs → p < length cs → length (dominated_strategies cs payoffs p) ≤ max_strategies
unfolding dominated_strategies dominated_of table_game
table_few cs payoffs p h mine =
    let g = table_game cs payoffs in omega (arith, dominated_few g (whole g) p (get_or cs p 0), h.high p mine)

-- ---- the list in two outputs

-- n entries are written: those of ds, over what stood there
pub record Collected (ds : List DominatedStrategy) (n : ℕ) (old old' strategies dominators : List ℕ) : Type 0 where
  pub number : n ≡ length ds
  pub first : strategies ≡ over (strategies_of ds) old
  pub second : dominators ≡ over (dominators_of ds) old'

-- of either field: the output keeps its length, takes one element more, and gives back what was written
module _ (f : DominatedStrategy → ℕ) (ds : List DominatedStrategy) (n : ℕ) (old out : List ℕ) (is : n ≡ length ds) (so : out ≡ over (map f ds) old) where
  field_length : n ≤ length old → length out ≡ length old
  field_length h = ap length so ∙ over_length (map f ds) old (omega (arith, length-map ds f))

  field_more : (d : DominatedStrategy) → n < length old → set out n (f d) ≡ over (map f (ds ++ (d ∷ []))) old
  field_more d h =
      let e : n ≡ length (map f ds) = is ∙ sym (length-map ds f) in
      ap (λ l. set l n (f d)) so ∙ ap (λ i. set (over (map f ds) old) i (f d)) e
      ∙ over_more (map f ds) old (f d) (omega arith)
      ∙ ap (λ l. over l old) (sym (map-append f ds (d ∷ [])))

  field_taken : take n out ≡ map f (take n ds)
  field_taken =
      ap (take n) so ∙ take_at (map f ds) (drop (length (map f ds)) old) n (length-map ds f ∙ sym is)
      ∙ ap (map f) (sym (take_all n ds (omega arith)))

module _ {ds : List DominatedStrategy} {n : ℕ} {old old' a b : List ℕ} (c : Collected ds n old old' a b) where
  pub first_length : n ≤ length old → length a ≡ length old
  first_length = field_length (λ d. d.strategy) ds n old a c.number c.first

  pub second_length : n ≤ length old' → length b ≡ length old'
  second_length = field_length (λ d. d.dominated_by) ds n old' b c.number c.second

  -- what is taken from the start of each output
  pub first_taken : take n a ≡ strategies_of (take n ds)
  first_taken = field_taken (λ d. d.strategy) ds n old a c.number c.first

  pub second_taken : take n b ≡ dominators_of (take n ds)
  second_taken = field_taken (λ d. d.dominated_by) ds n old' b c.number c.second

  -- one strategy more: it is not dominated, or it is
  module _ (ds' : List DominatedStrategy) (s : ℕ) (o : Option ℕ) (more : ds' ≡ ds ++ beside s o) (n' : ℕ) (a' b' : List ℕ) where
    pub collected_none : o ≡ none → n' ≡ n → a' ≡ a → b' ≡ b → Collected ds' n' old old' a' b'
    collected_none e i j k = rw (more, e, append-nil ds, i, j, k) c

    pub collected_some : (t : ℕ) → o ≡ some t → n' ≡ n + 1 → a' ≡ set a n s → b' ≡ set b n t → n < length old → n < length old'
        → Collected ds' n' old old' a' b'
    collected_some t e i j k l m =
        let d : DominatedStrategy = record { strategy = s; dominated_by = t } in
        rw (more, e, i, j, k) (record {
          number = omega (arith, c.number, length-append ds (d ∷ []));
          first = field_more (λ d. d.strategy) ds n old a c.number c.first d l;
          second = field_more (λ d. d.dominated_by) ds n old' b c.number c.second d m;
        })
