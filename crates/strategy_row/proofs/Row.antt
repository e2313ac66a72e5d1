-- The laws of a row: its tests in quantifiers, that the best of a row are the game's best responses (`row-best`, `row-bests`), and that those
-- whose payoff reaches the lowest best one's are the best ones (`row-top`, `row-reaching`). Assumes nothing.
use mathlib.Core.Path.{◌≡◌, refl, sym, ap, ◌∙◌}
use mathlib.Core.Bool.{Bool, true, false, not, ◌&&◌}
use mathlib.Core.List.{List, [], ◌∷◌, ◌++◌}
use mathlib.Core.Logic.Iff
use mathlib.Core.Logic.{◌↔◌, ⊎_elim}
use mathlib.Core.Option.{Option, none, some}
use Prim.Native.Nat.{ℕ, ◌+◌, ◌*◌, ◌≤◌, ◌<◌}
use native.Mathlib.Omega.{arith}
use borrow.Author.Count.{below_more}
use lib.Dec.{T, ltb}
use lib.ListN.{length, get_or, set, length-append}
use lib.Ieee.{Float}
use Rattle.game.specs.Finite.{◌∈◌, below, filter, first, Lists, First}
use Rattle.game.specs.Game.{Profile}
use Rattle.game.specs.Solution.{best_response, best_responses}
use Rattle.game.proofs.Finite.{and_T, no_T, ltb_T, all_T, below_mem, at_most, same_test, either, test_true, test_false, length_below, filter_mem, filter_cong, filter_at_most, filter_yes, filter_not, filter_grows, greatest}
use Rattle.game.proofs.Sorted.{lists_iff, lists_filter, first_law, below_law, less_asym, lowest_none, lowest_some}
use Rattle.game.proofs.Solution.{best_response_law}
use Rattle.payoff_tables.specs.Limits.{max_strategies}
use Rattle.payoff_tables.specs.Table.{offset, stride, cell_rank, table_game}
use Rattle.payoff_tables.specs.Meaning.{Shape}
use Rattle.payoff_tables.proofs.Walk.{row_pay}
use Rattle.marks.specs.Marks.{marked}
use Rattle.marks.proofs.Marks.{mark_at}
use Rattle.strategy_row.specs.Row.{or_zero, row_unexceeded, row_best, row_bests, row_reaching, row_lowest}

module _ (payoffs : List Float) (marks : List Bool) (place start step : ℕ) where
  -- strategy t is marked
  abbrev pub On : ℕ → Type 0
  On t = T (get_or marks (place + t) false)

  -- the rank of its payoff
  abbrev pub at : ℕ → ℕ
  at t = cell_rank payoffs (start + t * step)

  -- strategy s is marked, and no marked one of the first n exceeds it
  abbrev pub Top : ℕ → ℕ → Type 0
  Top n s = On s × ((t : ℕ) → t < n → On t → at t ≤ at s)

  -- ---- the tests in quantifiers

  pub unexceeded_T : (count own : ℕ)
      → T (row_unexceeded payoffs marks place start step count own) ↔ ((t : ℕ) → t < count → On t → at t ≤ cell_rank payoffs own)
  unfolding row_unexceeded
  unexceeded_T count own = simp (all_T, below_mem, no_T, and_T, ltb_T) (
    λ h t l k. at_most _ _ (λ b. h t l (k, b)),
    λ h t l k. omega (arith, k.1, h t l k.0),
  )

  pub row_best_T : (count s : ℕ) → T (row_best payoffs marks place start step count s) ↔ Top count s
  unfolding row_best
  row_best_T count s = simp (and_T, unexceeded_T) Iff.rfl

  pub row_bests_law : (count : ℕ) → Lists ◌<◌ (λ s. (s < count) × Top count s) (row_bests payoffs marks place start step count)
  unfolding row_bests
  row_bests_law count =
      lists_iff (λ s. simp row_best_T Iff.rfl) (lists_filter (row_best payoffs marks place start step count) (below count) (below_law count))

  -- a marked strategy exceeds: the row is not unexceeded
  pub exceeded : (count own t : ℕ) → t < count → On t → cell_rank payoffs own < at t
      → row_unexceeded payoffs marks place start step count own ≡ false
  exceeded count own t l h k = test_false _ (λ u. omega (arith, (unexceeded_T count own).0 u t l h))

  -- ---- the lowest of the best ones, as a walk finds it

  -- what is known after n strategies: b is the lowest best one of those that are marked, or 0 where none is
  pub record Found (any : Bool) (b n : ℕ) : Type 0 where
    pub nothing : (T any → ⊥) → (b ≡ 0) × ((t : ℕ) → t < n → On t → ⊥)
    pub something : T any → (b < n) × Top n b × ((t : ℕ) → t < b → On t → at t < at b)

  -- a strategy that is not marked, or does not exceed the best so far, changes nothing
  pub found_old : (any : Bool) (b n : ℕ) → Found any b n → (On n → T any × (at n ≤ at b)) → Found any b (n + 1)
  found_old any b n f h =
      record {
        nothing = λ k. ((f.nothing k).0, below_more (λ t. On t → ⊥) n (f.nothing k).1 (λ i. k (h i).0));
        something = λ k.
            let (l, (on, top), low) = f.something k in
            (omega (arith, l), (on, below_more (λ t. On t → at t ≤ at b) n top (λ i. (h i).1)), low);
      }

  -- one that exceeds it, or is the first, is the best from there on
  pub found_new : (any : Bool) (b n : ℕ) → Found any b n → On n → (T any → at b < at n) → Found true n (n + 1)
  found_new any b n f h k =
      record {
        nothing = λ i. absurd (i tt);
        something = λ _.
            (omega arith, (h, below_more (λ t. On t → at t ≤ at n) n (λ t l j. omega (arith, less t l j)) (λ _. omega arith)), less);
      }
    where
      less : (t : ℕ) → t < n → On t → at t < at n
      less t l j = ⊎_elim (λ i. omega (arith, (f.something i).1.1 t l j, k i)) (λ i. absurd ((f.nothing i).1 t l j)) (either any)

  abbrev lowest : ℕ → Option ℕ
  lowest count = first (row_bests payoffs marks place start step count)

  lowest_law : (count : ℕ) → First ◌<◌ (λ s. (s < count) × Top count s) (lowest count)
  lowest_law count = first_law less_asym (row_bests payoffs marks place start step count) (row_bests_law count)

  -- what is found after all is the lowest best one
  pub found_end : (any : Bool) (b count : ℕ) → Found any b count → b ≡ row_lowest payoffs marks place start step count
  unfolding row_lowest
  found_end any b count f =
      ⊎_elim
      (λ h.
      let (l, (on, top), low) = f.something h in
      sym (ap or_zero (lowest_some (λ s. (s < count) × Top count s) (lowest count) (lowest_law count) b (l, (on, top))
      (λ t k i. omega (arith, low t k i.1.0, i.1.1 b l on)))))
      (λ h.
      (f.nothing h).0
      ∙ sym (ap or_zero (lowest_none (λ s. (s < count) × Top count s) (lowest count) (lowest_law count) (λ s i. (f.nothing h).1 s i.0 i.1.0))))
      (either any)

  -- ---- the best ones reach the lowest of them

  -- the lowest best one is a strategy of the row
  pub lowest_below : (count : ℕ) → 0 < count → row_lowest payoffs marks place start step count < count
  unfolding row_lowest
  lowest_below count some' = go (lowest count) (lowest_law count)
    where
      go : (o : Option ℕ) → First ◌<◌ (λ s. (s < count) × Top count s) o → or_zero o < count
      go none f = some'
      go (some b) f = f.0.0

  -- where a strategy is marked, the lowest best one is one of the best
  pub lowest_best : (count t : ℕ) → t < count → On t
      → (row_lowest payoffs marks place start step count < count) × Top count (row_lowest payoffs marks place start step count)
  unfolding row_lowest
  lowest_best count t l h = go (lowest count) (lowest_law count)
    where
      marked_mem : (u : ℕ) → (u ∈ filter (λ u. get_or marks (place + u) false) (below count)) ↔ ((u < count) × On u)
      marked_mem u = simp (filter_mem, below_mem) Iff.rfl

      go : (o : Option ℕ) → First ◌<◌ (λ s. (s < count) × Top count s) o → (or_zero o < count) × Top count (or_zero o)
      go none f =
          let (y, k, most) = greatest at (filter (λ u. get_or marks (place + u) false) (below count)) t ((marked_mem t).1 (l, h)) in
          let (j, i) = (marked_mem y).0 k in
          absurd (f y (j, (i, λ u l h. most u ((marked_mem u).1 (l, h)))))
      go (some b) f = f.0

  -- a marked strategy is a best one exactly where the lowest best one does not exceed it
  pub row_top_lem : (count t : ℕ) → t < count → On t
      → row_best payoffs marks place start step count t ≡ not (ltb (at t) (at (row_lowest payoffs marks place start step count)))
  row_top_lem count t l h =
      let (inside, (on, top)) = lowest_best count t l h in
      same_test _ _ (Iff.trans (row_best_T count t) (simp (no_T, ltb_T) (
        λ k b. omega (arith, b, k.1 _ inside on),
        λ k. (h, λ u j i. omega (arith, top u j i, at_most _ _ k)),
      )))

  -- so those that reach it are the best ones; where nothing is marked, both lists are empty
  pub row_reaching_lem : (count : ℕ)
      → row_reaching payoffs marks place start step count (start + row_lowest payoffs marks place start step count * step)
      ≡ row_bests payoffs marks place start step count
  unfolding row_reaching row_bests row_best
  row_reaching_lem count =
      filter_cong _ _ (below count) (λ t k.
      let on : Bool = get_or marks (place + t) false in
      ⊎_elim (λ h.
      ap (λ (b : Bool). b && not (ltb (at t) (at (row_lowest payoffs marks place start step count)))) (test_true on h)
      ∙ sym (row_top_lem count t ((below_mem count t).0 k) h)) (λ n. rw (test_false on n) refl) (either on))

  -- ---- those that reach a cell, as a walk meets them

  module _ (top : ℕ) where
    reaches : ℕ → Bool
    reaches t = get_or marks (place + t) false && not (ltb (at t) (cell_rank payoffs top))

    reaches_T : (t : ℕ) → T (reaches t) ↔ (On t × (cell_rank payoffs top ≤ at t))
    unfolding reaches
    reaches_T t = simp (and_T, no_T, ltb_T) (λ h. (h.0, at_most _ _ h.1), λ h. (h.0, λ k. omega (arith, h.1, k)))

    -- one more that is marked and that top does not exceed,
    pub reaching_yes : (t : ℕ) → On t → cell_rank payoffs top ≤ at t
        → row_reaching payoffs marks place start step (t + 1) top ≡ row_reaching payoffs marks place start step t top ++ (t ∷ [])
    unfolding row_reaching reaches
    reaching_yes t h k = filter_yes reaches t (test_true (reaches t) ((reaches_T t).1 (h, k)))

    pub reaching_one : (t : ℕ) → On t → cell_rank payoffs top ≤ at t
        → length (row_reaching payoffs marks place start step (t + 1) top) ≡ length (row_reaching payoffs marks place start step t top) + 1
    reaching_one t h k =
        ap length (reaching_yes t h k) ∙ length-append (row_reaching payoffs marks place start step t top) (t ∷ [])

    -- or one that is not
    pub reaching_not : (t : ℕ) → (On t → at t < cell_rank payoffs top)
        → row_reaching payoffs marks place start step (t + 1) top ≡ row_reaching payoffs marks place start step t top
    unfolding row_reaching reaches
    reaching_not t h = filter_not reaches t (test_false (reaches t) (λ k. let (i, j) = (reaches_T t).0 k in omega (arith, h i, j)))

    -- of the first n, no more than n reach, and no more than of any more
    pub reaching_few : (n : ℕ) → length (row_reaching payoffs marks place start step n top) ≤ n
    unfolding row_reaching reaches
    reaching_few n = omega (arith, filter_at_most reaches (below n), length_below n)

    pub reaching_grows : (m n : ℕ) → m ≤ n
        → length (row_reaching payoffs marks place start step m top) ≤ length (row_reaching payoffs marks place start step n top)
    unfolding row_reaching reaches
    reaching_grows m n h = filter_grows reaches m n h

-- ---- the row of a player's strategies in a table

-- the first cell of player p's row against the others' choices in x, and how far a cell is from the next
abbrev pub row_start : List ℕ → List ℕ → ℕ → ℕ
row_start counts x p = offset counts (set x p 0) * length counts + p

abbrev pub row_step : List ℕ → ℕ → ℕ
row_step counts p = stride counts p * length counts

module _ {counts : List ℕ} (shape : Shape counts) (payoffs : List Float) (marks : List Bool) {x : List ℕ} (r : Profile counts x) (p : ℕ)
    (mine : p < length counts) where
  -- against the others' choices in the profile x, the best of the row is the game's best response
  pub row_best_lem : (s : ℕ) → s < get_or counts p 0
      → row_best payoffs marks (p * max_strategies) (row_start counts x p) (row_step counts p) (get_or counts p 0) s
      ≡ best_response (table_game counts payoffs) (marked marks) p x s
  unfolding table_game
  row_best_lem s l =
      let some' : 0 < get_or counts p 0 = shape.low p mine in
      let most : get_or counts p 0 ≤ max_strategies = shape.high p mine in
      let mark : (t : ℕ) → t < get_or counts p 0 → marked marks p t ≡ get_or marks (p * max_strategies + t) false =
      λ t k. mark_at marks p t (omega arith) in
      let pay = row_pay p r mine some' payoffs in
      same_test _ _ (Iff.trans (row_best_T payoffs marks (p * max_strategies) (row_start counts x p) (row_step counts p) (get_or counts p 0) s)
      (Iff.symm (Iff.trans (best_response_law (table_game counts payoffs) (marked marks) p x s) (
        λ h. (rw (mark s l) at h.0, λ t k on. omega (arith, pay t k, pay s l, h.1 t k (rw (mark t k) on))),
        λ h. (rw (mark s l) h.0, λ t k on. omega (arith, pay t k, pay s l, h.1 t k (rw (mark t k) at on))),
      ))))

  -- so the best of the row are the best responses
  pub row_bests_lem : row_bests payoffs marks (p * max_strategies) (row_start counts x p) (row_step counts p) (get_or counts p 0)
      ≡ best_responses (table_game counts payoffs) (marked marks) p x
  unfolding row_bests best_responses table_game
  row_bests_lem = filter_cong _ _ (below (get_or counts p 0)) (λ s k. row_best_lem s ((below_mem (get_or counts p 0) s).0 k))
