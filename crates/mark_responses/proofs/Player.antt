-- The rows of one player: each profile is in the row that begins at its base, the profile with 0 in the player's place. They stand in blocks, in
-- each of which as many as the player's stride are side by side. Assumes nothing.
use mathlib.Core.Path.{◌≡◌, refl, sym, ap, ap₂, ◌∙◌, subst⁻¹}
use mathlib.Core.Bool.{Bool, false}
use mathlib.Core.List.Memᴰ.{cases_cons as in-cons}
use mathlib.Core.List.Memᴰ.{not-nil as not-in-nil}
use mathlib.Core.List.{List, [], ◌∷◌, map}
use mathlib.Core.Logic.Iff
use mathlib.Core.Logic.{◌↔◌, ⊎_elim}
use Prim.Native.Nat.{ℕ, suc, ◌+◌, ◌*◌, ◌-◌, ◌/◌, ◌%◌, ◌≤◌, ◌<◌, zero-le, suc-le-suc}
use native.Mathlib.Nat.{mul_assoc, mul_comm, add-mul, one-mul, mod-lt, div-add-mod', mul-le-mul_right, le_trans, mul-div_cancel_left}
use native.Mathlib.Omega.{arith}
use lib.Arith.{digits_lt, digits_div, digits_mod}
use lib.Dec.{T}
use lib.ListN.{length, get_or, take, length-map}
use lib.Ieee.{Float}
use Rattle.game.specs.Finite.{◌∈◌, product}
use Rattle.game.specs.Game.{profiles}
use Rattle.game.proofs.Finite.{le_or_lt, no_T, ltb_T, all_T, at_most, either, test_false, same_test, below_mem, filter_mem}
use Rattle.refusal.specs.Told.{byte_of}
use Rattle.payoff_tables.specs.Limits.{max_players, max_strategies, max_cells}
use Rattle.payoff_tables.specs.Table.{stride, cell_rank, table_game}
use Rattle.payoff_tables.specs.Meaning.{Table}
use Rattle.payoff_tables.proofs.Offsets.{product_split, product_drop, drop_at_most, drop_positive, take_positive, take_at_most, get_or_map, get_or_mem, stride_positive, walk_at_most}
use Rattle.payoff_tables.proofs.Walk.{shape_some, shape_room, step_room}
use Rattle.marks.specs.Marks.{marked}
use Rattle.strategy_row.specs.Row.{row_best}
use Rattle.strategy_row.proofs.Row.{row_best_T}
use Rattle.strategy_row.proofs.Change.{best_row}
use Rattle.response_marks.specs.Marks.{settled}
use Rattle.mark_responses.specs.Sweep.{marked_of, step_rank, row_top, Nested, Within, CellOf, BytesMarked, Wants, RowsMarked, choice_at, Ready, PlayerMarked}

-- ---- the marked strategies and the cells of a row

-- where an element stands
mem_at : {A : Type 0} (xs : List A) (x d : A) → x ∈ xs → (i : ℕ) × (i < length xs) × (get_or xs i d ≡ x)
mem_at [] x d h = absurd (not-in-nil h)
mem_at (y ∷ ys) x d h =
    ⊎_elim (λ (e : x ≡ y). (0, suc-le-suc zero-le, sym e)) (λ k. let (i, l, e) = mem_at ys x d k in (suc i, suc-le-suc l, e)) (in-cons h)

module _ (survivors : List Bool) (place count : ℕ) where
  marked_mem : (t : ℕ) → (t ∈ marked_of survivors place count) ↔ ((t < count) × T (get_or survivors (place + t) false))
  unfolding marked_of
  marked_mem t = simp (filter_mem, below_mem) Iff.rfl

  module _ (payoffs : List Float) (step : ℕ) (steps : List ℕ) (are : steps ≡ map (λ t. t * step) (marked_of survivors place count)) where
    steps_length : length steps ≡ length (marked_of survivors place count)
    steps_length = ap length are ∙ length-map (marked_of survivors place count) (λ t. t * step)

    -- the i-th cell is that of a marked strategy,
    step_of : (i : ℕ) → i < length steps → (t : ℕ) × (t < count) × T (get_or survivors (place + t) false) × (get_or steps i 0 ≡ t * step)
    step_of i h =
        let l : i < length (marked_of survivors place count) = omega (arith, steps_length) in
        let t : ℕ = get_or (marked_of survivors place count) i 0 in
        let (a, b) = (marked_mem t).0 (get_or_mem (marked_of survivors place count) i 0 l) in
        (t, a, b, ap (λ (xs : List ℕ). get_or xs i 0) are ∙ get_or_map (λ t. t * step) (marked_of survivors place count) i 0 0 l)

    -- and each marked strategy has one.
    step_at : (t : ℕ) → t < count → T (get_or survivors (place + t) false) → (i : ℕ) × (i < length steps) × (get_or steps i 0 ≡ t * step)
    step_at t a b =
        let (i, l, e) = mem_at (marked_of survivors place count) t 0 ((marked_mem t).1 (a, b)) in
        (i, omega (arith, steps_length), ap (λ (xs : List ℕ). get_or xs i 0) are ∙ get_or_map (λ t. t * step) (marked_of survivors place count) i 0 0 l ∙ ap (λ (u : ℕ). u * step) e)

    -- No cell exceeds that of t exactly where t is a best one of the row.
    row_top_best : (start i t : ℕ) → i < length steps → t < count → T (get_or survivors (place + t) false) → get_or steps i 0 ≡ t * step
        → row_top payoffs steps start i ≡ row_best payoffs survivors place start step count t
    unfolding row_top
    row_top_best start i t h l on e =
        let rank : (j u : ℕ) → get_or steps j 0 ≡ u * step → step_rank payoffs steps start j ≡ cell_rank payoffs (start + u * step) =
        λ j u q. ap (λ (s : ℕ). cell_rank payoffs (start + s)) q in
        same_test _ _ (Iff.trans (simp (all_T, below_mem, no_T, ltb_T) (
          λ f. (on, λ u k m. let (j, b, q) = step_at u k m in omega (arith, rank j u q, rank i t e, at_most _ _ (f j b))),
          λ f j b c. let (u, k, m, q) = step_of j b in omega (arith, rank j u q, rank i t e, f.1 u k m, c),
        )) (Iff.symm (row_best_T payoffs survivors place start step count t)))

-- ---- where a row begins: j places after the q-th block, which has c rows' cells, s of them side by side

module _ (s c : ℕ) (some : 0 < s) where
  -- every k is in one
  base_is : (k : ℕ) → k - k / s % c * s ≡ k / s / c * (c * s) + k % s
  base_is k =
      let q : ℕ = k / s / c in
      let e : k / s * s ≡ q * (c * s) + k / s % c * s =
      ap (λ (n : ℕ). n * s) (sym (div-add-mod' (k / s) c)) ∙ add-mul (q * c) (k / s % c) s ∙ ap (λ (n : ℕ). n + k / s % c * s) (mul_assoc q c s) in
      omega (arith, e, div-add-mod' k s)

  -- and the choice of the t-th of a row is t
  row_choice : (q j t : ℕ) → j < s → t < c → (q * (c * s) + j + t * s) / s % c ≡ t
  row_choice q j t l h =
      let e : q * (c * s) + j + t * s ≡ (q * c + t) * s + j = omega (arith, add-mul (q * c) t s, mul_assoc q c s) in
      ap (λ (n : ℕ). n / s % c) e ∙ ap (λ (n : ℕ). n % c) (digits_div (q * c + t) l) ∙ digits_mod q h

  -- and the block is within the table
  block_of : (n k : ℕ) → k < n * (c * s) → k / s / c < n
  block_of n k h =
      ⊎_elim (λ (l : n ≤ k / s / c). absurd (omega (arith, mul-le-mul_right (c * s) l, base_is k, h))) (λ l. l) (le_or_lt n (k / s / c))

-- two cells of one place are the same profile's
cell_once : (n k p l : ℕ) → p < n → k * n + p ≡ l * n + p → k ≡ l
cell_once n k p l h e = sym (digits_div k h) ∙ ap (λ (m : ℕ). m / n) e ∙ digits_div l h

-- ---- the marks of one player, in a table of n of its blocks

module _ (counts : List ℕ) (payoffs : List Float) (survivors : List Bool) (table : Table counts payoffs) (p : ℕ) (mine : p < length counts) where
  abbrev s : ℕ
  s = stride counts p

  abbrev c : ℕ
  c = get_or counts p 0

  abbrev P : ℕ
  P = length counts

  low : 0 < c
  low = table.shape.low p mine

  wide : 0 < s
  wide = stride_positive counts p (shape_some table.shape)

  -- whether player p's choice in the k-th profile is a best response
  abbrev best : ℕ → Bool
  best k = settled (table_game counts payoffs) (marked survivors) (get_or (profiles counts) k []) p

  -- by the row that it is in
  settled_row : (k : ℕ) → k < product counts
      → best k ≡ row_best payoffs survivors (p * max_strategies) ((k - choice_at counts p k * s) * P + p) (s * P) c (choice_at counts p k)
  unfolding settled
  settled_row k h = best_row table.shape k p h mine payoffs survivors

  -- where the choice is not marked, it is none
  unsettled : (k : ℕ) → k < product counts → (T (get_or survivors (p * max_strategies + choice_at counts p k) false) → ⊥) → byte_of (best k) ≡ 0
  unsettled k h n =
      ap byte_of (settled_row k h
      ∙ test_false _ (λ t. n ((row_best_T payoffs survivors (p * max_strategies) ((k - choice_at counts p k * s) * P + p) (s * P) c (choice_at counts p k)).0 t).0))

  -- where none of the player's strategies is marked, there is nothing to do
  pub player_unmarked : (marks : List ℕ) → Ready counts survivors p marks → length (marked_of survivors (p * max_strategies) c) ≡ 0
      → PlayerMarked counts payoffs survivors p marks marks
  player_unmarked marks ready e =
      let none_on : (k : ℕ) → T (get_or survivors (p * max_strategies + choice_at counts p k) false) → ⊥ =
      λ k t.
      let (i, l, _) = mem_at (marked_of survivors (p * max_strategies) c) (choice_at counts p k) 0 ((marked_mem survivors (p * max_strategies) c (choice_at counts p k)).1 (mod-lt (k / s) low, t)) in
      omega (arith, l, e) in
      record {
        long = refl;
        done = λ k h. ⊎_elim (λ on. absurd (none_on k on)) (λ (z : get_or marks (k * P + p) 0 ≡ 0). z ∙ sym (unsettled k h (none_on k))) (ready k h);
        kept = λ c h. refl;
      }

  module _ (n : ℕ) (blocks : product counts ≡ n * (c * s)) where
    -- the t-th profile of the row that begins j places after the q-th block
    module _ (q j t : ℕ) (in_block : q < n) (l : j < s) (h : t < c) where
      abbrev b : ℕ
      b = q * (c * s) + j

      nth_inside : b + t * s < product counts
      nth_inside = omega (arith, digits_lt h l, mul-le-mul_right (c * s) in_block, blocks, add-mul q 1 (c * s))

      nth_best : best (b + t * s) ≡ row_best payoffs survivors (p * max_strategies) (b * P + p) (s * P) c t
      nth_best =
          let chosen : choice_at counts p (b + t * s) ≡ t = row_choice s c wide q j t l h in
          let base : b + t * s - choice_at counts p (b + t * s) * s ≡ b = omega (arith, ap (λ (m : ℕ). m * s) chosen) in
          settled_row (b + t * s) nth_inside ∙ ap₂ (λ (a u : ℕ). row_best payoffs survivors (p * max_strategies) (a * P + p) (s * P) c u) base chosen

      nth_cell : b * P + p + t * (s * P) ≡ (b + t * s) * P + p
      nth_cell = omega (arith, add-mul b (t * s) P, mul_assoc t s P)

    -- where the rows begin
    abbrev pub Begins : ℕ → Type 0
    Begins st = (q : ℕ) × (j : ℕ) × (q < n) × (j < s) × (st ≡ (q * (c * s) + j) * P + p)

    module _ (steps : List ℕ) (are : steps ≡ map (λ t. t * (s * P)) (marked_of survivors (p * max_strategies) c)) where
      -- a cell of a row is that of a marked strategy
      cell_of : (st i : ℕ) → Begins st → i < length steps
          → (k : ℕ) × (k < product counts) × T (get_or survivors (p * max_strategies + choice_at counts p k) false)
          × (st + get_or steps i 0 ≡ k * P + p) × (row_top payoffs steps st i ≡ best k)
      cell_of st i (q, j, m, l, at) h =
          let (t, a, on, is) = step_of survivors (p * max_strategies) c payoffs (s * P) steps are i h in
          let b : ℕ = q * (c * s) + j in
          let e : st + get_or steps i 0 ≡ (b + t * s) * P + p = ap₂ ◌+◌ at is ∙ nth_cell q j t m l a in (
            b + t * s,
            nth_inside q j t m l a,
            subst⁻¹ (λ (u : ℕ). T (get_or survivors (p * max_strategies + u) false)) (row_choice s c wide q j t l a) on,
            e,
            row_top_best survivors (p * max_strategies) c payoffs (s * P) steps are st i t h a on is
                ∙ ap (λ (m : ℕ). row_best payoffs survivors (p * max_strategies) m (s * P) c t) at ∙ sym (nth_best q j t m l a),
          )

      module _ (S : ℕ → Type 0) (to : (st : ℕ) → S st → Begins st) (from : (st : ℕ) → Begins st → S st) where
        -- the rows lie within the table
        pub rows_within : Within steps S (length payoffs)
        rows_within st i at h =
            let (k, l, _, e, _) = cell_of st i (to st at) h in
            rw (e, table.full) (digits_lt l mine)

        -- what is wanted of a cell of the player
        abbrev want : ℕ → Bool
        want d = best (d / P)

        wants : Wants payoffs steps S want
        wants st i at h =
            let (k, _, _, e, is) = cell_of st i (to st at) h in
            is ∙ sym (ap best (ap (λ (m : ℕ). m / P) e ∙ digits_div k mine))

        -- so that once they are marked the player is
        pub player_rows : (before marks : List ℕ) → Ready counts survivors p before → RowsMarked payoffs steps S before marks
            → PlayerMarked counts payoffs survivors p before marks
        player_rows before marks ready rows =
            record { long = m.long; done = done; kept = λ d h. ⊎_elim (λ e. e) (λ (st, i, at, l, e). let (k, a, _, f, _) = cell_of st i (to st at) l in absurd (h k a (e ∙ f))) (m.each d) }
          where
            m : BytesMarked want (CellOf steps (length steps) S) before marks
            m = rows want wants

            done : (k : ℕ) → k < product counts → get_or marks (k * P + p) 0 ≡ byte_of (best k)
            done k h =
                let t : ℕ = choice_at counts p k in
                ⊎_elim
                (λ on.
                let (i, l, e) = step_at survivors (p * max_strategies) c payoffs (s * P) steps are t (mod-lt (k / s) low) on in
                let q : ℕ = k / s / c in
                let j : ℕ = k % s in
                let is : q * (c * s) + j + t * s ≡ k = omega (arith, base_is s c wide k, walk_at_most counts k p) in
                let inside : q < n = block_of s c wide n k (rw (← blocks) h) in
                let cell : (q * (c * s) + j) * P + p + get_or steps i 0 ≡ k * P + p =
                ap (λ (m : ℕ). (q * (c * s) + j) * P + p + m) e ∙ nth_cell q j t inside (mod-lt k wide) (mod-lt (k / s) low) ∙ ap (λ (m : ℕ). m * P + p) is in
                m.on (k * P + p) ((q * (c * s) + j) * P + p, i, from _ (q, j, inside, mod-lt k wide, refl), l, sym cell)
                ∙ ap (λ (m : ℕ). byte_of (best m)) (digits_div k mine))
                (λ off.
                ⊎_elim
                (λ (e : get_or marks (k * P + p) 0 ≡ get_or before (k * P + p) 0).
                ⊎_elim (λ on. absurd (off on)) (λ (z : get_or before (k * P + p) 0 ≡ 0). e ∙ z ∙ sym (unsettled k h off)) (ready k h))
                (λ (st, i, at, l, e).
                let (v, _, on, f, _) = cell_of st i (to st at) l in
                let same : k ≡ v = cell_once P k p v mine (e ∙ f) in
                absurd (off (subst⁻¹ (λ (u : ℕ). T (get_or survivors (p * max_strategies + choice_at counts p u) false)) same on)))
                (m.each (k * P + p)))
                (either (get_or survivors (p * max_strategies + t) false))

    -- The rows, block by block, and place by place.
    start_is : (q j : ℕ) → (q * (c * s) + j) * P + p ≡ p + q * (c * (s * P)) + j * P
    start_is q j = omega (arith, add-mul (q * (c * s)) j P, mul_assoc q (c * s) P, ap (λ (m : ℕ). q * m) (mul_assoc c s P))

    pub by_blocks : (st : ℕ) → Nested p (c * (s * P)) n P s st → Begins st
    by_blocks st (q, m, (j, l, e)) = (q, j, m, l, e ∙ sym (start_is q j))

    pub blocks_all : (st : ℕ) → Begins st → Nested p (c * (s * P)) n P s st
    blocks_all st (q, j, m, l, e) = (q, m, (j, l, e ∙ start_is q j))

    pub by_places : (st : ℕ) → Nested p P s (c * (s * P)) n st → Begins st
    by_places st (j, l, (q, m, e)) = (q, j, m, l, omega (arith, e, start_is q j))

    pub places_all : (st : ℕ) → Begins st → Nested p P s (c * (s * P)) n st
    places_all st (q, j, m, l, e) = (j, l, (q, m, omega (arith, e, start_is q j)))

-- ---- what `mark_player` needs of its player: s is its stride, and n the number of its blocks

pub record Facts (counts : List ℕ) (payoffs : List Float) (p s n total : ℕ) : Type 0 where
  pub low : 0 < get_or counts p 0
  pub high : get_or counts p 0 ≤ max_strategies
  pub few : length counts ≤ max_players
  pub wide : 0 < s
  pub room : s ≤ max_cells
  pub step : s * length counts ≤ max_cells
  pub span : get_or counts p 0 * (s * length counts) ≤ max_cells
  pub block : 0 < get_or counts p 0 * s
  pub block_room : get_or counts p 0 * s ≤ max_cells
  pub some : 0 < n
  pub many : n ≤ max_cells
  pub blocks : total ≡ n * (get_or counts p 0 * s)
  pub full : length payoffs ≤ max_cells

pub facts : (counts : List ℕ) (payoffs : List Float) (p s total : ℕ) → Table counts payoffs → p < length counts → s ≡ stride counts p → total ≡ product counts
    → Facts counts payoffs p s (total / (get_or counts p 0 * s)) total
facts counts payoffs p s total table mine e m =
    let h = table.shape in
    let c : ℕ = get_or counts p 0 in
    let t : ℕ = stride counts p in
    let here : product counts ≡ product (take p counts) * (c * t) = product_split counts p ∙ ap (λ (k : ℕ). product (take p counts) * k) (product_drop counts p mine) in
    let block : c * t ≤ product counts = rw (← product_drop counts p mine) (drop_at_most counts p (shape_some h)) in
    let wide : 0 < t = stride_positive counts p (shape_some h) in
    let some : 0 < c * t = rw (← product_drop counts p mine) (drop_positive counts p (shape_some h)) in
    let is : product counts / (c * t) ≡ product (take p counts) = ap (λ (k : ℕ). k / (c * t)) (here ∙ mul_comm (product (take p counts)) (c * t)) ∙ mul-div_cancel_left (product (take p counts)) some in
    rw (e, m) (record {
      low = h.low p mine;
      high = h.high p mine;
      few = h.few;
      wide = wide;
      room = omega (arith, mul-le-mul_right t (h.low p mine), one-mul t, block, shape_room h);
      step = step_room h p;
      span = rw (← mul_assoc c t (length counts)) (le_trans (mul-le-mul_right (length counts) block) h.room);
      block = some;
      block_room = le_trans block (shape_room h);
      some = rw is (take_positive counts p (shape_some h));
      many = rw is (le_trans (take_at_most counts p (shape_some h)) (shape_room h));
      blocks = here ∙ ap (λ (k : ℕ). k * (c * t)) (sym is);
      full = rw table.full h.room;
    })
