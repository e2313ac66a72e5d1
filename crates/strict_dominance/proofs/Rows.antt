-- The rows of a player's cells, one for each choice of the others: where each row starts, that the walk meets every start, and what a walk
-- over the starts, or over those where the others' choices are marked, says of two strategies. Assumes nothing.
use mathlib.Core.Path.{◌≡◌, refl, sym, ap, ◌∙◌, subst}
use mathlib.Core.Bool.{Bool, false}
use mathlib.Core.List.{List, []}
use mathlib.Core.Logic.{◌≢◌, ⊎_elim}
use Prim.Native.Nat.{ℕ, suc, ◌+◌, ◌*◌, ◌-◌, ◌/◌, ◌%◌, ◌≤◌, ◌<◌}
use native.Mathlib.Nat.{sub-zero, zero-mul, eq-or-lt_of_le, suc-mul, mul_assoc, mul-le-mul_right, mul-mod_left, mod-lt, div-add-mod', le_trans}
use native.Mathlib.Omega.{arith}
use lib.Arith.{digits_div}
use lib.Dec.{T}
use lib.ListN.{length, get_or, set}
use lib.Seq.{get_or-set_same, get_or-set_other}
use lib.Ieee.{Float}
use Rattle.game.specs.Finite.{product}
use Rattle.game.specs.Game.{choice, Profile, profiles}
use Rattle.game.specs.Meaning.{Dominator}
use Rattle.game.proofs.Finite.{le_or_lt}
use Rattle.game.proofs.Game.{set_profile}
use Rattle.payoff_tables.specs.Limits.{max_players, max_strategies, max_cells, max_marks}
use Rattle.payoff_tables.specs.Table.{cells, offset, stride, cell_rank, table_game}
use Rattle.payoff_tables.specs.Meaning.{Shape, Table}
use Rattle.payoff_tables.proofs.Offsets.{product_drop, drop_at_most, stride_positive, offset_below, offset_choice, nth_choice, nth_profile, nth_offset}
use Rattle.payoff_tables.proofs.Walk.{shape_some, shape_room, row_inside, row_pay, row_start_lem}
use Rattle.marks.specs.Marks.{marked}
use Rattle.marks.proofs.Marks.{mark_at, mark_inside}
use Rattle.marked_rows.specs.Rows.{Seen, MarkedRow, NextRow}

-- ---- where rows start: for a player with c strategies and stride s, at the first s offsets of every c × s

-- b is a start, and w its place among the s
pub record Start (s c b w : ℕ) : Type 0 where
  pub runs : ℕ
  pub within : w < s
  pub is : b ≡ runs * (c * s) + w

module _ {s c : ℕ} where
  pub first_start : 0 < s → Start s c 0 0
  first_start h = record { runs = 0; within = h; is = sym (omega (arith, zero-mul (c * s))) }

  -- the next start stands beside, and after the last of a run at the next run
  module _ {b w : ℕ} (a : Start s c b w) where
    pub start_beside : (w + 1 ≡ s → ⊥) → Start s c (b + 1) (w + 1)
    start_beside n = record { runs = a.runs; within = omega (arith, a); is = omega (arith, a) }

    module _ (some : 0 < c) (last : w + 1 ≡ s) where
      apart : c * s ≡ (c - 1) * s + s
      apart = let e : c ≡ suc (c - 1) = omega arith in ap (λ (n : ℕ). n * s) e ∙ suc-mul (c - 1) s

      pub start_after : Start s c (b + 1 + (c - 1) * s) 0
      start_after = record { runs = suc a.runs; within = omega arith; is = omega (arith, a, apart, suc-mul a.runs (c * s)) }

      -- and there is none between
      pub none_between : (d v : ℕ) → Start s c d v → d < b + 1 + (c - 1) * s → d ≤ b
      none_between d v o h =
          ⊎_elim (λ (l : o.runs ≤ a.runs). omega (arith, a, o, mul-le-mul_right (c * s) l))
          (λ (l : a.runs < o.runs). absurd (omega (arith, a, o, apart, suc-mul a.runs (c * s), mul-le-mul_right (c * s) l)))
          (le_or_lt o.runs a.runs)

    -- at a start the player's choice is 0
    pub start_choice : b / s % c ≡ 0
    start_choice =
        let e : b ≡ a.runs * c * s + w = rw (mul_assoc a.runs c s) a.is in
        rw (e, digits_div (a.runs * c) a.within) (mul-mod_left a.runs c)

  -- where the player's choice is 0, a row starts
  pub choice_start : (d : ℕ) → 0 < s → d / s % c ≡ 0 → Start s c d (d % s)
  choice_start d h e =
      let q : d / s ≡ d / s / c * c = omega (arith, div-add-mod' (d / s) c) in
      record {
        runs = d / s / c;
        within = mod-lt d h;
        is = omega (arith, div-add-mod' d s, ap (λ (n : ℕ). n * s) q, mul_assoc (d / s / c) c s);
      }

-- ---- the player's rows

-- what fits, of a player whose stride is s
pub record Player (cs : List ℕ) (p s : ℕ) : Type 0 where
  pub few : length cs ≤ max_players
  pub some : 0 < get_or cs p 0
  pub high : get_or cs p 0 ≤ max_strategies
  pub wide : 0 < s
  pub step : s * length cs ≤ max_cells
  pub skip : (get_or cs p 0 - 1) * s ≤ max_cells
  pub under : product cs ≤ max_cells

pub player : (cs : List ℕ) (p s : ℕ) → Shape cs → p < length cs → s ≡ stride cs p → Player cs p s
unfolding stride
player cs p s h mine e =
    let some = shape_some h in
    let block : get_or cs p 0 * s ≤ product cs = rw (e, ← product_drop cs p mine) (drop_at_most cs p some) in
    record {
      few = h.few;
      some = h.low p mine;
      high = h.high p mine;
      wide = rw e (stride_positive cs p some);
      step = le_trans (mul-le-mul_right (length cs) (rw e (drop_at_most cs (suc p) some))) h.room;
      skip = le_trans (mul-le-mul_right s (omega arith)) (le_trans block (shape_room h));
      under = shape_room h;
    }

-- the row that starts at b: strategy t's cell is t steps from the first
pub record Row (cs : List ℕ) (payoffs : List Float) (p s b : ℕ) : Type 0 where
  pub cells_fit : (t : ℕ) → t < get_or cs p 0 → b * length cs + p + t * (s * length cs) < length payoffs
  pub pays : (t : ℕ) → t < get_or cs p 0
      → (table_game cs payoffs).pay p (set (get_or (profiles cs) b []) p t) ≡ cell_rank payoffs (b * length cs + p + t * (s * length cs))

-- Where every place is marked, so are the others' choices in every profile.
pub seen_whole : (cs : List ℕ) (marks : List Bool) (p k : ℕ) → Shape cs → k < product cs → ((i : ℕ) → i < max_marks → T (get_or marks i false))
    → Seen cs (marked marks) p k
seen_whole cs marks p k shape h all q l _ =
    let s : ℕ = choice (get_or (profiles cs) k []) q in
    let under : s < max_strategies = omega (arith, (nth_profile cs k h).fits q l, shape.high q l) in
    rw (mark_at marks q s under) (all (q * max_strategies + s) (mark_inside q s (omega (arith, shape.few)) under))

-- A row starts at b, and the others' choices there are marked.
pub record Met (cs : List ℕ) (marks : List Bool) (p s b : ℕ) : Type 0 where
  pub within : ℕ
  pub start : Start s (get_or cs p 0) b within
  pub seen : Seen cs (marked marks) p b

module _ {cs : List ℕ} (marks : List Bool) {p s b : ℕ} (e : s ≡ stride cs p) (mine : p < length cs) where
  pub start_row : {w : ℕ} → Start s (get_or cs p 0) b w → b < product cs → Seen cs (marked marks) p b → MarkedRow cs (marked marks) p b
  start_row o h sees = record { inside = h; own = nth_choice cs b p h mine ∙ rw (← e) (start_choice o); seen = sees }

  pub row_met : 0 < s → MarkedRow cs (marked marks) p b → Met cs marks p s b
  row_met some r =
      record {
        within = b % s;
        start = choice_start b some (rw e (sym (nth_choice cs b p r.inside mine) ∙ r.own));
        seen = r.seen;
      }

-- ---- two strategies, row by row

module _ (cs : List ℕ) (payoffs : List Float) (marks : List Bool) (p s i t : ℕ) where
  -- where the others' choices are marked, i pays less than t in the row that starts at b,
  abbrev pub Less : ℕ → Type 0
  Less b =
      Seen cs (marked marks) p b
      → cell_rank payoffs (b * length cs + p + i * (s * length cs)) < cell_rank payoffs (b * length cs + p + t * (s * length cs))

  -- and in every row that starts before b
  abbrev pub LessTo : ℕ → Type 0
  LessTo b = (d v : ℕ) → Start s (get_or cs p 0) d v → d < b → Less d

  pub less_beside : (b : ℕ) → LessTo b → Less b → LessTo (b + 1)
  less_beside b all here d v o h = ⊎_elim (λ (q : d ≡ b). rw q here) (all d v o) (eq-or-lt_of_le (let k : d ≤ b = omega arith in k))

  pub less_after : {b w : ℕ} → Start s (get_or cs p 0) b w → 0 < get_or cs p 0 → w + 1 ≡ s → LessTo (b + 1) → LessTo (b + 1 + (get_or cs p 0 - 1) * s)
  less_after a some last all d v o h = all d v o (omega (arith, none_between a some last d v o h))

  -- from marked row to marked row
  module _ (e : s ≡ stride cs p) (mine : p < length cs) where
    pub less_first : (r : ℕ) → NextRow cs (marked marks) p 0 r → LessTo r
    less_first r n d v o h sees = absurd (n.none_before d (omega arith) h (start_row marks e mine o (omega (arith, n.most)) sees))

    pub less_next : (b r : ℕ) → LessTo b → Less b → NextRow cs (marked marks) p (b + 1) r → LessTo r
    less_next b r all here n d v o h =
        ⊎_elim (λ (l : d ≤ b). less_beside b all here d v o (omega arith))
        (λ (l : b < d) sees. absurd (n.none_before d (omega arith) h (start_row marks e mine o (omega (arith, n.most)) sees))) (le_or_lt d b)

module _ {cs : List ℕ} {payoffs : List Float} (table : Table cs payoffs) (p s : ℕ) (mine : p < length cs) (e : s ≡ stride cs p) where
  pub row : {b w : ℕ} → Start s (get_or cs p 0) b w → b < product cs → Row cs payoffs p s b
  row {b} a h =
      let some : 0 < get_or cs p 0 = table.shape.low p mine in
      let r : Profile cs (get_or (profiles cs) b []) = nth_profile cs b h in
      let z : b / stride cs p % get_or cs p 0 ≡ 0 = rw e at (start_choice a) in
      let here : offset cs (set (get_or (profiles cs) b []) p 0) ≡ b =
      sym (row_start_lem cs b p h mine some) ∙ rw (z, zero-mul, sub-zero) refl in
      record {
        cells_fit = λ t l. rw (e, table.full) (subst (λ n. n * length cs + p + t * (stride cs p * length cs) < cells cs) here (row_inside p r mine some t l));
        pays = λ t l.
            rw e (subst (λ n. (table_game cs payoffs).pay p (set (get_or (profiles cs) b []) p t) ≡ cell_rank payoffs (n * length cs + p + t * (stride cs p * length cs))) here (row_pay p r mine some payoffs t l));
      }

  module _ (marks : List Bool) (i t : ℕ) (l : i < get_or cs p 0) where
    -- A row denies that t dominates i: the others' choices are marked, and i pays no less.
    pub denied : {b w : ℕ} → Start s (get_or cs p 0) b w → b < product cs → Seen cs (marked marks) p b
        → (cell_rank payoffs (b * length cs + p + i * (s * length cs)) < cell_rank payoffs (b * length cs + p + t * (s * length cs)) → ⊥)
        → Dominator (table_game cs payoffs) (marked marks) p i t → ⊥
    unfolding table_game
    denied {b} a h sees n (k, _, (_, more)) =
        let r = row a h in
        n (rw (← r.pays i l, ← r.pays t k) (more (get_or (profiles cs) b []) (nth_profile cs b h) sees))

    -- After the last row none has.
    pub dominates_all : t < get_or cs p 0 → T (marked marks p t) → t ≢ i → {b : ℕ} → product cs ≤ b → LessTo cs payoffs marks p s i t b
        → Dominator (table_game cs payoffs) (marked marks) p i t
    unfolding table_game
    dominates_all k m n {b} h all = (
      k,
      m,
      (
        n,
        λ x r o.
            let some = table.shape.low p mine in
            let q = set_profile cs x r p 0 mine some in
            let d = offset cs (set x p 0) in
            let z : d / s % get_or cs p 0 ≡ 0 = rw e (offset_choice p q mine ∙ get_or-set_same x p 0 0 (rw r.each mine)) in
            let sees : Seen cs (marked marks) p d =
            λ j l f. rw (nth_offset q, get_or-set_other x p j 0 0 f) (o j l f) in
            let less = all d (d % s) (choice_start d (rw e (stride_positive cs p (shape_some table.shape))) z) (omega (arith, offset_below q)) sees in
            rw (row_pay p r mine some payoffs i l, row_pay p r mine some payoffs t k, ← e) less,
      ),
    )
