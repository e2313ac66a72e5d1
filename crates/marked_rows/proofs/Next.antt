-- From one row of marked choices to the next, choice by choice: the first row has each player's first choice, and the next one after a row
-- goes up at the last player that has a choice to go to, and has the first choices after it. Assumes nothing.
use mathlib.Core.Path.{◌≡◌, refl, sym, ap, ◌∙◌, subst}
use mathlib.Core.Bool.{Bool}
use mathlib.Core.List.{List, []}
use mathlib.Core.Logic.{◌≢◌, ⊎_elim}
use Prim.Native.Nat.{ℕ, ◌+◌, ◌*◌, ◌-◌, ◌/◌, ◌%◌, ◌≤◌, ◌<◌}
use native.Mathlib.Nat.{le_refl, eq-or-lt_of_le, add-mul}
use native.Mathlib.Omega.{arith}
use lib.Dec.{T}
use lib.ListN.{length, get_or, set, length-set, get_or-replicate, get_or-eq_default}
use lib.Seq.{get_or-set_same, get_or-set_other}
use Rattle.game.specs.Finite.{product}
use Rattle.game.specs.Game.{choice, profiles, Marks}
use Rattle.game.proofs.Finite.{le_or_lt}
use Rattle.game.proofs.Game.{earlier_asym, set_profile}
use Rattle.payoff_tables.specs.Limits.{max_players, max_strategies}
use Rattle.payoff_tables.specs.Table.{offset, stride}
use Rattle.payoff_tables.proofs.Offsets.{earlier_offset, nth_earlier, nth_profile, offset_nth, nth_offset, nth_zero, nth_choice, walk_at_most, walk_base, walk_below}
use Rattle.marks.specs.Marks.{marked}
use Rattle.marks.proofs.Marks.{mark_at}
use Rattle.marked_rows.specs.Rows.{NextMark, Kept, MarkedRow, NextRow}

-- ---- numbers

-- a is b, or below it, or above
compare : {C : Type 0} (a b : ℕ) → (a ≡ b → C) → (a < b → C) → (b < a → C) → C
compare a b is under over = ⊎_elim (λ (l : a ≤ b). ⊎_elim is under (eq-or-lt_of_le l)) over (le_or_lt a b)

-- b strides are a strides and the difference
split : (a b s : ℕ) → a ≤ b → b * s ≡ a * s + (b - a) * s
split a b s h = ap (λ (n : ℕ). n * s) (let e : b ≡ a + (b - a) = omega arith in e) ∙ add-mul a (b - a) s

-- ---- choices by the offset

-- what player q chooses in the k-th profile
abbrev pub chosen : List ℕ → ℕ → ℕ → ℕ
chosen cs k q = choice (get_or (profiles cs) k []) q

-- as it is read from the offset, where q's stride is s
choice_read : (cs : List ℕ) (k q s : ℕ) → s ≡ stride cs q → k < product cs → q < length cs → chosen cs k q ≡ k / s % get_or cs q 0
choice_read cs k q s e h l = rw e (nth_choice cs k q h l)

-- the j-th profile is that of k with t as player q's choice
pub record Changed (cs : List ℕ) (k q t j : ℕ) : Type 0 where
  pub inside : j < product cs
  pub here : chosen cs j q ≡ t
  pub others : (i : ℕ) → i ≢ q → chosen cs j i ≡ chosen cs k i

changed : (cs : List ℕ) (k q t s : ℕ) → s ≡ stride cs q → k < product cs → q < length cs → t < get_or cs q 0
    → Changed cs k q t (k - k / s % get_or cs q 0 * s + t * s)
changed cs k q t s e h l b =
    let x = get_or (profiles cs) k [] in
    let r = nth_profile cs k h in
    let is : k - k / s % get_or cs q 0 * s + t * s ≡ offset cs (set x q t) = rw e (walk_base cs k q h l t b) in
    let there : get_or (profiles cs) (k - k / s % get_or cs q 0 * s + t * s) [] ≡ set x q t =
    ap (λ n. get_or (profiles cs) n []) is ∙ nth_offset (set_profile cs x r q t l b) in
    record {
      inside = rw e (walk_below cs k q h l t b);
      here = rw there (get_or-set_same x q t 0 (rw r.each l));
      others = λ i n. rw there (get_or-set_other x q i t 0 n);
    }

-- the same, where the choice a is known and the offset moves up or down by the difference
module _ (cs : List ℕ) (k q a t s : ℕ) (e : s ≡ stride cs q) (h : k < product cs) (l : q < length cs) (b : t < get_or cs q 0) (is : chosen cs k q ≡ a) where
  part : a * s ≤ k
  part = rw (← is, choice_read cs k q s e h l, e) (walk_at_most cs k q)

  to : Changed cs k q t (k - a * s + t * s)
  to = rw (← is, choice_read cs k q s e h l) (changed cs k q t s e h l b)

  pub changed_up : a ≤ t → Changed cs k q t (k + (t - a) * s)
  changed_up u = subst (Changed cs k q t) (omega (arith, part, split a t s u)) to

  pub changed_down : t ≤ a → Changed cs k q t (k - (a - t) * s)
  changed_down u = subst (Changed cs k q t) (omega (arith, part, split t a s u)) to

  -- the difference is there to be taken off
  pub down_fits : t ≤ a → (a - t) * s ≤ k
  down_fits u = omega (arith, part, split t a s u)

-- In the first profile every choice is 0.
pub zero_chosen : (cs : List ℕ) (q : ℕ) → 0 < product cs → q < length cs → chosen cs 0 q ≡ 0
zero_chosen cs q h l = rw (nth_zero cs h) (get_or-replicate (length cs) q 0 0 l)

unchanged : (cs : List ℕ) (k q : ℕ) → k < product cs → Changed cs k q (chosen cs k q) k
unchanged cs k q h = record { inside = h; here = refl; others = λ i n. refl }

-- The choices that are kept follow a change, and reach down to the player changed.
pub kept_set : {cs choices : List ℕ} {p n q t k j : ℕ} (m : ℕ) → Kept cs p n choices k → Changed cs k q t j → q < max_players
    → ((i : ℕ) → m ≤ i → i ≢ q → n ≤ i) → Kept cs p m (set choices q t) j
kept_set {cs} {choices} {p} {n} {q} {t} {k} {j} m h c l down =
    record { full = length-set choices q t ∙ h.full; each = each }
  where
    other : (i : ℕ) → m ≤ i → i < length cs → i ≢ p → i ≢ q → get_or (set choices q t) i 0 ≡ chosen cs j i
    other i a b d e = get_or-set_other choices q i t 0 e ∙ h.each i (down i a e) b d ∙ sym (c.others i e)

    each : (i : ℕ) → m ≤ i → i < length cs → i ≢ p → get_or (set choices q t) i 0 ≡ chosen cs j i
    each i a b d =
        compare q i
        (λ e. subst (λ n. get_or (set choices q t) n 0 ≡ chosen cs j n) e (get_or-set_same choices q t 0 (rw h.full l) ∙ sym c.here))
        (λ w. other i a b d (λ e. omega arith))
        (λ w. other i a b d (λ e. omega arith))

-- Where two profiles first differ is one of the players.
differ_inside : (cs : List ℕ) (k i a : ℕ) → k < product cs → a < chosen cs k i → i < length cs
differ_inside cs k i a h less =
    ⊎_elim (λ (l : length cs ≤ i). absurd (omega (arith, get_or-eq_default (get_or (profiles cs) k []) 0 {n = i} (omega (arith, (nth_profile cs k h).each)))))
    (λ (l : i < length cs). l) (le_or_lt (length cs) i)

module _ (cs : List ℕ) (m : Marks) (p : ℕ) where
  -- ---- a player's choices

  -- t may stand in a row as player q's choice: p's own is 0, and another's is marked
  abbrev pub Fits : ℕ → ℕ → Type 0
  Fits q t = (q ≡ p → t ≡ 0) × (q ≢ p → T (m q t))

  -- t is the first that may
  abbrev pub First : ℕ → ℕ → Type 0
  First q t = Fits q t × ((u : ℕ) → u < t → Fits q u → ⊥)

  -- after t none may, up to u
  abbrev pub NoneTo : ℕ → ℕ → ℕ → Type 0
  NoneTo q t u = (v : ℕ) → t < v → v < u → Fits q v → ⊥

  pub row_fits : {k : ℕ} → MarkedRow cs m p k → (q : ℕ) → q < length cs → Fits q (chosen cs k q)
  row_fits r q h = (λ e. rw e r.own, r.seen q h)

  fits_row : {k : ℕ} → k < product cs → p < length cs → ((q : ℕ) → q < length cs → Fits q (chosen cs k q)) → MarkedRow cs m p k
  fits_row h mine all = record { inside = h; own = (all p mine).0 refl; seen = λ q l. (all q l).1 }

  -- the player's own choice is the first and the last
  pub own_first : (q t : ℕ) → q ≡ p → t ≡ 0 → First q t
  own_first q t e z = ((λ _. z, λ n. absurd (n e)), λ u l. absurd (omega arith))

  pub own_last : (q t u : ℕ) → q ≡ p → NoneTo q t u
  own_last q t u e v l _ f = omega (arith, f.0 e)

  -- ---- the choices from player q on

  -- `at` has the choices of `base` before player q, and from q on each player's first
  pub record Firsts (base q at : ℕ) : Type 0 where
    pub inside : at < product cs
    pub before : (j : ℕ) → j < q → chosen cs at j ≡ chosen cs base j
    pub after : (j : ℕ) → q ≤ j → j < length cs → First j (chosen cs at j)

  -- `base` has from q on each player's last
  abbrev pub Lasts : ℕ → ℕ → Type 0
  Lasts base q = (j : ℕ) → q ≤ j → j < length cs → NoneTo j (chosen cs base j) (get_or cs j 0)

  pub firsts_none : (base : ℕ) → base < product cs → Firsts base (length cs) base
  firsts_none base h = record { inside = h; before = λ j l. refl; after = λ j a b. absurd (omega arith) }

  pub lasts_none : (base : ℕ) → Lasts base (length cs)
  lasts_none base j a b = absurd (omega arith)

  module _ {base q at : ℕ} (some : 0 < q) (f : Firsts base q at) where
    -- one player more goes to its first choice, or has it
    pub firsts_more : (t j : ℕ) → Changed cs at (q - 1) t j → First (q - 1) t → Firsts base (q - 1) j
    firsts_more t j c first =
        record {
          inside = c.inside;
          before = λ i l. c.others i (λ e. omega arith) ∙ f.before i (omega arith);
          after = λ i a b.
              ⊎_elim (λ (e : q - 1 ≡ i). subst (λ n. First n (chosen cs j n)) e (subst (First (q - 1)) (sym c.here) first))
              (λ (l : q - 1 < i). subst (First i) (sym (c.others i (λ e. omega arith))) (f.after i (omega arith) b)) (eq-or-lt_of_le a);
        }

    pub firsts_keep : First (q - 1) (chosen cs at (q - 1)) → Firsts base (q - 1) at
    firsts_keep = firsts_more (chosen cs at (q - 1)) at (unchanged cs at (q - 1) f.inside)

  pub lasts_more : (base q : ℕ) → 0 < q → Lasts base q → NoneTo (q - 1) (chosen cs base (q - 1)) (get_or cs (q - 1) 0) → Lasts base (q - 1)
  lasts_more base q some all here j a b =
      ⊎_elim (λ (e : q - 1 ≡ j). subst (λ n. NoneTo n (chosen cs base n) (get_or cs n 0)) e here) (λ (l : q - 1 < j). all j (omega arith) b) (eq-or-lt_of_le a)

  -- ---- rows

  -- A player without a choice that may stand in a row leaves no row.
  pub no_row : (a q : ℕ) → q < length cs → ((t : ℕ) → t < get_or cs q 0 → Fits q t → ⊥) → a ≤ product cs → NextRow cs m p a (product cs)
  no_row a q l none h =
      record {
        least = h;
        most = le_refl (product cs);
        is = λ k. absurd (omega arith);
        none_before = λ k _ b r. none (chosen cs k q) ((nth_profile cs k b).fits q l) (row_fits r q l);
      }

  -- Each player's first choice makes the first row.
  pub first_row : {base q at : ℕ} → p < length cs → q ≤ 0 → Firsts base q at → NextRow cs m p 0 at
  first_row {base} {q} {at} mine end f =
      record {
        least = omega arith;
        most = omega (arith, f.inside);
        is = λ h. fits_row h mine (λ q l. (f.after q (omega arith) l).0);
        none_before = λ k _ b r.
            let (i, _, less) = nth_earlier cs k at b f.inside in
            let l = differ_inside cs at i _ f.inside less in
            (f.after i (omega arith) l).1 (chosen cs k i) less (row_fits r i l);
      }

  module _ {base : ℕ} (row : MarkedRow cs m p base) where
    -- After the row of each player's last choice there is none.
    pub last_row : (q : ℕ) → q ≤ 0 → Lasts base q → NextRow cs m p (base + 1) (product cs)
    last_row q end all =
        record {
          least = omega (arith, row.inside);
          most = le_refl (product cs);
          is = λ k. absurd (omega arith);
          none_before = λ k a b r.
              let (i, _, less) = nth_earlier cs base k (omega arith) b in
              let l = differ_inside cs k i _ b less in
              all i (omega arith) l (chosen cs k i) less ((nth_profile cs k b).fits i l) (row_fits r i l);
        }

    -- Where the players from q on have their last choices, the next row goes up at the player before, and has the first choices from q on.
    module _ {q at t r : ℕ} (some : 0 < q) (most : q ≤ length cs) (mine : p < length cs) (f : Firsts base q at) (all : Lasts base q)
        (c : Changed cs at (q - 1) t r) (fit : Fits (q - 1) t) (up : chosen cs base (q - 1) < t) (none : NoneTo (q - 1) (chosen cs base (q - 1)) t) where
      same_before : (j : ℕ) → j < q - 1 → chosen cs r j ≡ chosen cs base j
      same_before j l = c.others j (λ e. omega arith) ∙ f.before j (omega arith)

      first_after : (j : ℕ) → q - 1 < j → j < length cs → First j (chosen cs r j)
      first_after j l b = subst (First j) (sym (c.others j (λ e. omega arith))) (f.after j (omega arith) b)

      up_fits : (j : ℕ) → j < length cs → Fits j (chosen cs r j)
      up_fits j b =
          compare (q - 1) j
          (λ e. subst (λ n. Fits n (chosen cs r n)) e (subst (Fits (q - 1)) (sym c.here) fit))
          (λ l. (first_after j l b).0)
          (λ l. subst (Fits j) (sym (same_before j l)) (row_fits row j b))

      later : base < r
      later =
          rw (offset_nth cs base row.inside, offset_nth cs r c.inside) at (earlier_offset (nth_profile cs base row.inside) (nth_profile cs r c.inside)
          (q - 1, λ j l. sym (same_before j l), rw c.here up))

      -- A row between would differ from `base` first at a player whose choice is higher in it, and from r at one whose choice is lower: before
      -- q - 1 the two agree, at q - 1 nothing that may stand in a row is between, and from q on `base` has the last and r the first.
      none_between : (k : ℕ) → base < k → k < r → MarkedRow cs m p k → ⊥
      none_between k a b z =
          let h : k < product cs = z.inside in
          let (i, same, less) = nth_earlier cs base k a h in
          let (j, same', less') = nth_earlier cs k r b c.inside in
          let l = differ_inside cs k i _ h less in
          let l' = differ_inside cs r j _ c.inside less' in
          let lower : j ≡ q - 1 → q - 1 ≡ i → ⊥ =
          λ d e.
          none (chosen cs k (q - 1)) (rw e less) (omega (arith, ap (chosen cs k) d, ap (chosen cs r) d, c.here)) (row_fits z (q - 1) (omega arith)) in
          compare (q - 1) i
          (λ e.
          compare (q - 1) j (λ d. lower (sym d) e) (λ w. (first_after j w l').1 (chosen cs k j) less' (row_fits z j l')) (λ w. omega (arith, same_before j w, same j (omega arith))))
          (λ w. all i (omega arith) l (chosen cs k i) less ((nth_profile cs k h).fits i l) (row_fits z i l))
          (λ w.
          earlier_asym (get_or (profiles cs) k []) (get_or (profiles cs) r []) (j, same', less')
          (i, λ n g. same_before n (omega arith) ∙ same n g, rw (same_before i w) less))

      pub next_row : NextRow cs m p (base + 1) r
      next_row =
          record {
            least = omega (arith, later);
            most = omega (arith, c.inside);
            is = λ h. fits_row h mine up_fits;
            none_before = λ k a b. none_between k (omega arith) b;
          }

-- ---- the marks of another player q, as they are read

module _ (cs : List ℕ) (marks : List Bool) (p q : ℕ) (other : q ≢ p) (high : get_or cs q 0 ≤ max_strategies) where
  -- what is found may stand in a row,
  pub mark_fits : {a r : ℕ} → NextMark marks (q * max_strategies) a (get_or cs q 0) r → r < get_or cs q 0 → Fits cs (marked marks) p q r
  mark_fits {a} {r} k h = (λ e. absurd (other e), λ _. subst T (sym (mark_at marks q r (omega arith))) (k.is h))

  -- and nothing before it,
  pub mark_none : {a r : ℕ} → NextMark marks (q * max_strategies) a (get_or cs q 0) r → (t : ℕ) → a ≤ t → t < r → Fits cs (marked marks) p q t → ⊥
  mark_none {a} {r} k t l h f = k.none_before t l h (subst T (mark_at marks q t (omega (arith, k.most))) (f.1 other))

  module _ {r : ℕ} (k : NextMark marks (q * max_strategies) 0 (get_or cs q 0) r) where
    -- so that from 0 on it is the first,
    pub first_mark : r < get_or cs q 0 → First cs (marked marks) p q r
    first_mark h = (mark_fits k h, λ u l. mark_none k u (omega arith) l)

    -- which is there, and no later, where a choice may stand in a row.
    pub some_mark : (t : ℕ) → t < get_or cs q 0 → Fits cs (marked marks) p q t → (r < get_or cs q 0) × (r ≤ t)
    some_mark t l f = ⊎_elim (λ (h : r ≤ t). (omega arith, h)) (λ (h : t < r). absurd (mark_none k t (omega arith) h f)) (le_or_lt r t)
