-- Rows, marked one after the other: a byte more, two rows more, a group more. Assumes nothing.
use mathlib.Core.Path.{◌≡◌, refl, sym, ap, ◌∙◌, subst}
use mathlib.Core.Bool.{Bool}
use mathlib.Core.List.{List}
use mathlib.Core.Logic.{◌⊎◌, inl, inr, ⊎_elim}
use Prim.Native.Nat.{ℕ, ◌+◌, ◌*◌, ◌≤◌, ◌<◌}
use native.Mathlib.Nat.{eq-or-lt_of_le}
use native.Mathlib.Decide.{ℕ_discrete}
use native.Mathlib.Omega.{arith}
use lib.ListN.{length, get_or, set, length-set}
use lib.Seq.{get_or-set_same, get_or-set_other}
use lib.Ieee.{Float}
use Rattle.game.proofs.Finite.{le_or_lt}
use Rattle.refusal.specs.Told.{byte_of}
use Rattle.mark_responses.specs.Sweep.{row_top, Spaced, Nested, Within, CellOf, BytesMarked, Wants, RowsMarked}

-- ---- two rows

module _ (start gap : ℕ) where
  -- where one begins,
  one_in : Spaced start gap 2 start
  one_in = (0, omega arith, omega arith)

  -- and the other
  other_in : Spaced start gap 2 (start + gap)
  other_in = (1, omega arith, omega arith)

  -- so that both lie within n cells
  pub pair_within : (steps : List ℕ) (n : ℕ) → Within steps (Spaced start gap 2) n → (i : ℕ) → i < length steps
      → (start + get_or steps i 0 < n) × (start + gap + get_or steps i 0 < n)
  pair_within steps n w i l = (w start i one_in l, w (start + gap) i other_in l)

-- ---- bytes

module _ (want : ℕ → Bool) (W : ℕ → Type 0) where
  -- the same cells, said otherwise
  marked_same : (Y : ℕ → Type 0) {before marks : List ℕ} → ((c : ℕ) → W c → Y c) → ((c : ℕ) → Y c → W c)
      → BytesMarked want W before marks → BytesMarked want Y before marks
  marked_same Y to from m =
      record { long = m.long; on = λ c v. m.on c (from c v); each = λ c. ⊎_elim (λ e. inl e) (λ w. inr (to c w)) (m.each c) }

  -- one more
  marked_put : {before marks : List ℕ} (c : ℕ) (v : ℕ) → BytesMarked want W before marks → c < length marks → v ≡ byte_of (want c)
      → BytesMarked want (λ d. W d ⊎ (d ≡ c)) before (set marks c v)
  marked_put {before} {marks} c v m inside e =
      record {
        long = length-set marks c v ∙ m.long;
        on = λ d w. on d w (ℕ_discrete d c);
        each = λ d. each d (ℕ_discrete d c);
      }
    where
      on : (d : ℕ) → W d ⊎ (d ≡ c) → Dec (d ≡ c) → get_or (set marks c v) d 0 ≡ byte_of (want d)
      on d w (yes q) =
          ap (λ (n : ℕ). get_or (set marks c v) n 0) q ∙ get_or-set_same marks c v 0 inside ∙ e ∙ ap (λ (n : ℕ). byte_of (want n)) (sym q)
      on d w (no n) = get_or-set_other marks c d v 0 n ∙ ⊎_elim (λ a. m.on d a) (λ q. absurd (n q)) w

      each : (d : ℕ) → Dec (d ≡ c) → (get_or (set marks c v) d 0 ≡ get_or before d 0) ⊎ (W d ⊎ (d ≡ c))
      each d (yes q) = inr (inr q)
      each d (no n) = ⊎_elim (λ e. inl (get_or-set_other marks c d v 0 n ∙ e)) (λ w. inr (inl w)) (m.each d)

  -- and all that others mark
  marked_then : (Y : ℕ → Type 0) {before between marks : List ℕ} → BytesMarked want W before between → BytesMarked want Y between marks
      → BytesMarked want (λ c. W c ⊎ Y c) before marks
  marked_then Y m n =
      record {
        long = n.long ∙ m.long;
        on = λ c. ⊎_elim (λ w. ⊎_elim (λ e. e ∙ m.on c w) (λ v. n.on c v) (n.each c)) (λ v. n.on c v);
        each = λ c. ⊎_elim (λ e. ⊎_elim (λ d. inl (e ∙ d)) (λ w. inr (inl w)) (m.each c)) (λ v. inr (inr v)) (n.each c);
      }

-- nothing yet
marked_none : (want : ℕ → Bool) (W : ℕ → Type 0) (marks : List ℕ) → ((c : ℕ) → W c → ⊥) → BytesMarked want W marks marks
marked_none want W marks n = record { long = refl; on = λ c w. absurd (n c w); each = λ c. inl refl }

-- ---- rows

module _ (payoffs : List Float) (steps : List ℕ) where
  -- rows, and then more rows
  rows_then : (S R U : ℕ → Type 0) {before between marks : List ℕ} → ((s : ℕ) → S s → U s) → ((s : ℕ) → R s → U s) → ((s : ℕ) → U s → S s ⊎ R s)
      → RowsMarked payoffs steps S before between → RowsMarked payoffs steps R between marks → RowsMarked payoffs steps U before marks
  rows_then S R U first second all m n want w =
      let T = CellOf steps (length steps) in
      marked_same want (λ c. T S c ⊎ T R c) (T U)
      (λ c. ⊎_elim (λ (s, i, at, l, e). (s, i, first s at, l, e)) (λ (s, i, at, l, e). (s, i, second s at, l, e)))
      (λ c (s, i, at, l, e). ⊎_elim (λ a. inl (s, i, a, l, e)) (λ a. inr (s, i, a, l, e)) (all s at))
      (marked_then want (T S) (T R) (m want (λ s i at. w s i (first s at))) (n want (λ s i at. w s i (second s at))))

  -- Two rows, cell by cell.
  module _ (start gap : ℕ) where
    abbrev Two : ℕ → Type 0
    Two = Spaced start gap 2

    pub pair_more : (want : ℕ → Bool) → Wants payoffs steps Two want → {before marks : List ℕ} (n : ℕ) → n < length steps
        → BytesMarked want (CellOf steps n Two) before marks → (v u : ℕ)
        → v ≡ byte_of (row_top payoffs steps start n) → u ≡ byte_of (row_top payoffs steps (start + gap) n)
        → start + get_or steps n 0 < length marks → start + get_or steps n 0 + gap < length marks
        → BytesMarked want (CellOf steps (n + 1) Two) before (set (set marks (start + get_or steps n 0) v) (start + get_or steps n 0 + gap) u)
    pair_more want wants {before} {marks} n l m v u e f inside inside' =
        let c : ℕ = start + get_or steps n 0 in
        let d : ℕ = start + get_or steps n 0 + gap in
        let same : start + gap + get_or steps n 0 ≡ d = omega arith in
        let once = marked_put want (CellOf steps n Two) c v m inside (e ∙ ap byte_of (wants start n (one_in start gap) l)) in
        let twice = marked_put want (λ b. CellOf steps n Two b ⊎ (b ≡ c)) d u once (rw (length-set marks c v) inside')
        (f ∙ ap byte_of (wants (start + gap) n (other_in start gap) l ∙ ap want same)) in
        marked_same want (λ b. (CellOf steps n Two b ⊎ (b ≡ c)) ⊎ (b ≡ d)) (CellOf steps (n + 1) Two)
        (λ b. ⊎_elim
        (⊎_elim (λ (s, i, at, k, q). (s, i, at, omega (arith, k), q)) (λ q. (start, n, one_in start gap, omega arith, q)))
        (λ q. (start + gap, n, other_in start gap, omega arith, q ∙ sym same)))
        (λ b (s, i, at, k, q). ⊎_elim (λ (z : i ≡ n). last b s at (q ∙ ap (λ (j : ℕ). s + get_or steps j 0) z)) (λ (z : i < n). inl (inl (s, i, at, z, q))) (eq-or-lt_of_le (omega (arith, k))))
        twice
      where
        last : (b s : ℕ) → Two s → b ≡ s + get_or steps n 0 → (CellOf steps n Two b ⊎ (b ≡ start + get_or steps n 0)) ⊎ (b ≡ start + get_or steps n 0 + gap)
        last b s (r, low, q) e =
            ⊎_elim (λ (z : r ≡ 1). inr (omega (arith, e, q, ap (λ (n : ℕ). n * gap) z))) (λ (z : r < 1). let o : r ≡ 0 = omega (arith, z) in inl (inr (omega (arith, e, q, ap (λ (n : ℕ). n * gap) o))))
            (eq-or-lt_of_le (omega (arith, low)))

  -- Rows, each gap after the one before: the first i of them.
  module _ (start gap number : ℕ) where
    -- those that begin before the i-th
    abbrev pub First : ℕ → ℕ → Type 0
    First i s = (r : ℕ) × (r < i) × (r < number) × (s ≡ start + r * gap)

    pub first_all : (i : ℕ) → number ≤ i → {before marks : List ℕ} → RowsMarked payoffs steps (First i) before marks
        → RowsMarked payoffs steps (Spaced start gap number) before marks
    first_all i h m want w =
        marked_same want (CellOf steps (length steps) (First i)) (CellOf steps (length steps) (Spaced start gap number))
        (λ c (s, j, (r, _, l, e), k, q). (s, j, (r, l, e), k, q)) (λ c (s, j, (r, l, e), k, q). (s, j, (r, omega (arith, l), l, e), k, q))
        (m want (λ s j (r, _, l, e). w s j (r, l, e)))

    -- The i-th and the next one, or the i-th twice, `other` after it.
    module _ (i other : ℕ) (l : i < number) (h : ((i + 1 < number) × (other ≡ gap)) ⊎ ((number ≤ i + 1) × (other ≡ 0))) where
      pair_in : (s : ℕ) → Spaced (start + i * gap) other 2 s → First (i + 2) s
      pair_in s (r, low, e) =
          ⊎_elim
          (λ (z : r ≡ 1).
          ⊎_elim (λ (m, q). (i + 1, omega arith, m, omega (arith, e, ap (λ (n : ℕ). n * other) z, q)))
          (λ (m, q). (i, omega arith, l, omega (arith, e, ap (λ (n : ℕ). n * other) z, q))) h)
          (λ (z : r < 1). let o : r ≡ 0 = omega (arith, z) in (i, omega arith, l, omega (arith, e, ap (λ (n : ℕ). n * other) o)))
          (eq-or-lt_of_le (omega (arith, low)))

      -- so that they lie where all do
      pub next_within : (n : ℕ) → Within steps (Spaced start gap number) n → Within steps (Spaced (start + i * gap) other 2) n
      next_within n w s j at k = let (r, _, m, e) = pair_in s at in w s j (r, m, e) k

      first_or : (s : ℕ) → First (i + 2) s → First i s ⊎ Spaced (start + i * gap) other 2 s
      first_or s (r, a, b, e) =
          ⊎_elim
          (λ (z : i ≤ r).
          ⊎_elim
          (λ (k : i ≡ r). inr (0, omega arith, omega (arith, e, ap (λ (n : ℕ). n * gap) k)))
          (λ (k : i < r).
          let j : r ≡ i + 1 = omega (arith, a, k) in
          ⊎_elim (λ (m, q). inr (1, omega arith, omega (arith, e, ap (λ (n : ℕ). n * gap) j, q))) (λ (m, q). absurd (omega (arith, m, b, k))) h)
          (eq-or-lt_of_le z))
          (λ (z : r < i). inl (r, z, b, e)) (le_or_lt i r)

      -- and once they are marked, two more are
      pub first_more : {before between marks : List ℕ} → RowsMarked payoffs steps (First i) before between
          → RowsMarked payoffs steps (Spaced (start + i * gap) other 2) between marks → RowsMarked payoffs steps (First (i + 2)) before marks
      first_more = rows_then (First i) (Spaced (start + i * gap) other 2) (First (i + 2)) (λ s (r, a, b, e). (r, omega (arith, a), b, e)) pair_in first_or

  -- Groups of rows, each far after the one before: the first o of them.
  pub nested_more : (start far gap number o : ℕ) {before between marks : List ℕ} → RowsMarked payoffs steps (Nested start far o gap number) before between
      → RowsMarked payoffs steps (Spaced (start + o * far) gap number) between marks → RowsMarked payoffs steps (Nested start far (o + 1) gap number) before marks
  nested_more start far gap number o =
      rows_then (Nested start far o gap number) (Spaced (start + o * far) gap number) (Nested start far (o + 1) gap number)
      (λ s (i, l, at). (i, omega (arith, l), at)) (λ s at. (o, omega arith, at))
      (λ s (i, l, at).
      ⊎_elim (λ (e : i ≡ o). inr (subst (λ (n : ℕ). Spaced (start + n * far) gap number s) e at)) (λ (k : i < o). inl (i, k, at)) (eq-or-lt_of_le (omega (arith, l))))
