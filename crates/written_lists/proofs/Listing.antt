-- What the number written means: it is the greatest number of entries that there are and that both outputs hold whole. Assumes nothing.
use mathlib.Core.Path.{◌≡◌, refl, sym, ap, ◌∙◌}
use mathlib.Core.List.{List}
use mathlib.Core.Logic.{◌⊎◌, inl, inr, ⊎_elim, ◌↔◌}
use Prim.Native.Nat.{ℕ, ◌+◌, ◌*◌, min, ◌≤◌, ◌<◌}
use native.Mathlib.Nat.{zero-div, le-div_iff_mul-le}
use native.Mathlib.Omega.{arith}
use lib.ListN.{length, take}
use lib.Seq.{take_all}
use Rattle.game.proofs.Finite.{le_or_lt}
use Rattle.refusal.specs.declared.Listed.{Listed}
use Rattle.written_lists.specs.Listing.{entries_held, listed_of}

-- Both outputs hold k entries whole exactly where each has k × n elements.
pub held_law : (n a b : ℕ) → 0 < n → (k : ℕ) → (k ≤ entries_held n a b) ↔ ((k * n ≤ a) × (k * n ≤ b))
held_law n a b some k = (
  λ h. ((le-div_iff_mul-le {x = k} {y = a} some).0 (omega arith), (le-div_iff_mul-le {x = k} {y = b} some).0 (omega arith)),
  λ h. omega (arith, (le-div_iff_mul-le {x = k} {y = a} some).1 h.0, (le-div_iff_mul-le {x = k} {y = b} some).1 h.1),
)

module _ {A : Type 0} (entries : List A) (n a b : ℕ) where
  pub listed_is : (total written : ℕ) → total ≡ length entries → written ≡ min total (entries_held n a b)
      → record { total = total; written = written } ≡ listed_of entries n a b
  unfolding listed_of
  listed_is total written h k = rw (k, h)

  -- The first of a list that there is room for are those that are written.
  pub take_written : take (listed_of entries n a b).written entries ≡ take (entries_held n a b) entries
  unfolding listed_of
  take_written =
      let held : ℕ = entries_held n a b in
      let many : ℕ = length entries in
      ⊎_elim
      (λ (h : many ≤ held).
      let e : min many held ≡ many = omega arith in
      ap (λ (k : ℕ). take k entries) e ∙ take_all many entries (omega arith) ∙ sym (take_all held entries h))
      (λ (h : held < many). let e : min many held ≡ held = omega arith in ap (λ (k : ℕ). take k entries) e) (le_or_lt many held)

  module _ (some : 0 < n) where
    -- The total is the number of entries. Those that are written are entries and have room, whole, in both outputs; and where not all are
    -- written, one of the outputs has no room for one more.
    pub listed_law : let l = listed_of entries n a b in
        (l.total ≡ length entries) × (l.written ≤ l.total) × (l.written * n ≤ a) × (l.written * n ≤ b)
        × (l.written < l.total → (a < (l.written + 1) * n) ⊎ (b < (l.written + 1) * n))
    unfolding listed_of
    listed_law =
        let held : ℕ = entries_held n a b in
        let w : ℕ = min (length entries) held in
        let room = (held_law n a b some w).0 (omega arith) in (
          refl,
          omega arith,
          room.0,
          room.1,
          λ less. ⊎_elim
              (λ (h : (w + 1) * n ≤ a). ⊎_elim (λ (k : (w + 1) * n ≤ b). absurd (omega (arith, (held_law n a b some (w + 1)).1 (h, k)))) inr (le_or_lt ((w + 1) * n) b))
              inl (le_or_lt ((w + 1) * n) a),
        )

    -- Outputs that hold all entries get all,
    pub listed_all : length entries * n ≤ a → length entries * n ≤ b → listed_of entries n a b ≡ record { total = length entries; written = length entries }
    unfolding listed_of
    listed_all h k =
        let e : min (length entries) (entries_held n a b) ≡ length entries = omega (arith, (held_law n a b some (length entries)).1 (h, k)) in
        ap {B = Listed} (λ w. record { total = length entries; written = w }) e

-- and empty outputs none: the listing is a count.
pub listed_none : {A : Type 0} (entries : List A) (n : ℕ) → listed_of entries n 0 0 ≡ record { total = length entries; written = 0 }
unfolding listed_of
listed_none entries n =
    let e : min (length entries) (entries_held n 0 0) ≡ 0 = omega (arith, zero-div n) in
    ap {B = Listed} (λ w. record { total = length entries; written = w }) e
