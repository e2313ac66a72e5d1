-- A list put into its place from its last element to its first, and the lists of the profiles that pass a test, one after the other as far as
-- there is room. Assumes nothing.
use mathlib.Core.Path.{◌≡◌, refl, sym, ap, ◌∙◌, subst}
use mathlib.Core.Bool.{Bool, true, false, cond, not}
use mathlib.Core.List.{List, [], ◌∷◌, ◌++◌, flat_map, append_assoc, append-nil}
use mathlib.Core.Logic.Iff
use mathlib.Core.Logic.{◌↔◌}
use Prim.Native.Nat.{ℕ, suc, ◌+◌, ◌*◌, ◌-◌, min, ◌≤◌, ◌<◌}
use native.Mathlib.Nat.{add-suc, add-mul, zero-mul, one-mul, mul-le-mul_right}
use native.Mathlib.Numerals.{add-one}
use native.Mathlib.Omega.{arith}
use lib.Dec.{T, eqb}
use lib.ListN.{length, get_or, set, take, drop, length-append, length-drop, take-append-drop, drop_of_length-le}
use lib.Seq.{take_all, take-suc, drop-cons, drop-length, set_at, length-take-le, take-append-le, take_at, drop-append_seam, drop-append-add, drop-drop}
use Rattle.game.specs.Finite.{all, below, filter}
use Rattle.game.specs.Game.{profiles}
use Rattle.game.proofs.Finite.{no_T, eqb_T, all_T, below_mem, flat_map_last}
use Rattle.written_lists.specs.Outputs.{over}
use Rattle.written_lists.proofs.Outputs.{over_length}
use Rattle.profile_listing.specs.Entry.{Before}

-- ---- a list into its place, from its last element to its first

module _ {A : Type 0} (x out : List A) (n at : ℕ) where
  -- p elements are left to write
  abbrev pub filled : ℕ → List A
  filled p = take (at + p) out ++ (drop p x ++ drop (at + n) out)

  pub fill_none : length x ≡ n → out ≡ filled n
  fill_none long =
      sym (ap (λ (l : List A). take (at + n) out ++ (l ++ drop (at + n) out)) (subst (λ (m : ℕ). drop m x ≡ []) long (drop-length x))
      ∙ take-append-drop (at + n) out)

  pub fill_more : (d : A) (p : ℕ) → length x ≡ n → 0 < p → p ≤ n → at + n ≤ length out → set (filled p) (at + (p - 1)) (get_or x (p - 1) d) ≡ filled (p - 1)
  fill_more d p long some most room =
      let q : ℕ = p - 1 in
      let e : p ≡ suc q = omega arith in
      let ex : drop q x ≡ get_or x q d ∷ drop (suc q) x = drop-cons x q d (omega arith) in
      let l : at + q < length out = omega arith in
      ap (λ (m : ℕ). set (filled m) (at + q) (get_or x q d)) e
      ∙ rw (add-suc at q, take-suc out (at + q) d l, append_assoc (take (at + q) out) (get_or out (at + q) d ∷ []) (drop (suc q) x ++ drop (at + n) out), ex)
      (set_at (take (at + q) out) (get_or out (at + q) d) (drop (suc q) x ++ drop (at + n) out) (get_or x q d) (at + q) (length-take-le (at + q) out (omega arith)))

  pub fill_length : (p : ℕ) → length x ≡ n → p ≤ n → at + n ≤ length out → length (filled p) ≡ length out
  fill_length p long most room =
      rw (length-append, length-append, length-take-le (at + p) out (omega arith), length-drop, length-drop) (omega arith)

-- ---- the marks of a profile

pub marked_T : (marks : List ℕ) (at number : ℕ)
    → T (all (λ p. not (eqb (get_or marks (at + p) 0) 0)) (below number)) ↔ ((p : ℕ) → p < number → get_or marks (at + p) 0 ≡ 0 → ⊥)
marked_T marks at number = simp (all_T, below_mem, no_T, eqb_T) Iff.rfl

-- ---- the elements that pass a test

module _ {A : Type 0} (f : A → Bool) (xs : List A) (d : A) (k : ℕ) (l : k < length xs) where
  one : filter f (drop k xs) ≡ cond (f (get_or xs k d)) (get_or xs k d ∷ filter f (drop (k + 1) xs)) (filter f (drop (k + 1) xs))
  one = rw (add-one k, drop-cons xs k d l)

  pub filter_drop_yes : f (get_or xs k d) ≡ true → filter f (drop k xs) ≡ get_or xs k d ∷ filter f (drop (k + 1) xs)
  filter_drop_yes e = rw e at one

  pub filter_drop_no : f (get_or xs k d) ≡ false → filter f (drop k xs) ≡ filter f (drop (k + 1) xs)
  filter_drop_no e = rw e at one

-- ---- their lists, one after the other, as far as there is room

-- the first of a list and one more
take_more : {A : Type 0} (n : ℕ) (xs : List A) (x : A) → length xs < n → take n (xs ++ (x ∷ [])) ≡ take n xs ++ (x ∷ [])
take_more n xs x h =
    take_all n (xs ++ (x ∷ [])) (omega (arith, length-append xs (x ∷ []))) ∙ ap (λ l. l ++ (x ∷ [])) (sym (take_all n xs (omega arith)))

-- Of those that pass, the ones before the k-th are `before`, and `out` holds the lists of the first of them, `room` at most, of n elements each, and
-- then what stood there at first.
pub record Listing {A : Type 0} (e : List ℕ → List A) (f : List ℕ → Bool) (ps : List (List ℕ)) (n room : ℕ) (old out : List A) (number k : ℕ) : Type 0 where
  pub before : List (List ℕ)
  pub many : length before ≡ number
  pub rest : before ++ filter f (drop k ps) ≡ filter f ps
  pub long : length (flat_map e (take room before)) ≡ min room number * n
  pub stands : out ≡ over (flat_map e (take room before)) old

module _ {A : Type 0} (e : List ℕ → List A) (f : List ℕ → Bool) (ps : List (List ℕ)) (n room : ℕ) (old : List A) where
  pub listing_none : Listing e f ps n room old old 0 0
  unfolding flat_map
  listing_none =
      let z : take {A = List ℕ} room [] ≡ [] = take_all room [] (omega arith) in
      let none : min room 0 ≡ 0 = omega arith in
      record { before = []; many = refl; rest = refl; long = rw (z, none) (sym (zero-mul n)); stands = rw z refl }

  module _ (out : List A) (number k : ℕ) (u : Listing e f ps n room old out number k) where
    pub listing_length : room * n ≤ length old → length out ≡ length old
    listing_length h =
        let less : min room number ≤ room = omega arith in
        ap length u.stands ∙ over_length (flat_map e (take room u.before)) old (omega (arith, u.long, mul-le-mul_right n less))

    pub listing_end : length ps ≤ k → (number ≡ length (filter f ps)) × (out ≡ over (flat_map e (take room (filter f ps))) old)
    listing_end h =
        let w : u.before ≡ filter f ps = sym (append-nil u.before) ∙ (rw (drop_of_length-le ps h) at u.rest) in
        (sym u.many ∙ ap length w, u.stands ∙ ap (λ (xs : List (List ℕ)). over (flat_map e (take room xs)) old) w)

    module _ (l : k < length ps) where
      pub listing_no : f (get_or ps k []) ≡ false → Listing e f ps n room old out number (k + 1)
      listing_no z =
          record { before = u.before; many = u.many; rest = rw (filter_drop_no f ps [] k l z) at u.rest; long = u.long; stands = u.stands }

      module _ (z : f (get_or ps k []) ≡ true) where
        abbrev x : List ℕ
        x = get_or ps k []

        more : u.before ++ (x ∷ []) ++ filter f (drop (k + 1) ps) ≡ filter f ps
        more = append_assoc u.before (x ∷ []) (filter f (drop (k + 1) ps)) ∙ (rw (filter_drop_yes f ps [] k l z) at u.rest)

        one_more : length (u.before ++ (x ∷ [])) ≡ number + 1
        one_more = omega (arith, u.many, length-append u.before (x ∷ []))

        -- there is no more room
        pub listing_full : room ≤ number → Listing e f ps n room old out (number + 1) (k + 1)
        listing_full h =
            let same : take room (u.before ++ (x ∷ [])) ≡ take room u.before = take-append-le room u.before (x ∷ []) (omega (arith, u.many)) in
            let least : min room (number + 1) ≡ min room number = omega arith in
            record {
              before = u.before ++ (x ∷ []);
              many = one_more;
              rest = more;
              long = rw (same, least) u.long;
              stands = rw same u.stands;
            }

        -- there is
        pub listing_yes : (out' : List A) → number < room → length (e x) ≡ n
            → out' ≡ take (number * n) out ++ (e x ++ drop (number * n + n) out) → Listing e f ps n room old out' (number + 1) (k + 1)
        listing_yes out' h size is =
            let done : List A = flat_map e (take room u.before) in
            let least : min room number ≡ number = omega arith in
            let next : min room (number + 1) ≡ number + 1 = omega arith in
            let at : length done ≡ number * n = u.long ∙ ap (λ (m : ℕ). m * n) least in
            let stand : out ≡ done ++ drop (number * n) old = u.stands ∙ ap (λ (m : ℕ). done ++ drop m old) at in
            let grown : flat_map e (take room (u.before ++ (x ∷ []))) ≡ done ++ e x =
            ap (flat_map e) (take_more room u.before x (omega (arith, u.many))) ∙ flat_map_last e (take room u.before) x in
            let long : length (done ++ e x) ≡ number * n + n = omega (arith, length-append done (e x), at, size) in
            let first : take (number * n) (done ++ drop (number * n) old) ≡ done = take_at done (drop (number * n) old) (number * n) at in
            let after : drop (number * n + n) (done ++ drop (number * n) old) ≡ drop (number * n + n) old =
            subst (λ (m : ℕ). drop (m + n) (done ++ drop (number * n) old) ≡ drop n (drop (number * n) old)) at (drop-append-add done (drop (number * n) old) n) ∙ drop-drop n (number * n) old in
            record {
              before = u.before ++ (x ∷ []);
              many = one_more;
              rest = more;
              long = rw (grown, next) (omega (arith, long, add-mul number 1 n, one-mul n));
              stands =
                  is ∙ ap (λ (ys : List A). take (number * n) ys ++ (e x ++ drop (number * n + n) ys)) stand
                  ∙ rw (first, after, grown) (sym (append_assoc done (e x) (drop (number * n + n) old)) ∙ ap (λ (m : ℕ). (done ++ e x) ++ drop m old) (sym long));
            }

-- ---- after an entry

-- The entry that was written stands before the next.
pub entry_before : (counts out out' : List ℕ) (k written : ℕ) → length (get_or (profiles counts) k []) ≡ length counts
    → written * length counts + length counts ≤ length out
    → out' ≡ take (written * length counts) out ++ (get_or (profiles counts) k [] ++ drop (written * length counts + length counts) out)
    → Before counts (k + 1) out' ((written + 1) * length counts)
entry_before counts out out' k written size room is =
    let n : ℕ = length counts in
    let x : List ℕ = get_or (profiles counts) k [] in
    let rest : List ℕ = drop (written * n + n) out in
    let next : (written + 1) * n ≡ written * n + n = omega (arith, add-mul written 1 n, one-mul n) in
    let back : (written + 1) * n - n ≡ written * n = omega (arith, next) in
    let long : length (take (written * n) out) ≡ written * n = length-take-le (written * n) out (omega (arith, room)) in
    let one : k + 1 - 1 ≡ k = omega arith in
    record {
      later = omega arith;
      room = omega (arith, next);
      stands =
          ap (λ (ys : List ℕ). take n (drop ((written + 1) * n - n) ys)) is
          ∙ ap (λ (m : ℕ). take n (drop m (take (written * n) out ++ (x ++ rest)))) (back ∙ sym long)
          ∙ ap (take n) (drop-append_seam (take (written * n) out) (x ++ rest))
          ∙ take_at x rest n size
          ∙ ap (λ (m : ℕ). get_or (profiles counts) m []) (sym one);
    }
