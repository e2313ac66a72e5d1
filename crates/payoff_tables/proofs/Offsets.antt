-- The offset's laws: profiles are listed by their first choice and then as the profiles of the players after, so that the profile whose
-- first choice is s and whose rest is the j-th has the offset s × (product of the other counts) + j, and the k-th profile the offset k.
-- Assumes nothing.
use mathlib.Core.Path.{◌≡◌, refl, sym, ap, ◌∙◌}
use mathlib.Core.List.Memᴰ.{head as here}
use mathlib.Core.List.Memᴰ.{tail as there}
use mathlib.Core.List.{List, [], ◌∷◌, ◌++◌, map, flat_map}
use Prim.Native.Nat.{ℕ, zero, suc, ◌+◌, ◌*◌, ◌-◌, ◌/◌, ◌%◌, ◌≤◌, ◌<◌, zero-le, suc-le-suc}
use native.Mathlib.Nat.{not-suc-le-zero, le_of_suc-le-suc, suc-ne-zero, zero-mul, mul-zero, one-mul, mul-one, suc-mul, add-mul, mul_assoc, mul_comm, zero-add, le_trans, le-mul_of_pos_right, mul-le-mul_right, mod-lt, mod-le, mod-eq_of_lt, div-lt_iff_lt-mul, div-add-mod', div-mul-le_self, mul-add-div_right, mul-add-mod_self_right}
use native.Mathlib.Numerals.{add-one}
use native.Mathlib.Omega.{arith}
use lib.Arith.{digits_lt, digits_div}
use lib.ListN.{length, get_or, set, take, drop, replicate, length-map, take-append-drop, get_or-append, get_or-eq_default}
use lib.Seq.{take-suc, drop-cons, drop-length, get_or-append-add}
use Rattle.game.specs.Finite.{◌∈◌, below, product, Sorted}
use Rattle.game.specs.Game.{choice, Profile, profiles, Earlier}
use Rattle.game.proofs.Finite.{length_below}
use Rattle.game.proofs.Game.{tail_profile, profiles_law, length_profiles, set_profile}
use Rattle.payoff_tables.specs.Table.{cells, offset_from, offset, stride, cell}

-- ---- products

-- a product above 0 has no factor 0
positive_left : (a b : ℕ) → 0 < a * b → 0 < a
positive_left zero b h = rw zero-mul at h
positive_left (suc a) b h = suc-le-suc zero-le

positive_right : (a b : ℕ) → 0 < a * b → 0 < b
positive_right a zero h = rw mul-zero at h
positive_right a (suc b) h = suc-le-suc zero-le

product_append : (xs ys : List ℕ) → product (xs ++ ys) ≡ product xs * product ys
product_append [] ys = sym (one-mul (product ys))
product_append (x ∷ xs) ys = rw (product_append xs ys) (sym (mul_assoc x (product xs) (product ys)))

-- The product of the counts is that of the counts before p times that of the counts from p on.
pub product_split : (cs : List ℕ) (p : ℕ) → product cs ≡ product (take p cs) * product (drop p cs)
product_split cs p = ap product (sym (take-append-drop p cs)) ∙ product_append (take p cs) (drop p cs)

-- The product of the counts from p on is p's count times p's stride.
pub product_drop : (cs : List ℕ) (p : ℕ) → p < length cs → product (drop p cs) ≡ get_or cs p 0 * stride cs p
unfolding stride
product_drop cs p h = ap product (drop-cons cs p 0 h)

-- The last player's stride is 1.
pub stride_last : (cs : List ℕ) (p : ℕ) → suc p ≡ length cs → stride cs p ≡ 1
unfolding stride
stride_last cs p e = rw (e, drop-length)

module _ (cs : List ℕ) (p : ℕ) (some : 0 < product cs) where
  -- Where there is a profile, the product of the counts before p is positive,
  pub take_positive : 0 < product (take p cs)
  take_positive = positive_left (product (take p cs)) (product (drop p cs)) (rw (product_split cs p) at some)

  -- and so is that of the counts from p on.
  pub drop_positive : 0 < product (drop p cs)
  drop_positive = positive_right (product (take p cs)) (product (drop p cs)) (rw (product_split cs p) at some)

  -- The product of the counts before p is at most the number of profiles,
  pub take_at_most : product (take p cs) ≤ product cs
  take_at_most = rw (product_split cs p) (le-mul_of_pos_right (product (take p cs)) drop_positive)

  -- and so is that of the counts from p on.
  pub drop_at_most : product (drop p cs) ≤ product cs
  drop_at_most = rw (product_split cs p, mul_comm) (le-mul_of_pos_right (product (drop p cs)) take_positive)

  -- Each count is positive,
  pub count_positive : p < length cs → 0 < get_or cs p 0
  count_positive h = positive_left (get_or cs p 0) (stride cs p) (rw (product_drop cs p h) at drop_positive)

-- and so is each stride.
pub stride_positive : (cs : List ℕ) (p : ℕ) → 0 < product cs → 0 < stride cs p
unfolding stride
stride_positive cs p h = drop_positive cs (suc p) h

-- ---- the offset of a profile

-- The offset from n on is n × (product of the counts) and the offset.
pub offset_from_lem : (n : ℕ) {cs x : List ℕ} → Profile cs x → offset_from n cs x ≡ n * product cs + offset cs x
unfolding offset
offset_from_lem n {cs = []} {x = x} r = omega arith
offset_from_lem n {cs = c ∷ cs} {x = []} r = absurd (suc-ne-zero (length cs) (sym r.each))
offset_from_lem n {cs = c ∷ cs} {x = s ∷ x} r =
    let t = tail_profile c s cs x r in
    rw (offset_from_lem (n * c + s) t, offset_from_lem (0 * c + s) t, zero-mul c, add-mul (n * c) s (product cs), mul_assoc) (omega arith)

-- The first choice counts as many times as the players after have profiles.
pub offset_cons : (c s : ℕ) {cs x : List ℕ} → Profile cs x → offset (c ∷ cs) (s ∷ x) ≡ s * product cs + offset cs x
unfolding offset
offset_cons c s r = rw (zero-mul c, zero-add s) (offset_from_lem s r)

-- A profile's offset is below the number of profiles.
pub offset_below : {cs x : List ℕ} → Profile cs x → offset cs x < product cs
unfolding offset
offset_below {cs = []} {x = x} r = omega arith
offset_below {cs = c ∷ cs} {x = []} r = absurd (suc-ne-zero (length cs) (sym r.each))
offset_below {cs = c ∷ cs} {x = s ∷ x} r =
    let t = tail_profile c s cs x r in rw (offset_cons c s t) (digits_lt (r.fits 0 (omega arith)) (offset_below t))

-- A profile's cell for a player is below the number of cells.
pub cell_below : {cs x : List ℕ} (p : ℕ) → Profile cs x → p < length cs → cell cs x p < cells cs
cell_below p r h = digits_lt (offset_below r) h

-- An earlier profile has a lower offset.
pub earlier_offset : {cs x y : List ℕ} → Profile cs x → Profile cs y → Earlier x y → offset cs x < offset cs y
earlier_offset {cs = []} {y = y} r q (p, before, less) =
    absurd (omega (arith, get_or-eq_default y 0 {n = p} (omega (arith, q.each))))
earlier_offset {cs = c ∷ cs} {x = []} r q e = absurd (suc-ne-zero (length cs) (sym r.each))
earlier_offset {cs = c ∷ cs} {x = s ∷ x} {y = []} r q e = absurd (suc-ne-zero (length cs) (sym q.each))
earlier_offset {cs = c ∷ cs} {x = s ∷ x} {y = t ∷ y} r q (zero, before, less) =
    let r' = tail_profile c s cs x r in
    rw (offset_cons c s r', offset_cons c t (tail_profile c t cs y q)) (omega (arith, digits_lt less (offset_below r')))
earlier_offset {cs = c ∷ cs} {x = s ∷ x} {y = t ∷ y} r q (suc p, before, less) =
    let r' = tail_profile c s cs x r in
    let q' = tail_profile c t cs y q in
    let e : s ≡ t = before 0 (suc-le-suc zero-le) in
    rw (offset_cons c s r', offset_cons c t q', e)
    (omega (arith, earlier_offset r' q' (p, λ i l. before (suc i) (suc-le-suc l), less)))

-- After a change of p's choice from s to t the offset has moved by t − s strides of p.
pub offset_set : {cs x : List ℕ} (p t : ℕ) → Profile cs x → p < length cs → t < get_or cs p 0
    → offset cs (set x p t) + choice x p * stride cs p ≡ offset cs x + t * stride cs p
unfolding stride
offset_set {cs = []} p t r l h = absurd (not-suc-le-zero l)
offset_set {cs = c ∷ cs} {x = []} p t r l h = absurd (suc-ne-zero (length cs) (sym r.each))
offset_set {cs = c ∷ cs} {x = s ∷ x} zero t r l h =
    let q = tail_profile c s cs x r in rw (offset_cons c t q, offset_cons c s q) (omega arith)
offset_set {cs = c ∷ cs} {x = s ∷ x} (suc p) t r l h =
    let q = tail_profile c s cs x r in
    let k = le_of_suc-le-suc l in
    rw (offset_cons c s (set_profile cs x q p t k h), offset_cons c s q) (omega (arith, offset_set p t q k h))

-- A player's choice, from the offset.
pub offset_choice : {cs x : List ℕ} (p : ℕ) → Profile cs x → p < length cs → offset cs x / stride cs p % get_or cs p 0 ≡ choice x p
unfolding stride
offset_choice {cs = []} p r l = absurd (not-suc-le-zero l)
offset_choice {cs = c ∷ cs} {x = []} p r l = absurd (suc-ne-zero (length cs) (sym r.each))
offset_choice {cs = c ∷ cs} {x = s ∷ x} zero r l =
    let q = tail_profile c s cs x r in
    let h : s < c = r.fits 0 l in
    rw (offset_cons c s q, digits_div s (offset_below q)) (mod-eq_of_lt h)
offset_choice {cs = c ∷ cs} {x = s ∷ x} (suc p) r l =
    let q = tail_profile c s cs x r in
    let k = le_of_suc-le-suc l in
    let some : 0 < product cs = omega (arith, offset_below q) in
    let m = s * product (take p cs) in
    let e : s * product cs ≡ m * get_or cs p 0 * stride cs p =
    rw (product_split cs p, product_drop cs p k) (simp mul_assoc) in
    rw (offset_cons c s q, e, mul-add-div_right (stride_positive cs p some), mul-add-mod_self_right) (offset_choice p q k)

-- ---- the k-th profile

module _ {A B : Type 0} where
  pub get_or_map : (f : A → B) (xs : List A) (i : ℕ) (a : A) (b : B) → i < length xs → get_or (map f xs) i b ≡ f (get_or xs i a)
  get_or_map f [] i a b h = absurd (not-suc-le-zero h)
  get_or_map f (x ∷ xs) zero a b h = refl
  get_or_map f (x ∷ xs) (suc i) a b h = get_or_map f xs i a b (le_of_suc-le-suc h)

  pub get_or_flat_map : (f : A → List B) (n : ℕ) → ((a : A) → length (f a) ≡ n) → (xs : List A) (i j : ℕ) (a : A) (b : B)
      → i < length xs → j < n → get_or (flat_map f xs) (i * n + j) b ≡ get_or (f (get_or xs i a)) j b
  unfolding flat_map
  get_or_flat_map f n e [] i j a b h k = absurd (not-suc-le-zero h)
  get_or_flat_map f n e (x ∷ xs) zero j a b h k = rw (zero-mul, zero-add) (get_or-append (f x) (flat_map f xs) b j (rw (e x) k))
  get_or_flat_map f n e (x ∷ xs) (suc i) j a b h k =
      let q : suc i * n + j ≡ length (f x) + (i * n + j) = omega (arith, suc-mul i n, e x) in
      rw (q, get_or-append-add) (get_or_flat_map f n e xs i j a b (le_of_suc-le-suc h) k)

pub get_or_below : (n i : ℕ) → i < n → get_or (below n) i 0 ≡ i
get_or_below zero i h = absurd (not-suc-le-zero h)
get_or_below (suc n) zero h = refl
get_or_below (suc n) (suc i) h =
    get_or_map suc (below n) i 0 0 (rw length_below (le_of_suc-le-suc h)) ∙ ap suc (get_or_below n i (le_of_suc-le-suc h))

pub get_or_mem : {A : Type 0} (xs : List A) (i : ℕ) (d : A) → i < length xs → get_or xs i d ∈ xs
get_or_mem [] i d h = absurd (not-suc-le-zero h)
get_or_mem (x ∷ xs) zero d h = here refl
get_or_mem (x ∷ xs) (suc i) d h = there (get_or_mem xs i d (le_of_suc-le-suc h))

sorted_nth : {A : Type 0} (R : A → A → Type 0) (xs : List A) (i j : ℕ) (d : A) → Sorted R xs → i < j → j < length xs
    → R (get_or xs i d) (get_or xs j d)
sorted_nth R [] i j d s l h = absurd (not-suc-le-zero h)
sorted_nth R (x ∷ xs) i zero d s l h = absurd (not-suc-le-zero l)
sorted_nth R (x ∷ xs) zero (suc j) d s l h = s.0 (get_or xs j d) (get_or_mem xs j d (le_of_suc-le-suc h))
sorted_nth R (x ∷ xs) (suc i) (suc j) d s l h = sorted_nth R xs i j d s.1 (le_of_suc-le-suc l) (le_of_suc-le-suc h)

-- The first choice of the profile at s × (product of the other counts) + j is s, and its rest is the j-th of the players after.
pub nth_cons : (c s j : ℕ) (cs : List ℕ) → s < c → j < product cs
    → get_or (profiles (c ∷ cs)) (s * product cs + j) [] ≡ s ∷ get_or (profiles cs) j []
unfolding profiles
nth_cons c s j cs h k =
    get_or_flat_map (λ s. map (λ x. s ∷ x) (profiles cs)) (product cs) (λ s. length-map (profiles cs) (λ x. s ∷ x) ∙ length_profiles cs)
    (below c) s j 0 [] (rw length_below h) k
    ∙ get_or_map (λ x. get_or (below c) s 0 ∷ x) (profiles cs) j [] [] (rw length_profiles k)
    ∙ ap {B = List ℕ} (λ t. t ∷ get_or (profiles cs) j []) (get_or_below c s h)

-- Every place below c × n is s × n + j for an s below c and a j below n.
pub digits : (c n k : ℕ) → k < c * n → (s : ℕ) × (j : ℕ) × (s < c) × (j < n) × (s * n + j ≡ k)
digits c n k h =
    let some : 0 < n = positive_right c n (omega arith) in
    (k / n, k % n, (div-lt_iff_lt-mul some).1 h, mod-lt k some, div-add-mod' k n)

-- The k-th profile is a profile.
pub nth_profile : (cs : List ℕ) (k : ℕ) → k < product cs → Profile cs (get_or (profiles cs) k [])
nth_profile cs k h = ((profiles_law cs).members (get_or (profiles cs) k [])).0 (get_or_mem (profiles cs) k [] (rw length_profiles h))

-- A lower offset has an earlier profile.
pub nth_earlier : (cs : List ℕ) (j k : ℕ) → j < k → k < product cs → Earlier (get_or (profiles cs) j []) (get_or (profiles cs) k [])
nth_earlier cs j k l h = sorted_nth Earlier (profiles cs) j k [] (profiles_law cs).sorted l (rw length_profiles h)

-- The k-th profile has offset k,
pub offset_nth : (cs : List ℕ) (k : ℕ) → k < product cs → offset cs (get_or (profiles cs) k []) ≡ k
unfolding offset profiles
offset_nth [] k h = omega arith
offset_nth (c ∷ cs) k h =
    let (s, j, a, b, e) = digits c (product cs) k h in
    rw (← e, nth_cons c s j cs a b, offset_cons c s (nth_profile cs j b), offset_nth cs j b)

-- and a profile stands at its offset,
pub nth_offset : {cs x : List ℕ} → Profile cs x → get_or (profiles cs) (offset cs x) [] ≡ x
unfolding offset profiles
nth_offset {cs = []} {x = []} r = refl
nth_offset {cs = []} {x = s ∷ x} r = absurd (suc-ne-zero (length x) r.each)
nth_offset {cs = c ∷ cs} {x = []} r = absurd (suc-ne-zero (length cs) (sym r.each))
nth_offset {cs = c ∷ cs} {x = s ∷ x} r =
    let q = tail_profile c s cs x r in
    rw (offset_cons c s q, nth_cons c s (offset cs x) cs (r.fits 0 (omega arith)) (offset_below q), nth_offset q)

-- so that two profiles with one offset are equal.
pub offset_once : {cs x y : List ℕ} → Profile cs x → Profile cs y → offset cs x ≡ offset cs y → x ≡ y
offset_once {cs} r q e = sym (nth_offset r) ∙ ap (λ n. get_or (profiles cs) n []) e ∙ nth_offset q

-- The first profile is all zeros.
pub nth_zero : (cs : List ℕ) → 0 < product cs → get_or (profiles cs) 0 [] ≡ replicate (length cs) 0
unfolding profiles
nth_zero [] h = refl
nth_zero (c ∷ cs) h =
    let some = positive_right c (product cs) h in
    rw (zero-mul, zero-add) at (nth_cons c 0 0 cs (positive_left c (product cs) h) some) ∙ ap {B = List ℕ} (λ x. 0 ∷ x) (nth_zero cs some)

-- ---- the walk over the changes of one player's choice, from k alone

module _ (cs : List ℕ) (k p : ℕ) where
  -- The part of k that is p's is at most k.
  pub walk_at_most : k / stride cs p % get_or cs p 0 * stride cs p ≤ k
  walk_at_most = le_trans (mul-le-mul_right (stride cs p) (mod-le (k / stride cs p) (get_or cs p 0))) (div-mul-le_self k (stride cs p))

  module _ (h : k < product cs) (l : p < length cs) where
    -- What p chooses in the k-th profile.
    pub nth_choice : choice (get_or (profiles cs) k []) p ≡ k / stride cs p % get_or cs p 0
    nth_choice = sym (offset_choice p (nth_profile cs k h) l) ∙ rw (offset_nth cs k h) refl

    -- The k-th profile with t as p's choice stands at k without p's part and t strides of p,
    pub walk_base : (t : ℕ) → t < get_or cs p 0
        → k - k / stride cs p % get_or cs p 0 * stride cs p + t * stride cs p ≡ offset cs (set (get_or (profiles cs) k []) p t)
    walk_base t b =
        omega (arith, walk_at_most, rw (nth_choice, offset_nth cs k h) at (offset_set p t (nth_profile cs k h) l b))

    -- and that is below the number of profiles.
    pub walk_below : (t : ℕ) → t < get_or cs p 0 → k - k / stride cs p % get_or cs p 0 * stride cs p + t * stride cs p < product cs
    walk_below t b =
        rw (walk_base t b) (offset_below (set_profile cs (get_or (profiles cs) k []) (nth_profile cs k h) p t l b))

-- ---- the offset player by player, as a loop computes it

-- One more player.
pub offset_more : (n p : ℕ) (cs x : List ℕ) → p < length cs → p < length x
    → offset_from n (drop p cs) (drop p x) ≡ offset_from (n * get_or cs p 0 + get_or x p 0) (drop (p + 1) cs) (drop (p + 1) x)
offset_more n p cs x h l = rw (drop-cons cs p 0 h, drop-cons x p 0 l, add-one p)

-- What is computed of it so far is below the product of the counts so far.
pub offset_so_far : (n s p : ℕ) (cs : List ℕ) → p < length cs → n < product (take p cs) → s < get_or cs p 0
    → n * get_or cs p 0 + s < product (take (p + 1) cs)
offset_so_far n s p cs h k l = rw (add-one p, take-suc cs p 0 h, product_append, mul-one) (digits_lt k l)
