-- What marks are at every place: those of fresh survivors are the whole game's, to take one mark out takes just that one, and how many
-- there are. Assumes nothing.
use mathlib.Core.Path.{◌≡◌, refl, sym, ap, ◌∙◌, fun_ext}
use mathlib.Core.Bool.{Bool, true, false, ◌&&◌}
use mathlib.Core.List.{List, [], ◌∷◌, ◌++◌, map, flat_map, map-map}
use mathlib.Core.Logic.{◌↔◌, ⊎_elim}
use Prim.Native.Nat.{ℕ, zero, suc, ◌+◌, ◌*◌, ◌/◌, ◌%◌, ◌≤◌, ◌<◌, zero-le}
use native.Mathlib.Nat.{not-suc-le-zero, le_of_suc-le-suc, mod-lt, div-add-mod'}
use native.Mathlib.Omega.{arith}
use borrow.Author.Count.{below_more}
use borrow.Author.Tests.{le-ltb, lt-ltb}
use lib.Arith.{digits_div, digits_mod}
use lib.Dec.{T, ltb, leb-suc-suc}
use lib.ListN.{length, get_or, set, replicate, length-map, length-append, length-set, length-replicate, get_or-replicate, get_or-eq_default}
use lib.Seq.{ext_get_or, get_or-set_same, get_or-set_other}
use lib.Ieee.{Float}
use Rattle.game.specs.Finite.{below, sum, filter}
use Rattle.game.specs.Game.{Marks, Strategy, whole}
use Rattle.game.specs.Strikes.{without}
use Rattle.game.proofs.Finite.{length_below, length_flat_map, sum_equal, le_or_lt, same_test, test_true, filter_append, map_cong}
use Rattle.game.proofs.Strikes.{without_law}
use Rattle.payoff_tables.specs.Limits.{max_players, max_strategies, max_marks}
use Rattle.payoff_tables.specs.Table.{table_game}
use Rattle.payoff_tables.specs.Meaning.{Shape}
use Rattle.payoff_tables.proofs.Offsets.{get_or_map, get_or_flat_map, get_or_below, digits}
use Rattle.table.specs.Space.{places, space_of}
use Rattle.table.proofs.Space.{past, space_count}
use Rattle.marks.specs.Marks.{mark_place, marked}
use Rattle.marks.proofs.Marks.{mark_at, mark_past, mark_inside}
use Rattle.survivors.specs.declared.Survivors.{Survivors}
use Rattle.survivors.specs.Survivors.{marks_of, without_mark, mark_count, all_marks, fresh_of}

-- ---- places

-- A player past the limit has no mark in a list of marks.
pub mark_beyond : (marks : List Bool) (p s : ℕ) → length marks ≡ max_marks → max_players ≤ p → marked marks p s ≡ false
unfolding marked
mark_beyond marks p s full h =
    ap (λ (b : Bool). ltb s max_strategies && b) (get_or-eq_default marks false (omega arith)) ∙ none (ltb s max_strategies)
  where
    none : (b : Bool) → b && false ≡ false
    none true = refl
    none false = refl

-- Two lists of marks that mark the same strategies are equal.
pub marks_same : (a b : List Bool) → length a ≡ max_marks → length b ≡ max_marks → marked a ≡ marked b → a ≡ b
marks_same a b full full' e =
    ext_get_or false a b (full ∙ sym full') (λ i l.
    let (p, s, h, k, is) = digits max_players max_strategies i (omega arith) in
    ap (λ (n : ℕ). get_or a n false) (sym is) ∙ sym (mark_at a p s k) ∙ ap (λ (m : Marks). m p s) e ∙ mark_at b p s k
    ∙ ap (λ (n : ℕ). get_or b n false) is)

-- ---- fresh survivors

module _ (counts : List ℕ) where
  -- player p's marks
  row : ℕ → List Bool
  row p = map (λ s. ltb s (get_or counts p 0)) (below max_strategies)

  row_length : (p : ℕ) → length (row p) ≡ max_strategies
  unfolding row
  row_length p = length-map (below max_strategies) (λ s. ltb s (get_or counts p 0)) ∙ length_below max_strategies

  pub all_length : length (all_marks counts) ≡ max_marks
  unfolding all_marks row
  all_length = length_flat_map row (below max_players) ∙ sum_equal (λ p. length (row p)) max_strategies row_length (below max_players)

  pub all_at : (p s : ℕ) → p < max_players → s < max_strategies → get_or (all_marks counts) (p * max_strategies + s) false ≡ ltb s (get_or counts p 0)
  unfolding all_marks row
  all_at p s h k =
      get_or_flat_map row max_strategies row_length (below max_players) p s 0 false h k
      ∙ ap (λ (q : ℕ). get_or (row q) s false) (get_or_below max_players p h)
      ∙ get_or_map (λ s. ltb s (get_or counts p 0)) (below max_strategies) s 0 false (rw length_below k)
      ∙ ap (λ (t : ℕ). ltb t (get_or counts p 0)) (get_or_below max_strategies s k)

-- Every place's count is within the limit.
pub high : (counts : List ℕ) → Shape counts → (p : ℕ) → get_or counts p 0 ≤ max_strategies
high counts h p =
    ⊎_elim (λ (b : length counts ≤ p). rw (past counts p b) (omega arith)) (λ (l : p < length counts). h.high p l)
    (le_or_lt (length counts) p)

-- Every strategy of the table is marked, and nothing else.
pub fresh_marks : (counts : List ℕ) (payoffs : List Float) → Shape counts → marks_of (fresh_of counts) ≡ whole (table_game counts payoffs)
unfolding fresh_of whole table_game
fresh_marks counts payoffs h = fun_ext (λ p. fun_ext (λ s. at p s))
  where
    at : (p s : ℕ) → marked (all_marks counts) p s ≡ ltb s (get_or counts p 0)
    at p s =
        ⊎_elim
        (λ (b : max_players ≤ p).
        mark_beyond (all_marks counts) p s (all_length counts) b
        ∙ sym (ap (ltb s) (past counts p (omega (arith, h.few))) ∙ le-ltb s 0 zero-le))
        (λ (l : p < max_players).
        ⊎_elim
        (λ (b : max_strategies ≤ s). mark_past (all_marks counts) p s b ∙ sym (le-ltb s (get_or counts p 0) (omega (arith, high counts h p))))
        (λ (k : s < max_strategies). mark_at (all_marks counts) p s k ∙ all_at counts p s l k)
        (le_or_lt max_strategies s))
        (le_or_lt max_players p)

-- The places of the counts, 0 from P on, mark the same.
pub all_places : (counts : List ℕ) → length counts ≤ max_players → all_marks (places counts) ≡ all_marks counts
unfolding all_marks space_of
all_places counts h =
    ap (λ (f : ℕ → ℕ). flat_map (λ p. map (λ s. ltb s (f p)) (below max_strategies)) (below max_players)) (fun_ext (λ p. space_count counts p h))

-- So a record with P, the places of the counts and their marks is the fresh survivors.
pub fresh_is : (counts : List ℕ) (v : Survivors) → length counts ≤ max_players → v.players ≡ length counts → v.counts ≡ places counts
    → v.marks ≡ all_marks (places counts) → v ≡ fresh_of counts
unfolding fresh_of
fresh_is counts v h a b c = λ i. record { players = a i; counts = b i; marks = (c ∙ all_places counts h) i }

-- as many marks as there may be, as every array of marks has
abbrev pub Full : Survivors → Type 0
Full v = length v.marks ≡ max_marks

pub fresh_full : (counts : List ℕ) → Full (fresh_of counts)
unfolding fresh_of
fresh_full counts = all_length counts

-- ---- one mark less

-- Two places are the same only where player and strategy are.
place_once : (p s q t : ℕ) → s < max_strategies → t < max_strategies → mark_place p s ≡ mark_place q t → (p ≡ q) × (s ≡ t)
place_once p s q t h k e = (
  sym (digits_div p h) ∙ ap (λ (n : ℕ). n / max_strategies) e ∙ digits_div q k,
  sym (digits_mod p h) ∙ ap (λ (n : ℕ). n % max_strategies) e ∙ digits_mod q k,
)

-- The survivors without one mark are marked as before, but for the one.
module _ (v : Survivors) (c : Strategy) (full : Full v) (l : c.player < max_players) (k : c.number < max_strategies) where
  inside : mark_place c.player c.number < length v.marks
  inside = rw full (mark_inside c.player c.number l k)

  taken : marked (set v.marks (mark_place c.player c.number) false) c.player c.number ≡ false
  taken = mark_at _ c.player c.number k ∙ get_or-set_same v.marks (mark_place c.player c.number) false false inside

  stays : (p s : ℕ) → ((p ≡ c.player) × (s ≡ c.number) → ⊥)
      → marked (set v.marks (mark_place c.player c.number) false) p s ≡ marked v.marks p s
  stays p s n =
      ⊎_elim (λ (b : max_strategies ≤ s). mark_past _ p s b ∙ sym (mark_past v.marks p s b))
      (λ (j : s < max_strategies).
      mark_at _ p s j
      ∙ get_or-set_other v.marks (mark_place c.player c.number) (mark_place p s) false false (λ e. n (place_once p s c.player c.number j k e))
      ∙ sym (mark_at v.marks p s j))
      (le_or_lt max_strategies s)

  pub without_full : Full (without_mark v c)
  unfolding without_mark
  without_full = length-set v.marks _ _ ∙ full

  -- the marks afterwards
  new : Marks
  new = marked (set v.marks (mark_place c.player c.number) false)

  new_other : (p s : ℕ) → T (new p s) → (p ≡ c.player) × (s ≡ c.number) → ⊥
  unfolding new
  new_other p s h e = rw (e.0, e.1, taken) at h

  new_law : (p s : ℕ) → T (new p s) ↔ T (without (marks_of v) c p s)
  unfolding new
  new_law p s = (
    λ h. (without_law (marks_of v) c p s).1 (rw (stays p s (new_other p s h)) at h, new_other p s h),
    λ h. let (a, n) = (without_law (marks_of v) c p s).0 h in rw (stays p s n) a,
  )

  pub without_marks : marks_of (without_mark v c) ≡ without (marks_of v) c
  unfolding without_mark new
  without_marks = fun_ext (λ p. fun_ext (λ s. same_test (new p s) (without (marks_of v) c p s) (new_law p s)))

-- ---- how many

count : List Bool → ℕ
count bs = length (filter (λ b. b) bs)

count_set : (bs : List Bool) (i : ℕ) → get_or bs i false ≡ true → count bs ≡ suc (count (set bs i false))
unfolding count
count_set [] i h = let z : ◌≡◌ {A = ℕ} 0 1 = cc in absurd (omega arith)
count_set (b ∷ bs) zero h = rw h
count_set (true ∷ bs) (suc i) h = ap suc (count_set bs i h)
count_set (false ∷ bs) (suc i) h = count_set bs i h

count_append : (xs ys : List Bool) → count (xs ++ ys) ≡ count xs + count ys
unfolding count
count_append xs ys = ap length (filter_append (λ b. b) xs ys) ∙ length-append (filter (λ b. b) xs) (filter (λ b. b) ys)

count_flat_map : {A : Type 0} (f : A → List Bool) (xs : List A) → count (flat_map f xs) ≡ sum (map (λ a. count (f a)) xs)
unfolding flat_map count
count_flat_map f [] = refl
count_flat_map f (x ∷ xs) = count_append (f x) (flat_map f xs) ∙ ap (λ (n : ℕ). count (f x) + n) (count_flat_map f xs)

-- An accepted strike takes one mark.
pub count_without : (v : Survivors) (c : Strategy) → c.number < max_strategies → T (marks_of v c.player c.number)
    → mark_count v ≡ suc (mark_count (without_mark v c))
unfolding mark_count without_mark count
count_without v c k h =
    count_set v.marks (mark_place c.player c.number) (test_true _ (rw (mark_at v.marks c.player c.number k) at h))

-- As many as c of the numbers below n are below c, where c is at most n.
count_below : (n c : ℕ) → c ≤ n → count (map (λ s. ltb s c) (below n)) ≡ c
unfolding count
count_below zero c h = omega arith
count_below (suc n) zero h = none (map suc (below n))
  where
    none : (xs : List ℕ) → length (filter (λ b. b) (map (λ s. ltb s 0) xs)) ≡ 0
    none [] = refl
    none (x ∷ xs) = rw (le-ltb x 0 zero-le) (none xs)
count_below (suc n) (suc c) h =
    rw (lt-ltb 0 (suc c) (omega arith)) (ap suc (
    ap count (map-map (λ s. ltb s (suc c)) suc (below n) ∙ map_cong (λ s. ltb (suc s) (suc c)) (λ s. ltb s c) (below n) (λ s _. leb-suc-suc (suc s) c))
    ∙ count_below n c (le_of_suc-le-suc h)))

-- The counts and zeros after them have the counts' sum.
sum_places : (cs : List ℕ) (n : ℕ) → length cs ≤ n → sum (map (λ p. get_or cs p 0) (below n)) ≡ sum cs
sum_places [] n h = zeros (below n)
  where
    zeros : (xs : List ℕ) → sum (map (λ p. get_or {A = ℕ} [] p 0) xs) ≡ 0
    zeros [] = refl
    zeros (x ∷ xs) = rw (zeros xs) (omega arith)
sum_places (c ∷ cs) zero h = absurd (not-suc-le-zero h)
sum_places (c ∷ cs) (suc n) h =
    ap (λ (m : ℕ). c + m) (ap sum (map-map (λ p. get_or (c ∷ cs) p 0) suc (below n)) ∙ sum_places cs n (le_of_suc-le-suc h))

-- Fresh survivors have as many marks as there are strategies.
pub count_fresh : (counts : List ℕ) → Shape counts → mark_count (fresh_of counts) ≡ sum counts
unfolding mark_count fresh_of all_marks count
count_fresh counts h =
    count_flat_map (λ p. map (λ s. ltb s (get_or counts p 0)) (below max_strategies)) (below max_players)
    ∙ ap sum (map_cong _ (λ p. get_or counts p 0) (below max_players) (λ p _. count_below max_strategies (get_or counts p 0) (high counts h p)))
    ∙ sum_places counts max_players h.few

-- ---- the loop that fills them

-- the places before i are filled, and the others hold a mark
pub record Filled (counts : List ℕ) (i : ℕ) (marks : List Bool) : Type 0 where
  pub size : length marks ≡ max_marks
  pub done : (j : ℕ) → j < i → get_or marks j false ≡ ltb (j % max_strategies) (get_or counts (j / max_strategies) 0)
  pub rest : (j : ℕ) → i ≤ j → j < max_marks → get_or marks j false ≡ true

pub filled_none : (counts : List ℕ) → Filled counts 0 (replicate max_marks true)
filled_none counts =
    record {
      size = length-replicate max_marks true;
      done = λ j h. absurd (omega arith);
      rest = λ j h l. get_or-replicate max_marks j true false l;
    }

-- a place at or past the count loses its mark, and one below it stays
module _ (counts : List ℕ) (i : ℕ) (marks : List Bool) (l : i < max_marks) (f : Filled counts i marks) where
  pub filled_past : get_or counts (i / max_strategies) 0 ≤ i % max_strategies → Filled counts (i + 1) (set marks i false)
  filled_past h =
      record {
        size = length-set marks i false ∙ f.size;
        done = below_more (λ j. get_or (set marks i false) j false ≡ ltb (j % max_strategies) (get_or counts (j / max_strategies) 0)) i
            (λ j k. get_or-set_other marks i j false false (omega arith) ∙ f.done j k)
            (get_or-set_same marks i false false (omega (arith, f.size)) ∙ sym (le-ltb (i % max_strategies) (get_or counts (i / max_strategies) 0) h));
        rest = λ j k m. get_or-set_other marks i j false false (omega arith) ∙ f.rest j (omega arith) m;
      }

  pub filled_stays : i % max_strategies < get_or counts (i / max_strategies) 0 → Filled counts (i + 1) marks
  filled_stays h =
      record {
        size = f.size;
        done = below_more (λ j. get_or marks j false ≡ ltb (j % max_strategies) (get_or counts (j / max_strategies) 0)) i f.done
            (f.rest i (omega arith) l ∙ sym (lt-ltb (i % max_strategies) (get_or counts (i / max_strategies) 0) h));
        rest = λ j k m. f.rest j (omega arith) m;
      }

pub filled_all : (counts : List ℕ) (i : ℕ) (marks : List Bool) → max_marks ≤ i → Filled counts i marks → marks ≡ all_marks counts
filled_all counts i marks h f =
    ext_get_or false marks (all_marks counts) (f.size ∙ sym (all_length counts)) (λ j l.
    let k : j < max_marks = omega (arith, f.size) in
    let under : j % max_strategies < max_strategies = mod-lt j (omega arith) in
    f.done j (omega arith) ∙ sym (all_at counts (j / max_strategies) (j % max_strategies) (omega arith) under)
    ∙ ap (λ (n : ℕ). get_or (all_marks counts) n false) (div-add-mod' j max_strategies))
