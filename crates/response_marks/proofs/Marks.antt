-- What the marks say: which byte stands at each cell, that it is 1 or 0, and which profiles have no 0 among theirs. Assumes nothing.
use mathlib.Core.Path.{◌≡◌, refl, sym, ap, ap₂, ◌∙◌}
use mathlib.Core.Bool.{Bool, true, false, not}
use mathlib.Core.List.Memᴰ.{head as here}
use mathlib.Core.List.Memᴰ.{tail as there}
use mathlib.Core.List.{List, [], ◌∷◌, ◌++◌, flat_map}
use mathlib.Core.Logic.Iff
use mathlib.Core.Logic.{◌↔◌, ◌⊎◌, inl, inr}
use mathlib.Core.Option.{none, some}
use Prim.Native.Nat.{ℕ, ◌+◌, ◌*◌, ◌-◌, ◌≤◌, ◌<◌}
use native.Mathlib.Omega.{arith}
use lib.Arith.{digits_lt}
use lib.Dec.{T, eqb}
use borrow.Author.Tests.{lt-ltb, le-ltb}
use lib.ListN.{length, get_or, take, drop, length-map}
use lib.Seq.{take_at}
use lib.Ieee.{Float}
use Rattle.game.specs.Finite.{◌∈◌, below, product}
use Rattle.game.specs.Game.{Game, players, choice, Profile, profiles, Marks}
use Rattle.game.specs.Solution.{best_response, equilibrium, equilibria}
use Rattle.game.specs.Meaning.{Best}
use Rattle.game.specs.Ordinal.{SameMarks}
use Rattle.game.proofs.Finite.{no_T, eqb_T, all_T, filter_mem, same_test, below_mem, length_below, filter_cong, map_cong, length_flat_map, sum_equal}
use Rattle.game.proofs.Game.{length_profiles, profiles_law}
use Rattle.game.proofs.Solution.{best_response_law, equilibrium_each}
use Rattle.refusal.specs.Refusal.{number_of}
use Rattle.refusal.specs.Told.{values, refused, byte_of}
use Rattle.refusal.specs.declared.NormalFormError.{NormalFormError}
use Rattle.refusal.specs.declared.NormalFormError.TheVariants.{OutputTooShort}
use Rattle.refusal.proofs.Told.{byte_back}
use Rattle.payoff_order.proofs.All.{all_cong}
use Rattle.written_lists.specs.Outputs.{over}
use Rattle.written_lists.proofs.Outputs.{over_first}
use Rattle.payoff_tables.specs.Table.{cells, offset, cell, table_game}
use Rattle.payoff_tables.specs.Checks.{table_refusal}
use Rattle.payoff_tables.proofs.Offsets.{get_or_map, get_or_flat_map, get_or_below, offset_below, nth_offset}
use Rattle.response_marks.specs.Marks.{settled, profile_marks, response_marks, ones, all_marked, marked_profiles}
use Rattle.response_marks.specs.Answers.{table_marks, marks_refusal, marks_answer, marks_written}

one_T : (b : Bool) → (byte_of b ≡ 1) ↔ T b
one_T true = (λ _. tt, λ _. refl)
one_T false = (λ e. omega (arith, e), λ t. absurd t)

either_byte : (b : Bool) → (byte_of b ≡ 1) ⊎ (byte_of b ≡ 0)
either_byte true = inl refl
either_byte false = inr refl

module _ (g : Game) (m : Marks) where
  profile_length : (x : List ℕ) → length (profile_marks g m x) ≡ players g
  unfolding profile_marks
  profile_length x = length-map (below (players g)) (λ p. byte_of (settled g m x p)) ∙ length_below (players g)

  -- a byte for each cell,
  pub marks_length : length (response_marks g m) ≡ cells g.counts
  unfolding response_marks
  marks_length =
      length_flat_map (profile_marks g m) (profiles g.counts)
      ∙ sum_equal (λ x. length (profile_marks g m x)) (players g) profile_length (profiles g.counts)
      ∙ ap (λ (n : ℕ). n * players g) (length_profiles g.counts)

  -- which says whether the player's choice in the profile is a best response.
  pub marks_at : (k p : ℕ) → k < product g.counts → p < players g
      → get_or (response_marks g m) (k * players g + p) 0 ≡ byte_of (settled g m (get_or (profiles g.counts) k []) p)
  unfolding response_marks profile_marks
  marks_at k p h l =
      get_or_flat_map (profile_marks g m) (players g) profile_length (profiles g.counts) k p [] 0 (rw length_profiles h) l
      ∙ get_or_map (λ p. byte_of (settled g m (get_or (profiles g.counts) k []) p)) (below (players g)) p 0 0 (rw length_below l)
      ∙ ap (λ (n : ℕ). byte_of (settled g m (get_or (profiles g.counts) k []) n)) (get_or_below (players g) p l)

  module _ (k p : ℕ) (h : k < product g.counts) (l : p < players g) where
    abbrev x : List ℕ
    x = get_or (profiles g.counts) k []

    -- It is 1 where that is so, in quantifiers,
    pub mark_one : (get_or (response_marks g m) (k * players g + p) 0 ≡ 1) ↔ Best g m p x (choice x p)
    unfolding settled
    mark_one = rw (marks_at k p h l) (Iff.trans (one_T (best_response g m p x (choice x p))) (best_response_law g m p x (choice x p)))

    -- and else 0.
    pub mark_or_zero : (get_or (response_marks g m) (k * players g + p) 0 ≡ 1) ⊎ (get_or (response_marks g m) (k * players g + p) 0 ≡ 0)
    mark_or_zero = rw (marks_at k p h l) (either_byte (settled g m x p))

-- ---- the marks over what stood there

module _ (counts : List ℕ) (payoffs : List Float) (m : Marks) (old : List ℕ) where
  pub marks_over : (k p : ℕ) → k < product counts → p < length counts
      → get_or (over (response_marks (table_game counts payoffs) m) old) (k * length counts + p) 0 ≡ byte_of (settled (table_game counts payoffs) m (get_or (profiles counts) k []) p)
  unfolding table_game
  marks_over k p h l =
      over_first (response_marks (table_game counts payoffs) m) old (k * length counts + p) 0 (rw (marks_length (table_game counts payoffs) m) (digits_lt h l))
      ∙ marks_at (table_game counts payoffs) m k p h l

-- ---- the profiles that have no 0

-- A profile is listed where none of its marks is 0.
pub marked_law : (counts marks x : List ℕ)
    → (x ∈ marked_profiles counts marks) ↔ (Profile counts x × ((p : ℕ) → p < length counts → get_or marks (cell counts x p) 0 ≡ 0 → ⊥))
unfolding marked_profiles
marked_law counts marks x =
    Iff.trans (filter_mem (all_marked counts marks) (profiles counts) x)
    (simp (all_T, below_mem, no_T, eqb_T) (
      λ (i, h). (((profiles_law counts).members x).0 i, h),
      λ (r, h). (((profiles_law counts).members x).1 r, h),
    ))

-- By the marks that the sweep writes, whatever stands past them, they are the equilibria.
pub marks_listed : (counts : List ℕ) (payoffs : List Float) (m : Marks) (old : List ℕ)
    → marked_profiles counts (over (response_marks (table_game counts payoffs) m) old) ≡ equilibria (table_game counts payoffs) m
unfolding marked_profiles equilibria table_game settled
marks_listed counts payoffs m old =
    let g = table_game counts payoffs in
    let marks : List ℕ = over (response_marks g m) old in
    filter_cong (all_marked counts marks) (equilibrium g m) (profiles counts) (λ x i.
    let r : Profile counts x = ((profiles_law counts).members x).0 i in
    all_cong (λ p. not (eqb (get_or marks (cell counts x p) 0) 0)) (λ p. best_response g m p x (choice x p)) (below (length counts)) (λ p k.
    ap (λ (n : ℕ). not (eqb n 0)) (marks_over counts payoffs m old (offset counts x) p (offset_below r) ((below_mem (length counts) p).0 k))
    ∙ byte_back (settled g m (get_or (profiles counts) (offset counts x) []) p) ∙ ap (λ (y : List ℕ). best_response g m p y (choice y p)) (nth_offset r))
    ∙ sym (equilibrium_each g m x r))

-- ---- no mark but those of the game's strategies is read

flat_map_same : {A B : Type 0} (f h : A → List B) (xs : List A) → ((a : A) → a ∈ xs → f a ≡ h a) → flat_map f xs ≡ flat_map h xs
unfolding flat_map
flat_map_same f h [] e = refl
flat_map_same f h (x ∷ xs) e = ap₂ ◌++◌ (e x (here refl)) (flat_map_same f h xs (λ a k. e a (there k)))

-- so that with a mark on every place the marks are the whole table's
pub marks_same : (g : Game) (m n : Marks) → SameMarks g m n → response_marks g m ≡ response_marks g n
unfolding response_marks profile_marks settled
marks_same g m n same =
    flat_map_same (profile_marks g m) (profile_marks g n) (profiles g.counts) (λ x i.
    let r : Profile g.counts x = ((profiles_law g.counts).members x).0 i in
    map_cong (λ p. byte_of (best_response g m p x (choice x p))) (λ p. byte_of (best_response g n p x (choice x p))) (below (players g)) (λ p k.
    let l = (below_mem (players g) p).0 k in
    let to : (m n : Marks) → SameMarks g m n → Best g m p x (choice x p) → Best g n p x (choice x p) =
    λ m n e b. ((e p (choice x p) l (r.fits p l)).0 b.0, λ t j h. b.1 t j ((e p t l j).1 h)) in
    ap byte_of (same_test (best_response g m p x (choice x p)) (best_response g n p x (choice x p)) (Iff.trans (best_response_law g m p x (choice x p))
    (Iff.trans (to m n same, to n m (λ q t a b. Iff.symm (same q t a b))) (Iff.symm (best_response_law g n p x (choice x p))))))))

-- ---- what refuses a buffer of n bytes

module _ (counts : List ℕ) (payoffs : List Float) (n : ℕ) where
  -- the table is refused,
  pub marks_table : (e : NormalFormError) → table_refusal counts payoffs ≡ some e → marks_refusal counts payoffs n ≡ some e
  unfolding marks_refusal
  marks_table e h = rw h refl

  module _ (h : table_refusal counts payoffs ≡ none) where
    -- there are too few bytes,
    pub marks_few : n < cells counts → marks_refusal counts payoffs n ≡ some OutputTooShort
    unfolding marks_refusal
    marks_few l = rw (h, lt-ltb n (cells counts) l) refl

    -- or nothing does.
    pub marks_enough : cells counts ≤ n → marks_refusal counts payoffs n ≡ none
    unfolding marks_refusal
    marks_enough l = rw (h, le-ltb n (cells counts) l) refl

  -- What the sweep answers and writes where something does,
  pub marks_refused : (e : NormalFormError) → marks_refusal counts payoffs n ≡ some e
      → (refused (number_of e) ≡ marks_answer counts payoffs n) × (marks_written counts payoffs n ≡ [])
  unfolding marks_answer marks_written
  marks_refused e h = rw h (refl, refl)

  -- and where nothing does.
  pub marks_fit : marks_refusal counts payoffs n ≡ none
      → (values (ones (table_marks counts payoffs)) ≡ marks_answer counts payoffs n) × (marks_written counts payoffs n ≡ table_marks counts payoffs)
  unfolding marks_answer marks_written
  marks_fit h = rw h (refl, refl)

-- the first bytes of what is written are the marks
pub take_marks : (g : Game) (m : Marks) (old : List ℕ) → take (cells g.counts) (over (response_marks g m) old) ≡ response_marks g m
take_marks g m old = take_at (response_marks g m) (drop (length (response_marks g m)) old) (cells g.counts) (marks_length g m)
