-- How many marks are set: as a loop counts them, and at least the sum, over the players, of profiles divided by that player's count. Assumes nothing.
use mathlib.Core.Path.{◌≡◌, refl, sym, ap, ap₂, ◌∙◌}
use mathlib.Core.Bool.{Bool, true, false, cond}
use mathlib.Core.List.Memᴰ.{head as here}
use mathlib.Core.List.Memᴰ.{tail as there}
use mathlib.Core.List.{List, [], ◌∷◌, ◌++◌, map, flat_map}
use Prim.Native.Nat.{ℕ, suc, ◌+◌, ◌*◌, ◌/◌, ◌≤◌, ◌<◌}
use native.Mathlib.Nat.{mul_assoc, mul_comm, mul-div_cancel_left}
use native.Mathlib.Numerals.{add-one}
use native.Mathlib.Omega.{arith}
use lib.Dec.{T, eqb}
use lib.ListN.{length, get_or, take, length-append}
use lib.Seq.{take-suc, length-take-le}
use lib.Ieee.{Float}
use Rattle.game.specs.Finite.{◌∈◌, below, filter, sum, product}
use Rattle.game.specs.Game.{Game, players, count, profiles, Marks, whole}
use Rattle.game.proofs.Finite.{below_mem, filter_append, filter_at_most, map_cong}
use Rattle.game.proofs.Game.{whole_law}
use Rattle.payoff_tables.specs.Table.{cells, stride, table_game}
use Rattle.payoff_tables.specs.Meaning.{Shape}
use Rattle.payoff_tables.proofs.Offsets.{product_split, product_drop}
use Rattle.response_marks.specs.Marks.{settled, profile_marks, response_marks, ones}
use Rattle.refusal.specs.Refusal.{◌then◌}
use Rattle.refusal.specs.Told.{values, byte_of}
use Rattle.refusal.proofs.Refusal.{then_none}
use Rattle.refusal.proofs.Told.{told_values}
use Rattle.payoff_tables.specs.Checks.{table_refusal}
use Rattle.written_lists.specs.Outputs.{over, short_refusal}
use Rattle.payoff_tables.proofs.Checks.{table_law}
use Rattle.response_marks.specs.Answers.{table_marks, marks_refusal, marks_answer, marks_written, Counted}
use Rattle.response_marks.proofs.Marks.{take_marks}
use Rattle.game.proofs.Rows.{rows, pairs_more, best_rows}

-- ---- as a loop counts them

-- the test that is counted
abbrev one : ℕ → Bool
one b = eqb b 1

module _ (bs : List ℕ) where
  -- one more byte
  pub ones_more : (n : ℕ) → n < length bs → ones (take (n + 1) bs) ≡ ones (take n bs) + byte_of (eqb (get_or bs n 0) 1)
  unfolding ones
  ones_more n h =
      ap (λ (l : List ℕ). length (filter one l)) (ap (λ (k : ℕ). take k bs) (add-one n) ∙ take-suc bs n 0 h)
      ∙ ap length (filter_append one (take n bs) (get_or bs n 0 ∷ []))
      ∙ length-append (filter one (take n bs)) (cond (eqb (get_or bs n 0) 1) (get_or bs n 0 ∷ []) [])
      ∙ ap (λ (k : ℕ). length (filter one (take n bs)) + k) (single (one (get_or bs n 0)))
    where
      single : (t : Bool) → length (cond t (get_or bs n 0 ∷ []) []) ≡ byte_of t
      single true = refl
      single false = refl

  pub ones_few : (n : ℕ) → n ≤ length bs → ones (take n bs) ≤ n
  unfolding ones
  ones_few n h = omega (arith, filter_at_most one (take n bs), length-take-le n bs h)

-- those of two lists joined
pub ones_joined : (bs cs : List ℕ) → ones (bs ++ cs) ≡ ones bs + ones cs
unfolding ones
ones_joined bs cs = ap length (filter_append one bs cs) ∙ length-append (filter one bs) (filter one cs)

-- ---- how many there are at least

sum_at_most : {A : Type 0} (f h : A → ℕ) (xs : List A) → ((a : A) → a ∈ xs → f a ≤ h a) → sum (map f xs) ≤ sum (map h xs)
sum_at_most f h [] e = omega arith
sum_at_most f h (x ∷ xs) e = omega (arith, e x (here refl), sum_at_most f h xs (λ a k. e a (there k)))

sum_zero : {A : Type 0} (xs : List A) → sum (map (λ a. 0) xs) ≡ 0
sum_zero [] = refl
sum_zero (x ∷ xs) = omega (arith, sum_zero xs)

-- bytes that are 1 are those of what passes
ones_bytes : (f : ℕ → Bool) (ps : List ℕ) → length (filter one (map (λ p. byte_of (f p)) ps)) ≡ length (filter f ps)
ones_bytes f [] = refl
ones_bytes f (p ∷ ps) = step (f p) (ones_bytes f ps)
  where
    step : (b : Bool) → length (filter one (map (λ p. byte_of (f p)) ps)) ≡ length (filter f ps)
        → length (filter one (byte_of b ∷ map (λ p. byte_of (f p)) ps)) ≡ length (cond b (p ∷ filter f ps) (filter f ps))
    step true e = ap suc e
    step false e = e

-- Bytes of rows, counted by columns.
module _ {A : Type 0} (f : A → ℕ → Bool) (ps : List ℕ) where
  by_columns : (xs : List A) → ones (flat_map (λ x. map (λ p. byte_of (f x p)) ps) xs) ≡ sum (map (λ p. length (filter (λ x. f x p) xs)) ps)
  unfolding ones flat_map
  by_columns [] = sym (sum_zero ps)
  by_columns (x ∷ xs) =
      let row : List ℕ = map (λ p. byte_of (f x p)) ps in
      let rest : List ℕ = flat_map (λ x. map (λ p. byte_of (f x p)) ps) xs in
      ap length (filter_append one row rest) ∙ length-append (filter one row) (filter one rest)
      ∙ ap₂ ◌+◌ (ones_bytes (f x) ps) (by_columns xs) ∙ sym (pairs_more (λ p y. f y p) x xs ps)

-- Player by player, in how many profiles the player's choice is a best response.
module _ (g : Game) (m : Marks) where
  pub ones_by_player : ones (response_marks g m) ≡ sum (map (λ p. length (filter (λ x. settled g m x p) (profiles g.counts))) (below (players g)))
  unfolding response_marks profile_marks
  ones_by_player = by_columns (settled g m) (below (players g)) (profiles g.counts)

-- so that there are at least as many as the others have choices, for each player that has a marked strategy
pub marks_least : (g : Game) (m : Marks) → ((p : ℕ) → p < players g → (s : ℕ) × (s < count g p) × T (m p s))
    → sum (map (rows g.counts) (below (players g))) ≤ ones (response_marks g m)
unfolding settled
marks_least g m some =
    rw (ones_by_player g m)
    (sum_at_most (rows g.counts) (λ p. length (filter (λ x. settled g m x p) (profiles g.counts))) (below (players g))
    (λ p k. let l = (below_mem (players g) p).0 k in let (s, i, h) = some p l in best_rows g m p s l i h))

-- As many choices as the others have are profiles divided by the player's count.
pub rows_are : (cs : List ℕ) (p : ℕ) → p < length cs → 0 < get_or cs p 0 → product cs / get_or cs p 0 ≡ rows cs p
unfolding stride
rows_are cs p l some =
    let c : ℕ = get_or cs p 0 in
    let e : product cs ≡ c * rows cs p =
    product_split cs p ∙ ap (λ (n : ℕ). product (take p cs) * n) (product_drop cs p l)
    ∙ sym (mul_assoc (product (take p cs)) c (stride cs p)) ∙ ap (λ (n : ℕ). n * stride cs p) (mul_comm (product (take p cs)) c) ∙ mul_assoc c (product (take p cs)) (stride cs p) in
    ap (λ (n : ℕ). n / c) e ∙ mul-div_cancel_left (rows cs p) some

-- In a table: at least the sum, over the players, of profiles divided by that player's count.
pub table_least : (counts : List ℕ) (payoffs : List Float) → Shape counts
    → sum (map (λ p. product counts / get_or counts p 0) (below (length counts))) ≤ ones (table_marks counts payoffs)
unfolding table_game
table_least counts payoffs shape =
    let g = table_game counts payoffs in
    rw (map_cong (λ p. product counts / get_or counts p 0) (rows counts) (below (length counts))
    (λ p k. let l = (below_mem (length counts) p).0 k in rows_are counts p l (shape.low p l)))
    (marks_least g (whole g) (λ p l. (0, shape.low p l, (whole_law g p 0).1 (shape.low p l))))

-- So the number that the sweep tells is that of the 1 bytes it leaves, and at least that sum.
pub marks_counted : (counts : List ℕ) (payoffs : List Float) (old : List ℕ) (n : ℕ) → values n ≡ marks_answer counts payoffs (length old)
    → Counted counts n (over (marks_written counts payoffs (length old)) old)
unfolding marks_refusal marks_answer marks_written table_game
marks_counted counts payoffs old n h =
    let (ok, is) = told_values (table_refusal counts payoffs then short_refusal (cells counts) (length old)) _ n h in
    let g = table_game counts payoffs in
    let shape = ((table_law counts payoffs).0 ((then_none (table_refusal counts payoffs) _).0 ok).0).shape in
    record {
      is = is ∙ sym (rw ok (ap ones (take_marks g (whole g) old)));
      least = rw is (table_least counts payoffs shape);
    }
