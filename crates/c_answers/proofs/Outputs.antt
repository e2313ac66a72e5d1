-- What the outputs of a call are left with: an answer told into one, and the part that C is told, which is that of
-- `profile_payoffs`; and that survivors come back from C as they were told. Assumes nothing.
use mathlib.Core.Path.{◌≡◌, refl, sym, ap, ◌∙◌}
use mathlib.Core.Bool.{Bool, true, false, not}
use mathlib.Core.List.{List, [], ◌∷◌, map}
use mathlib.Core.Option.{Option, none, some}
use Prim.Native.Nat.{ℕ, ◌+◌, ◌≤◌, ◌<◌}
use native.Mathlib.Omega.{arith}
use Rattle.refusal.specs.Refusal.{Refusal, ◌then◌}
use Rattle.refusal.specs.Told.{Told, values, refused, told_of, unless, status, byte_of}
use Rattle.refusal.proofs.Told.{told_values, byte_back}
use borrow.Author.Count.{below_more}
use lib.Dec.{eqb}
use lib.ListN.{length, get_or, set, take, drop, length-map, length-set}
use lib.Seq.{ext_get_or, get_or-set_same, get_or-set_other}
use lib.Ieee.{Float}
use Rattle.payoff_tables.specs.Table.{profile_part}
use Rattle.payoff_tables.specs.Checks.{table_refusal, profile_refusal}
use Rattle.payoff_tables.specs.Answers.{profile_payoffs, part_first}
use Rattle.payoff_tables.proofs.Offsets.{get_or_map}
use Rattle.survivors.specs.declared.Survivors.{Survivors}
use Rattle.c_answers.specs.Status.{output, beside, some_byte, or_zero, part_start, part_length, survivors_of, mark_bytes}

-- an answer t told into an output, where t is u
pub told_into : {A : Type 0} (t u : Told A) (n : ℕ) (new old : A) → t ≡ u → (n ≡ status t) × (new ≡ output t old) → (n ≡ status u) × (new ≡ output u old)
told_into t u n new old e h = rw e at h

-- the same of a truth value, told as a byte
pub truth_into : (t u : Told Bool) (n : ℕ) (new old : ℕ) → t ≡ u
    → (n ≡ status t) × (new ≡ output (told_of byte_of t) old) → (n ≡ status u) × (new ≡ output (told_of byte_of u) old)
truth_into t u n new old e h = rw e at h

-- the same of two numbers that f and g make of what is told, each told into an output
pub both_into : {A : Type 0} (f g : A → ℕ) (t u : Told A) (n : ℕ) (l l₀ : ℕ) (k k₀ : ℕ) → t ≡ u
    → (n ≡ status t) × ((l ≡ output (told_of f t) l₀) × (k ≡ output (told_of g t) k₀))
    → (n ≡ status u) × ((l ≡ output (told_of f u) l₀) × (k ≡ output (told_of g u) k₀))
both_into f g t u n l l₀ k k₀ e h = rw e at h

-- the two outputs tell which number it is, or that there is none
pub number_back : (o p : Option ℕ) → some_byte o ≡ some_byte p → or_zero o ≡ or_zero p → o ≡ p
number_back none none h k = refl
number_back none (some n) h k = absurd (omega arith)
number_back (some m) none h k = absurd (omega arith)
number_back (some m) (some n) h k = ap {B = Option ℕ} some k

-- what the outputs hold where values v were told, and where a refusal was
pub told_ok : {A : Type 0} (t : Told A) (v : A) → values v ≡ t
    → (0 ≡ status t) × ((old : A) → v ≡ output t old) × ((B : Type 0) (w old : B) → w ≡ beside t w old)
told_ok t v e = rw (← e) (refl, λ old. refl, λ B w old. refl)

pub told_err : {A : Type 0} (t : Told A) (n : ℕ) → refused n ≡ t
    → (n ≡ status t) × ((old : A) → old ≡ output t old) × ((B : Type 0) (w old : B) → old ≡ beside t w old)
told_err t n e = rw (← e) (refl, λ old. refl, λ B w old. refl)

-- the part that C is told, by its first place and its length, is the part that `profile_payoffs`
-- hands back: it starts at the same place and holds the same
pub part_is : (counts : List ℕ) (payoffs : List Float) (x : List ℕ) (first number : ℕ)
    → values first ≡ part_start counts payoffs x → values number ≡ part_length counts payoffs x
    → (first ≡ part_first counts payoffs x) × (take number (drop first payoffs) ≡ profile_payoffs counts payoffs x)
unfolding profile_part
part_is counts payoffs x first number h k =
    let a = told_values (table_refusal counts payoffs then profile_refusal counts x) _ first h in
    let b = told_values (table_refusal counts payoffs then profile_refusal counts x) _ number k in
    (rw (a.0, a.1), rw (a.0, a.1, b.1))

-- ---- an array of n elements that f makes of those of another

module _ {A B : Type 0} (f : A → B) (xs : List A) (a : A) (b : B) (n : ℕ) where
  -- the first i are made
  pub record Made (i : ℕ) (out : List B) : Type 0 where
    pub size : length out ≡ n
    pub done : (j : ℕ) → j < i → get_or out j b ≡ f (get_or xs j a)

  pub made_more : (i : ℕ) (out : List B) → i < n → Made i out → Made (i + 1) (set out i (f (get_or xs i a)))
  made_more i out h m =
      record {
        size = length-set out i (f (get_or xs i a)) ∙ m.size;
        done = below_more (λ j. get_or (set out i (f (get_or xs i a))) j b ≡ f (get_or xs j a)) i
            (λ j k. get_or-set_other out i j (f (get_or xs i a)) b (omega arith) ∙ m.done j k)
            (get_or-set_same out i (f (get_or xs i a)) b (omega (arith, m.size)));
      }

  pub made_all : (i : ℕ) (out : List B) → length xs ≡ n → n ≤ i → Made i out → out ≡ map f xs
  made_all i out e h m =
      ext_get_or b out (map f xs) (m.size ∙ sym (length-map xs f ∙ e)) (λ j k.
      m.done j (omega (arith, m.size)) ∙ sym (get_or_map f xs j a b (omega (arith, m.size, e))))

-- ---- survivors

-- 0 is no mark, and any other byte is one
other_byte : (survivors_of 1 [] (0 ∷ 1 ∷ 2 ∷ [])).marks ≡ false ∷ true ∷ true ∷ []
unfolding survivors_of
other_byte = refl

marks_back : (bs : List Bool) → map (λ b. not (eqb b 0)) (map byte_of bs) ≡ bs
marks_back [] = refl
marks_back (b ∷ bs) = rw (byte_back b, marks_back bs)

-- survivors that C was told and hands in again are the same
pub survivors_back : (v : Survivors) → survivors_of v.players v.counts (mark_bytes v) ≡ v
unfolding survivors_of
survivors_back v = ap {B = Survivors} (λ (l : List Bool). record { players = v.players; counts = v.counts; marks = l }) (marks_back v.marks)
