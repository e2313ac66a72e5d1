-- The counts of a strategy space: a place below P holds the player's count and one from P on holds 0, and how a loop fills the places.
-- Assumes nothing.
use mathlib.Core.Path.{◌≡◌, refl, sym, ◌∙◌}
use mathlib.Core.List.{List, [], ◌∷◌, ◌++◌}
use mathlib.Core.Logic.{⊎_elim}
use mathlib.Core.Option.{none, some}
use Prim.Native.Nat.{ℕ, zero, suc, ◌+◌, ◌≤◌, ◌<◌}
use native.Mathlib.Nat.{le_of_suc-le-suc, min-eq_left}
use native.Mathlib.Omega.{arith}
use lib.ListN.{length, get_or, set, replicate, length-take, length-append, length-set}
use lib.Seq.{ext_get_or, get_or-take, get_or-set_same, get_or-set_other}
use borrow.Author.Count.{below_more}
use Rattle.std.specs.Prelude.{Result, Ok, Err}
use Rattle.std.specs.Result.{result_unwrap_or}
use Rattle.game.proofs.Finite.{le_or_lt}
use Rattle.refusal.specs.Refusal.{Refusal, number_of}
use Rattle.refusal.specs.Told.{told, unless}
use Rattle.refusal.specs.declared.NormalFormError.{NormalFormError}
use Rattle.refusal.proofs.Told.{apart}
use Rattle.payoff_tables.specs.Limits.{max_players}
use Rattle.table.specs.Space.{places, space_of, space_unless}
use Rattle.table.specs.declared.StrategySpace.{StrategySpace}

-- past its end a list of counts has 0
pub past : (cs : List ℕ) (p : ℕ) → length cs ≤ p → get_or cs p 0 ≡ 0
past [] p h = refl
past (c ∷ cs) zero h = absurd (omega arith)
past (c ∷ cs) (suc p) h = past cs p (le_of_suc-le-suc h)

-- a list of zeros has 0 everywhere
pub zeros : (n p : ℕ) → get_or (replicate {A = ℕ} n 0) p 0 ≡ 0
zeros zero p = refl
zeros (suc n) zero = refl
zeros (suc n) (suc p) = zeros n p

with_zeros : (cs : List ℕ) (n p : ℕ) → get_or (cs ++ replicate n 0) p 0 ≡ get_or cs p 0
with_zeros [] n p = zeros n p
with_zeros (c ∷ cs) n zero = refl
with_zeros (c ∷ cs) n (suc p) = with_zeros cs n p

pub places_length : (cs : List ℕ) → length (places cs) ≡ max_players
places_length cs = rw (length-take, length-append) (min-eq_left (omega arith))

-- ---- the law

-- every place of the space of at most max_players counts holds that player's count, which from P on is 0
pub space_count : (cs : List ℕ) (p : ℕ) → length cs ≤ max_players → get_or (space_of cs).counts p 0 ≡ get_or cs p 0
unfolding space_of
space_count cs p h =
    ⊎_elim
    (λ l. past (places cs) p (omega (arith, places_length cs)) ∙ sym (past cs p (omega arith)))
    (λ l. get_or-take max_players (cs ++ replicate max_players 0) p 0 l ∙ with_zeros cs max_players p)
    (le_or_lt max_players p)

-- two counts in eight places
space_places : (space_of (2 ∷ 3 ∷ [])).counts ≡ 2 ∷ 3 ∷ 0 ∷ 0 ∷ 0 ∷ 0 ∷ 0 ∷ 0 ∷ []
unfolding space_of
space_places = refl

-- ---- the loop

-- the places of the first p players are filled
pub record Filled (cs : List ℕ) (p : ℕ) (xs : List ℕ) : Type 0 where
  pub size : length xs ≡ max_players
  pub done : (q : ℕ) → q < p → get_or xs q 0 ≡ get_or cs q 0
  pub rest : (q : ℕ) → p ≤ q → get_or xs q 0 ≡ 0

pub filled_none : (cs : List ℕ) → Filled cs 0 (replicate max_players 0)
filled_none cs = record { size = refl; done = λ q h. absurd (omega arith); rest = λ q h. zeros max_players q }

pub filled_more : (cs : List ℕ) (p : ℕ) (xs : List ℕ) → p < max_players → Filled cs p xs → Filled cs (p + 1) (set xs p (get_or cs p 0))
filled_more cs p xs h f =
    record {
      size = length-set xs p (get_or cs p 0) ∙ f.size;
      done = below_more (λ q. get_or (set xs p (get_or cs p 0)) q 0 ≡ get_or cs q 0) p
          (λ q l. get_or-set_other xs p q (get_or cs p 0) 0 (omega arith) ∙ f.done q l)
          (get_or-set_same xs p (get_or cs p 0) 0 (omega (arith, f.size)));
      rest = λ q l. get_or-set_other xs p q (get_or cs p 0) 0 (omega arith) ∙ f.rest q (omega arith);
    }

-- a place past the counts stays
pub filled_past : (cs : List ℕ) (p : ℕ) (xs : List ℕ) → length cs ≤ p → Filled cs p xs → Filled cs (p + 1) xs
filled_past cs p xs h f =
    record {
      size = f.size;
      done = below_more (λ q. get_or xs q 0 ≡ get_or cs q 0) p f.done (f.rest p (omega arith) ∙ sym (past cs p h));
      rest = λ q l. f.rest q (omega arith);
    }

pub filled_all : (cs : List ℕ) (p : ℕ) (xs : List ℕ) → max_players ≤ p → Filled cs p xs → xs ≡ places cs
filled_all cs p xs h f =
    ext_get_or 0 xs (places cs)
    (f.size ∙ sym (places_length cs))
    (λ q l.
    let k : q < max_players = omega (arith, f.size) in
    f.done q (omega arith) ∙ sym (with_zeros cs max_players q) ∙ sym (get_or-take max_players (cs ++ replicate max_players 0) q 0 k))

-- ---- the space beside an answer

-- what a check told is the space of the counts, or beside its refusal the empty one
pub space_told : (r : Refusal) (cs : List ℕ) (a : Result StrategySpace NormalFormError) → told a ≡ unless r (space_of cs)
    → result_unwrap_or a (space_of []) ≡ space_unless r cs
space_told none cs (Ok s) h = cc
space_told none cs (Err e) h = absurd (apart (space_of cs) (number_of e) (sym h))
space_told (some d) cs (Ok s) h = absurd (apart s (number_of d) h)
space_told (some d) cs (Err e) h = refl
