-- Stepping goes from the k-th profile to the next, and from the last to the first: by `nth-cons` of `payoff_tables`'s Offsets, the first choice stays
-- while the rest has a next one, and goes up by one where the rest begins again. Then what a loop over the players, from the last down,
-- needs of `step`. Assumes nothing.
use mathlib.Core.Path.{◌≡◌, refl, ap, ◌∙◌}
use mathlib.Core.Bool.{Bool, true, false, cond}
use mathlib.Core.List.{List, [], ◌∷◌, ◌++◌}
use mathlib.Core.Logic.{⊎_elim}
use Prim.Native.Nat.{ℕ, zero, suc, ◌+◌, ◌*◌, ◌≤◌, ◌<◌}
use native.Mathlib.Nat.{not-suc-le-zero, le_of_suc-le-suc, suc-ne-zero, suc_inj, suc-mul, add-suc, add-mul, zero-mul, one-mul, zero-add, eq-or-lt_of_le, mul-le-mul_right, lt_of_mul-lt-mul_right}
use native.Mathlib.Omega.{arith}
use lib.Dec.{ltb, lt→ltb, ltb→lt}
use lib.ListN.{length, get_or, set, take}
use Rattle.game.specs.Finite.{product}
use Rattle.game.specs.Game.{profiles}
use Rattle.game.proofs.Finite.{test_true, test_false}
use Rattle.payoff_tables.proofs.Offsets.{nth_cons, nth_profile, digits}
use Rattle.profile_step.specs.Step.{carried, step}
use Rattle.profile_step.specs.declared.Advanced.{Advanced}

-- where the players after have begun again, a choice with room goes up by one
up : (c s : ℕ) (x : List ℕ) → s + 1 < c
    → carried c s (record { more = false; profile = x }) ≡ record { more = true; profile = (s + 1) ∷ x }
up c s x h = rw (test_true (ltb (s + 1) c) (lt→ltb (s + 1) c h))

-- and one without begins again
over : (c s : ℕ) (x : List ℕ) → c ≤ s + 1
    → carried c s (record { more = false; profile = x }) ≡ record { more = false; profile = 0 ∷ x }
over c s x h = rw (test_false (ltb (s + 1) c) (λ t. omega (arith, ltb→lt (s + 1) c t)))

-- ---- to the next profile

-- From the last profile there is no next one, and the step goes to the first.
pub step_last : (cs : List ℕ) (k : ℕ) → suc k ≡ product cs
    → step cs (get_or (profiles cs) k []) ≡ record { more = false; profile = get_or (profiles cs) 0 [] }
unfolding profiles
step_last [] zero e = refl
step_last [] (suc k) e = absurd (suc-ne-zero k (suc_inj e))
step_last (c ∷ cs) k e =
    let n = product cs in
    let (s, j, a, b, d) = digits c n k (omega arith) in
    let l : suc j ≡ n = omega (arith, suc-mul s n, mul-le-mul_right n a) in
    let h : c < s + 1 + 1 = lt_of_mul-lt-mul_right n (omega (arith, add-mul (s + 1) 1 n, add-mul s 1 n, one-mul n)) in
    let z = rw (zero-mul, zero-add) at (nth_cons c 0 0 cs (omega arith) (omega arith)) in
    rw (← d, nth_cons c s j cs a b, step_last cs j l, z) (over c s (get_or (profiles cs) 0 []) (omega arith))

-- From any other profile the step goes to the next.
pub step_next : (cs : List ℕ) (k : ℕ) → suc k < product cs
    → step cs (get_or (profiles cs) k []) ≡ record { more = true; profile = get_or (profiles cs) (suc k) [] }
unfolding profiles
step_next [] k h = absurd (not-suc-le-zero (le_of_suc-le-suc h))
step_next (c ∷ cs) k h =
    let n = product cs in
    let (s, j, a, b, d) = digits c n k (omega arith) in
    ⊎_elim (λ (e : suc j ≡ n).
    let q : suc (s * n + j) ≡ (s + 1) * n + 0 = omega (arith, add-mul s 1 n, one-mul n) in
    let l : s + 1 < c = lt_of_mul-lt-mul_right n (omega arith) in
    rw (← d, nth_cons c s j cs a b, step_last cs j e, q, nth_cons c (s + 1) 0 cs l (omega arith)) (up c s (get_or (profiles cs) 0 []) l))
    (λ (l : suc j < n). rw (← d, nth_cons c s j cs a b, step_next cs j l, ← add-suc, nth_cons c s (suc j) cs a l))
    (eq-or-lt_of_le b)

-- ---- down from the last player: p players are left, and q is the last of them

-- A choice with room goes up by one, and the step is done.
pub step_down_stop : (cs x : List ℕ) (p q : ℕ) → p ≡ suc q → q < length cs → q < length x → get_or x q 0 + 1 < get_or cs q 0
    → step (take p cs) x ≡ record { more = true; profile = set x q (get_or x q 0 + 1) }
step_down_stop cs x p q e h l r = rw e (go cs x q h l r)
  where
    go : (cs x : List ℕ) (q : ℕ) → q < length cs → q < length x → get_or x q 0 + 1 < get_or cs q 0
        → step (take (suc q) cs) x ≡ record { more = true; profile = set x q (get_or x q 0 + 1) }
    go [] x q h l r = absurd (not-suc-le-zero h)
    go (c ∷ cs) [] q h l r = absurd (not-suc-le-zero l)
    go (c ∷ cs) (s ∷ x) zero h l r = up c s x r
    go (c ∷ cs) (s ∷ x) (suc q) h l r = ap (carried c s) (go cs x q (le_of_suc-le-suc h) (le_of_suc-le-suc l) r)

-- A choice without room goes to 0, and the player before it is to step.
pub step_down_carry : (cs x : List ℕ) (p q : ℕ) → p ≡ suc q → q < length cs → q < length x → get_or cs q 0 ≤ get_or x q 0 + 1
    → step (take p cs) x ≡ step (take q cs) (set x q 0)
step_down_carry cs x p q e h l r = rw e (go cs x q h l r)
  where
    go : (cs x : List ℕ) (q : ℕ) → q < length cs → q < length x → get_or cs q 0 ≤ get_or x q 0 + 1
        → step (take (suc q) cs) x ≡ step (take q cs) (set x q 0)
    go [] x q h l r = absurd (not-suc-le-zero h)
    go (c ∷ cs) [] q h l r = absurd (not-suc-le-zero l)
    go (c ∷ cs) (s ∷ x) zero h l r = over c s x r
    go (c ∷ cs) (s ∷ x) (suc q) h l r = ap (carried c s) (go cs x q (le_of_suc-le-suc h) (le_of_suc-le-suc l) r)

-- ---- the list of choices

-- `carried` by its two tests: whether the players after had a next choice, and whether this one has room
abbrev pub tested : ℕ → List ℕ → Bool → Bool → Advanced
tested s x more room =
    cond more
    (record { more = true; profile = s ∷ x })
    (cond room (record { more = true; profile = (s + 1) ∷ x }) (record { more = false; profile = 0 ∷ x }))

-- A step of the choices in front leaves what stands after them.
pub step_append : (cs x rest : List ℕ) → length cs ≤ length x
    → step cs (x ++ rest) ≡ record { more = (step cs x).more; profile = (step cs x).profile ++ rest }
step_append [] x rest h = refl
step_append (c ∷ cs) [] rest h = absurd (not-suc-le-zero h)
step_append (c ∷ cs) (s ∷ x) rest h =
    rw (step_append cs x rest (le_of_suc-le-suc h)) (go (step cs x).profile (step cs x).more (ltb (s + 1) c))
  where
    go : (y : List ℕ) (more room : Bool)
        → tested s (y ++ rest) more room ≡ record { more = (tested s y more room).more; profile = (tested s y more room).profile ++ rest }
    go y true room = refl
    go y false true = refl
    go y false false = refl

-- A step changes no length.
pub step_length : (cs x : List ℕ) → length (step cs x).profile ≡ length x
step_length [] x = refl
step_length (c ∷ cs) [] = refl
step_length (c ∷ cs) (s ∷ x) = go (step cs x).profile (step cs x).more (ltb (s + 1) c) ∙ ap suc (step_length cs x)
  where
    go : (y : List ℕ) (more room : Bool) → length (tested s y more room).profile ≡ suc (length y)
    go y true room = refl
    go y false true = refl
    go y false false = refl

-- counts past the choices have no place
pub step_few : (cs x : List ℕ) (p : ℕ) → length x ≤ p → step cs x ≡ step (take p cs) x
step_few [] x zero h = refl
step_few [] x (suc p) h = refl
step_few (c ∷ cs) [] zero h = refl
step_few (c ∷ cs) [] (suc p) h = refl
step_few (c ∷ cs) (s ∷ x) zero h = absurd (not-suc-le-zero h)
step_few (c ∷ cs) (s ∷ x) (suc p) h = ap (carried c s) (step_few cs x p (le_of_suc-le-suc h))

-- In an array of places, whatever stands after the players: from the k-th profile to the next,
pub step_place : (cs rest : List ℕ) (k : ℕ) → suc k < product cs
    → step cs (get_or (profiles cs) k [] ++ rest) ≡ record { more = true; profile = get_or (profiles cs) (suc k) [] ++ rest }
step_place cs rest k h =
    let r = nth_profile cs k (omega arith) in
    rw (step_append cs (get_or (profiles cs) k []) rest (omega (arith, r.each)), step_next cs k h)

-- and from the last to the first.
pub step_place_last : (cs rest : List ℕ) (k : ℕ) → suc k ≡ product cs
    → step cs (get_or (profiles cs) k [] ++ rest) ≡ record { more = false; profile = get_or (profiles cs) 0 [] ++ rest }
step_place_last cs rest k h =
    let r = nth_profile cs k (omega arith) in
    rw (step_append cs (get_or (profiles cs) k []) rest (omega (arith, r.each)), step_last cs k h)
