-- The choices of a profile from those of the profile before it: from the last player to the first, a step of the players from p on says whether
-- they have all begun again, and then the player before p goes up. Assumes nothing.
use mathlib.Core.Path.{◌≡◌, refl, sym, ap, ◌∙◌}
use mathlib.Core.Bool.{Bool, true, false, not}
use mathlib.Core.List.{List, [], ◌∷◌, ◌++◌}
use Prim.Native.Nat.{ℕ, zero, suc, ◌+◌, ◌-◌, ◌≤◌, ◌<◌}
use native.Mathlib.Nat.{not-suc-le-zero, le_of_suc-le-suc, suc_inj, suc-ne-zero, add-zero}
use native.Mathlib.Omega.{arith}
use borrow.Author.Tests.{lt-ltb, le-ltb, not-true, not-false}
use lib.Dec.{ltb}
use lib.ListN.{length, get_or, take, drop, get_or-append}
use lib.Seq.{drop-cons, length-take-le, get_or-take, get_or-drop}
use Rattle.game.specs.Finite.{product}
use Rattle.game.specs.Game.{profiles}
use Rattle.profile_step.specs.Step.{carried, step}
use Rattle.profile_step.specs.declared.Advanced.{Advanced}
use Rattle.profile_step.proofs.Step.{step_next, tested}
use Rattle.profile_listing.specs.Entry.{Before}
use Rattle.profile_listing.proofs.Write.{filled}

-- ---- the players from p on

-- what stands after a player is what the players after it have stepped to
tail : (s : ℕ) (x : List ℕ) (more room : Bool) (p : ℕ) → drop (suc p) (tested s x more room).profile ≡ drop p x
tail s x true room p = refl
tail s x false true p = refl
tail s x false false p = refl

-- The players from p on step by themselves.
step_drop : (cs x : List ℕ) (p : ℕ) → length x ≡ length cs → p ≤ length cs → drop p (step cs x).profile ≡ (step (drop p cs) (drop p x)).profile
step_drop cs x zero e l = refl
step_drop [] x (suc p) e l = absurd (not-suc-le-zero l)
step_drop (c ∷ cs) [] (suc p) e l = absurd (suc-ne-zero (length cs) (sym e))
step_drop (c ∷ cs) (s ∷ x) (suc p) e l =
    tail s (step cs x).profile (step cs x).more (ltb (s + 1) c) p ∙ step_drop cs x p (suc_inj e) (le_of_suc-le-suc l)

-- ---- one player more

-- After player q's turn, u says that the players from q on have all begun again, and v is q's choice after the step.
pub record Turned (cs x : List ℕ) (q : ℕ) (u : Bool) (v : ℕ) : Type 0 where
  pub again : u ≡ not (step (drop q cs) (drop q x)).more
  pub chosen : v ≡ get_or (step cs x).profile q 0

-- p players are left, and q is the last of them.
module _ (cs x : List ℕ) (p q : ℕ) (is : p ≡ suc q) (long : length x ≡ length cs) (inside : q < length cs) where
  -- the step of the players after q
  abbrev after : Advanced
  after = step (drop p cs) (drop p x)

  -- q's turn, by its two tests
  turned : (more room : Bool) → after.more ≡ more → ltb (get_or x q 0 + 1) (get_or cs q 0) ≡ room
      → let r = tested (get_or x q 0) after.profile more room in
      Turned cs x q (not r.more) (get_or r.profile 0 0)
  turned more room e f =
      let here : step (drop q cs) (drop q x) ≡ tested (get_or x q 0) after.profile more room =
      rw (drop-cons cs q 0 inside, drop-cons x q 0 (omega arith))
      (ap (λ (n : ℕ). carried (get_or cs q 0) (get_or x q 0) (step (drop n cs) (drop n x))) (sym is) ∙ rw (e, f)) in
      let first : get_or (step cs x).profile q 0 ≡ get_or (step (drop q cs) (drop q x)).profile 0 0 =
      rw (← step_drop cs x q long (omega arith), get_or-drop, add-zero) in
      record { again = rw here; chosen = rw (first, here) }

  -- Where a player after q had a next choice, q's choice stays.
  pub turned_stays : not after.more ≡ false → Turned cs x q false (get_or x q 0)
  turned_stays e = turned true (ltb (get_or x q 0 + 1) (get_or cs q 0)) (not-false after.more e) refl

  -- Where they have all begun again, a choice with room goes up by one,
  pub turned_up : not after.more ≡ true → get_or x q 0 + 1 < get_or cs q 0 → Turned cs x q false (get_or x q 0 + 1)
  turned_up e h = turned false true (not-true after.more e) (lt-ltb _ _ h)

  -- and one without begins again.
  pub turned_over : not after.more ≡ true → get_or cs q 0 ≤ get_or x q 0 + 1 → Turned cs x q true 0
  turned_over e h = turned false false (not-true after.more e) (le-ltb _ _ h)

-- ---- the entry before

module _ (cs out : List ℕ) (k at : ℕ) (b : Before cs k out at) where
  -- One step from the profile before goes to the k-th.
  pub step_before : k < product cs → (step cs (get_or (profiles cs) (k - 1) [])).profile ≡ get_or (profiles cs) k []
  step_before l =
      let e : suc (k - 1) ≡ k = omega (arith, b.later) in
      rw (step_next cs (k - 1) (omega arith), e)

  -- While the k-th profile is written, the choices of the one before are read where they stand.
  pub read_before : (x : List ℕ) (p q : ℕ) → q < length cs → p ≤ length cs → at + length cs ≤ length out
      → get_or (filled x out (length cs) at p) (at - length cs + q) 0 ≡ get_or (get_or (profiles cs) (k - 1) []) q 0
  read_before x p q inside most room =
      let i : ℕ = at - length cs + q in
      let less : i < at + p = omega (arith, b.room) in
      get_or-append (take (at + p) out) (drop p x ++ drop (at + length cs) out) 0 i (rw (length-take-le (at + p) out (omega arith)) less)
      ∙ get_or-take (at + p) out i 0 less
      ∙ sym (get_or-take (length cs) (drop (at - length cs) out) q 0 inside ∙ get_or-drop (at - length cs) out q 0)
      ∙ ap (λ (l : List ℕ). get_or l q 0) b.stands
