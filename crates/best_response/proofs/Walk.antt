-- The walk over the players that reads the opponents' choices: at player q, `at` is the offset of the choices before q, in which player p
-- chooses 0, and `next` is the opponent to be read next: q itself up to p, and one less after it. Assumes nothing.
use mathlib.Core.Path.{◌≡◌, refl, sym, ap, subst, ◌∙◌}
use mathlib.Core.List.{List}
use mathlib.Core.Logic.{◌≢◌, ◌⊎◌, inl, inr, ⊎_elim}
use Prim.Native.Nat.{ℕ, ◌+◌, ◌*◌, ◌-◌, ◌≤◌, ◌<◌}
use native.Mathlib.Nat.{add-zero}
use native.Mathlib.Omega.{arith}
use borrow.Author.Count.{below_more}
use lib.ListN.{length, get_or, take, drop}
use lib.Seq.{drop-length}
use Rattle.game.specs.Finite.{product}
use Rattle.game.specs.Game.{choice}
use Rattle.payoff_tables.specs.Table.{offset, offset_from}
use Rattle.payoff_tables.specs.Meaning.{Shape}
use Rattle.payoff_tables.proofs.Offsets.{offset_more, offset_so_far}
use Rattle.responses.specs.Answers.{against}
use Rattle.responses.proofs.Opponents.{Fit, against_length, against_own, against_before, against_after}

module _ (counts : List ℕ) (p : ℕ) (opponents : List ℕ) where
  -- the next opponent at player q
  abbrev Next : ℕ → ℕ → Type 0
  Next q next = ((q ≤ p) × (next ≡ q)) ⊎ ((p < q) × (q ≡ next + 1))

  pub record Walked (q at next : ℕ) : Type 0 where
    pub far : q ≤ length counts
    pub under : at < product (take q counts)
    pub rest : offset_from at (drop q counts) (drop q (against p opponents 0)) ≡ offset counts (against p opponents 0)
    pub place : Next q next
    pub passed : Fit counts p opponents q

  pub walked_none : Walked 0 0 0
  unfolding offset
  walked_none =
      record { far = omega arith; under = omega arith; rest = refl; place = inl (omega arith, refl); passed = λ q l. absurd (omega arith) }

  module _ (shape : Shape counts) (mine : p < length counts) (many : length opponents ≡ length counts - 1) {q at next : ℕ}
      (u : Walked q at next) where
    inside : p ≤ length opponents
    inside = omega (arith, shape.some)

    -- at the end, every choice is below its count, and `at` is the offset
    pub walked_end : length counts ≤ q → Fit counts p opponents (length counts) × (at ≡ offset counts (against p opponents 0))
    walked_end h =
        let e : q ≡ length counts = omega (arith, u.far) in
        (subst (Fit counts p opponents) e u.passed, rw (e, drop-length counts) at u.rest)

    module _ (l : q < length counts) where
      -- one player more, who chooses s
      step : (s next' : ℕ) → s ≡ choice (against p opponents 0) q → s < get_or counts q 0 → Next (q + 1) next'
          → Walked (q + 1) (at * get_or counts q 0 + s) next'
      step s next' e k n =
          record {
            far = omega arith;
            under = offset_so_far at s q counts l u.under k;
            rest =
                ap (λ (m : ℕ). offset_from (at * get_or counts q 0 + m) (drop (q + 1) counts) (drop (q + 1) (against p opponents 0))) e
                ∙ sym (offset_more at q counts (against p opponents 0) l (omega (arith, against_length p opponents inside 0, shape.some)))
                ∙ u.rest;
            place = n;
            passed = below_more (λ r. r ≢ p → choice (against p opponents 0) r < get_or counts r 0) q u.passed (λ _. rw (← e) k);
          }

      -- p itself
      pub walked_own : q ≡ p → Walked (q + 1) (at * get_or counts q 0) next
      walked_own e =
          subst (λ (n : ℕ). Walked (q + 1) n next) (add-zero (at * get_or counts q 0))
          (step 0 next (sym (ap (choice (against p opponents 0)) e ∙ against_own p opponents inside 0)) (shape.low q l)
          (⊎_elim (λ h. inr (omega arith, omega (arith, h.1))) (λ h. absurd (omega (arith, h.0))) u.place))

      -- an opponent, whose choice is read
      module _ (d : q ≢ p) where
        pub walked_read : get_or opponents next 0 ≡ choice (against p opponents 0) q
        walked_read =
            ⊎_elim
            (λ h. ap (λ (n : ℕ). get_or opponents n 0) h.1 ∙ sym (against_before p opponents inside 0 q (omega (arith, h.0, d))))
            (λ h. sym (ap (choice (against p opponents 0)) h.1 ∙ against_after p opponents inside 0 next (omega (arith, h))))
            u.place

        pub walked_other : get_or opponents next 0 < get_or counts q 0 → Walked (q + 1) (at * get_or counts q 0 + get_or opponents next 0) (next + 1)
        walked_other k =
            step (get_or opponents next 0) (next + 1) walked_read k
            (⊎_elim (λ h. inl (omega (arith, h.0, d), omega (arith, h.1))) (λ h. inr (omega (arith, h.0), omega (arith, h.1))) u.place)
