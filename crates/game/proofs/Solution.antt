-- What dominators, deviations, best responses and equilibria are, in quantifiers; that an equilibrium is the absence of a deviation,
-- and that each of its choices is a best response.
use mathlib.Core.Path.{◌≡◌, refl, ap, fun_ext}
use mathlib.Core.Bool.{◌&&◌}
use mathlib.Core.List.{List, [], ◌∷◌}
use mathlib.Core.Logic.Iff
use mathlib.Core.Logic.{◌↔◌}
use mathlib.Core.Option.{none}
use Prim.Native.Nat.{ℕ, ◌<◌}
use native.Mathlib.Omega.{arith}
use lib.Dec.{T}
use lib.ListN.{set}
use lib.Seq.{set-get_or, set-set}
use Rattle.game.specs.Finite.{◌∈◌, all, below, filter, empty, first, Lists, First}
use Rattle.game.specs.Game.{Game, players, count, Playable, Strategy, strategy, strategies, Sooner, choice, Profile, profiles, Earlier, Marks, whole}
use Rattle.game.specs.Solution.{dominates, dominators, dominator, gains, deviations, deviation, best_response, best_responses, equilibrium, equilibria}
use Rattle.game.specs.Meaning.{Has, Inside, Dominates, Dominator, Gains, Best, Equilibrium}
use Rattle.game.proofs.Finite.{and_T, imp_T, no_T, ltb_T, eqb_T, at_most, below_mem, all_T, empty_T, same_test, filter_mem, greatest}
use Rattle.game.proofs.Sorted.{lists_iff, lists_filter, first_law, below_law, less_asym}
use Rattle.game.proofs.Game.{sooner_asym, strategies_law, profiles_law, whole_law, inside_law, others_law}

module _ (g : Game) (m : Marks) where
  -- ---- strict dominance

  pub dominates_law : (p t s : ℕ) → T (dominates g m p t s) ↔ Dominates g m p t s
  unfolding dominates
  dominates_law p t s = simp (and_T, all_T, (profiles_law g.counts).members, others_law, imp_T, no_T, eqb_T, ltb_T) Iff.rfl

  pub dominators_law : (p s : ℕ) → Lists ◌<◌ (Dominator g m p s) (dominators g m p s)
  unfolding dominators
  dominators_law p s =
      lists_iff (λ t. simp (and_T, dominates_law) (λ h. (h.0, h.1.0, h.1.1), λ h. (h.0, (h.1, h.2))))
      (lists_filter (λ t. m p t && dominates g m p t s) (below (count g p)) (below_law (count g p)))

  pub dominator_law : (p s : ℕ) → First ◌<◌ (Dominator g m p s) (dominator g m p s)
  unfolding dominator
  dominator_law p s = first_law less_asym (dominators g m p s) (dominators_law p s)

  -- ---- gains

  pub gains_law : (x : List ℕ) (c : Strategy) → T (gains g m x c) ↔ Gains g m x c
  unfolding gains
  gains_law x c = simp (and_T, ltb_T) Iff.rfl

  pub deviations_law : (x : List ℕ) → Lists Sooner (λ c. Has g c × Gains g m x c) (deviations g m x)
  unfolding deviations
  deviations_law x = lists_iff (λ c. simp gains_law Iff.rfl) (lists_filter (gains g m x) (strategies g) (strategies_law g))

  -- the lowest player that gains, with its lowest strategy that does
  pub deviation_law : (x : List ℕ) → First Sooner (λ c. Has g c × Gains g m x c) (deviation g m x)
  unfolding deviation
  deviation_law x = first_law sooner_asym (deviations g m x) (deviations_law x)

  -- ---- equilibria

  pub equilibrium_law : (x : List ℕ) → T (equilibrium g m x) ↔ Equilibrium g m x
  unfolding equilibrium
  equilibrium_law x = simp (and_T, inside_law, empty_T, (deviations_law x).members) (
    λ h. (h.0, λ p t l f k. at_most _ _ (λ b. h.1 (strategy p t) ((l, f), (k, b)))),
    λ h. (h.0, λ c k. let ((l, f), (i, b)) = k in omega (arith, h.1 c.player c.number l f i)),
  )

  pub equilibria_law : Lists Earlier (λ x. Profile g.counts x × Equilibrium g m x) (equilibria g m)
  unfolding equilibria
  equilibria_law =
      lists_iff (λ x. simp equilibrium_law Iff.rfl) (lists_filter (equilibrium g m) (profiles g.counts) (profiles_law g.counts))

  -- an equilibrium is the absence of a deviation
  pub equilibrium_deviation : (x : List ℕ) → T (equilibrium g m x) ↔ (Inside g m x × (deviation g m x ≡ none))
  unfolding equilibrium deviation
  equilibrium_deviation x =
      let (to, from) = empty_none (deviations g m x) in
      simp (and_T, inside_law) (λ h. (h.0, to h.1), λ h. (h.0, from h.1))
    where
      empty_none : (cs : List Strategy) → T (empty cs) ↔ (first cs ≡ none)
      empty_none [] = (λ _. refl, λ _. tt)
      empty_none (c ∷ cs) = (λ h. absurd h, λ e. let z : ◌≡◌ {A = ℕ} 0 1 = cc in absurd (omega arith))

  -- ---- best responses

  pub best_response_law : (p : ℕ) (x : List ℕ) (s : ℕ) → T (best_response g m p x s) ↔ Best g m p x s
  unfolding best_response
  best_response_law p x s = simp (and_T, all_T, below_mem, no_T, gains_law, set-set) (
    λ h. (h.0, λ t l k. at_most _ _ (λ b. h.1 t l (k, b))),
    λ h. (h.0, λ t l k. omega (arith, k.1, h.1 t l k.0)),
  )

  pub best_responses_law : (p : ℕ) (x : List ℕ) → Lists ◌<◌ (λ s. (s < count g p) × Best g m p x s) (best_responses g m p x)
  unfolding best_responses
  best_responses_law p x =
      lists_iff (λ s. simp best_response_law Iff.rfl) (lists_filter (best_response g m p x) (below (count g p)) (below_law (count g p)))

  -- player p's own place in x is not read
  pub best_place : (p : ℕ) (x : List ℕ) (u : ℕ) → best_responses g m p (set x p u) ≡ best_responses g m p x
  unfolding best_response best_responses
  best_place p x u = ap (λ f. filter f (below (count g p))) (fun_ext (λ s. simp set-set))

  -- a profile is an equilibrium exactly when each player's choice is a best response to the others'
  pub equilibrium_best : (x : List ℕ) → Profile g.counts x
      → T (equilibrium g m x) ↔ ((p : ℕ) → p < players g → choice x p ∈ best_responses g m p x)
  equilibrium_best x r = (
    λ h p l.
        let (i, st) = (equilibrium_law x).0 h in
        ((best_responses_law p x).members (choice x p)).1 (r.fits p l, (i p l, λ t f k. rw (set-get_or x p 0) (st p t l f k))),
    λ h.
        let best : (p : ℕ) → p < players g → Best g m p x (choice x p) = λ p l. (((best_responses_law p x).members (choice x p)).0 (h p l)).1 in
        (equilibrium_law x).1 (λ p l. (best p l).0, λ p t l f k. rw (set-get_or x p 0) at ((best p l).1 t f k)),
  )

  -- and so it is one exactly when the test of each player's choice passes
  pub equilibrium_each : (x : List ℕ) → Profile g.counts x
      → equilibrium g m x ≡ all (λ p. best_response g m p x (choice x p)) (below (players g))
  equilibrium_each x r =
      same_test (equilibrium g m x) (all (λ p. best_response g m p x (choice x p)) (below (players g)))
      (simp (all_T, below_mem) (
        λ h p l. (best_response_law p x (choice x p)).1 (((best_responses_law p x).members (choice x p)).0 ((equilibrium_best x r).0 h p l)).1,
        λ h. (equilibrium_best x r).1 (λ p l. ((best_responses_law p x).members (choice x p)).1 (r.fits p l, (best_response_law p x (choice x p)).0 (h p l))),
      ))

  -- the list has just the profiles that are equilibria
  pub equilibrium_listed : (x : List ℕ) → Profile g.counts x → T (equilibrium g m x) ↔ (x ∈ equilibria g m)
  unfolding equilibria
  equilibrium_listed x r =
      let is = filter_mem (equilibrium g m) (profiles g.counts) x in (λ h. is.1 (((profiles_law g.counts).members x).1 r, h), λ h. (is.0 h).1)

  -- whatever the others choose, a player with a marked strategy has a best response
  pub best_exists : (p : ℕ) (x : List ℕ) (s : ℕ) → s < count g p → T (m p s) → (b : ℕ) × (b ∈ best_responses g m p x)
  best_exists p x s l h =
      let (b, k, most) = greatest (λ t. g.pay p (set x p t)) (filter (m p) (below (count g p))) s ((marked s).1 (l, h)) in
      let (f, i) = (marked b).0 k in
      (b, ((best_responses_law p x).members b).1 (f, (i, λ t l h. most t ((marked t).1 (l, h)))))
    where
      marked : (t : ℕ) → (t ∈ filter (m p) (below (count g p))) ↔ ((t < count g p) × T (m p t))
      marked t = simp (filter_mem, below_mem) Iff.rfl

-- in the whole game, every player has one
pub best_whole : (g : Game) → Playable g → (p : ℕ) (x : List ℕ) → p < players g → (b : ℕ) × (b ∈ best_responses g (whole g) p x)
best_whole g h p x l = best_exists g (whole g) p x 0 (h p l) ((whole_law g p 0).1 (h p l))
