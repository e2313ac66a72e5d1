-- What a list of calls strikes: of two lists one after the other, which strategies and how many, and of a list that strikes nothing.
-- Assumes nothing.
use mathlib.Core.Path.{◌≡◌, refl, sym, ap, ◌∙◌, subst⁻¹}
use mathlib.Core.List.Memᴰ.{cases_cons as in-cons}
use mathlib.Core.List.Memᴰ.{not-nil as not-in-nil}
use mathlib.Core.List.{List, [], ◌∷◌, ◌++◌, flat_map, append_assoc, cons≢nil}
use mathlib.Core.Logic.{⊎_elim}
use Prim.Native.Nat.{ℕ, suc, ◌+◌}
use native.Mathlib.Omega.{arith}
use lib.ListN.{length}
use lib.Ieee.{Float}
use Rattle.game.specs.Finite.{◌∈◌}
use Rattle.game.specs.Game.{Strategy, strategy, strategies}
use Rattle.refusal.specs.Told.{Told, values, refused}
use Rattle.refusal.proofs.Told.{apart}
use Rattle.payoff_tables.specs.Table.{table_game}
use Rattle.payoff_tables.specs.Meaning.{Table}
use Rattle.survivors.specs.declared.Survivors.{Survivors}
use Rattle.survivors.specs.Survivors.{mark_count}
use Rattle.strikes.specs.Answers.{handed_back, strike_answer, strike_leaves}
use Rattle.strike_chains.specs.Answers.{chain_from, accepted_of}
use Rattle.strike_chains.specs.Meaning.{Struck, done, struck, kept}
use Rattle.strike_chains.proofs.Chain.{Good, chain_counted, ran}
use Rattle.strike_sweeps.specs.Sweeps.{Strike, strikes_of, struck_by, sweep_calls}
use Rattle.strike_sweeps.specs.Meaning.{Named}

-- what a call with this answer strikes
abbrev pub strike_of : Strategy → Told ℕ → List Strike
strike_of c a = strikes_of (c ∷ []) (a ∷ [])

strikes_cons : (c : Strategy) (cs : List Strategy) (a : Told ℕ) (ans : List (Told ℕ)) → strikes_of (c ∷ cs) (a ∷ ans) ≡ strike_of c a ++ strikes_of cs ans
strikes_cons c cs (values t) ans = refl
strikes_cons c cs (refused e) ans = refl

module _ (counts : List ℕ) (payoffs : List Float) where
  -- ---- calls one after the other

  pub left_append : (v : Survivors) (cs ds : List Strategy)
      → (chain_from counts payoffs v (cs ++ ds)).survivors ≡ (chain_from counts payoffs (chain_from counts payoffs v cs).survivors ds).survivors
  left_append v [] ds = refl
  left_append v (c ∷ cs) ds = left_append (strike_leaves counts payoffs v c) cs ds

  pub struck_append : (v : Survivors) (cs ds : List Strategy)
      → struck_by counts payoffs v (cs ++ ds) ≡ struck_by counts payoffs v cs ++ struck_by counts payoffs (chain_from counts payoffs v cs).survivors ds
  struck_append v [] ds = refl
  struck_append v (c ∷ cs) ds =
      let a = strike_answer counts payoffs v c in
      let w = strike_leaves counts payoffs v c in
      let rest = struck_by counts payoffs (chain_from counts payoffs w cs).survivors ds in
      strikes_cons c (cs ++ ds) a (chain_from counts payoffs w (cs ++ ds)).answers
      ∙ ap (λ (ks : List Strike). strike_of c a ++ ks) (struck_append w cs ds)
      ∙ sym (append_assoc (strike_of c a) (struck_by counts payoffs w cs) rest)
      ∙ sym (ap (λ (ks : List Strike). ks ++ rest) (strikes_cons c cs a (chain_from counts payoffs w cs).answers))

  -- ---- a strike names strategies of the table, and takes a mark

  pub strikes_named : {v w : Survivors} {cs : List Strategy} {ans : List (Told ℕ)} → Struck counts payoffs v cs ans w
      → (k : Strike) → k ∈ strikes_of cs ans → Named counts payoffs k
  strikes_named done k m = absurd (not-in-nil m)
  strikes_named (struck _ a _ rest) k m =
      ⊎_elim
      (λ e. subst⁻¹ (Named counts payoffs) e (record { struck = a.survives.0; dominator = (a.survives.0.0, a.dominator.0) }))
      (λ n. strikes_named rest k n)
      (in-cons m)
  strikes_named (kept _ _ _ rest) k m = strikes_named rest k m

  pub strikes_many : {v w : Survivors} {cs : List Strategy} {ans : List (Told ℕ)} → Struck counts payoffs v cs ans w → length (strikes_of cs ans) ≡ accepted_of ans
  strikes_many done = refl
  strikes_many (struck _ _ _ rest) = ap suc (strikes_many rest)
  strikes_many (kept _ _ _ rest) = strikes_many rest

  module _ (t : Table counts payoffs) (v : Survivors) (k : Good counts payoffs v) (cs : List Strategy) where
    pub struck_counted : length (struck_by counts payoffs v cs) + mark_count (chain_from counts payoffs v cs).survivors ≡ mark_count v
    struck_counted = omega (arith, strikes_many (ran counts payoffs t v k cs).calls, chain_counted counts payoffs t v k cs)

  -- ---- a list that strikes nothing: each of its calls is refused, and the survivors stay

  module _ (v : Survivors) where
    abbrev Unstruck : List Strategy → Type 0
    Unstruck cs = ((chain_from counts payoffs v cs).survivors ≡ v) × ((c : Strategy) → c ∈ cs → (t : ℕ) → strike_answer counts payoffs v c ≡ values t → ⊥)

    unstruck_cons : (d : Strategy) (cs : List Strategy) → (struck_by counts payoffs v cs ≡ [] → Unstruck cs) → struck_by counts payoffs v (d ∷ cs) ≡ [] → Unstruck (d ∷ cs)
    unfolding strike_leaves
    unstruck_cons d cs rest h = go (strike_answer counts payoffs v d) refl
      where
        -- what is struck where the first call gets this answer
        by : (a : Told ℕ) → strike_answer counts payoffs v d ≡ a → strikes_of (d ∷ cs) (a ∷ (chain_from counts payoffs (handed_back v d a) cs).answers) ≡ []
        by a is = sym (ap (λ (a : Told ℕ). strikes_of (d ∷ cs) (a ∷ (chain_from counts payoffs (handed_back v d a) cs).answers)) is) ∙ h

        go : (a : Told ℕ) → strike_answer counts payoffs v d ≡ a → Unstruck (d ∷ cs)
        go (values t) is = absurd (cons≢nil (by (values t) is))
        go (refused e) is =
            let (stays, none) = rest (by (refused e) is) in (
              ap (λ (a : Told ℕ). (chain_from counts payoffs (handed_back v d a) cs).survivors) is ∙ stays,
              λ c m t k.
                  ⊎_elim (λ (q : c ≡ d). apart t e (sym k ∙ ap (strike_answer counts payoffs v) q ∙ is)) (λ n. none c n t k) (in-cons m),
            )

    pub unstruck : (cs : List Strategy) → struck_by counts payoffs v cs ≡ [] → Unstruck cs
    unstruck [] h = (refl, λ c m. absurd (not-in-nil m))
    unstruck (d ∷ cs) h = unstruck_cons d cs (unstruck cs) h

-- the calls of a sweep of two players with two strategies each: players then strategies ascending
calls_in_order : (payoffs : List Float)
    → sweep_calls (2 ∷ 2 ∷ []) payoffs ≡ strategy 0 0 ∷ strategy 0 1 ∷ strategy 1 0 ∷ strategy 1 1 ∷ []
unfolding flat_map strategies table_game
calls_in_order payoffs = refl
