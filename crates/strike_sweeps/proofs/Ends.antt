-- The sweeps end, in one way alone, and what they did: the record `Done` of specs/Meaning, for every table with none of refusals 1 to 7.
-- Assumes nothing.
use mathlib.Core.Path.{◌≡◌, refl, sym, ap, ◌∙◌, subst, subst⁻¹}
use mathlib.Core.List.{List, [], ◌∷◌, ◌++◌, cons≢nil}
use mathlib.Core.Logic.{◌≢◌}
use Prim.Native.Nat.{ℕ, zero, suc, ◌+◌, ◌≤◌, ◌<◌}
use native.Mathlib.Omega.{arith}
use lib.ListN.{length}
use lib.Ieee.{Float}
use Rattle.game.specs.Game.{Game, Strategy}
use Rattle.game.specs.Strikes.{accepted}
use Rattle.game.specs.Meaning.{Undominated}
use Rattle.game.proofs.Game.{strategies_law}
use Rattle.game.proofs.Strikes.{answer_unique}
use Rattle.game.proofs.Ends.{undominated_law}
use Rattle.payoff_tables.specs.Table.{table_game}
use Rattle.payoff_tables.specs.Meaning.{Table}
use Rattle.survivors.specs.declared.Survivors.{Survivors}
use Rattle.survivors.specs.Survivors.{marks_of, mark_count, fresh_of}
use Rattle.strikes.specs.Answers.{told_answer}
use Rattle.strike_chains.specs.Answers.{chain_from, chain}
use Rattle.strike_chains.specs.Demand3.{Demand3}
use Rattle.survivors.proofs.Marks.{count_fresh}
use Rattle.strike_chains.proofs.Chain.{Good, fresh_good, told, ran}
use Rattle.strike_chains.proofs.Demand3.{demand_3}
use Rattle.strike_sweeps.specs.Sweeps.{Strike, Swept, struck_by, sweep_then, sweep_calls, sweep, struck_in, sweeps_from, sweeps}
use Rattle.strike_sweeps.specs.Meaning.{Sweeps, ended, again, Done}
use Rattle.strike_sweeps.proofs.Strikes.{left_append, struck_append, unstruck, strikes_named, strikes_many, struck_counted}

none_of : {A : Type 0} (xs : List A) → length xs ≤ 0 → xs ≡ []
none_of [] h = refl
none_of (x ∷ xs) h = absurd (omega arith)

some_of : {A : Type 0} (xs : List A) → xs ≢ [] → 0 < length xs
some_of [] n = absurd (n refl)
some_of (x ∷ xs) n = omega arith

module _ (counts : List ℕ) (payoffs : List Float) where
  -- ---- the relation

  -- it allows one result
  pub sweeps_once : {v w x : Survivors} {ks ls : List Strike} → Sweeps counts payoffs v ks w → Sweeps counts payoffs v ls x → (ks ≡ ls) × (w ≡ x)
  sweeps_once (ended e) (ended f) = (refl, refl)
  sweeps_once (ended e) (again n r) = absurd (n e)
  sweeps_once (again n r) (ended e) = absurd (n e)
  sweeps_once (again {v = v} n r) (again m s) = let (a, b) = sweeps_once r s in (ap (λ (l : List Strike). struck_in counts payoffs v ++ l) a, b)

  -- what `sweepThen` makes of the rest
  sweep_then_lem : (v : Survivors) (rest : Swept)
      → (struck_in counts payoffs v ≢ [] → Sweeps counts payoffs (sweep counts payoffs v).survivors rest.strikes rest.survivors)
      → let x = sweep_then v (struck_in counts payoffs v) rest in Sweeps counts payoffs v x.strikes x.survivors
  sweep_then_lem v rest more = go (struck_in counts payoffs v) refl
    where
      go : (ks : List Strike) → struck_in counts payoffs v ≡ ks → let x = sweep_then v ks rest in Sweeps counts payoffs v x.strikes x.survivors
      go [] e = ended e
      go (k ∷ ks) e =
          let some : struck_in counts payoffs v ≢ [] = λ z. cons≢nil (sym e ∙ z) in
          subst (λ (l : List Strike). Sweeps counts payoffs v (l ++ rest.strikes) rest.survivors) e (again some (more some))

  -- one sweep more, which may be the last
  pub sweeps_more : (v : Survivors) {w : Survivors} {ks : List Strike} → Sweeps counts payoffs (sweep counts payoffs v).survivors ks w
      → Sweeps counts payoffs v (struck_in counts payoffs v ++ ks) w
  unfolding struck_in
  sweeps_more v {w} {ks} r = go (struck_in counts payoffs v) refl
    where
      go : (js : List Strike) → struck_in counts payoffs v ≡ js → Sweeps counts payoffs v (struck_in counts payoffs v ++ ks) w
      go [] e = rw e (subst (λ (u : Survivors). Sweeps counts payoffs u ks w) (unstruck counts payoffs v (sweep_calls counts payoffs) e).0 r)
      go (j ∷ js) e = again (λ z. cons≢nil (sym e ∙ z)) r

  -- a sweep from its end strikes nothing
  sweeps_end : {v w : Survivors} {ks : List Strike} → Sweeps counts payoffs v ks w → struck_in counts payoffs w ≡ []
  sweeps_end (ended e) = e
  sweeps_end (again n r) = sweeps_end r

  -- the calls that it makes
  sweeps_calls : {v w : Survivors} {ks : List Strike} → Sweeps counts payoffs v ks w
      → (cs : List Strategy) × (ks ≡ struck_by counts payoffs v cs) × (w ≡ (chain_from counts payoffs v cs).survivors)
  unfolding struck_in
  sweeps_calls (ended e) = ([], refl, refl)
  sweeps_calls (again {v = v} n r) =
      let (cs, a, b) = sweeps_calls r in
      let calls = sweep_calls counts payoffs in (
        calls ++ cs,
        ap (λ (l : List Strike). struck_in counts payoffs v ++ l) a ∙ sym (struck_append counts payoffs v calls cs),
        b ∙ sym (left_append counts payoffs v calls cs),
      )

  module _ (t : Table counts payoffs) where
    abbrev g : Game
    g = table_game counts payoffs

    -- ---- the sweeps end

    -- a sweep takes a mark for each strike
    pub sweep_counted : (v : Survivors) → Good counts payoffs v → length (struck_in counts payoffs v) + mark_count (sweep counts payoffs v).survivors ≡ mark_count v
    unfolding struck_in
    sweep_counted v k = struck_counted counts payoffs t v k (sweep_calls counts payoffs)

    -- so that there are no more sweeps that strike than marks
    sweeps_law : (n : ℕ) (v : Survivors) → Good counts payoffs v → mark_count v ≤ n
        → let x = sweeps_from counts payoffs n v in Sweeps counts payoffs v x.strikes x.survivors
    unfolding sweeps_from
    sweeps_law zero v k h = ended (none_of (struck_in counts payoffs v) (omega (arith, sweep_counted v k)))
    sweeps_law (suc n) v k h =
        sweep_then_lem v (sweeps_from counts payoffs n (sweep counts payoffs v).survivors) (λ some.
        sweeps_law n (sweep counts payoffs v).survivors (ran counts payoffs t v k (sweep_calls counts payoffs)).stays
        (omega (arith, sweep_counted v k, some_of (struck_in counts payoffs v) some)))

    -- ---- what they did

    -- where a sweep strikes nothing nobody is dominated
    unstruck_undominated : (v : Survivors) → Good counts payoffs v → struck_in counts payoffs v ≡ [] → Undominated g (marks_of v)
    unfolding struck_in
    unstruck_undominated v k h =
        (undominated_law g (marks_of v)).1 (λ c u a.
        (unstruck counts payoffs v (sweep_calls counts payoffs) h).1 c (((strategies_law g).members c).1 a.survives.0) u
        (told counts payoffs t v k c ∙ ap told_answer (answer_unique g (marks_of v) c (accepted u) a)))

    pub sweeps_done : let x = sweeps counts payoffs in Done counts payoffs x.strikes x.survivors
    unfolding sweeps
    sweeps_done =
        let fresh = fresh_of counts in
        let good = fresh_good counts payoffs t in
        let many = count_fresh counts t.shape in
        let x = sweeps counts payoffs in
        let s : Sweeps counts payoffs fresh x.strikes x.survivors = sweeps_law _ fresh good (omega (arith, many)) in
        let (cs, strikes, left) = sweeps_calls s in
        let r = ran counts payoffs t fresh good cs in
        let free : Undominated g (marks_of x.survivors) = unstruck_undominated x.survivors (rw left r.stays) (sweeps_end s) in
        record {
          sweeps = s;
          calls = (
            cs,
            (chain counts payoffs cs).answers,
            strikes,
            subst⁻¹ (λ (v : Survivors). Demand3 counts payoffs cs (length x.strikes) (chain counts payoffs cs).answers v) left
                (subst⁻¹ (λ (n : ℕ). Demand3 counts payoffs cs n (chain counts payoffs cs).answers (chain counts payoffs cs).survivors)
                (ap length strikes ∙ strikes_many counts payoffs r.calls) (demand_3 counts payoffs t cs)),
          );
          named = λ k m. strikes_named counts payoffs r.calls k (rw strikes at m);
          few = omega (arith, ap length strikes, struck_counted counts payoffs t fresh good cs, many);
          undominated = free;
          same_survivors = λ ds d. ap marks_of left ∙ (demand_3 counts payoffs t cs).same_marks ds (rw left at free) d;
        }
