-- How the calls that the functions of this crate make add up: those of two runs, and those of the sweeps. Assumes nothing.
use mathlib.Core.Path.{◌≡◌, refl, sym, ap, ◌∙◌, subst, subst⁻¹}
use mathlib.Core.Bool.{Bool, true, false, not, cond, ◌||◌}
use mathlib.Core.List.{List, [], ◌∷◌, ◌++◌, flat_map, append_assoc, append-nil}
use Prim.Native.Nat.{ℕ, ◌+◌, ◌≤◌, ◌<◌}
use native.Mathlib.Omega.{arith}
use lib.ListN.{length}
use lib.Seq.{sets}
use lib.Ieee.{Float}
use Rattle.game.specs.Finite.{empty}
use Rattle.game.specs.Game.{Strategy}
use Rattle.game.proofs.Finite.{flat_map_append}
use Rattle.refusal.specs.Told.{Told}
use Rattle.payoff_tables.specs.Meaning.{Table}
use Rattle.survivors.specs.declared.Survivors.{Survivors}
use Rattle.survivors.specs.Survivors.{mark_count, fresh_of}
use Rattle.strikes.specs.Answers.{handed_back, strike_answer, strike_leaves}
use Rattle.strike_chains.specs.Answers.{chain_from}
use Rattle.strike_chains.proofs.Chain.{Good, fresh_good, ran}
use Rattle.outputs.specs.Put.{past, Puts}
use Rattle.outputs.proofs.Puts.{puts_none, puts_more, puts_same, puts_length, puts_within}
use Rattle.sweeps.specs.declared.Progress.{Progress}
use Rattle.strike_sweeps.specs.Sweeps.{Strike, struck_by, sweep_calls, struck_in, sweeps, strike_numbers, strikes_numbers}
use Rattle.strike_sweeps.specs.Meaning.{Sweeps, ended}
use Rattle.sweeps.specs.Progress.{Reached, Ready, Runs}
use Rattle.strike_sweeps.proofs.Strikes.{strike_of, left_append, struck_append, unstruck}
use Rattle.strike_sweeps.proofs.Ends.{sweeps_once, sweeps_more, sweep_counted, sweeps_done}

-- ---- strikes one after the other

numbers_append : (ks ls : List Strike) → strikes_numbers (ks ++ ls) ≡ strikes_numbers ks ++ strikes_numbers ls
unfolding strikes_numbers
numbers_append ks ls = flat_map_append strike_numbers ks ls

any_append : (ks ls : List Strike) (b : Bool) → not (empty ls) || (not (empty ks) || b) ≡ not (empty (ks ++ ls)) || b
any_append [] ls b = refl
any_append (k ∷ ks) [] b = refl
any_append (k ∷ ks) (l ∷ ls) b = refl

module _ (counts : List ℕ) (payoffs : List Float) where
  -- ---- survivors that are reached

  pub reached_good : Table counts payoffs → (v : Survivors) → Reached counts payoffs v → Good counts payoffs v
  reached_good t v (cs, e) = rw e (ran counts payoffs t (fresh_of counts) (fresh_good counts payoffs t) cs).stays

  reached_more : (v : Survivors) (cs : List Strategy) → Reached counts payoffs v → Reached counts payoffs (chain_from counts payoffs v cs).survivors
  reached_more v cs (bs, e) =
      (bs ++ cs, ap (λ (w : Survivors). (chain_from counts payoffs w cs).survivors) e ∙ sym (left_append counts payoffs (fresh_of counts) bs cs))

  -- ---- runs

  pub runs_none : (p : Progress) (old : List ℕ) → p.end ≤ length old → Runs counts payoffs [] p old p old
  unfolding strikes_numbers flat_map
  runs_none p old h = record { survivors = refl; any = refl; put = puts_none old p.end (omega (arith, h)) }

  -- one call, with the answer a
  pub runs_one : (p r : Progress) (old new : List ℕ) (c : Strategy) (a : Told ℕ) → strike_answer counts payoffs p.survivors c ≡ a
      → r.survivors ≡ handed_back p.survivors c a
      → r.any ≡ not (empty (strike_of c a)) || p.any
      → Puts old p.end (strikes_numbers (strike_of c a)) r.end new
      → Runs counts payoffs (c ∷ []) p old r new
  unfolding strike_leaves
  runs_one p r old new c a is left any put =
      record {
        survivors = left ∙ sym (ap (handed_back p.survivors c) is);
        any = any ∙ sym (ap (λ (a : Told ℕ). not (empty (strike_of c a)) || p.any) is);
        put = subst⁻¹ (λ (a : Told ℕ). Puts old p.end (strikes_numbers (strike_of c a)) r.end new) is put;
      }

  module _ {p q : Progress} {old mid : List ℕ} {cs : List Strategy} (a : Runs counts payoffs cs p old q mid) where
    -- what the next call needs
    pub runs_ready : (profiles : ℕ) → Ready counts payoffs profiles p old → Ready counts payoffs profiles q mid
    runs_ready profiles k =
        record {
          table = k.table;
          number = k.number;
          reached = rw a.survivors (reached_more p.survivors cs k.reached);
          inside = puts_within old p.end (strikes_numbers (struck_by counts payoffs p.survivors cs)) a.put;
        }

    -- the output keeps its length
    pub runs_length : length mid ≡ length old
    runs_length = puts_length old p.end (strikes_numbers (struck_by counts payoffs p.survivors cs)) a.put

    -- the same calls in other words
    pub runs_as : {ds : List Strategy} → cs ≡ ds → Runs counts payoffs ds p old q mid
    runs_as e = subst (λ (l : List Strategy). Runs counts payoffs l p old q mid) e a

    -- two runs are one
    pub runs_append : {r : Progress} {new : List ℕ} {ds : List Strategy} → Runs counts payoffs ds q mid r new → Runs counts payoffs (cs ++ ds) p old r new
    runs_append {r} {new} {ds} b =
        let ks = struck_by counts payoffs p.survivors cs in
        let ls = struck_by counts payoffs q.survivors ds in
        let both : struck_by counts payoffs p.survivors (cs ++ ds) ≡ ks ++ ls =
        struck_append counts payoffs p.survivors cs ds ∙ sym (ap (λ (v : Survivors). ks ++ struck_by counts payoffs v ds) a.survivors) in
        record {
          survivors = b.survivors ∙ ap (λ (v : Survivors). (chain_from counts payoffs v ds).survivors) a.survivors ∙ sym (left_append counts payoffs p.survivors cs ds);
          any = b.any ∙ ap (λ (x : Bool). not (empty ls) || x) a.any ∙ any_append ks ls p.any ∙ sym (ap (λ (l : List Strike). not (empty l) || p.any) both);
          put = puts_same old p.end (sym (ap strikes_numbers both ∙ numbers_append ks ls)) (puts_more old p.end (strikes_numbers ks) (strikes_numbers ls) a.put b.put);
        }

  -- ---- the sweeps

  -- after some sweeps: what was struck and put, that the sweeps from v end as those from fresh survivors do, and that the last sweep struck
  -- nothing where `any` is false
  pub record After (old : List ℕ) (end : ℕ) (any : Bool) (v : Survivors) (out : List ℕ) : Type 0 where
    pub strikes : List Strike
    pub reached : Reached counts payoffs v
    pub put : Puts old 0 (strikes_numbers strikes) end out
    pub goes_on : {w : Survivors} {ks : List Strike} → Sweeps counts payoffs v ks w → Sweeps counts payoffs (fresh_of counts) (strikes ++ ks) w
    pub last : any ≡ false → struck_in counts payoffs v ≡ []

  pub after_none : (old : List ℕ) → After old 0 true (fresh_of counts) old
  unfolding strikes_numbers flat_map
  after_none old =
      record {
        strikes = [];
        reached = ([], refl);
        put = puts_none old 0 (omega arith);
        goes_on = λ s. s;
        last = λ e. let z : ◌≡◌ {A = ℕ} 0 1 = cc in absurd (omega arith);
      }

  struck_none : (ks : List Strike) (b : Bool) → b ≡ not (empty ks) || false → b ≡ false → ks ≡ []
  struck_none [] b e f = refl
  struck_none (k ∷ ks) b e f = let z : ◌≡◌ {A = ℕ} 0 1 = cc in absurd (omega arith)

  module _ (t : Table counts payoffs) {old out new : List ℕ} {end : ℕ} {any : Bool} {v : Survivors} {r : Progress} (s : After old end any v out)
      (a : Runs counts payoffs (sweep_calls counts payoffs) (record { end = end; any = false; survivors = v }) out r new) where
    pub after_more : After old r.end r.any r.survivors new
    unfolding struck_in
    after_more =
        let ks = struck_in counts payoffs v in
        record {
          strikes = s.strikes ++ ks;
          reached = rw a.survivors (reached_more v (sweep_calls counts payoffs) s.reached);
          put = puts_same old 0 (sym (numbers_append s.strikes ks)) (puts_more old 0 (strikes_numbers s.strikes) (strikes_numbers ks) s.put a.put);
          goes_on = λ {w} {ks = ls} x.
              rw (append_assoc s.strikes ks ls) (s.goes_on (sweeps_more counts payoffs v (rw a.survivors at x)));
          last = λ e.
              let none : ks ≡ [] = struck_none ks r.any a.any e in
              ap (struck_in counts payoffs) (a.survivors ∙ (unstruck counts payoffs v (sweep_calls counts payoffs) none).0) ∙ none;
        }

    -- a sweep takes a mark, or is the last
    pub after_less : any ≡ true → mark_count r.survivors + cond r.any 1 0 < mark_count v + cond any 1 0
    unfolding struck_in
    after_less e =
        rw e (go (struck_in counts payoffs v) a.any
        (ap (λ (w : Survivors). length (struck_in counts payoffs v) + mark_count w) a.survivors ∙ sweep_counted counts payoffs t v (reached_good t v s.reached)))
      where
        go : (ks : List Strike) → r.any ≡ not (empty ks) || false → length ks + mark_count r.survivors ≡ mark_count v
            → mark_count r.survivors + cond r.any 1 0 < mark_count v + 1
        go [] e n = rw e (omega arith)
        go (k ∷ ks) e n = rw e (omega arith)

  -- where the last sweep struck nothing
  module _ (t : Table counts payoffs) {old out : List ℕ} {end : ℕ} {any : Bool} {v : Survivors} (s : After old end any v out) where
    pub after_all : any ≡ false → let x = sweeps counts payoffs in
        (end ≡ past old 0 (strikes_numbers x.strikes)) × (v ≡ x.survivors) × (out ≡ sets old 0 (strikes_numbers x.strikes))
    after_all e =
        let (strikes, left) = sweeps_once counts payoffs (s.goes_on (ended (s.last e))) (sweeps_done counts payoffs t).sweeps in
        let all : s.strikes ≡ (sweeps counts payoffs).strikes = sym (append-nil s.strikes) ∙ strikes in (
          s.put.0 ∙ ap (λ (l : List Strike). past old 0 (strikes_numbers l)) all,
          left,
          s.put.1 ∙ ap (λ (l : List Strike). sets old 0 (strikes_numbers l)) all,
        )
