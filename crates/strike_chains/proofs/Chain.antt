-- A chain of strikes from survivors that are not foreign, held against the machine's run from their marks: the same answers and the same
-- marks, and no survivors become foreign. Assumes nothing.
use mathlib.Core.Path.{◌≡◌, refl, sym, ap, ◌∙◌, subst, subst⁻¹}
use mathlib.Core.Logic.{◌↔◌, ⊎_elim}
use mathlib.Core.Bool.{cond}
use mathlib.Core.List.{List, [], ◌∷◌, ◌++◌, map}
use Prim.Native.Nat.{ℕ, suc, ◌+◌, ◌<◌}
use native.Mathlib.Nat.{zero-add}
use native.Mathlib.Omega.{arith}
use lib.Dec.{T, eqb}
use lib.Ieee.{Float}
use Rattle.game.specs.Game.{Strategy, Marks, whole}
use Rattle.game.specs.Strikes.{Answer, refused, accepted, answer, without, after, run_from}
use Rattle.game.specs.Demand3.{Accepted}
use Rattle.game.proofs.Finite.{eqb_T, either}
use Rattle.game.proofs.Game.{whole_law}
use Rattle.game.proofs.Strikes.{Answered, answer_law, without_law}
use Rattle.refusal.specs.Told.{Told, values, refused as toldRefused, tells}
use Rattle.refusal.proofs.Refusal.{then_none}
use Rattle.payoff_tables.specs.Limits.{max_strategies}
use Rattle.payoff_tables.specs.Table.{table_game}
use Rattle.payoff_tables.specs.Checks.{table_refusal}
use Rattle.payoff_tables.specs.Meaning.{Table}
use Rattle.payoff_tables.proofs.Checks.{table_law}
use Rattle.table.proofs.Space.{space_count}
use Rattle.table.specs.Space.{space_of}
use Rattle.survivors.specs.declared.Survivors.{Survivors}
use Rattle.survivors.specs.Survivors.{marks_of, without_mark, mark_count, fresh_of, foreign_refusal}
use Rattle.strikes.specs.Answers.{told_answer, handed_back, strike_answer, strike_leaves}
use Rattle.strike_chains.specs.Answers.{Chain, chain_from, accepted_of}
use Rattle.survivors.specs.Meaning.{Own}
use Rattle.strike_chains.specs.Meaning.{Struck, done, struck, kept}
use Rattle.survivors.proofs.Marks.{Full, fresh_full, fresh_marks, without_full, without_marks, count_without}
use Rattle.survivors.proofs.Foreign.{own_not, foreign_law}
use Rattle.strikes.proofs.Cases.{told_struck, strike_told, answered, not_foreign, strike_accepted}

-- one answer more
pub accepted_cons : (a : Told ℕ) (ans : List (Told ℕ)) → accepted_of (a ∷ ans) ≡ cond (tells a) 1 0 + accepted_of ans
accepted_cons (values t) ans = omega arith
accepted_cons (toldRefused e) ans = omega arith

module _ (counts : List ℕ) (payoffs : List Float) where
  -- what every strike of a list keeps of the survivors: as many marks as there may be, and they are not foreign
  pub record Good (v : Survivors) : Type 0 where
    pub full : Full v
    pub own : Own counts v

  pub fresh_good : Table counts payoffs → Good (fresh_of counts)
  unfolding fresh_of space_of table_game
  fresh_good t =
      let g = table_game counts payoffs in
      let is : (p s : ℕ) → marks_of (fresh_of counts) p s ≡ whole g p s = λ p s. ap (λ (m : Marks). m p s) (fresh_marks counts payoffs t.shape) in
      record {
        full = fresh_full counts;
        own = record {
          players_agree = refl;
          counts_agree = λ p l. space_count counts p t.shape.few;
          some = λ p l. (0, subst T (sym (is p 0)) ((whole_law g p 0).1 (t.shape.low p l)));
          within = λ p s l h. (whole_law g p s).0 (subst T (is p s) h);
        };
      }

  -- ---- one strike

  module _ (t : Table counts payoffs) (v : Survivors) (k : Good v) (c : Strategy) where
    -- the answer is the machine's
    pub told : strike_answer counts payoffs v c ≡ told_answer (answer (table_game counts payoffs) (marks_of v) c)
    told = strike_told counts payoffs v c (not_foreign counts payoffs v ((table_law counts payoffs).1 t) (own_not counts v k.own))

    module _ (u : ℕ) (a : Accepted (table_game counts payoffs) (marks_of v) c u) where
      low : c.number < max_strategies
      unfolding table_game
      low = omega (arith, a.survives.0.1, t.shape.high c.player a.survives.0.0)

      -- an accepted one takes just its mark
      taken : marks_of (without_mark v c) ≡ without (marks_of v) c
      unfolding table_game
      taken = without_marks v c k.full (omega (arith, a.survives.0.0, t.shape.few)) low

      less : mark_count v ≡ suc (mark_count (without_mark v c))
      less = count_without v c low a.survives.1

      after_law : (p s : ℕ) → T (marks_of (without_mark v c) p s) ↔ (T (marks_of v p s) × ((p ≡ c.player) × (s ≡ c.number) → ⊥))
      after_law p s = subst (λ (m : Marks). T (m p s) ↔ (T (marks_of v p s) × ((p ≡ c.player) × (s ≡ c.number) → ⊥))) (sym taken) (without_law (marks_of v) c p s)

      -- and leaves its player the dominator
      stays : Good (without_mark v c)
      unfolding without_mark table_game
      stays =
          record {
            full = without_full v c k.full (omega (arith, a.survives.0.0, t.shape.few)) low;
            own = record {
              players_agree = k.own.players_agree;
              counts_agree = k.own.counts_agree;
              some = λ p l.
                  ⊎_elim
                  (λ (e : T (eqb p c.player)).
                  let is : p ≡ c.player = (eqb_T p c.player).0 e in
                  (u, (after_law p u).1 (rw is a.dominator.1, λ q. a.dominator.2.0 q.1)))
                  (λ n. let (s, h) = k.own.some p l in (s, (after_law p s).1 (h, λ q. n ((eqb_T p c.player).1 q.0))))
                  (either (eqb p c.player));
              within = λ p s l h. k.own.within p s l ((after_law p s).0 h).0;
            };
          }

    -- whatever it answers, an acceptance and the marks that it leaves make up the marks before, and
    -- what it leaves is no foreign survivors
    abbrev Left : Told ℕ → Type 0
    Left a = (cond (tells a) 1 0 + mark_count (handed_back v c a) ≡ mark_count v) × Good (handed_back v c a)

    left_so : Left (strike_answer counts payoffs v c)
    left_so = subst⁻¹ Left told (go (answer (table_game counts payoffs) (marks_of v) c) (answer_law (table_game counts payoffs) (marks_of v) c))
      where
        go : (a : Answer) → Answered (table_game counts payoffs) (marks_of v) c a → Left (told_answer a)
        go (refused e) h = (zero-add _, k)
        go (accepted u) h = (omega (arith, less u h), stays u h)

    strike_left : (cond (tells (strike_answer counts payoffs v c)) 1 0 + mark_count (strike_leaves counts payoffs v c) ≡ mark_count v) × Good (strike_leaves counts payoffs v c)
    unfolding strike_leaves
    strike_left = left_so

  -- An accepted strike, repeated on the survivors that it handed back, gives 14. A record's marks
  -- are as many as there may be: what the logic knows of an array.
  pub struck_again : (v : Survivors) → Full v → (c : Strategy) (u : ℕ) → strike_answer counts payoffs v c ≡ values u
      → strike_answer counts payoffs (strike_leaves counts payoffs v c) c ≡ toldRefused 14
  unfolding strike_leaves table_game
  struck_again v full c u is =
      let ok = answered counts payoffs v c u is in
      let (first, own) = (then_none (table_refusal counts payoffs) (foreign_refusal counts v)).0 ok in
      let t = (table_law counts payoffs).0 first in
      let k : Good v = record { full = full; own = (foreign_law counts v).0 own } in
      let a = (strike_accepted counts payoffs v c ok u).0 is in
      let gone = told_struck counts payoffs (marks_of (without_mark v c)) c.player c.number a.survives.0.0 (λ _ h. ((after_law t v k c u a c.player c.number).0 h).1 (refl, refl)) in
      ap (λ (b : Told ℕ). strike_answer counts payoffs (handed_back v c b) c) is ∙ told t (without_mark v c) (stays t v k c u a) c ∙ sym gone

  -- ---- a chain of them

  -- accepted answers + marks left = marks at the start
  pub chain_counted : Table counts payoffs → (v : Survivors) → Good v → (cs : List Strategy)
      → let x = chain_from counts payoffs v cs in accepted_of x.answers + mark_count x.survivors ≡ mark_count v
  chain_counted t v k [] = zero-add _
  chain_counted t v k (c ∷ cs) =
      let w = strike_leaves counts payoffs v c in
      let (one, good) = strike_left t v k c in
      omega (arith, one, accepted_cons (strike_answer counts payoffs v c) (chain_from counts payoffs w cs).answers, chain_counted t w good cs)

  -- a chain with one more answer in front, and with one more call at the end
  abbrev with_answer : Told ℕ → Chain → Chain
  with_answer a x = record { answers = a ∷ x.answers; survivors = x.survivors }

  chain_cons : (v : Survivors) (c : Strategy) (cs : List Strategy) (a : Told ℕ) → strike_answer counts payoffs v c ≡ a
      → chain_from counts payoffs v (c ∷ cs) ≡ with_answer a (chain_from counts payoffs (handed_back v c a) cs)
  unfolding strike_leaves
  chain_cons v c cs a e = ap (λ (a : Told ℕ). with_answer a (chain_from counts payoffs (handed_back v c a) cs)) e

  pub chain_last : (v : Survivors) (cs : List Strategy) (c : Strategy)
      → let x = chain_from counts payoffs v cs in
      chain_from counts payoffs v (cs ++ (c ∷ [])) ≡ record {
        answers = x.answers ++ (strike_answer counts payoffs x.survivors c ∷ []);
        survivors = strike_leaves counts payoffs x.survivors c;
      }
  chain_last v [] c = refl
  chain_last v (d ∷ cs) c = ap (with_answer (strike_answer counts payoffs v d)) (chain_last (strike_leaves counts payoffs v d) cs c)

  -- what a chain x of the calls cs from v did, where the machine's run of them leaves the marks m and gives the answers ans
  pub record Ran (v : Survivors) (cs : List Strategy) (m : Marks) (ans : List Answer) (x : Chain) : Type 0 where
    pub answers : x.answers ≡ map told_answer ans
    pub marks : marks_of x.survivors ≡ m
    pub stays : Good x.survivors
    pub calls : Struck counts payoffs v cs x.answers x.survivors

  -- the run of the calls cs from the marks m
  abbrev RanFrom : Survivors → List Strategy → Marks → Type 0
  RanFrom v cs m =
      let r = run_from (table_game counts payoffs) m cs in Ran v cs r.marks r.answers (chain_from counts payoffs v cs)

  ran_cons : Table counts payoffs → (v : Survivors) → Good v → (c : Strategy) (cs : List Strategy) → ((w : Survivors) → Good w → RanFrom w cs (marks_of w))
      → RanFrom v (c ∷ cs) (marks_of v)
  unfolding strike_leaves
  ran_cons t v k c cs rest =
      go (answer (table_game counts payoffs) (marks_of v) c) (answer_law (table_game counts payoffs) (marks_of v) c) (told t v k c)
    where
      leaves : {a : Told ℕ} → strike_answer counts payoffs v c ≡ a → strike_leaves counts payoffs v c ≡ handed_back v c a
      leaves e = ap (handed_back v c) e

      go : (a : Answer) → Answered (table_game counts payoffs) (marks_of v) c a → strike_answer counts payoffs v c ≡ told_answer a
          → let r = run_from (table_game counts payoffs) (after (marks_of v) c a) cs in Ran v (c ∷ cs) r.marks (a ∷ r.answers) (chain_from counts payoffs v (c ∷ cs))
      go (refused e) h is =
          let i = rest v k in
          rw (chain_cons v c cs (toldRefused e) is) (record {
            answers = ap {B = List (Told ℕ)} (λ l. toldRefused e ∷ l) i.answers;
            marks = i.marks;
            stays = i.stays;
            calls = kept is h (leaves is) i.calls;
          })
      go (accepted u) h is =
          let e = taken t v k c u h in
          let i : RanFrom (without_mark v c) cs (without (marks_of v) c) = subst (RanFrom (without_mark v c) cs) e (rest (without_mark v c) (stays t v k c u h)) in
          rw (chain_cons v c cs (values u) is) (record {
            answers = ap {B = List (Told ℕ)} (λ l. values u ∷ l) i.answers;
            marks = i.marks;
            stays = i.stays;
            calls = struck is h (ap marks_of (leaves is) ∙ e) (subst⁻¹ (λ (w : Survivors). let x = chain_from counts payoffs (without_mark v c) cs in Struck counts payoffs w cs x.answers x.survivors) (leaves is) i.calls);
          })

  pub ran : Table counts payoffs → (v : Survivors) → Good v → (cs : List Strategy) → RanFrom v cs (marks_of v)
  ran t v k [] = record { answers = refl; marks = refl; stays = k; calls = done }
  ran t v k (c ∷ cs) = ran_cons t v k c cs (λ w j. ran t w j cs)
