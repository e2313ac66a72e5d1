-- Which survivors are foreign, in quantifiers. Assumes nothing.
use mathlib.Core.Path.{◌≡◌, sym, ap, ◌∙◌, subst}
use mathlib.Core.Bool.{Bool, true, false, not, ◌&&◌}
use mathlib.Core.List.{List}
use mathlib.Core.Logic.{◌↔◌, ⊎_elim}
use mathlib.Core.Option.{none}
use Prim.Native.Nat.{ℕ, ◌+◌, ◌≤◌, ◌<◌}
use native.Mathlib.Omega.{arith}
use borrow.Author.Count.{below_more}
use borrow.Author.Tests.{le-ltb, lt-ltb}
use lib.Dec.{T, ltb, leb, eqb, leb→le, le→leb}
use lib.ListN.{length, get_or}
use Rattle.game.specs.Finite.{below, filter}
use Rattle.game.specs.Game.{Marks}
use Rattle.game.proofs.Finite.{and_T, no_T, eqb_T, all_T, filter_mem, some_mem, below_mem, le_or_lt, test_true, test_false}
use Rattle.refusal.specs.Refusal.{when}
use Rattle.refusal.specs.declared.NormalFormError.TheVariants.{ForeignSurvivors}
use Rattle.refusal.proofs.Refusal.{when_none}
use Rattle.payoff_tables.specs.Limits.{max_players, max_strategies}
use Rattle.marks.specs.Marks.{marked}
use Rattle.marks.proofs.Marks.{mark_past}
use Rattle.survivors.specs.declared.Survivors.{Survivors}
use Rattle.survivors.specs.Survivors.{marks_of, marked_from, same_players, same_counts, each_marked, none_past, foreign, foreign_refusal}
use Rattle.survivors.specs.Meaning.{Own}
use Rattle.survivors.proofs.Marks.{Full, mark_beyond}

-- A marked strategy is below the limit.
pub mark_low : (marks : List Bool) (p s : ℕ) → T (marked marks p s) → s < max_strategies
mark_low marks p s h =
    ⊎_elim (λ (b : max_strategies ≤ s). absurd (rw (mark_past marks p s b) at h)) (λ k. k) (le_or_lt max_strategies s)

-- A player has a mark at or past s.
pub marked_from_law : (m : Marks) (p s : ℕ) → T (marked_from m p s) ↔ ((t : ℕ) × (s ≤ t) × (t < max_strategies) × T (m p t))
unfolding marked_from
marked_from_law m p s =
    let f : ℕ → Bool = λ t. leb s t && m p t in (
      λ h.
          let (t, k) = (some_mem (filter f (below max_strategies))).0 h in
          let (i, j) = (filter_mem f (below max_strategies) t).0 k in
          let (a, b) = (and_T (leb s t) (m p t)).0 j in
          (t, leb→le s t a, (below_mem max_strategies t).0 i, b),
      λ h.
          let (t, a, l, b) = h in
          (some_mem (filter f (below max_strategies))).1
          (t, (filter_mem f (below max_strategies) t).1 ((below_mem max_strategies t).1 l, (and_T (leb s t) (m p t)).1 (le→leb s t a, b))),
    )

module _ (counts : List ℕ) (v : Survivors) where
  -- the tests of one player
  abbrev same_count : ℕ → Bool
  same_count p = eqb (get_or v.counts p 0) (get_or counts p 0)

  abbrev has_mark : ℕ → Bool
  has_mark p = marked_from (marks_of v) p 0

  abbrev no_past : ℕ → Bool
  no_past p = not (marked_from (marks_of v) p (get_or counts p 0))

  abbrev is_own : Bool
  is_own = same_players counts v && same_counts counts v && each_marked counts v && none_past counts v

  own_law : T is_own ↔ Own counts v
  own_law = (
    λ h.
        let (i, e) = (and_T (same_players counts v && same_counts counts v && each_marked counts v) (none_past counts v)).0 h in
        let (j, d) = (and_T (same_players counts v && same_counts counts v) (each_marked counts v)).0 i in
        let (a, b) = (and_T (same_players counts v) (same_counts counts v)).0 j in
        record {
          players_agree = (eqb_T v.players (length counts)).0 a;
          counts_agree = λ p l. (eqb_T (get_or v.counts p 0) (get_or counts p 0)).0 ((all_T same_count (below max_players)).0 b p ((below_mem max_players p).1 l));
          some = λ p l. let (s, _, _, k) = (marked_from_law (marks_of v) p 0).0 ((all_T has_mark (below (length counts))).0 d p ((below_mem (length counts) p).1 l)) in (s, k);
          within = λ p s l k.
              ⊎_elim
              (λ (past : get_or counts p 0 ≤ s).
              absurd ((no_T (marked_from (marks_of v) p (get_or counts p 0))).0 ((all_T no_past (below max_players)).0 e p ((below_mem max_players p).1 l))
              ((marked_from_law (marks_of v) p (get_or counts p 0)).1 (s, past, mark_low v.marks p s k, k))))
              (λ under. under) (le_or_lt (get_or counts p 0) s);
        },
    λ o.
        let a = (eqb_T v.players (length counts)).1 o.players_agree in
        let b = (all_T same_count (below max_players)).1 (λ p i. (eqb_T (get_or v.counts p 0) (get_or counts p 0)).1 (o.counts_agree p ((below_mem max_players p).0 i))) in
        let d = (all_T has_mark (below (length counts))).1 (λ p i.
        let (s, k) = o.some p ((below_mem (length counts) p).0 i) in
        (marked_from_law (marks_of v) p 0).1 (s, omega arith, mark_low v.marks p s k, k)) in
        let e = (all_T no_past (below max_players)).1 (λ p i.
        (no_T (marked_from (marks_of v) p (get_or counts p 0))).1 (λ h.
        let (s, past, _, k) = (marked_from_law (marks_of v) p (get_or counts p 0)).0 h in
        omega (arith, past, o.within p s ((below_mem max_players p).0 i) k))) in
        (and_T (same_players counts v && same_counts counts v && each_marked counts v) (none_past counts v)).1 (
          (and_T (same_players counts v && same_counts counts v) (each_marked counts v)).1 ((and_T (same_players counts v) (same_counts counts v)).1 (a, b), d),
          e,
        ),
  )

  -- not foreign, or foreign
  pub own_not : Own counts v → foreign counts v ≡ false
  unfolding foreign
  own_not o = ap not (test_true is_own (own_law.1 o))

  pub not_own : (Own counts v → ⊥) → foreign counts v ≡ true
  unfolding foreign
  not_own n = ap not (test_false is_own (λ h. n (own_law.0 h)))

  -- what refusal 16 rules out
  pub foreign_law : (foreign_refusal counts v ≡ none) ↔ Own counts v
  unfolding foreign
  foreign_law = (
    λ h. own_law.0 (back is_own ((when_none (foreign counts v) ForeignSurvivors).0 h)),
    λ o. ap (λ b. when b ForeignSurvivors) (own_not o),
  )
    where
      back : (b : Bool) → not b ≡ false → T b
      back true h = tt
      back false h = let z : ◌≡◌ {A = ℕ} 0 1 = cc in absurd (omega arith)

  -- with more counts than there may be, survivors are foreign: no player past the limit has a mark
  pub foreign_past : Full v → (length counts ≤ max_players → Own counts v) → ltb max_players (length counts) ≡ foreign counts v
  foreign_past full few =
      ⊎_elim
      (λ (h : length counts ≤ max_players). le-ltb max_players (length counts) h ∙ sym (own_not (few h)))
      (λ (h : max_players < length counts).
      lt-ltb max_players (length counts) h ∙ sym (not_own (λ o.
      let (s, k) = o.some max_players h in subst T (mark_beyond v.marks max_players s full (omega arith)) k)))
      (le_or_lt (length counts) max_players)

-- ---- player by player

-- of the players before n, by the counts and the marks of the record
pub record OwnTo (counts held : List ℕ) (marks : List Bool) (n : ℕ) : Type 0 where
  pub same : (p : ℕ) → p < n → get_or held p 0 ≡ get_or counts p 0
  pub some : (p : ℕ) → p < n → p < length counts → T (marked_from (marked marks) p 0)
  pub none : (p : ℕ) → p < n → T (marked_from (marked marks) p (get_or counts p 0)) → ⊥

pub own_start : (counts held : List ℕ) (marks : List Bool) → OwnTo counts held marks 0
own_start counts held marks = record { same = λ p h. absurd (omega arith); some = λ p h. absurd (omega arith); none = λ p h. absurd (omega arith) }

pub own_more : (counts held : List ℕ) (marks : List Bool) (n : ℕ) → OwnTo counts held marks n
    → get_or held n 0 ≡ get_or counts n 0 → (n < length counts → T (marked_from (marked marks) n 0)) → (T (marked_from (marked marks) n (get_or counts n 0)) → ⊥)
    → OwnTo counts held marks (n + 1)
own_more counts held marks n o a b c =
    record {
      same = below_more (λ p. get_or held p 0 ≡ get_or counts p 0) n o.same a;
      some = below_more (λ p. p < length counts → T (marked_from (marked marks) p 0)) n o.some b;
      none = below_more (λ p. T (marked_from (marked marks) p (get_or counts p 0)) → ⊥) n o.none c;
    }

module _ (counts : List ℕ) (v : Survivors) where
  -- of all players
  pub own_all : (n : ℕ) → max_players ≤ n → length counts ≤ max_players → v.players ≡ length counts → OwnTo counts v.counts v.marks n → Own counts v
  own_all n h few e o =
      record {
        players_agree = e;
        counts_agree = λ p l. o.same p (omega arith);
        some = λ p l. let (s, _, _, k) = (marked_from_law (marks_of v) p 0).0 (o.some p (omega arith) l) in (s, k);
        within = λ p s l k.
            ⊎_elim
            (λ (past : get_or counts p 0 ≤ s).
            absurd (o.none p (omega arith) ((marked_from_law (marks_of v) p (get_or counts p 0)).1 (s, past, mark_low v.marks p s k, k))))
            (λ under. under) (le_or_lt (get_or counts p 0) s);
      }

  -- what own survivors have, as the walk reads it
  pub own_marked : Own counts v → (p : ℕ) → p < length counts → T (marked_from (marks_of v) p 0)
  own_marked o p l = let (s, k) = o.some p l in (marked_from_law (marks_of v) p 0).1 (s, omega arith, mark_low v.marks p s k, k)

  pub own_none : Own counts v → (p : ℕ) → p < max_players → T (marked_from (marks_of v) p (get_or counts p 0)) → ⊥
  own_none o p l h = let (s, past, _, k) = (marked_from_law (marks_of v) p (get_or counts p 0)).0 h in omega (arith, past, o.within p s l k)
