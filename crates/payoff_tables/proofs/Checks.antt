-- Which tables, players and profiles are refused, and with which refusal: each case that a walk can meet, and each refusal in quantifiers.
-- Assumes nothing.
use mathlib.Core.Path.{◌≡◌}
use mathlib.Core.List.{List}
use mathlib.Core.Logic.{◌↔◌}
use mathlib.Core.Option.{none, some}
use Prim.Native.Nat.{ℕ, ◌<◌, ◌≤◌}
use native.Mathlib.Omega.{arith}
use mathlib.Core.Bool.{true, false, not}
use borrow.Author.Tests.{eq-eqb, ne_eqb, lt-ltb, le-ltb, eqb-true, eqb-false, ltb-true, ltb-false, not-false}
use lib.Dec.{eqb, ltb}
use lib.ListN.{length, get_or}
use lib.Ieee.{Float, nan}
use Rattle.game.specs.Finite.{all, below}
use Rattle.game.specs.Game.{choice, Profile}
use Rattle.refusal.specs.Refusal.{when, ◌then◌, each}
use Rattle.refusal.specs.declared.NormalFormError.{NormalFormError}
use Rattle.refusal.specs.declared.NormalFormError.TheVariants.{NoPlayers, TooManyPlayers, NoStrategies, TooManyStrategies, TooManyCells, PayoffCount, NonFiniteUtility, InvalidPlayer, ProfileCount, InvalidStrategy}
use Rattle.refusal.proofs.Refusal.{when_none, then_none, each_none, each_some, none_each}
use Rattle.payoff_order.specs.Order.{finite}
use Rattle.payoff_order.proofs.All.{all_at, at_all}
use Rattle.payoff_tables.specs.Limits.{max_players, max_strategies, max_cells}
use Rattle.payoff_tables.specs.Table.{cells}
use Rattle.payoff_tables.specs.Checks.{count_refusal, counts_refusal, payoffs_refusal, table_refusal, player_refusal, profile_refusal}
use Rattle.payoff_tables.specs.Meaning.{Shape, Table}

-- ---- one count

-- a count of 0, one over the limit, and one that is neither
pub count_zero : (c : ℕ) → c ≡ 0 → count_refusal c ≡ some NoStrategies
unfolding count_refusal
count_zero c h = rw (eq-eqb c 0 h)

pub count_over : (c : ℕ) → max_strategies < c → count_refusal c ≡ some TooManyStrategies
unfolding count_refusal
count_over c h = rw (ne_eqb c 0 (omega arith), lt-ltb max_strategies c h)

pub count_fits : (c : ℕ) → 0 < c → c ≤ max_strategies → count_refusal c ≡ none
unfolding count_refusal
count_fits c h k = rw (ne_eqb c 0 (omega arith), le-ltb max_strategies c k)

-- what a count without a refusal is
pub fits_count : (c : ℕ) → count_refusal c ≡ none → (0 < c) × (c ≤ max_strategies)
unfolding count_refusal
fits_count c h =
    let both = (then_none (when (eqb c 0) NoStrategies) (when (ltb max_strategies c) TooManyStrategies)).0 h in
    let z : c ≡ 0 → ⊥ = eqb-false c 0 ((when_none (eqb c 0) NoStrategies).0 both.0) in
    let k : c ≤ max_strategies = ltb-false max_strategies c ((when_none (ltb max_strategies c) TooManyStrategies).0 both.1) in
    (omega (arith, z), k)

-- ---- the counts

module _ (counts : List ℕ) where
  -- no players, more than the limit, and a first count that is refused
  pub no_players : length counts ≡ 0 → counts_refusal counts ≡ some NoPlayers
  unfolding counts_refusal
  no_players h = rw (eq-eqb (length counts) 0 h)

  pub many_players : max_players < length counts → counts_refusal counts ≡ some TooManyPlayers
  unfolding counts_refusal
  many_players h = rw (ne_eqb (length counts) 0 (omega arith), lt-ltb max_players (length counts) h)

  pub bad_count : (p : ℕ) (e : NormalFormError) → length counts ≤ max_players → p < length counts
      → ((q : ℕ) → q < p → count_refusal (get_or counts q 0) ≡ none) → count_refusal (get_or counts p 0) ≡ some e → counts_refusal counts ≡ some e
  unfolding counts_refusal
  bad_count p e h l k g =
      rw (ne_eqb (length counts) 0 (omega arith), le-ltb max_players (length counts) h, each_some (length counts) (λ p. count_refusal (get_or counts p 0)) p e l k g)

  module _ (some' : 0 < length counts) (few : length counts ≤ max_players) (each' : (p : ℕ) → p < length counts → count_refusal (get_or counts p 0) ≡ none) where
    -- more cells than the limit, and no refusal
    pub many_cells : max_cells < cells counts → counts_refusal counts ≡ some TooManyCells
    unfolding counts_refusal
    many_cells h =
        rw (ne_eqb (length counts) 0 (omega arith), le-ltb max_players (length counts) few, each_none (length counts) (λ p. count_refusal (get_or counts p 0)) each', lt-ltb max_cells (cells counts) h)

    pub counts_fit : cells counts ≤ max_cells → counts_refusal counts ≡ none
    unfolding counts_refusal
    counts_fit h =
        rw (ne_eqb (length counts) 0 (omega arith), le-ltb max_players (length counts) few, each_none (length counts) (λ p. count_refusal (get_or counts p 0)) each', le-ltb max_cells (cells counts) h)

  -- what refusals 1 to 5 rule out
  pub counts_law : (counts_refusal counts ≡ none) ↔ Shape counts
  unfolding counts_refusal
  counts_law = (
    λ h.
        let a = (then_none (when (eqb (length counts) 0) NoPlayers) _).0 h in
        let b = (then_none (when (ltb max_players (length counts)) TooManyPlayers) _).0 a.1 in
        let d = (then_none (each (λ p. count_refusal (get_or counts p 0)) (below (length counts))) _).0 b.1 in
        let z : length counts ≡ 0 → ⊥ = eqb-false (length counts) 0 ((when_none (eqb (length counts) 0) NoPlayers).0 a.0) in
        let each' = none_each (length counts) (λ p. count_refusal (get_or counts p 0)) d.0 in
        record {
          some = omega (arith, z);
          few = ltb-false max_players (length counts) ((when_none (ltb max_players (length counts)) TooManyPlayers).0 b.0);
          low = λ p l. (fits_count (get_or counts p 0) (each' p l)).0;
          high = λ p l. (fits_count (get_or counts p 0) (each' p l)).1;
          room = ltb-false max_cells (cells counts) ((when_none (ltb max_cells (cells counts)) TooManyCells).0 d.1);
        },
    λ s. counts_fit s.some s.few (λ p l. count_fits (get_or counts p 0) (s.low p l) (s.high p l)) s.room,
  )

-- ---- the payoffs

module _ (counts : List ℕ) (payoffs : List Float) where
  module _ (shape : counts_refusal counts ≡ none) where
    -- a wrong number of payoffs, one that is not finite, and no refusal
    pub wrong_size : (length payoffs ≡ cells counts → ⊥) → table_refusal counts payoffs ≡ some PayoffCount
    unfolding table_refusal payoffs_refusal
    wrong_size h = rw (shape, ne_eqb (length payoffs) (cells counts) h)

    module _ (full : length payoffs ≡ cells counts) where
      pub not_finite : all finite payoffs ≡ false → table_refusal counts payoffs ≡ some NonFiniteUtility
      unfolding table_refusal payoffs_refusal
      not_finite h = rw (shape, eq-eqb (length payoffs) (cells counts) full, h)

      pub table_fits : all finite payoffs ≡ true → table_refusal counts payoffs ≡ none
      unfolding table_refusal payoffs_refusal
      table_fits h = rw (shape, eq-eqb (length payoffs) (cells counts) full, h)

  -- what refusals 1 to 7 rule out
  pub table_law : (table_refusal counts payoffs ≡ none) ↔ Table counts payoffs
  unfolding table_refusal payoffs_refusal
  table_law = (
    λ h.
        let a = (then_none (counts_refusal counts) _).0 h in
        let b = (then_none (when (not (eqb (length payoffs) (cells counts))) PayoffCount) _).0 a.1 in
        record {
          shape = (counts_law counts).0 a.0;
          full = eqb-true (length payoffs) (cells counts) (not-false (eqb (length payoffs) (cells counts)) ((when_none _ PayoffCount).0 b.0));
          finites = λ i l. all_at finite nan payoffs i (not-false (all finite payoffs) ((when_none _ NonFiniteUtility).0 b.1)) l;
        },
    λ t. table_fits ((counts_law counts).1 t.shape) t.full (at_all finite nan payoffs t.finites),
  )

  -- a table without refusals has counts without refusals
  pub table_counts : table_refusal counts payoffs ≡ none → counts_refusal counts ≡ none
  unfolding table_refusal
  table_counts h = ((then_none (counts_refusal counts) (payoffs_refusal counts payoffs)).0 h).0

-- ---- profiles

-- a choice that is below its count, and one that is not
pub choice_fits : (c s : ℕ) → s < c → when (not (ltb s c)) InvalidStrategy ≡ none
choice_fits c s h = rw (lt-ltb s c h)

pub choice_over : (c s : ℕ) → c ≤ s → when (not (ltb s c)) InvalidStrategy ≡ some InvalidStrategy
choice_over c s h = rw (le-ltb s c h)

module _ (counts x : List ℕ) where
  -- a wrong number of choices, and a first choice that is not below its count
  pub wrong_length : (length x ≡ length counts → ⊥) → profile_refusal counts x ≡ some ProfileCount
  unfolding profile_refusal
  wrong_length h = rw (ne_eqb (length x) (length counts) h)

  pub bad_choice : (p : ℕ) → length x ≡ length counts → p < length counts
      → ((q : ℕ) → q < p → choice x q < get_or counts q 0) → get_or counts p 0 ≤ choice x p → profile_refusal counts x ≡ some InvalidStrategy
  unfolding profile_refusal
  bad_choice p e l h k =
      rw (
        eq-eqb (length x) (length counts) e,
        each_some (length counts) (λ p. when (not (ltb (choice x p) (get_or counts p 0))) InvalidStrategy) p InvalidStrategy l
            (λ q j. choice_fits (get_or counts q 0) (choice x q) (h q j))
            (choice_over (get_or counts p 0) (choice x p) k),
      )

  -- what refusals 11 and 12 rule out: lists that are no profiles
  pub profile_law : (profile_refusal counts x ≡ none) ↔ Profile counts x
  unfolding profile_refusal
  profile_law = (
    λ h.
        let a = (then_none (when (not (eqb (length x) (length counts))) ProfileCount) _).0 h in
        let f = none_each (length counts) (λ p. when (not (ltb (choice x p) (get_or counts p 0))) InvalidStrategy) a.1 in
        record {
          each = eqb-true (length x) (length counts) (not-false (eqb (length x) (length counts)) ((when_none _ ProfileCount).0 a.0));
          fits = λ p l. ltb-true (choice x p) (get_or counts p 0) (not-false (ltb (choice x p) (get_or counts p 0)) ((when_none _ InvalidStrategy).0 (f p l)));
        },
    λ r.
        rw (eq-eqb (length x) (length counts) r.each)
        (each_none (length counts) (λ p. when (not (ltb (choice x p) (get_or counts p 0))) InvalidStrategy)
        (λ p l. choice_fits (get_or counts p 0) (choice x p) (r.fits p l))),
  )

-- ---- players

-- what refusal 8 rules out
pub player_law : (counts : List ℕ) (p : ℕ) → (player_refusal counts p ≡ none) ↔ (p < length counts)
unfolding player_refusal
player_law counts p = (
  λ h. ltb-true p (length counts) (not-false (ltb p (length counts)) ((when_none _ InvalidPlayer).0 h)),
  λ l. rw (lt-ltb p (length counts) l),
)

pub no_player : (counts : List ℕ) (p : ℕ) → length counts ≤ p → player_refusal counts p ≡ some InvalidPlayer
unfolding player_refusal
no_player counts p h = rw (le-ltb p (length counts) h)
