-- What numbers mean: which tables have one (`numbered`, `not-numbered`), and which have the same (`same_number`, and `same-game-number` in
-- any list that has every least key). Ranks are by the order key (`digit-law`, `strict-law`, `zeros-tie`). Assumes nothing.
use mathlib.Core.Path.{◌≡◌, refl, sym, ap, ap₂, subst, ◌∙◌}
use mathlib.Core.Bool.{Bool, true, false, cond, ◌&&◌}
use mathlib.Core.List.Memᴰ.{cases_cons as in-cons}
use mathlib.Core.List.Memᴰ.{head as here}
use mathlib.Core.List.Memᴰ.{map as to_map}
use mathlib.Core.List.Memᴰ.{not-nil as not-in-nil}
use mathlib.Core.List.Memᴰ.{of_map}
use mathlib.Core.List.Memᴰ.{tail as there}
use mathlib.Core.List.{List, [], ◌∷◌, map}
use mathlib.Core.Logic.{◌↔◌, ◌≢◌, ⊎_elim}
use mathlib.Core.Option.{none, some}
use Prim.Native.Nat.{ℕ, zero, suc, ◌<◌}
use native.Mathlib.Omega.{arith}
use lib.Dec.{T, ltb}
use lib.ListN.{length, get_or}
use lib.Ieee.{Float, fin, binary64, fits}
use lib.IntN.{ℤ, pos}
use lib.Signed.{lt_z}
use Rattle.game.specs.Finite.{◌∈◌, filter, Sorted}
use Rattle.game.specs.Game.{Game, Profile, profiles}
use Rattle.game.proofs.Finite.{and_T, filter_cong, test_true, test_false}
use Rattle.game.proofs.Game.{profiles_law, profiles_once}
use Rattle.refusal.specs.Refusal.{Refusal, number_of}
use Rattle.refusal.specs.Told.{values, unless, optional}
use Rattle.refusal.specs.declared.NormalFormError.{NormalFormError}
use Rattle.std.specs.Prelude.{Option as Answered}
use Rattle.refusal.proofs.Refusal.{number_once}
use Rattle.refusal.proofs.Told.{apart, optional_once}
use Rattle.payoff_order.specs.Order.{key as orderKey, rank}
use Rattle.payoff_order.proofs.Laws.{zero_key}
use Rattle.payoff_order.proofs.Rank.{rank_lt, rank_eq}
use Rattle.payoff_tables.specs.Table.{cell, payoff_at, table_game}
use Rattle.payoff_tables.specs.Checks.{table_refusal}
use Rattle.payoff_tables.specs.Meaning.{Doubles}
use Rattle.bimatrix.specs.declared.Bimatrix.{Bimatrix}
use Rattle.bimatrix.specs.Matrices.{matrix_of, in_order, bimatrix_of, bimatrix}
use Rattle.bimatrix.specs.Keys.{rank_among, ranked, ranks, different, strictly_ranked, least_key}
use Rattle.std.specs.Prelude.{Result}
use Rattle.std.specs.Prelude.{Ok, Err}
use Rattle.catalogue.specs.Catalogue.{place, catalogue}
use Rattle.bimatrix.specs.Meaning.{Swapped}
use Rattle.catalogue.specs.Meaning.{LeastKey, Strict, key_rank, DifferentKeys, StrictlyRanked}
use Rattle.catalogue.specs.Answers.{two_by_two, game_number, number_answer, told_number}
use Rattle.catalogue.proofs.Cells.{pair_law}
use Rattle.bimatrix.proofs.Ranks.{different_law}
use Rattle.bimatrix.proofs.Swaps.{order_law}
use Rattle.catalogue.proofs.Rule.{catalogue_rule, least_swapped, catalogue_length}
use Rattle.catalogue.proofs.Places.{placed, same_place}

-- ---- games, in a list of keys

least_is : (g : Game) → Strict g → LeastKey (least_key (ranks (bimatrix g)))
least_is g s = (bimatrix g, s.1, refl)

pub number_is : (ks : List ℕ) (g : Game) → Strict g → game_number ks g ≡ place ks (least_key (ranks (bimatrix g)))
unfolding game_number
number_is ks g s = rw (test_true (two_by_two g.counts) s.0, test_true (strictly_ranked (bimatrix g)) s.1)

pub no_number : (ks : List ℕ) (g : Game) → (Strict g → ⊥) → game_number ks g ≡ none
unfolding game_number
no_number ks g n =
    rw (test_false (two_by_two g.counts && strictly_ranked (bimatrix g)) (λ t. n ((and_T (two_by_two g.counts) (strictly_ranked (bimatrix g))).0 t)))

-- in any list that has every least key
pub same_game_number : (ks : List ℕ) → ((k : ℕ) → LeastKey k → k ∈ ks) → (g h : Game) → Strict g → Strict h
    → (game_number ks g ≡ game_number ks h) ↔ Swapped (ranks (bimatrix g)) (ranks (bimatrix h))
same_game_number ks full g h s t =
    let (to, from) =
    same_place ks (least_key (ranks (bimatrix g))) (least_key (ranks (bimatrix h))) (full _ (least_is g s)) (full _ (least_is h t))
    in
    let (in-swaps, of-swaps) = least_swapped (bimatrix g) (bimatrix h) s.1 t.1 in
    rw (number_is ks g s, number_is ks h t) (λ e. in-swaps (to e), λ m. from (of-swaps m))

-- ---- order keys

-- of a list that has each element once: no two of the numbers f x are equal exactly where f differs at any two elements
apart_map : (f : List ℕ → ℕ) (xs : List (List ℕ)) → Sorted (λ x y. x ≢ y) xs
    → Sorted (λ m n. m ≢ n) (map f xs) ↔ ((x y : List ℕ) → x ∈ xs → y ∈ xs → x ≢ y → f x ≢ f y)
apart_map f [] s = (λ _ x y h. absurd (not-in-nil h), λ _. tt)
apart_map f (x ∷ xs) s =
    let (down, up) = apart_map f xs s.1 in (
      λ t a b h k n.
          ⊎_elim
          (λ (e : a ≡ x). ⊎_elim (λ (d : b ≡ x). absurd (n (e ∙ sym d))) (λ l. rw e (t.0 (f b) (to_map f l))) (in-cons k))
          (λ i. ⊎_elim (λ (d : b ≡ x). rw d (λ q. t.0 (f a) (to_map f i) (sym q))) (λ l. down t.1 a b i l n) (in-cons k)) (in-cons h),
      λ h. (
        λ z k. let (y, l, e) = of_map f xs k in rw (← e) (h x y (here refl) (there l) (s.0 y l)),
        up (λ a b i j. h a b (there i) (there j)),
      ),
    )

passed_map : (f : List ℕ → ℕ) (test : ℕ → Bool) (xs : List (List ℕ)) → length (filter test (map f xs)) ≡ length (filter (λ x. test (f x)) xs)
passed_map f test [] = refl
passed_map f test (x ∷ xs) = step (test (f x)) (passed_map f test xs)
  where
    step : (b : Bool) → length (filter test (map f xs)) ≡ length (filter (λ x. test (f x)) xs)
        → length (cond b (f x ∷ filter test (map f xs)) (filter test (map f xs)))
        ≡ length (cond b (x ∷ filter (λ x. test (f x)) xs) (filter (λ x. test (f x)) xs))
    step true e = ap suc e
    step false e = e

-- a 2 × 2 table whose payoffs are f64s
module _ (payoffs : List Float) (d : Doubles payoffs) where
  abbrev pair : List ℕ
  pair = 2 ∷ 2 ∷ []

  -- the order key of player p's payoff at x, and the same plus 2^63
  abbrev key_at : ℕ → List ℕ → ℤ
  key_at p x = orderKey (payoff_at pair payoffs p x)

  abbrev pay_at : ℕ → List ℕ → ℕ
  pay_at p x = rank (payoff_at pair payoffs p x)

  fits_at : (p : ℕ) (x : List ℕ) → T (fits binary64 (payoff_at pair payoffs p x))
  unfolding payoff_at
  fits_at p x = d (cell pair x p)

  rank_by_key : (p : ℕ) (x : List ℕ) → rank_among (in_order (matrix_of (pay_at p))) (pay_at p x) ≡ key_rank payoffs p x
  unfolding rank_among
  rank_by_key p x =
      ap (λ (xs : List ℕ). length (filter (λ y. ltb y (pay_at p x)) xs)) (order_law (pay_at p))
      ∙ passed_map (pay_at p) (λ y. ltb y (pay_at p x)) (profiles pair)
      ∙ ap length
      (filter_cong (λ y. ltb (pay_at p y) (pay_at p x)) (λ y. lt_z (key_at p y) (key_at p x)) (profiles pair)
      (λ y h. sym (rank_lt (payoff_at pair payoffs p y) (payoff_at pair payoffs p x) (fits_at p y) (fits_at p x))))

  matrix_by_key : (p : ℕ) → ranked (matrix_of (pay_at p)) ≡ matrix_of (key_rank payoffs p)
  matrix_by_key p =
      let a = rank_by_key p (0 ∷ 0 ∷ []) in
      let b = rank_by_key p (0 ∷ 1 ∷ []) in
      let c = rank_by_key p (1 ∷ 0 ∷ []) in
      let d = rank_by_key p (1 ∷ 1 ∷ []) in
      λ i. record { at00 = a i; at01 = b i; at10 = c i; at11 = d i }

  -- the digits of a table: at each profile, at how many the player's payoff has a lesser order key
  pub digit_law : ranks (bimatrix (table_game pair payoffs)) ≡ bimatrix_of (matrix_of (key_rank payoffs 0)) (matrix_of (key_rank payoffs 1))
  unfolding table_game
  digit_law = ap₂ bimatrix_of (matrix_by_key 0) (matrix_by_key 1)

  -- a player's payoffs have different order keys
  Apart : ℕ → Type 0
  Apart p = (x y : List ℕ) → Profile pair x → Profile pair y → x ≢ y → key_at p x ≢ key_at p y

  apart_law : (p : ℕ) → T (different (in_order (matrix_of (pay_at p)))) ↔ Apart p
  unfolding Apart
  apart_law p =
      let (to, from) = apart_map (pay_at p) (profiles pair) (profiles_once pair) in
      let (in_order, of-order) = different_law (in_order (matrix_of (pay_at p))) in
      let law = profiles_law pair in
      let All : List ℕ → Type 0 = Sorted (λ m n. m ≢ n) in
      let same : (x y : List ℕ) → (key_at p x ≡ key_at p y) ↔ (pay_at p x ≡ pay_at p y) =
      λ x y. rank_eq (payoff_at pair payoffs p x) (payoff_at pair payoffs p y) (fits_at p x) (fits_at p y)
      in (
        λ t x y k l n e. to (subst All (order_law (pay_at p)) (in_order t)) x y ((law.members x).1 k) ((law.members y).1 l) n ((same x y).0 e),
        λ h. of-order (subst All (sym (order_law (pay_at p))) (from (λ x y k l n e. h x y ((law.members x).0 k) ((law.members y).0 l) n ((same x y).1 e)))),
      )

  -- both players'
  keys_law : T (strictly_ranked (bimatrix (table_game pair payoffs))) ↔ DifferentKeys pair payoffs
  unfolding strictly_ranked table_game Apart
  keys_law =
      let (to, from) = and_T (different (in_order (matrix_of (pay_at 0)))) (different (in_order (matrix_of (pay_at 1)))) in (
        λ t. each ((apart_law 0).0 (to t).0) ((apart_law 1).0 (to t).1),
        λ h. from (
          (apart_law 0).1 (λ x y. h 0 x y (omega arith)),
          (apart_law 1).1 (λ x y. h 1 x y (omega arith)),
        ),
      )
    where
      each : Apart 0 → Apart 1 → DifferentKeys pair payoffs
      each a b zero x y l = a x y
      each a b (suc zero) x y l = b x y
      each a b (suc (suc p)) x y l = absurd (omega arith)

-- ---- tables, in the catalogue

-- which tables are strictly ranked, in quantifiers
pub strict_law : (counts : List ℕ) (payoffs : List Float) → Doubles payoffs
    → ((table_refusal counts payoffs ≡ none) × Strict (table_game counts payoffs)) ↔ StrictlyRanked counts payoffs
unfolding table_game two_by_two
strict_law counts payoffs d = (
  λ (a, s).
      let e = pair_law counts s.0 in
      record {
        accepted = a;
        two_by_two_counts = e;
        different_keys =
            subst (λ (cs : List ℕ). DifferentKeys cs payoffs) (sym e)
            ((keys_law payoffs d).0 (subst (λ (cs : List ℕ). T (strictly_ranked (bimatrix (table_game cs payoffs)))) e s.1));
      },
  λ r.
      let e = r.two_by_two_counts in (
        r.accepted,
        (
          subst (λ (cs : List ℕ). T (two_by_two cs)) (sym e) tt,
          subst (λ (cs : List ℕ). T (strictly_ranked (bimatrix (table_game cs payoffs)))) (sym e)
              ((keys_law payoffs d).1 (subst (λ (cs : List ℕ). DifferentKeys cs payoffs) e r.different_keys)),
        ),
      ),
)

-- both zeros are one value: a player that is paid each of them somewhere has a tie
pub zeros_tie : (counts : List ℕ) (payoffs : List Float) (p : ℕ) (x y : List ℕ) (s t : Bool) → p < 2 → Profile counts x → Profile counts y → x ≢ y
    → payoff_at counts payoffs p x ≡ fin s 0 (pos 0) → payoff_at counts payoffs p y ≡ fin t 0 (pos 0) → StrictlyRanked counts payoffs → ⊥
zeros_tie counts payoffs p x y s t l h k n a b r =
    r.different_keys p x y l h k n (ap orderKey a ∙ zero_key s ∙ sym (zero_key t) ∙ sym (ap orderKey b))

module _ (counts : List ℕ) (payoffs : List Float) where
  abbrev table_ranks : Bimatrix
  table_ranks = ranks (bimatrix (table_game counts payoffs))

  answer_is : table_refusal counts payoffs ≡ none → number_answer counts payoffs ≡ values (game_number catalogue (table_game counts payoffs))
  unfolding number_answer
  answer_is a = ap (λ (r : Refusal). unless r (game_number catalogue (table_game counts payoffs))) a

  -- a strictly ranked table has a number below 144, at which its least key stands
  pub numbered : Doubles payoffs → StrictlyRanked counts payoffs
      → (n : ℕ) × (number_answer counts payoffs ≡ values (some n)) × (n < 144) × (get_or catalogue n 0 ≡ least_key table_ranks)
  numbered d r =
      let (a, s) = (strict_law counts payoffs d).1 r in
      let g = table_game counts payoffs in
      let (n, e, t) = placed catalogue (least_key table_ranks) ((catalogue_rule.members (least_key table_ranks)).1 (least_is g s)) in
      (n, answer_is a ∙ ap values (number_is catalogue g s ∙ e), omega (arith, t.0, catalogue_length), t.1)

  -- any other accepted table has none
  pub not_numbered : Doubles payoffs → table_refusal counts payoffs ≡ none → (StrictlyRanked counts payoffs → ⊥) → number_answer counts payoffs ≡ values none
  not_numbered d a n =
      answer_is a ∙ ap values (no_number catalogue (table_game counts payoffs) (λ s. n ((strict_law counts payoffs d).0 (a, s))))

-- two strictly ranked tables have the same number exactly where swapping rows, columns, both or neither turns the ranks of one into the
-- other's
pub same_number : (counts : List ℕ) (payoffs : List Float) → Doubles payoffs → StrictlyRanked counts payoffs
    → (counts' : List ℕ) (payoffs' : List Float) → Doubles payoffs' → StrictlyRanked counts' payoffs'
    → (number_answer counts payoffs ≡ number_answer counts' payoffs')
    ↔ Swapped (ranks (bimatrix (table_game counts payoffs))) (ranks (bimatrix (table_game counts' payoffs')))
same_number counts payoffs d r counts' payoffs' d' r' =
    let (a, s) = (strict_law counts payoffs d).1 r in
    let (a', s') = (strict_law counts' payoffs' d').1 r' in
    let (to, from) =
    same_game_number catalogue (λ k. (catalogue_rule.members k).1) (table_game counts payoffs) (table_game counts' payoffs') s s'
    in
    rw (answer_is counts payoffs a, answer_is counts' payoffs' a') (λ e. to (cc), λ m. ap values (from m))

-- ---- what was told determines the answer

pub told_number_once : (r s : Result (Answered ℕ) NormalFormError) → told_number r ≡ told_number s → r ≡ s
told_number_once (Ok a) (Ok b) h = ap Ok (optional_once a b (cc))
told_number_once (Ok a) (Err e) h = absurd (apart (optional a) (number_of e) h)
told_number_once (Err d) (Ok b) h = absurd (apart (optional b) (number_of d) (sym h))
told_number_once (Err d) (Err e) h = ap Err (number_once d e (cc))
