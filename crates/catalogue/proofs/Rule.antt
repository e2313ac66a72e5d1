-- The rule of the keys: one test, computed over them and over the 576 tables of ranks (`isCatalogue`), and one law that says what it means
-- (`rule-law`), for any list of keys. Equal least keys are those of swaps: a table's four swaps have the same least key, and the digits of
-- the least key are one of the four. Assumes nothing.
use mathlib.Core.Path.{◌≡◌, refl, sym, ap, ◌∙◌}
use mathlib.Core.Bool.{Bool, not, ◌&&◌}
use mathlib.Core.List.{List, flat_map}
use mathlib.Core.Logic.{◌↔◌}
use Prim.Native.Nat.{ℕ, ◌<◌}
use lib.Dec.{T, ltb, eqb}
use lib.ListN.{length}
use Rattle.game.specs.Finite.{◌∈◌, all, filter, empty, Lists}
use Rattle.game.specs.Game.{profiles}
use Rattle.game.proofs.Finite.{and_T, ltb_T, eqb_T, all_T, some_mem, filter_mem}
use Rattle.bimatrix.specs.declared.Bimatrix.{Bimatrix}
use Rattle.bimatrix.specs.Matrices.{swaps}
use Rattle.bimatrix.specs.Keys.{rank_among, ranks, pairwise, different, strictly_ranked, key, least_key}
use Rattle.catalogue.specs.Catalogue.{orders, rankings, catalogue}
use Rattle.bimatrix.specs.Meaning.{Swapped}
use Rattle.catalogue.specs.Meaning.{LeastKey, key_digits}
use Rattle.bimatrix.proofs.Ranks.{pairwise_law}
use Rattle.bimatrix.proofs.Swaps.{swap_back, swap_again}
use Rattle.catalogue.proofs.Rankings.{same, same_law, ranks_listed}

-- ---- the test

-- whether an element passes
module _ {A : Type 0} where
  abbrev any : (A → Bool) → List A → Bool
  any f xs = not (empty (filter f xs))

  any_T : (f : A → Bool) (xs : List A) → T (any f xs) → (x : A) × (x ∈ xs) × T (f x)
  any_T f xs h =
      let (x, k) = (some_mem (filter f xs)).0 h in
      let (l, t) = (filter_mem f xs x).0 k in
      (x, l, t)

-- the digits of k are a strictly ranked table, and k is its least key
key_test : ℕ → Bool
key_test k = strictly_ranked (key_digits k) && eqb (least_key (ranks (key_digits k))) k

-- the digits of the key of r are r; the least key of r is among the keys ks, is that of each swap of r, and its digits are one of them
table_test : List ℕ → Bimatrix → Bool
table_test ks r =
    same (key_digits (key r)) r
    && any (eqb (least_key r)) ks
    && (all (λ q. eqb (least_key r) (least_key q)) (swaps r) && any (same (key_digits (least_key r))) (swaps r))

-- ascending, each key passing its test, and each table
is_catalogue : List ℕ → Bool
is_catalogue ks = pairwise ltb ks && all key_test ks && all (table_test ks) rankings

-- ---- the law

-- what the test means for a list of keys
record Rule (ks : List ℕ) : Type 0 where
  digits : (r : Bimatrix) → r ∈ rankings → key_digits (key r) ≡ r
  rule : Lists ◌<◌ LeastKey ks
  swapped : (b c : Bimatrix) → T (strictly_ranked b) → T (strictly_ranked c) → (least_key (ranks b) ≡ least_key (ranks c)) ↔ Swapped (ranks b) (ranks c)

module _ (ks : List ℕ) (h : T (is_catalogue ks)) where
  parts : T (pairwise ltb ks) × T (all key_test ks) × T (all (table_test ks) rankings)
  unfolding is_catalogue
  parts =
      let (l, c) = (and_T (pairwise ltb ks && all key_test ks) (all (table_test ks) rankings)).0 h in
      let (a, b) = (and_T (pairwise ltb ks) (all key_test ks)).0 l in
      (a, b, c)

  key_least : (k : ℕ) → k ∈ ks → LeastKey k
  unfolding key_test
  key_least k l =
      let (t, e) = (and_T (strictly_ranked (key_digits k)) (eqb (least_key (ranks (key_digits k))) k)).0 ((all_T key_test ks).0 parts.1 k l) in
      (key_digits k, t, (eqb_T (least_key (ranks (key_digits k))) k).0 e)

  module _ (r : Bimatrix) (l : r ∈ rankings) where
    four : T (same (key_digits (key r)) r)
        × T (any (eqb (least_key r)) ks)
        × T (all (λ q. eqb (least_key r) (least_key q)) (swaps r))
        × T (any (same (key_digits (least_key r))) (swaps r))
    unfolding table_test
    four =
        let (u, v) =
        (and_T (same (key_digits (key r)) r && any (eqb (least_key r)) ks)
        (all (λ q. eqb (least_key r) (least_key q)) (swaps r) && any (same (key_digits (least_key r))) (swaps r))).0
        ((all_T (table_test ks) rankings).0 parts.2 r l)
        in
        let (a, b) = (and_T (same (key_digits (key r)) r) (any (eqb (least_key r)) ks)).0 u in
        let (c, d) = (and_T (all (λ q. eqb (least_key r) (least_key q)) (swaps r)) (any (same (key_digits (least_key r))) (swaps r))).0 v in
        (a, b, c, d)

    own : key_digits (key r) ≡ r
    own = same_law (key_digits (key r)) r four.0

    listed : least_key r ∈ ks
    listed = let (k, m, t) = any_T (eqb (least_key r)) ks four.1 in rw ((eqb_T (least_key r) k).0 t) m

    same_least : (q : Bimatrix) → Swapped r q → least_key r ≡ least_key q
    same_least q m = (eqb_T (least_key r) (least_key q)).0 ((all_T (λ s. eqb (least_key r) (least_key s)) (swaps r)).0 four.2 q m)

    digits_swapped : Swapped r (key_digits (least_key r))
    digits_swapped = let (q, m, t) = any_T (same (key_digits (least_key r))) (swaps r) four.3 in rw (same_law (key_digits (least_key r)) q t) m

  rule_law : Rule ks
  rule_law =
      record {
        digits = own;
        rule =
            record {
              members = λ k. (key_least k, λ (b, t, e). rw (← e) (listed (ranks b) (ranks_listed b t)));
              sorted = (pairwise_law ltb ◌<◌ ltb_T ks).0 parts.0;
            };
        swapped = λ b c t u. (
          λ e.
              swap_again (ranks b) (key_digits (least_key (ranks b))) (ranks c) (digits_swapped (ranks b) (ranks_listed b t))
              (swap_back (ranks c) (key_digits (least_key (ranks b))) (rw e (digits_swapped (ranks c) (ranks_listed c u)))),
          same_least (ranks b) (ranks_listed b t) (ranks c),
        );
      }

-- ---- the catalogue passes

passes : T (is_catalogue catalogue)
unfolding flat_map profiles rank_among different strictly_ranked key least_key orders rankings catalogue key_digits key_test table_test is_catalogue
passes = tt

-- the digits of a table's key are its ranks
pub key_digits_lem : (r : Bimatrix) → r ∈ rankings → key_digits (key r) ≡ r
key_digits_lem = (rule_law catalogue passes).digits

-- so no two of the 576 have the same key
pub key_once : (r q : Bimatrix) → r ∈ rankings → q ∈ rankings → key r ≡ key q → r ≡ q
key_once r q h k e = sym (key_digits_lem r h) ∙ ap key_digits e ∙ key_digits_lem q k

-- ascending, just the least keys of the strictly ranked tables
pub catalogue_rule : Lists ◌<◌ LeastKey catalogue
catalogue_rule = (rule_law catalogue passes).rule

-- the same least key exactly where the ranks are swaps of each other
pub least_swapped : (b c : Bimatrix) → T (strictly_ranked b) → T (strictly_ranked c)
    → (least_key (ranks b) ≡ least_key (ranks c)) ↔ Swapped (ranks b) (ranks c)
least_swapped = (rule_law catalogue passes).swapped

-- 144 keys
pub catalogue_length : length catalogue ≡ 144
unfolding flat_map profiles different key least_key orders rankings catalogue
catalogue_length = refl
