-- The tests of `Input` say what `Meaning` has: `sized-law`, `tolerable-law`, `well-formed-law` and
-- `claimed-law`. Assumes nothing.
use mathlib.Core.Path.{◌≡◌, sym, subst}
use mathlib.Core.Bool.{Bool, false, not, ◌&&◌}
use mathlib.Core.List.{List}
use mathlib.Core.Logic.Iff
use mathlib.Core.Logic.{◌↔◌}
use Prim.Native.Nat.{ℕ, ◌*◌, ◌≤◌, ◌<◌}
use lib.Dec.{T, leb, eqb, leb→le, le→leb}
use lib.ListN.{length, get_or}
use lib.Ieee.{Float, nan, lt}
use Rattle.game.specs.Finite.{all}
use Rattle.game.proofs.Finite.{and_T, no_T, eqb_T, test_true, test_false}
use Rattle.payoff_order.specs.Order.{finite}
use Rattle.payoff_order.proofs.All.{all_at, at_all}
use Rattle.sums.specs.Sums.{zero}
use Rattle.candidate_input.specs.Input.{max_actions, sized, tolerable, well_formed, claimed}
use Rattle.candidate_input.specs.Meaning.{Sized, NoneBelow, Tolerable, WellFormed, Claimed}
use Rattle.candidate_input.specs.declared.Claim.{Claim}

-- ---- tests of one kind

-- two tests
pub both : {P Q : Type 0} (a b : Bool) → T a ↔ P → T b ↔ Q → T (a && b) ↔ (P × Q)
both a b f g = (λ h. let (p, q) = (and_T a b).0 h in (f.0 p, g.0 q), λ h. (and_T a b).1 (f.1 h.0, g.1 h.1))

pub none_T : (a : Bool) → T (not a) ↔ (a ≡ false)
none_T a = (λ h. test_false a ((no_T a).0 h), λ e. (no_T a).1 (λ t. subst T e t))

pub all_law : (f : Float → Bool) (xs : List Float) → T (all f xs) ↔ ((i : ℕ) → i < length xs → T (f (get_or xs i nan)))
all_law f xs = (λ h i l. all_at f nan xs i (test_true (all f xs) h) l, λ h. subst T (sym (at_all f nan xs h)) tt)

pub none_below_law : (bound : Float) (xs : List Float) → T (all (λ x. not (lt x bound)) xs) ↔ NoneBelow bound xs
none_below_law bound xs =
    let (to, from) = all_law (λ x. not (lt x bound)) xs in
    (λ h i l. (none_T (lt (get_or xs i nan) bound)).0 (to h i l), λ h. from (λ i l. (none_T (lt (get_or xs i nan) bound)).1 (h i l)))

-- ---- what is handed in

pub sized_law : (m n : ℕ) → T (sized m n) ↔ Sized m n
sized_law m n =
    let le : (a b : ℕ) → T (leb a b) ↔ (a ≤ b) = λ a b. (leb→le a b, le→leb a b) in
    let (to, from) = both (leb 1 m && leb m max_actions && leb 1 n) (leb n max_actions) (both (leb 1 m && leb m max_actions) (leb 1 n) (both (leb 1 m) (leb m max_actions) (le 1 m) (le m max_actions)) (le 1 n)) (le n max_actions) in (
      λ h. let (((i, j), p), q) = to h in record { rows = i; few_rows = j; columns = p; few_columns = q },
      λ r. from (((r.rows, r.few_rows), r.columns), r.few_columns),
    )

pub tolerable_law : (tolerance : Float) → T (tolerable tolerance) ↔ Tolerable tolerance
tolerable_law t =
    let (to, from) = both (finite t) (not (lt t zero)) Iff.rfl (none_T (lt t zero)) in
    (λ h. let (p, q) = to h in record { number = p; not_negative = q }, λ r. from (r.number, r.not_negative))

pub well_formed_law : (m n : ℕ) (u1 u2 weights : List Float) → T (well_formed m n u1 u2 weights) ↔ WellFormed m n u1 u2 weights
unfolding well_formed
well_formed_law m n u1 u2 weights =
    let s : Bool = sized m n in
    let a : Bool = eqb (length u1) (m * n) in
    let b : Bool = eqb (length u2) (m * n) in
    let c : Bool = eqb (length weights) (m * n) in
    let d : Bool = all finite u1 in
    let e : Bool = all finite u2 in
    let f : Bool = all finite weights in
    let g : Bool = all (λ w. not (lt w zero)) weights in
    let lengths = both (s && a && b) c (both (s && a) b (both s a (sized_law m n) (eqb_T (length u1) (m * n))) (eqb_T (length u2) (m * n))) (eqb_T (length weights) (m * n)) in
    let numbers = both (s && a && b && c && d && e) f (both (s && a && b && c && d) e (both (s && a && b && c) d lengths (all_law finite u1)) (all_law finite u2)) (all_law finite weights) in
    let (to, from) = both (s && a && b && c && d && e && f) g numbers (none_below_law zero weights) in (
      λ h.
          let (((((((size, i), j), k), x), y), z), w) = to h in
          record {
            size = size;
            first = record { long = i; each = x };
            second = record { long = j; each = y };
            weighted = record { long = k; each = z };
            not_negative = w;
          },
      λ r.
          from
          (((((((r.size, r.first.long), r.second.long), r.weighted.long), r.first.each), r.second.each), r.weighted.each), r.not_negative),
    )

pub claimed_law : (m n : ℕ) (payoffs p1 p2 : List Float) (claim : Claim) → T (claimed m n payoffs p1 p2 claim) ↔ Claimed m n payoffs p1 p2 claim
unfolding claimed
claimed_law m n payoffs p1 p2 claim =
    let s : Bool = sized m n in
    let a : Bool = eqb (length payoffs) (m * n) in
    let b : Bool = eqb (length p1) m in
    let c : Bool = eqb (length p2) n in
    let d : Bool = all finite payoffs in
    let e : Bool = all finite p1 in
    let f : Bool = all finite p2 in
    let g : Bool = finite claim.value in
    let t : Bool = tolerable claim.tolerance in
    let lengths = both (s && a && b) c (both (s && a) b (both s a (sized_law m n) (eqb_T (length payoffs) (m * n))) (eqb_T (length p1) m)) (eqb_T (length p2) n) in
    let numbers = both (s && a && b && c && d && e) f (both (s && a && b && c && d) e (both (s && a && b && c) d lengths (all_law finite payoffs)) (all_law finite p1)) (all_law finite p2) in
    let (to, from) = both (s && a && b && c && d && e && f && g) t (both (s && a && b && c && d && e && f) g numbers Iff.rfl) (tolerable_law claim.tolerance) in (
      λ h.
          let ((((((((size, i), j), k), x), y), z), v), w) = to h in
          record {
            size = size;
            table = record { long = i; each = x };
            first = record { long = j; each = y };
            second = record { long = k; each = z };
            value = v;
            tolerance = w;
          },
      λ r.
          from
          ((((((((r.size, r.table.long), r.first.long), r.second.long), r.table.each), r.first.each), r.second.each), r.value), r.tolerance),
    )
