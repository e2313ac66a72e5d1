-- The steps of a player's marked strategies, as a walk lists them, and the greatest payoff of a row, as a walk finds it. Assumes nothing.
use mathlib.Core.Path.{◌≡◌, refl, sym, ap, ◌∙◌, subst⁻¹}
use mathlib.Core.Bool.{Bool, true, false, not, cond}
use mathlib.Core.List.{List, [], ◌∷◌, ◌++◌, map, map-append}
use Prim.Native.Nat.{ℕ, ◌+◌, ◌≤◌, ◌<◌}
use native.Mathlib.Numerals.{add-one}
use native.Mathlib.Omega.{arith}
use borrow.Author.Count.{below_more}
use borrow.Author.Tests.{ltb-true, ltb-false}
use lib.Dec.{T, ltb}
use lib.ListN.{length, get_or, set, take}
use lib.Seq.{take-suc-set}
use lib.Ieee.{Float, nan, binary64, fits}
use Rattle.game.specs.Finite.{below}
use Rattle.game.proofs.Finite.{no_T, ltb_T, all_T, at_most, same_test, below_mem, length_below, filter_at_most, filter_yes, filter_not}
use Rattle.payoff_order.specs.Order.{finite, greater}
use Rattle.payoff_tables.specs.Meaning.{Finites}
use Rattle.payoff_tables.proofs.Game.{cells_greater}
use Rattle.mark_responses.specs.Sweep.{marked_of, step_rank, Greatest, row_top}

module _ (survivors : List Bool) (place : ℕ) where
  -- no more are marked than there are
  pub marked_few : (n : ℕ) → length (marked_of survivors place n) ≤ n
  unfolding marked_of
  marked_few n = omega (arith, filter_at_most (λ t. get_or survivors (place + t) false) (below n), length_below n)

  -- one more
  pub marked_yes : (n : ℕ) → get_or survivors (place + n) false ≡ true → marked_of survivors place (n + 1) ≡ marked_of survivors place n ++ (n ∷ [])
  unfolding marked_of
  marked_yes n h = filter_yes (λ t. get_or survivors (place + t) false) n h

  pub marked_no : (n : ℕ) → get_or survivors (place + n) false ≡ false → marked_of survivors place (n + 1) ≡ marked_of survivors place n
  unfolding marked_of
  marked_no n h = filter_not (λ t. get_or survivors (place + t) false) n h

-- a list with one more element in place
pub steps_more : (f : ℕ → ℕ) (xs cells : List ℕ) (n t : ℕ) → n < length cells → take n cells ≡ map f xs
    → take (n + 1) (set cells n (f t)) ≡ map f (xs ++ (t ∷ []))
steps_more f xs cells n t h e =
    ap (λ (m : ℕ). take m (set cells n (f t))) (add-one n) ∙ take-suc-set cells n (f t) h ∙ ap (λ (l : List ℕ). l ++ (f t ∷ [])) e
    ∙ sym (map-append f xs (t ∷ []))

-- ---- the greatest of a row

module _ (payoffs : List Float) (steps : List ℕ) (start : ℕ) where
  module _ {n : ℕ} {x : Float} (g : Greatest payoffs steps start n x) where
    -- one that does not exceed it changes nothing,
    greatest_old : step_rank payoffs steps start n ≤ step_rank payoffs steps start g.at → Greatest payoffs steps start (n + 1) x
    greatest_old h =
        record {
          at = g.at;
          inside = omega (arith, g.inside);
          is = g.is;
          top = below_more (λ i. step_rank payoffs steps start i ≤ step_rank payoffs steps start g.at) n g.top h;
        }

    -- and one that does is the greatest from there on
    greatest_new : {y : Float} → y ≡ get_or payoffs (start + get_or steps n 0) nan
        → step_rank payoffs steps start g.at < step_rank payoffs steps start n → Greatest payoffs steps start (n + 1) y
    greatest_new e h =
        record {
          at = n;
          inside = omega arith;
          is = e;
          top = below_more (λ i. step_rank payoffs steps start i ≤ step_rank payoffs steps start n) n (λ i l. omega (arith, g.top i l)) (omega arith);
        }

    -- Payoffs of cells compare as the cells' ranks do.
    module _ (finites : Finites payoffs) (held : (i : ℕ) → T (fits binary64 (get_or payoffs i nan)))
        (inside : (i : ℕ) → i < n → start + get_or steps i 0 < length payoffs) where
      -- the greatest is finite
      pub greatest_finite : T (finite x)
      greatest_finite = subst⁻¹ (λ (y : Float). T (finite y)) g.is (finites _ (inside g.at g.inside))

      -- one cell more
      pub greatest_more : (y : Float) → y ≡ get_or payoffs (start + get_or steps n 0) nan → start + get_or steps n 0 < length payoffs
          → Greatest payoffs steps start (n + 1) (cond (greater y x) y x)
      greatest_more y e h = go (greater y x) (cells_greater payoffs finites (λ i _. held i) _ _ h (inside g.at g.inside) e g.is)
        where
          go : (b : Bool) → b ≡ ltb (step_rank payoffs steps start g.at) (step_rank payoffs steps start n)
              → Greatest payoffs steps start (n + 1) (cond b y x)
          go true k = greatest_new e (ltb-true _ _ (sym k))
          go false k = greatest_old (ltb-false _ _ (sym k))

  -- A cell that the greatest of all does not exceed is one that no cell exceeds.
  pub greatest_top : {x : Float} (g : Greatest payoffs steps start (length steps) x) → Finites payoffs → ((i : ℕ) → T (fits binary64 (get_or payoffs i nan)))
      → ((i : ℕ) → i < length steps → start + get_or steps i 0 < length payoffs)
      → (i : ℕ) → i < length steps → not (greater x (get_or payoffs (start + get_or steps i 0) nan)) ≡ row_top payoffs steps start i
  unfolding row_top
  greatest_top g finites held inside i l =
      ap not (cells_greater payoffs finites (λ i _. held i) _ _ (inside g.at g.inside) (inside i l) g.is refl)
      ∙ same_test _ _ (simp (all_T, below_mem, no_T, ltb_T) (
        λ h j k b. omega (arith, b, g.top j k, at_most _ _ h),
        λ h. h g.at g.inside,
      ))
