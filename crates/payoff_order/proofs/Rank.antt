-- The rank is the order key plus 2^63 (`rank_is`) and a number of 64 bits (`rank-64`), so ranks are in the order of the keys (`rank_lt`,
-- `rank-eqb`, `rank-eq`). True because the bits are below 2^64, so that a key is at least −2^63, and adding 2^63 keeps order. Assumes nothing.
use mathlib.Core.Path.{◌≡◌, sym, ap, ◌∙◌, subst}
use mathlib.Core.Bool.{cond}
use mathlib.Core.Logic.{◌↔◌, ⊎_elim}
use Prim.Native.Nat.{ℕ, suc, ◌+◌, ◌-◌, ◌^◌, ◌≤◌, ◌<◌}
use native.Mathlib.Nat.{add_comm}
use native.Mathlib.Omega.{arith}
use lib.Dec.{T, ltb, eqb}
use lib.IntN.{ℤ, pos, negsuc, nat_abs, ◌+ℤ◌}
use lib.Signed.{lt_z}
use lib.Ieee.{Float, binary64, fits, to_bits}
use lib.Ieee.Bits.{to_bits-lt}
use borrow.Author.Tests.{lt-ltb, le-ltb}
use Rattle.game.proofs.Finite.{eqb_T, le_or_lt, same_test}
use Rattle.payoff_order.specs.Order.{key_of, key, rank, eq_z}

-- r is z + 2^63
abbrev Placed : ℤ → ℕ → Type 0
Placed (pos a) r = r ≡ 2 ^ 63 + a
Placed (negsuc a) r = r + suc a ≡ 2 ^ 63

plus : (z : ℤ) (r : ℕ) → Placed z r → pos r ≡ z +ℤ pos (2 ^ 63)
plus (pos a) r h = ap pos (h ∙ add_comm (2 ^ 63) a)
plus (negsuc a) r h = let k : suc a ≤ 2 ^ 63 = omega arith in simp (le-ltb (2 ^ 63) (suc a) k) (ap pos (omega arith))

-- ---- the rank by the bits b

abbrev pub rank_of : ℕ → ℕ
rank_of b = cond (ltb b (2 ^ 63)) (2 ^ 63 + b) (2 ^ 64 - b)

keyed : (b : ℕ) → b < 2 ^ 64 → Placed (key_of b) (rank_of b)
keyed b h =
    ⊎_elim
    (λ (k : 2 ^ 63 ≤ b).
    ⊎_elim (λ (l : b ≤ 2 ^ 63). simp (le-ltb b (2 ^ 63) k, le-ltb (2 ^ 63) b l) (omega arith))
    (λ (l : 2 ^ 63 < b). simp (le-ltb b (2 ^ 63) k, lt-ltb (2 ^ 63) b l) (omega arith)) (le_or_lt b (2 ^ 63)))
    (λ (k : b < 2 ^ 63). simp (lt-ltb b (2 ^ 63) k)) (le_or_lt (2 ^ 63) b)

rank_of_64 : (b : ℕ) → rank_of b < 2 ^ 64
rank_of_64 b =
    ⊎_elim (λ (k : 2 ^ 63 ≤ b). simp (le-ltb b (2 ^ 63) k) (omega arith))
    (λ (k : b < 2 ^ 63). simp (lt-ltb b (2 ^ 63) k) (omega arith)) (le_or_lt (2 ^ 63) b)

pub rank_bits : (x : Float) → T (fits binary64 x) → rank x ≡ rank_of (to_bits binary64 x)
unfolding key rank
rank_bits x h =
    let b = to_bits binary64 x in
    sym (ap nat_abs (plus (key_of b) (rank_of b) (keyed b (to_bits-lt binary64 x h))))

placed : (x : Float) → T (fits binary64 x) → Placed (key x) (rank x)
unfolding key
placed x h = subst (λ (r : ℕ). Placed (key x) r) (sym (rank_bits x h)) (keyed (to_bits binary64 x) (to_bits-lt binary64 x h))

-- ---- order and equality, of two whole numbers and of the natural numbers 2^63 above them

-- a test of order that holds of a and b exactly where it holds of c and d
same_lt : (a b c d : ℕ) → (a < b → c < d) → (b ≤ a → d ≤ c) → ltb a b ≡ ltb c d
same_lt a b c d p q =
    ⊎_elim (λ (h : b ≤ a). le-ltb a b h ∙ sym (le-ltb c d (q h))) (λ (h : a < b). lt-ltb a b h ∙ sym (lt-ltb c d (p h))) (le_or_lt b a)

order : (z z' : ℤ) (r r' : ℕ) → Placed z r → Placed z' r' → lt_z z z' ≡ ltb r r'
order (pos a) (pos b) r r' p q = same_lt a b r r' (λ h. omega arith) (λ h. omega arith)
order (pos a) (negsuc b) r r' p q = sym (le-ltb r r' (omega arith))
order (negsuc a) (pos b) r r' p q = sym (lt-ltb r r' (omega arith))
order (negsuc a) (negsuc b) r r' p q = same_lt b a r r' (λ h. omega arith) (λ h. omega arith)

one_rank : (z : ℤ) (r r' : ℕ) → Placed z r → Placed z r' → r ≡ r'
one_rank (pos a) r r' p q = omega arith
one_rank (negsuc a) r r' p q = omega arith

one_key : (z z' : ℤ) (r : ℕ) → Placed z r → Placed z' r → z ≡ z'
one_key (pos a) (pos b) r p q = ap pos (omega arith)
one_key (pos a) (negsuc b) r p q = absurd (omega arith)
one_key (negsuc a) (pos b) r p q = absurd (omega arith)
one_key (negsuc a) (negsuc b) r p q = ap negsuc (omega arith)

-- the test of equality tells equality
pub eq_z_T : (a b : ℤ) → T (eq_z a b) ↔ (a ≡ b)
eq_z_T (pos a) (pos b) = (λ h. ap pos ((eqb_T a b).0 h), λ e. (eqb_T a b).1 (cc))
eq_z_T (pos a) (negsuc b) = (λ h. absurd h, λ e. let z : ◌≡◌ {A = ℕ} 0 1 = cc in absurd (omega arith))
eq_z_T (negsuc a) (pos b) = (λ h. absurd h, λ e. let z : ◌≡◌ {A = ℕ} 0 1 = cc in absurd (omega arith))
eq_z_T (negsuc a) (negsuc b) = (λ h. ap negsuc ((eqb_T a b).0 h), λ e. (eqb_T a b).1 (cc))

-- ---- the laws

pub rank_is : (x : Float) → T (fits binary64 x) → pos (rank x) ≡ key x +ℤ pos (2 ^ 63)
rank_is x h = plus (key x) (rank x) (placed x h)

pub rank_64 : (x : Float) → T (fits binary64 x) → rank x < 2 ^ 64
rank_64 x h = subst (λ (r : ℕ). r < 2 ^ 64) (sym (rank_bits x h)) (rank_of_64 (to_bits binary64 x))

module _ (x y : Float) (h : T (fits binary64 x)) (k : T (fits binary64 y)) where
  pub rank_lt : lt_z (key x) (key y) ≡ ltb (rank x) (rank y)
  rank_lt = order (key x) (key y) (rank x) (rank y) (placed x h) (placed y k)

  pub rank_eq : (key x ≡ key y) ↔ (rank x ≡ rank y)
  rank_eq = (
    λ e. one_rank (key y) (rank x) (rank y) (subst (λ (z : ℤ). Placed z (rank x)) e (placed x h)) (placed y k),
    λ e. one_key (key x) (key y) (rank y) (subst (λ (r : ℕ). Placed (key x) r) e (placed x h)) (placed y k),
  )

  pub rank_eqb : eq_z (key x) (key y) ≡ eqb (rank x) (rank y)
  rank_eqb =
      same_test (eq_z (key x) (key y)) (eqb (rank x) (rank y)) (
        λ t. (eqb_T (rank x) (rank y)).1 (rank_eq.0 ((eq_z_T (key x) (key y)).0 t)),
        λ t. (eq_z_T (key x) (key y)).1 (rank_eq.1 ((eqb_T (rank x) (rank y)).0 t)),
      )
