-- Products of counts that a loop takes one at a time: what is done, what is left, and that max_players counts of max_strategies, and one factor more, fit a number of 64 bits.
-- Assumes nothing.
use mathlib.Core.Path.{◌≡◌, sym, ◌∙◌}
use mathlib.Core.List.{List, [], ◌∷◌}
use Prim.Native.Nat.{ℕ, suc, ◌+◌, ◌*◌, ◌^◌, ◌≤◌, ◌<◌, zero-le, suc-le-suc}
use native.Mathlib.Nat.{mul-le-mul, pow-suc, pow-le-pow_right, le_trans, mul-one, mul_assoc, mul-pos}
use native.Mathlib.Numerals.{add-one}
use native.Mathlib.Omega.{arith}
use lib.ListN.{length, get_or, drop}
use lib.Seq.{drop-cons, drop-length}
use Rattle.game.specs.Finite.{product}
use Rattle.payoff_tables.specs.Limits.{max_players, max_strategies}

-- one count more
pub product_more : (cs : List ℕ) (p m n : ℕ) → p < length cs → m * product (drop p cs) ≡ n → m * get_or cs p 0 * product (drop (p + 1) cs) ≡ n
product_more cs p m n h e = rw (mul_assoc m (get_or cs p 0), add-one p) (rw (drop-cons cs p 0 h) at e)

-- none left
pub product_end : (cs : List ℕ) (p m : ℕ) → p ≡ length cs → m * product (drop p cs) ≡ product cs → m ≡ product cs
product_end cs p m h e = sym (mul-one m) ∙ (rw (h, drop-length) at e)

pub power_more : (m c p : ℕ) → m ≤ max_strategies ^ p → c ≤ max_strategies → m * c ≤ max_strategies ^ (p + 1)
power_more m c p h k = rw (add-one, pow-suc) (mul-le-mul h k)

-- a product of at most max_players counts, and one factor more
pub power_cap : (m c p : ℕ) → m ≤ max_strategies ^ p → p ≤ max_players → c ≤ max_strategies → m * c ≤ max_strategies ^ suc max_players
power_cap m c p h l k = mul-le-mul (le_trans h (pow-le-pow_right (omega arith) l)) k

-- counts above 0 have a product above 0
pub product_positive : (cs : List ℕ) → ((p : ℕ) → p < length cs → 0 < get_or cs p 0) → 0 < product cs
product_positive [] h = omega arith
product_positive (c ∷ cs) h = mul-pos (h 0 (suc-le-suc zero-le)) (product_positive cs (λ p l. h (suc p) (suc-le-suc l)))
