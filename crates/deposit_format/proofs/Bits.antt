-- Which bits are a finite f64's, and that the three parts of an f64's bits are its bits (`bits-parts`). Assumes nothing.
use mathlib.Core.Path.{◌≡◌, refl, sym, subst}
use mathlib.Core.Bool.{Bool, true, false, not, cond}
use Prim.Native.Nat.{ℕ, zero, suc, ◌+◌, ◌*◌, ◌/◌, ◌%◌, ◌^◌, ◌<◌}
use native.Mathlib.Omega.{arith}
use lib.Dec.{T, eqb}
use lib.Ieee.{nan, inf, binary64, odd, of_fields, of_bits, to_bits, nan_bits}
use lib.Ieee.Bits.{to_bits-of_bits, nan_bits_is}
use Rattle.payoff_order.specs.Order.{finite}
use Rattle.payoff_order.proofs.Laws.{finite_no_nan}

odd_finite : (d : ℕ) (s : Bool) (q k l : ℕ) → finite (odd d s q k l) ≡ true
unfolding odd finite
odd_finite d s zero k l = refl
odd_finite d s (suc q) k l = refl

-- an exponent's field of ones is that of an infinity or a NaN
ones_not : (s : Bool) (t : Bool) → finite (cond t (inf s) nan) ≡ false
unfolding finite
ones_not s true = refl
ones_not s false = refl

fields_finite : (s : Bool) (x t : ℕ) → finite (of_fields binary64 s x t) ≡ not (eqb x 2047)
unfolding of_fields
fields_finite s zero t = odd_finite 53 s t 0 1074
fields_finite s (suc x) t = go (eqb (suc x) 2047)
  where
    go : (b : Bool) → finite (cond b (cond (eqb t 0) (inf s) nan) (odd 53 s (2 ^ 52 + t) x 1074)) ≡ not b
    go true = ones_not s (eqb t 0)
    go false = odd_finite 53 s (2 ^ 52 + t) x 1074

-- bits are a finite f64's exactly where their exponent's field is not all ones
pub bits_finite : (b : ℕ) → finite (of_bits binary64 b) ≡ not (eqb (b % 2 ^ 63 / 2 ^ 52) 2047)
unfolding of_bits
bits_finite b = fields_finite _ (b % 2 ^ 63 / 2 ^ 52) (b % 2 ^ 52)

-- bits of a finite f64 are no NaN's
pub bits_no_nan : (b : ℕ) → T (finite (of_bits binary64 b)) → T (not (nan_bits binary64 b))
bits_no_nan b h = subst (λ (t : Bool). T (not t)) (sym (nan_bits_is binary64 b)) (finite_no_nan (of_bits binary64 b) h)

-- ---- an f64 and its bits

pub bits_there : (b : ℕ) → b < 2 ^ 64 → T (finite (of_bits binary64 b)) → to_bits binary64 (of_bits binary64 b) ≡ b
bits_there b l h = to_bits-of_bits binary64 b l (finite_no_nan (of_bits binary64 b) h)

-- ---- the three parts

pub bits_parts : (b : ℕ) → b / 2 ^ 60 * 2 ^ 60 + b / 2 ^ 30 % 2 ^ 30 * 2 ^ 30 + b % 2 ^ 30 ≡ b
bits_parts b = omega arith

module _ (a b c : ℕ) (B : b < 2 ^ 30) (C : c < 2 ^ 30) where
  pub top_part : (a * 2 ^ 60 + b * 2 ^ 30 + c) / 2 ^ 60 ≡ a
  top_part = omega arith

  pub next_part : (a * 2 ^ 60 + b * 2 ^ 30 + c) / 2 ^ 30 % 2 ^ 30 ≡ b
  next_part = omega arith

  pub last_part : (a * 2 ^ 60 + b * 2 ^ 30 + c) % 2 ^ 30 ≡ c
  last_part = omega arith
