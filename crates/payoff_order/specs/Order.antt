-- Document 01, "The table": which f64s are finite, the order key of an f64, and greater and equal between payoffs.
-- Assumes nothing.
use Rattle.std.specs.Prelude.{Bool, true, false, cond, ◌&&◌, ℕ, ◌^◌, ltb, eqb, ℤ, pos, negsuc, nat_abs, ◌+ℤ◌, Float}
use Rattle.std.proofs.Math.IntN.{sub_ℕ}
use Rattle.std.specs.Int.Signed.{lt_z}
use Rattle.std.specs.Float.{nan, inf, fin, binary64}
use Rattle.std.specs.Float.Ieee.{to_bits}

-- neither a NaN nor an infinity
unfoldable pub finite : Float → Bool
finite nan = false
finite (inf s) = false
finite (fin s m e) = true

-- no NaN
unfoldable pub number : Float → Bool
number nan = false
number (inf s) = true
number (fin s m e) = true

-- the order key, document 01's term, from the 64 bits as a whole number b: b when b < 2^63, else 2^63 − b
abbrev pub key_of : ℕ → ℤ
key_of b = cond (ltb b (2 ^ 63)) (pos b) (sub_ℕ (2 ^ 63) b)

-- the order key of an f64
unfoldable pub key : Float → ℤ
key x = key_of (to_bits binary64 x)

-- the order key plus 2^63, which is not below 0, as a natural number
unfoldable pub rank : Float → ℕ
rank x = nat_abs (key x +ℤ pos (2 ^ 63))

-- whether two whole numbers are the same
abbrev pub eq_z : ℤ → ℤ → Bool
eq_z (pos a) (pos b) = eqb a b
eq_z (pos a) (negsuc b) = false
eq_z (negsuc a) (pos b) = false
eq_z (negsuc a) (negsuc b) = eqb a b

-- x is greater than y: neither is a NaN, and x's key is greater than y's
unfoldable pub greater : Float → Float → Bool
greater x y = number x && number y && lt_z (key y) (key x)

-- x is equal to y: neither is a NaN, and x's key is equal to y's
unfoldable pub equal : Float → Float → Bool
equal x y = number x && number y && eq_z (key x) (key y)
