-- Numbers computed by the definitions alone: the ends of both ranges, and some between. Assumes
-- nothing.
use mathlib.Core.Path.{refl}
use lib.Dec.{lit≤}
use lib.IntN.{pos, negsuc}
use lib.Ieee.{binary64, of_bits}
use Rattle.whole_numbers.specs.Whole.{Times}
use Rattle.whole_numbers.specs.Gains.{GridPayoff, GridWeight}

record Computed : Type 0 where
  -- payoffs: 2^20, −2^20, −3, and −0.0, which is 0
  most : GridPayoff (of_bits binary64 0x4130_0000_0000_0000) (pos 1048576)
  least : GridPayoff (of_bits binary64 0xc130_0000_0000_0000) (negsuc 1048575)
  minus_three : GridPayoff (of_bits binary64 0xc008_0000_0000_0000) (negsuc 2)
  minus_zero : GridPayoff (of_bits binary64 0x8000_0000_0000_0000) (pos 0)
  -- weights: 1.0, 0.75, 1/65,536 and −0.0, in parts
  all_parts : GridWeight (of_bits binary64 0x3ff0_0000_0000_0000) 65536
  three_quarters : GridWeight (of_bits binary64 0x3fe8_0000_0000_0000) 49152
  one_part : GridWeight (of_bits binary64 0x3ef0_0000_0000_0000) 1
  no_parts : GridWeight (of_bits binary64 0x8000_0000_0000_0000) 0
  -- twice a half is 1
  half : Times 2 (of_bits binary64 0x3fe0_0000_0000_0000) (pos 1)

computed : Computed
unfolding of_bits
computed =
    record {
      most = record { whole = refl; most = lit≤ tt };
      least = record { whole = refl; most = lit≤ tt };
      minus_three = record { whole = refl; most = lit≤ tt };
      minus_zero = record { whole = refl; most = lit≤ tt };
      all_parts = record { whole = refl; most = lit≤ tt };
      three_quarters = record { whole = refl; most = lit≤ tt };
      one_part = record { whole = refl; most = lit≤ tt };
      no_parts = record { whole = refl; most = lit≤ tt };
      half = refl;
    }
