-- Small candidates computed: each is true by the definitions alone. The dilemma is for other crates
-- too. Assumes nothing.
use mathlib.Core.Path.{◌≡◌, refl}
use mathlib.Core.Bool.{true, false}
use mathlib.Core.List.{List, [], ◌∷◌, flat_map}
use lib.Ieee as Ieee
use lib.Ieee.{Float, nan, inf, binary64, of_bits}
use Rattle.payoff_order.specs.Order.{finite}
use Rattle.sums.specs.Sums.{zero, one, rounded_sum, distance}
use Rattle.candidate_input.specs.Input.{well_formed, claimed}
use Rattle.candidate_input.specs.declared.Claim.{Claim}
use Rattle.gains.specs.Gains.{answer_of}
use Rattle.mixed_strategies.specs.Distribution.{sums_to_one, distribution}
use Rattle.candidates.specs.Checks.{gains, incentives, verdict_of, minimax}

-- ---- some f64s by their bits

minus_zero : Float
minus_zero = of_bits binary64 0x8000_0000_0000_0000

minus_one : Float
minus_one = of_bits binary64 0xbff0_0000_0000_0000

half : Float
half = of_bits binary64 0x3fe0_0000_0000_0000

unfoldable pub two : Float
two = of_bits binary64 0x4000_0000_0000_0000

unfoldable pub three : Float
three = of_bits binary64 0x4008_0000_0000_0000

-- 10^308 and −10^308
huge : Float
huge = of_bits binary64 0x7fe1_ccf3_85eb_c8a0

minus_huge : Float
minus_huge = of_bits binary64 0xffe1_ccf3_85eb_c8a0

-- 2^53 and −2^53, 1 − 2^-53, and 3 × 2^-55
wide : Float
wide = of_bits binary64 0x4340_0000_0000_0000

minus_wide : Float
minus_wide = of_bits binary64 0xc340_0000_0000_0000

below_one : Float
below_one = of_bits binary64 0x3fef_ffff_ffff_ffff

small : Float
small = of_bits binary64 0x3c98_0000_0000_0000

-- ---- the prisoner's dilemma, (2,2) (0,3) (3,0) (1,1), by player

unfoldable pub first : List Float
first = two ∷ zero ∷ three ∷ one ∷ []

unfoldable pub second : List Float
second = two ∷ three ∷ zero ∷ one ∷ []

-- all weight on 0 0, and on 1 1
unfoldable pub at_start : List Float
at_start = one ∷ zero ∷ zero ∷ zero ∷ []

unfoldable pub at_end : List Float
at_end = zero ∷ zero ∷ zero ∷ one ∷ []

-- matching pennies, player 1's payoffs, and both vectors
pennies : List Float
pennies = one ∷ minus_one ∷ minus_one ∷ one ∷ []

halves : List Float
halves = half ∷ half ∷ []

-- a payoff at 1 1 alone
corner : List Float
corner = zero ∷ zero ∷ zero ∷ one ∷ []

nothing : List Float
nothing = zero ∷ zero ∷ zero ∷ zero ∷ []

claim : Float → Float → Claim
claim v t = record { value = v; tolerance = t }

record Computed : Type 0 where
  -- the sum is taken in order: 1 is lost in 2^53, and not after 2^53 is gone
  ascending : rounded_sum (wide ∷ one ∷ minus_wide ∷ []) ≡ zero
  another_order : rounded_sum (wide ∷ minus_wide ∷ one ∷ []) ≡ one
  -- 1 is to be had from 0 0, and nothing from the equilibrium
  gain : incentives 2 2 first second at_start ≡ one
  none : incentives 2 2 first second at_end ≡ zero
  -- player 1 gains by another row, player 2 by another column, each by the own table
  by_rows : incentives 2 2 corner nothing (zero ∷ one ∷ zero ∷ zero ∷ []) ≡ one
  by_columns : incentives 2 2 nothing corner (zero ∷ zero ∷ one ∷ zero ∷ []) ≡ one
  -- zero weights are not skipped: 0 × infinity is no number
  overflow : incentives 2 1 (huge ∷ minus_huge ∷ []) (zero ∷ zero ∷ []) (zero ∷ zero ∷ []) ≡ inf false
  -- −0.0 is a weight, and the answer is +0.0; a negative weight, a wrong length, a NaN and no rows
  -- are answered by infinity
  minus_weight : incentives 2 1 (one ∷ zero ∷ []) (zero ∷ zero ∷ []) (minus_zero ∷ minus_zero ∷ []) ≡ zero
  negative : incentives 1 1 (one ∷ []) (one ∷ []) (minus_one ∷ []) ≡ inf false
  short : incentives 1 2 (one ∷ []) (one ∷ []) (one ∷ []) ≡ inf false
  not_a_number : incentives 1 1 (nan ∷ []) (one ∷ []) (one ∷ []) ≡ inf false
  none_at_all : incentives 0 1 [] [] [] ≡ inf false
  -- the tolerance may be the gain itself, and is not compared strictly; it is finite
  just : verdict_of 2 2 first second at_start one ≡ true
  over : verdict_of 2 2 first second at_start half ≡ false
  minus_tolerance : verdict_of 2 2 first second at_end minus_zero ≡ true
  infinite_tolerance : verdict_of 2 2 first second at_end (inf false) ≡ false
  -- matching pennies has the value 0, and no other; the vectors are its solution; −0.0 is a
  -- tolerance
  value : minimax 2 2 pennies halves halves (claim zero zero) ≡ true
  other_value : minimax 2 2 pennies halves halves (claim one zero) ≡ false
  other_vector : minimax 2 2 pennies halves (one ∷ zero ∷ []) (claim zero zero) ≡ false
  minus_claim : minimax 2 2 pennies halves halves (claim minus_zero minus_zero) ≡ true
  -- value − tolerance is rounded, here down to the payoff; value + tolerance may be an infinity,
  -- which passes
  rounded : minimax 1 1 (below_one ∷ []) (one ∷ []) (one ∷ []) (claim one small) ≡ true
  exactly : minimax 1 1 (below_one ∷ []) (one ∷ []) (one ∷ []) (claim one zero) ≡ false
  unbounded : minimax 1 1 (huge ∷ []) (one ∷ []) (one ∷ []) (claim huge huge) ≡ true

computed : Computed
unfolding flat_map Ieee.of_bits Ieee.add Ieee.sub Ieee.mul Ieee.neg Ieee.lt finite distance well_formed answer_of gains incentives verdict_of sums_to_one distribution claimed minimax minus_zero minus_one half two three huge minus_huge wide minus_wide below_one small first second at_start at_end pennies halves corner nothing claim
computed = record {
  ascending = refl;
  another_order = refl;
  gain = refl;
  none = refl;
  by_rows = refl;
  by_columns = refl;
  overflow = refl;
  minus_weight = refl;
  negative = refl;
  short = refl;
  not_a_number = refl;
  none_at_all = refl;
  just = refl;
  over = refl;
  minus_tolerance = refl;
  infinite_tolerance = refl;
  value = refl;
  other_value = refl;
  other_vector = refl;
  minus_claim = refl;
  rounded = refl;
  exactly = refl;
  unbounded = refl;
}
