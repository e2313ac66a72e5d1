-- `deposit_writer::put_payoff` meets its contract: the first word and the pair of the other two,
-- put one after the other. Assumes nothing.
use mathlib.Core.Path.{◌≡◌, refl, sym, ap, ◌∙◌, subst}
use mathlib.Core.List.{List, [], ◌∷◌}
use Prim.Native.Nat.{ℕ, ◌+◌, ◌*◌, ◌/◌, ◌%◌, ◌^◌, ◌<◌}
use native.Mathlib.Omega.{arith}
use lib.Dec.{T}
use lib.ListN.{length}
use lib.Ieee.Bits.{to_bits-lt}
use lib.Ieee.{Float, binary64, to_bits}
use Rattle.payoff_order.proofs.Laws.{finite_no_nan}
use Rattle.file_words.specs.Words.{word}
use Rattle.deposit_format.specs.Deposit.{payoff_words}
use Rattle.deposit_writer.specs.Put.{words_put}
use Rattle.deposit_writer.proofs.Puts.{put_length, put_more}
use Rattle.deposit_writer.proofs.put_payoff.Goals as goal

pub float_to_bits-bits : goal.float_to_bits-bits
float_to_bits-bits c = finite_no_nan c.args.x c.requires.0

-- the second and the third word, from their number
module _ (a b n : ℕ) (B : b < 2 ^ 30) (is : n ≡ word 2 a * 2 ^ 32 + word 2 b) where
  high : n / 2 ^ 32 ≡ word 2 a
  unfolding word
  high = omega (arith, is)

  low : n % 2 ^ 32 ≡ word 2 b
  unfolding word
  low = omega (arith, is)

-- the three words, put one after the other
put_three : (x : Float) (bytes : List ℕ) (at n : ℕ) →
    n ≡ word 2 (to_bits binary64 x / 2 ^ 30 % 2 ^ 30) * 2 ^ 32 + word 2 (to_bits binary64 x % 2 ^ 30) →
    words_put (words_put bytes at (word 2 (to_bits binary64 x / 2 ^ 60) ∷ [])) (at + 1) (n / 2 ^ 32 ∷ n % 2 ^ 32 ∷ []) ≡ words_put bytes at (payoff_words x)
unfolding payoff_words
put_three x bytes at n is =
    let b = to_bits binary64 x in
    let small : b % 2 ^ 30 < 2 ^ 30 = omega arith in
    put_more bytes at (at + 1) (word 2 (b / 2 ^ 60) ∷ []) (n / 2 ^ 32 ∷ n % 2 ^ 32 ∷ []) refl
    ∙ ap (λ (w : ℕ). words_put bytes at (word 2 (b / 2 ^ 60) ∷ w ∷ n % 2 ^ 32 ∷ [])) (high (b / 2 ^ 30 % 2 ^ 30) (b % 2 ^ 30) n small is)
    ∙ ap (λ (w : ℕ). words_put bytes at (word 2 (b / 2 ^ 60) ∷ word 2 (b / 2 ^ 30 % 2 ^ 30) ∷ w ∷ [])) (low (b / 2 ^ 30 % 2 ^ 30) (b % 2 ^ 30) n small is)

pub overflow_cast-bits : goal.overflow_cast-bits
overflow_cast-bits c = omega (arith, to_bits-lt binary64 c.args.x (subst T (sym c.well_formed.0.1) tt))

pub put_word-requires : goal.put_word-requires
put_word-requires c = (omega arith, omega (arith, to_bits-lt binary64 c.args.x (subst T (sym c.well_formed.0.1) tt)), omega (arith, c.requires.1))

pub put_pair-requires : goal.put_pair-requires
put_pair-requires c =
    let once = ap length c.put_word.ensures ∙ put_length c.args.bytes.now c.args.place (word 2 (to_bits binary64 c.args.x / 2 ^ 60) ∷ []) in
    omega (arith, once, c.requires.1)

pub returns : goal.returns
returns c =
    c.put_pair.ensures
    ∙ ap (λ (r : List ℕ). words_put r (c.args.place + 1) (c.pair.result / 2 ^ 32 ∷ c.pair.result % 2 ^ 32 ∷ [])) c.put_word.ensures
    ∙ put_three c.args.x c.args.bytes.now c.args.place c.pair.result c.pair.ensures
