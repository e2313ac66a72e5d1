-- `deposit_reader::payoff_at` meets its contract: the bits of a cell without a fault are no NaN's.
-- Assumes nothing.
use mathlib.Core.Path.{◌≡◌, sym, subst, ap, ◌∙◌}
use mathlib.Core.List.{List}
use mathlib.Core.Option.{none}
use Prim.Native.Nat.{ℕ, ◌+◌, ◌*◌, ◌^◌}
use native.Mathlib.Omega.{arith}
use lib.Dec.{T}
use lib.ListN.{get_or}
use lib.Ieee.{Float, binary64, of_bits}
use Rattle.payoff_order.specs.Order.{finite}
use Rattle.file_words.specs.Words.{words_of, payload_at}
use Rattle.file_words.proofs.Words.{payload_lt}
use Rattle.deposit_format.specs.Deposit.{payoff_in, cell_fault}
use Rattle.deposit_format.proofs.Bits.{bits_no_nan}
use Rattle.deposit_format.proofs.Faults.{Cell, cell_law, payoff_bits}
use Rattle.deposit_reader.proofs.payoff_at.Goals as goal

-- what the three words are
cell : (ws : List ℕ) (at : ℕ) → cell_fault ws at ≡ none → Cell ws at
cell ws at h = (cell_law ws at).0 h

pub part-top-requires : goal.part-top-requires
part-top-requires c = (omega arith, (cell _ _ c.requires.place_value).first)

pub part-next-requires : goal.part-next-requires
part-next-requires c = (omega arith, (cell _ _ c.requires.place_value).second)

pub part-last-requires : goal.part-last-requires
part-last-requires c = (omega arith, (cell _ _ c.requires.place_value).third)

pub joined_bits-requires : goal.joined_bits-requires
joined_bits-requires c =
    let ws = words_of c.args.bytes.now in
    let at = c.args.place in (
      rw c.part-top.ensures (cell ws at c.requires.place_value).small,
      rw c.part-next.ensures (payload_lt (get_or ws (at + 1) 0)),
      rw c.part-last.ensures (payload_lt (get_or ws (at + 2) 0)),
    )

-- the bits are those of the payoff
made : (ws : List ℕ) (at top next last bits : ℕ) →
    top ≡ payload_at ws at → next ≡ payload_at ws (at + 1) → last ≡ payload_at ws (at + 2) →
    bits ≡ top * 2 ^ 60 + next * 2 ^ 30 + last →
    payoff_in ws at ≡ of_bits binary64 bits
made ws at top next last bits e f g h = payoff_bits ws at top next last e f g ∙ ap (of_bits binary64) (sym h)

pub float_from_bits-result : goal.float_from_bits-result
float_from_bits-result c =
    let ws = words_of c.args.bytes.now in
    let at = c.args.place in
    let bits = c.joined_bits.result in
    bits_no_nan bits
    (subst (λ (x : Float). T (finite x))
    (made ws at _ _ _ bits c.part-top.ensures c.part-next.ensures c.part-last.ensures c.joined_bits.ensures)
    (cell ws at c.requires.place_value).held)

pub returns : goal.returns
returns c =
    let ws = words_of c.args.bytes.now in
    sym (made ws c.args.place _ _ _ c.joined_bits.result c.part-top.ensures c.part-next.ensures c.part-last.ensures c.joined_bits.ensures)
