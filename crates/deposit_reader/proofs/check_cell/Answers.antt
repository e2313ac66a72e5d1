-- `deposit_reader::check_cell` meets its contract: word by word, as its three words are read.
-- Assumes nothing.
use mathlib.Core.Path.{◌≡◌, refl, sym, ap, ◌∙◌}
use mathlib.Core.Bool.{Bool, true, false, not}
use mathlib.Core.List.{List}
use mathlib.Core.Option.{none}
use Prim.Native.Nat.{ℕ, ◌+◌, ◌*◌, ◌/◌, ◌%◌, ◌^◌, ◌<◌, ◌≤◌}
use native.Mathlib.Omega.{arith}
use borrow.Author.Tests.{eq-eqb, ne_eqb}
use lib.Dec.{eqb}
use lib.ListN.{get_or}
use Rattle.refusal.specs.Refusal.{when}
use Rattle.refusal.specs.declared.NormalFormError.TheVariants.{NonFiniteUtility}
use Rattle.refusal.specs.Told.{values, refused, unless}
use Rattle.refusal.proofs.Told.{told_values, told_refused, handed_on, hands_on}
use Rattle.payoff_order.specs.Order.{finite}
use Rattle.file_words.specs.Words.{words_of, payload_at}
use Rattle.file_words.specs.Faults.{due_fault}
use Rattle.file_words.proofs.Words.{payload_lt}
use Rattle.deposit_format.specs.Deposit.{cell_fault}
use Rattle.deposit_format.proofs.Bits.{bits_finite}
use Rattle.deposit_format.proofs.Faults.{payoff_bits, first_over, second_bad, third_bad, cell_read}
use Rattle.deposit_reader.proofs.check_cell.Goals as goal

not-not : (t : Bool) → not (not t) ≡ t
not-not true = refl
not-not false = refl

-- the three words are read
module _
    (ws : List ℕ)
    (at top next last : ℕ)
    (first : (due_fault ws at 2 ≡ none) × (top ≡ payload_at ws at))
    (low : top ≤ 15)
    (second : (due_fault ws (at + 1) 2 ≡ none) × (next ≡ payload_at ws (at + 1)))
    (third : (due_fault ws (at + 2) 2 ≡ none) × (last ≡ payload_at ws (at + 2)))
  where
    bounds : (top ≤ 15) × (next < 2 ^ 30) × (last < 2 ^ 30)
    bounds = (
      low,
      rw second.1 (payload_lt (get_or ws (at + 1) 0)),
      rw third.1 (payload_lt (get_or ws (at + 2) 0)),
    )

    read : (bits : ℕ) → bits ≡ top * 2 ^ 60 + next * 2 ^ 30 + last → cell_fault ws at ≡ when (eqb (bits % 2 ^ 63 / 2 ^ 52) 2047) NonFiniteUtility
    read bits made =
        cell_read ws at first.0 (omega (arith, first.1, low)) second.0 third.0
        ∙ ap (λ (t : Bool). when (not t) NonFiniteUtility) (ap finite (payoff_bits ws at top next last first.1 second.1 third.1) ∙ bits_finite (top * 2 ^ 60 + next * 2 ^ 30 + last))
        ∙ ap (λ (t : Bool). when t NonFiniteUtility) (not-not (eqb ((top * 2 ^ 60 + next * 2 ^ 30 + last) % 2 ^ 63 / 2 ^ 52) 2047))
        ∙ ap (λ (b : ℕ). when (eqb (b % 2 ^ 63 / 2 ^ 52) 2047) NonFiniteUtility) (sym made)

-- a word that is due was told with its payload
due_told : (ws : List ℕ) (at n : ℕ) → values n ≡ unless (due_fault ws at 2) (payload_at ws at) → (due_fault ws at 2 ≡ none) × (n ≡ payload_at ws at)
due_told ws at n e = told_values (due_fault ws at 2) (payload_at ws at) n e

pub returns-then-top-gt-FIRST_LARGEST : goal.returns-then-top-gt-FIRST_LARGEST
returns-then-top-gt-FIRST_LARGEST c =
    let ws = words_of c.args.bytes.now in
    let at = c.args.place in
    let first = due_told ws at c.in_ok-top.top c.in_ok-top.ensures in
    rw (first_over ws at first.0 (omega (arith, first.1, c.if-top-gt-FIRST_LARGEST.true))) refl

pub joined_bits-bits-requires : goal.joined_bits-bits-requires
joined_bits-bits-requires c =
    let ws = words_of c.args.bytes.now in
    let at = c.args.place in
    bounds ws at _ _ _ (due_told ws at c.in_ok-top.top c.in_ok-top.ensures) c.if-top-gt-FIRST_LARGEST.false
    (due_told ws (at + 1) c.in_ok-next.next c.in_ok-next.ensures)
    (due_told ws (at + 2) c.in_ok-last.last c.in_ok-last.ensures)

pub returns-then-bits-eq2047 : goal.returns-then-bits-eq2047
returns-then-bits-eq2047 c =
    let ws = words_of c.args.bytes.now in
    let at = c.args.place in
    let bits = c.joined_bits-bits.result in
    let all =
    read ws at _ _ _ (due_told ws at c.in_ok-top.top c.in_ok-top.ensures) c.if-top-gt-FIRST_LARGEST.false
    (due_told ws (at + 1) c.in_ok-next.next c.in_ok-next.ensures)
    (due_told ws (at + 2) c.in_ok-last.last c.in_ok-last.ensures)
    bits c.joined_bits-bits.ensures in
    rw (all, eq-eqb (bits % 2 ^ 63 / 2 ^ 52) 2047 c.if-bits-eq2047.true) refl

pub returns-in_err-top : goal.returns-in_err-top
unfolding cell_fault
returns-in_err-top c = hands_on _ _ (due_fault (words_of c.args.bytes.now) c.args.place 2) _ _ _ c.from_residual.ensures.1 c.in_err-top.ensures

pub returns-in_err-next : goal.returns-in_err-next
returns-in_err-next c =
    let ws = words_of c.args.bytes.now in
    let at = c.args.place in
    let first = due_told ws at c.in_ok-top.top c.in_ok-top.ensures in
    let t = told_refused (due_fault ws (at + 1) 2) _ _ c.in_err-next.ensures in
    rw (second_bad ws at first.0 (omega (arith, first.1, c.if-top-gt-FIRST_LARGEST.false)) t.0 t.1) (handed_on _ _ c.from_residual-in_err-next.ensures.1 ∙ ap (λ (n : ℕ). refused n) t.2)

pub returns-in_err-last : goal.returns-in_err-last
returns-in_err-last c =
    let ws = words_of c.args.bytes.now in
    let at = c.args.place in
    let first = due_told ws at c.in_ok-top.top c.in_ok-top.ensures in
    let second = due_told ws (at + 1) c.in_ok-next.next c.in_ok-next.ensures in
    let t = told_refused (due_fault ws (at + 2) 2) _ _ c.in_err-last.ensures in
    rw (third_bad ws at first.0 (omega (arith, first.1, c.if-top-gt-FIRST_LARGEST.false)) second.0 t.0 t.1) (handed_on _ _ c.from_residual-in_err-last.ensures.1 ∙ ap (λ (n : ℕ). refused n) t.2)

pub returns : goal.returns
returns c =
    let ws = words_of c.args.bytes.now in
    let at = c.args.place in
    let bits = c.joined_bits-bits.result in
    let all =
    read ws at _ _ _ (due_told ws at c.in_ok-top.top c.in_ok-top.ensures) c.if-top-gt-FIRST_LARGEST.false
    (due_told ws (at + 1) c.in_ok-next.next c.in_ok-next.ensures)
    (due_told ws (at + 2) c.in_ok-last.last c.in_ok-last.ensures)
    bits c.joined_bits-bits.ensures in
    rw (all, ne_eqb (bits % 2 ^ 63 / 2 ^ 52) 2047 c.if-bits-eq2047.false) refl
