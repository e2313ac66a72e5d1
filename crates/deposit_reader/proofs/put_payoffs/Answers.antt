use mathlib.Core.Path.{◌≡◌, sym, ap, ◌∙◌}
use Prim.Native.Nat.{ℕ, ◌+◌, ◌*◌}
use native.Mathlib.Omega.{arith}
use lib.ListN.{length, take}
use lib.Seq.{length-take-le}
use lib.Ieee.{nan}
use Rattle.file_words.specs.Words.{words_of}
use Rattle.deposit_format.specs.Deposit.{payoffs_in, cell_place, payoff_in}
use Rattle.deposit_format.proofs.Tables.{payoffs_length, payoffs_at}
use Rattle.deposit_reader.proofs.Written.{next_written, all_written}
use Rattle.deposit_reader.proofs.put_payoffs.Goals as goal
use Rattle.deposit_reader.proofs.put_payoffs.Goals.{In-loop-i}

long : (c : In-loop-i) → let a = c.args in length (take a.number a.payoffs.now) ≡ a.number
long c = length-take-le c.args.number c.args.payoffs.now c.requires.number_value.2

pub payoff_at-requires : goal.payoff_at-requires
payoff_at-requires c =
    let ws = words_of c.args.bytes.now in
    let i = c.loop-i.i in
    let n = long (goal.at.payoff_at-requires c).In-loop-i in
    let at : 1 + c.args.players + 3 * i ≡ cell_place ws i = ap (λ (n : ℕ). 1 + n + 3 * i) c.requires.players_value.0 in
    record { place_bound = omega (arith, n, c.requires.players_value, c.requires.number_value, c.loop-i-test.true); place_value = rw at (c.requires.by_index i (omega (arith, n, c.loop-i-test.true))) }

pub loop-i-preserved : goal.loop-i-preserved
loop-i-preserved c =
    let l = c.loop-i in
    let ws = words_of c.args.bytes.now in
    let n = long (goal.at.loop-i-preserved c).In-loop-i in
    next_written nan (payoffs_in ws) l.payoff-items l.i _ (omega (arith, l.auto.payoff-items, c.loop-i-test.true)) l.invariant
    (c.payoff_at.ensures
    ∙ ap (λ (n : ℕ). payoff_in ws (1 + n + 3 * l.i)) c.requires.players_value.0
    ∙ sym (payoffs_at ws l.i (omega (arith, n, c.loop-i-test.true, c.requires.number_value))))

pub returns : goal.returns
returns c =
    let l = c.loop-i in
    let a = c.args in
    let ws = words_of a.bytes.now in
    let n : length (take a.number a.payoffs.now) ≡ a.number = length-take-le a.number a.payoffs.now c.requires.number_value.2 in
    all_written nan (payoffs_in ws) l.payoff-items a.payoffs.now a.number (c.requires.number_value.0 ∙ sym (payoffs_length ws)) (l.auto.payoff-items ∙ n)
    (λ k h. l.invariant k (omega (arith, h, n, c.loop-i-test.false)))
