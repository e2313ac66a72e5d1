-- `deposit_reader::count_at` meets its contract: once the word is there, its payload decides.
-- Assumes nothing.
use mathlib.Core.Path.{◌≡◌, refl, sym, ◌∙◌}
use mathlib.Core.List.{List}
use mathlib.Core.Option.{none}
use Prim.Native.Nat.{ℕ, ◌+◌}
use native.Mathlib.Omega.{arith}
use Rattle.refusal.proofs.Told.{told_values, hands_on}
use Rattle.payoff_tables.proofs.Checks.{count_zero, count_over, count_fits}
use Rattle.file_words.specs.Words.{words_of, payload_at}
use Rattle.file_words.specs.Faults.{due_fault}
use Rattle.deposit_format.specs.Deposit.{count_fault}
use Rattle.deposit_format.proofs.Faults.{count_read}
use Rattle.deposit_reader.proofs.count_at.Goals as goal
use Rattle.deposit_reader.proofs.count_at.Goals.{In_ok-count}

-- the arm where the word is there
module _ (c : In_ok-count) where
  abbrev ws : List ℕ
  ws = words_of c.args.bytes.now

  abbrev p : ℕ
  p = c.args.player

  abbrev count : ℕ
  count = c.in_ok-count.count

  read : (due_fault ws (1 + p) 1 ≡ none) × (count ≡ payload_at ws (1 + p))
  read = told_values (due_fault ws (1 + p) 1) (payload_at ws (1 + p)) count c.in_ok-count.ensures

pub returns-then-count-eq0 : goal.returns-then-count-eq0
returns-then-count-eq0 c = let k = c in rw (count_read (ws (goal.at.returns-then-count-eq0 k).In_ok-count) (p (goal.at.returns-then-count-eq0 k).In_ok-count) (read (goal.at.returns-then-count-eq0 k).In_ok-count).0, count_zero (payload_at (ws (goal.at.returns-then-count-eq0 k).In_ok-count) (1 + p (goal.at.returns-then-count-eq0 k).In_ok-count)) (sym (read (goal.at.returns-then-count-eq0 k).In_ok-count).1 ∙ c.if-count-eq0.true)) refl

pub returns-then-count-gt-MAX_STRATEGIES : goal.returns-then-count-gt-MAX_STRATEGIES
returns-then-count-gt-MAX_STRATEGIES c =
    let k = c in
    rw (count_read (ws (goal.at.returns-then-count-gt-MAX_STRATEGIES k).In_ok-count) (p (goal.at.returns-then-count-gt-MAX_STRATEGIES k).In_ok-count) (read (goal.at.returns-then-count-gt-MAX_STRATEGIES k).In_ok-count).0, count_over (payload_at (ws (goal.at.returns-then-count-gt-MAX_STRATEGIES k).In_ok-count) (1 + p (goal.at.returns-then-count-gt-MAX_STRATEGIES k).In_ok-count)) (omega (arith, (read (goal.at.returns-then-count-gt-MAX_STRATEGIES k).In_ok-count).1, c.if-count-gt-MAX_STRATEGIES.true))) refl

pub returns-in_err-count : goal.returns-in_err-count
unfolding count_fault
returns-in_err-count c =
    hands_on _ _ (due_fault (words_of c.args.bytes.now) (1 + c.args.player) 1) _ _ _ c.from_residual.ensures.1 c.in_err-count.ensures

pub returns : goal.returns
returns c =
    let k = c in
    rw (
      count_read (ws (goal.at.returns k).In_ok-count) (p (goal.at.returns k).In_ok-count) (read (goal.at.returns k).In_ok-count).0,
      count_fits (payload_at (ws (goal.at.returns k).In_ok-count) (1 + p (goal.at.returns k).In_ok-count)) (omega (arith, (read (goal.at.returns k).In_ok-count).1, c.if-count-eq0.false)) (omega (arith, (read (goal.at.returns k).In_ok-count).1, c.if-count-gt-MAX_STRATEGIES.false)),
      (read (goal.at.returns k).In_ok-count).1,
    )
    refl
