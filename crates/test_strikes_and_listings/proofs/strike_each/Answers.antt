use mathlib.Core.Path.{◌≡◌, ap, subst⁻¹}
use mathlib.Core.Bool.{Bool, true, false, cond}
use mathlib.Core.List.{List}
use Prim.Native.Nat.{ℕ, ◌+◌, ◌≤◌, ◌<◌}
use native.Mathlib.Omega.{arith}
use lib.ListN.{length, get_or}
use Rattle.game.specs.Game.{Strategy, strategy}
use Rattle.refusal.specs.Told.{told, tells}
use Rattle.strike_chains.specs.Answers.{calls_of}
use Rattle.strike_chains.proofs.Written.{calls_length, calls_at}
use Rattle.test_strikes_and_listings.proofs.Calls.{Far, far_none, far_more, far_all}
use Rattle.test_strikes_and_listings.proofs.strike_each.Goals as goal
use Rattle.test_strikes_and_listings.proofs.strike_each.Goals.{At-loop-i, In-loop-i}

module _ (l : At-loop-i) where
  abbrev calls : List Strategy
  calls = calls_of l.args.players.now l.args.strategies.now

  -- as many calls as the shorter list has
  lists : (length calls ≡ l.min-number.result) × (length calls ≤ length l.args.players.now) × (length calls ≤ length l.args.strategies.now)
  lists = let e = calls_length l.args.players.now l.args.strategies.now in (omega (arith, e, l.min-number.ensures), omega (arith, e), omega (arith, e))

-- the call that is made
under : (n : In-loop-i) → length (calls_of n.args.players.now n.args.strategies.now) ≡ n.min-number.result → n.loop-i.i < length (calls_of n.args.players.now n.args.strategies.now)
under n e = omega (arith, n.loop-i-test, e)

pub loop-i-init : goal.loop-i-init
loop-i-init c = far_none c.args.counts.now c.args.payoffs.now c.args.survivors (calls_of c.args.players.now c.args.strategies.now)

pub overflow_add-accepted : goal.overflow_add-accepted
overflow_add-accepted c =
    omega (arith, c.loop-i.invariant.few, c.loop-i-test.true, c.one_if_accepted-accepted.ensures, one (tells (told c.strike-struck.result.answer)))
  where
    one : (t : Bool) → cond t 1 0 ≤ 1
    one true = omega arith
    one false = omega arith

pub loop-i-preserved : goal.loop-i-preserved
loop-i-preserved c =
    let s = c.args in
    let cs : List Strategy = calls_of s.players.now s.strategies.now in
    let e = c.strike-struck.ensures in
    let i : ℕ = c.loop-i.i in
    let call : Strategy = strategy (get_or s.players.now i 0) (get_or s.strategies.now i 0) in
    let u : i < length cs = under (goal.at.loop-i-preserved c).In-loop-i (lists (goal.at.loop-i-preserved c).At-loop-i).0 in
    subst⁻¹ (Far s.counts.now s.payoffs.now s.survivors cs (i + 1) c.strike-struck.result.survivors)
    (ap (λ (k : ℕ). c.loop-i.accepted + k) c.one_if_accepted-accepted.ensures)
    (far_more s.counts.now s.payoffs.now s.survivors cs c.loop-i.invariant u call
    (calls_at s.players.now s.strategies.now i call u) _ e.answer_value _ e.survivors_value)

pub returns : goal.returns
returns c =
    let s = c.args in
    let r = far_all s.counts.now s.payoffs.now s.survivors (calls_of s.players.now s.strategies.now) c.loop-i.invariant (omega (arith, c.loop-i-test, (lists (goal.at.returns c).At-loop-i).0)) in
    record { accepted_value = r.0; survivors_value = r.1 }
