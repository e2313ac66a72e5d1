use mathlib.Core.Path.{◌≡◌, refl, sym, ap, ◌∙◌, subst}
use mathlib.Core.Bool.{true, false}
use mathlib.Core.List.{List, flat_map}
use Prim.Native.Nat.{ℕ, ◌<◌, ◌≤◌}
use native.Mathlib.Numerals.{add-one}
use native.Mathlib.Omega.{arith}
use lib.Dec.{T}
use lib.Ieee.{Float}
use lib.ListN.{length, get_or, replicate, get_or-replicate}
use Rattle.game.specs.Game.{whole}
use Rattle.game.specs.Solution.{dominator}
use Rattle.game.proofs.Ordinal.{marks_read}
use Rattle.refusal.specs.Told.{optional}
use Rattle.payoff_tables.specs.Limits.{max_strategies, max_marks}
use Rattle.payoff_tables.specs.Table.{table_game}
use Rattle.payoff_tables.specs.Meaning.{Shape}
use Rattle.marks.specs.Marks.{marked}
use Rattle.marks.proofs.Marks.{marks_whole}
use Rattle.dominance.specs.Answers.{dominated_of, dominated_strategies}
use Rattle.strict_dominance.proofs.Dominated.{dominated_below, dominated_more, dominated_few, first_length, second_length, collected_none, collected_some}
use Rattle.strict_dominance.proofs.collect.Goals as goal
use Rattle.strict_dominance.proofs.collect.Goals.{In-loop-s, in-Some, in_default}

-- marks on every place are the whole game's
whole-dominator : (cs : List ℕ) (ps : List Float) (p : ℕ) → Shape cs → p < length cs → (s : ℕ) → s < get_or cs p 0
    → dominator (table_game cs ps) (marked (replicate max_marks true)) p s ≡ dominator (table_game cs ps) (whole (table_game cs ps)) p s
unfolding table_game
whole-dominator cs ps p shape mine s l =
    (marks_read (table_game cs ps) (marked (replicate max_marks true)) (whole (table_game cs ps)) (marks_whole cs ps shape)).same_dominator p s mine l

pub loop-s-init : goal.loop-s-init
unfolding flat_map
loop-s-init c = (omega arith, record { number = refl; first = refl; second = refl })

-- no more are written than were looked at, and the outputs keep their lengths, so there is a place for one more
room : (c : In-loop-s)
    → (c.loop-s.number < max_strategies)
    × (length c.loop-s.strategies ≡ max_strategies)
    × (length c.loop-s.lowest ≡ max_strategies)
room c =
    let a = c.args in
    let l = c.loop-s in
    let g = table_game a.counts.now a.payoffs.now in
    let full = c.requires.strategies_len in
    let high = c.requires.table.shape.high a.player c.requires.player_in_bounds in
    let few : l.number ≤ l.s = omega (arith, l.invariant.1.number, dominated_few g (whole g) a.player l.s) in (
      omega (arith, few, c.loop-s-test, high),
      first_length l.invariant.1 (omega (arith, few, l.invariant.0, high, full)) ∙ full.0,
      second_length l.invariant.1 (omega (arith, few, l.invariant.0, high, full)) ∙ full.1,
    )

pub lowest_dominator-requires : goal.lowest_dominator-requires
lowest_dominator-requires c =
    let r = c.requires in record {
      table = r.table;
      marks_len = refl;
      t = λ _ i h. subst T (sym (get_or-replicate max_marks i true false h)) tt;
      profiles_value = r.profiles_value;
      player_in_bounds = r.player_in_bounds;
      strategy_bound = c.loop-s-test.true;
    }

pub bounds-strategies-number : goal.bounds-strategies-number
bounds-strategies-number c = omega (arith, room (goal.at.bounds-strategies-number c).In-loop-s)

pub bounds-lowest-number : goal.bounds-lowest-number
bounds-lowest-number c = omega (arith, room (goal.at.bounds-lowest-number c).In-loop-s)

pub loop-s-preserved : goal.loop-s-preserved
loop-s-preserved c =
    let a = c.args in
    let g = table_game a.counts.now a.payoffs.now in
    let i : ℕ = c.loop-s.s in
    let is : optional c.lowest_dominator.result ≡ dominator g (whole g) a.player i =
    c.lowest_dominator.ensures ∙ whole-dominator a.counts.now a.payoffs.now a.player c.requires.table.shape c.requires.player_in_bounds i c.loop-s-test.true in
    let more = ap (dominated_below g (whole g) a.player) (add-one i) ∙ dominated_more g (whole g) a.player i in
    let full = c.requires.strategies_len in
    let m = c.match-lowest_dominator in (
      omega (arith, c.loop-s-test),
      elim m.branch [
        | in_default w ↦ collected_none c.loop-s.invariant.1 _ i _ more m.number m.strategies m.lowest (sym is ∙ ap optional w.in_default.is) w.number-is w.strategies-is w.lowest-is
        | in-Some w ↦
            collected_some c.loop-s.invariant.1 _ i _ more m.number m.strategies m.lowest _ (sym is ∙ ap optional w.in-Some.is) w.number-is w.strategies-is w.lowest-is
            (omega (arith, (room (goal.at.loop-s-preserved c).In-loop-s).0, full.0)) (omega (arith, (room (goal.at.loop-s-preserved c).In-loop-s).0, full.1))
      ],
    )

pub returns : goal.returns
unfolding dominated_strategies dominated_of table_game
returns c =
    let a = c.args in
    let l = c.loop-s in
    let g = table_game a.counts.now a.payoffs.now in
    let e : dominated_below g (whole g) a.player l.s ≡ dominated_strategies a.counts.now a.payoffs.now a.player =
    let n : l.s ≡ get_or a.counts.now a.player 0 = omega (arith, l.invariant.0, c.loop-s-test) in
    ap (dominated_below g (whole g) a.player) n in
    record { value = rw (← e) l.invariant.1.number; strategies_after = rw (← e) l.invariant.1.first; lowest_after = rw (← e) l.invariant.1.second }
