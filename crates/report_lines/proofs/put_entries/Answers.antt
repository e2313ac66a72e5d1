use mathlib.Core.Path.{◌≡◌, sym, ap, subst}
use mathlib.Core.List.{List, flat_map}
use Prim.Native.Nat.{ℕ, ◌-◌, ◌+◌, ◌*◌, ◌<◌}
use native.Mathlib.Omega.{arith}
use lib.Dec.{T}
use lib.ListN.{length, take, drop}
use lib.Ieee.{Float, nan}
use Rattle.game.specs.Finite.{below}
use Rattle.payoff_order.specs.Order.{finite}
use Rattle.outputs.proofs.Puts.{puts_none, puts_more, puts_same}
use Rattle.report_layout.specs.Lines.{entry_line, part, entry_lines}
use Rattle.report_lines.proofs.Lines.{flat_next, entry_within, part_length_lem, part_at}
use Rattle.report_lines.proofs.put_entries.Goals as goal

abbrev lines_before : List ℕ → List Float → ℕ → ℕ → List ℕ
lines_before choices utilities n i = flat_map (λ j. entry_line (part n choices j) (part n utilities j)) (below i)

pub loop-i-init : goal.loop-i-init
unfolding flat_map
loop-i-init c = puts_none c.args.out.now c.args.at c.within-place.ensures

pub put_entry-place-requires : goal.put_entry-place-requires
put_entry-place-requires c =
    let a = c.args in
    let n = a.players in
    let i = c.loop-i.i in
    let from = i * n in
    let e : from + n - from ≡ n = omega arith in
    let w = entry_within i a.number n (length a.choices.now) c.loop-i-test.true c.requires.players_in_bounds.0 in
    let v = entry_within i a.number n (length a.utilities.now) c.loop-i-test.true c.requires.players_in_bounds.1 in
    record {
      choices_nonzero = rw (part_length_lem a.choices.now n from (from + n - from) e w) c.requires.players_nonzero;
      finites = λ j l.
          let us = a.utilities.now in
          let m : j < n = omega (arith, l, part_length_lem us n from (from + n - from) e v) in
          let most = entry_within i a.number n (a.number * n) c.loop-i-test.true (omega arith) in
          subst (λ (x : Float). T (finite x)) (sym (part_at us n from (from + n - from) e v j nan m)) (c.requires.by_index (from + j) (omega (arith, m, most)));
    }

pub loop-i-preserved : goal.loop-i-preserved
loop-i-preserved c =
    let l = c.loop-i in
    let a = c.args in
    let i = l.i in
    let n = a.players in
    let d = c.put_entry-place.ensures in
    let e : i * n + n - i * n ≡ n = omega arith in
    let one = puts_same l.out l.place (ap (λ (k : ℕ). entry_line (take k (drop (i * n) a.choices.now)) (take k (drop (i * n) a.utilities.now))) e) (d.value, d.out_after) in
    puts_same a.out.now a.at (flat_next (λ j. entry_line (part n a.choices.now j) (part n a.utilities.now j)) i)
    (puts_more a.out.now a.at (lines_before a.choices.now a.utilities.now n i) (entry_line (part n a.choices.now i) (part n a.utilities.now i)) l.invariant one)

pub returns : goal.returns
unfolding entry_lines
returns c =
    let l = c.loop-i in
    let a = c.args in
    let e : l.i ≡ a.number = omega arith in
    let p = puts_same a.out.now a.at (ap (lines_before a.choices.now a.utilities.now a.players) e) l.invariant in
    record { value = p.0; out_after = p.1 }
