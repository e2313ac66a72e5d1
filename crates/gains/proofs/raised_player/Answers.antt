use mathlib.Core.Path.{◌≡◌, refl, sym, ap, ◌∙◌}
use mathlib.Core.List.{flat_map}
use Prim.Native.Nat.{ℕ}
use native.Mathlib.Omega.{arith}
use lib.Ieee.{Float, eq}
use Rattle.game.specs.Finite.{below}
use Rattle.gains.specs.Inner.{raise_all}
use Rattle.gains.proofs.Gains.{raise_next, raise_stuck, is_infinity}
use Rattle.gains.proofs.raised_player.Invariants.{from}
use Rattle.gains.proofs.raised_player.Goals as goal

pub loop-s-init : goal.loop-s-init
unfolding flat_map
loop-s-init c = refl

pub returns-then-top-infinity : goal.returns-then-top-infinity
returns-then-top-infinity c =
    let s = c in
    let l = c.loop-s in
    let a = s.args in
    let g = from a.payoffs.now a.weights.now a.count a.own a.others a.other in
    let e = is_infinity l.top (ap (eq l.top) (sym c.infinity.ensures) ∙ c.if-top-infinity.true) in
    e ∙ sym (raise_stuck a.best g l.s a.count l.auto.s-end (sym l.invariant ∙ e))

pub raised_from-top-requires : goal.raised_from-top-requires
raised_from-top-requires c = let s = c in record { s_lt_count = (c.loop-s-test.true, s.requires.count_le_max_actions); spans = s.requires.spans; weights_len = s.requires.weights_len }

pub loop-s-preserved : goal.loop-s-preserved
loop-s-preserved c =
    let s = c in
    let l = c.loop-s in
    let a = s.args in
    let g = from a.payoffs.now a.weights.now a.count a.own a.others a.other in
    c.raised_from-top.ensures ∙ ap (λ (b : Float). raise_all b (g l.s)) l.invariant ∙ sym (raise_next a.best g l.s)

pub returns : goal.returns
returns c =
    let a = c.args in
    let l = c.loop-s in
    let e : l.s ≡ a.count = omega (arith, l.auto.s-end, c.loop-s-test.false) in
    l.invariant ∙ ap (λ (n : ℕ). raise_all a.best (flat_map (from a.payoffs.now a.weights.now a.count a.own a.others a.other) (below n))) e
