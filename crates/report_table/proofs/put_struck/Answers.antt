-- `report_table::put_struck` meets its contract: the output has room for three numbers of every strike, so a third of those written are the strikes.
-- Assumes nothing.
use mathlib.Core.Path.{◌≡◌, ap, ap₂, ◌∙◌}
use mathlib.Core.List.{List, [], ◌∷◌, ◌++◌, flat_map}
use Prim.Native.Nat.{ℕ, ◌/◌, ◌≤◌}
use native.Mathlib.Omega.{arith}
use lib.ListN.{length, replicate}
use lib.Ieee.{Float}
use Rattle.game.specs.Game.{strategy}
use Rattle.payoff_tables.specs.Meaning.{Table}
use Rattle.outputs.proofs.Puts.{past_all, puts_more, puts_same}
use Rattle.outputs.specs.Put.{past}
use Rattle.digits_and_lines.specs.Text.{decimal, line}
use Rattle.report_layout.specs.Lines.{numbers_line, numbers_lines}
use Rattle.strike_sweeps.specs.Sweeps.{Strike, strike_numbers, strikes_numbers, sweeps}
use Rattle.report_layout.specs.Table.{codes, number_line, struck_text}
use Rattle.report_layout.proofs.Lists.{strikes_length, strikes_lines, strikes_few}
use Rattle.report_table.proofs.put_struck.Goals as goal

-- what the sweeps wrote fits
module _ (counts : List ℕ) (payoffs : List Float) (t : Table counts payoffs) where
  abbrev ks : List Strike
  ks = (sweeps counts payoffs).strikes

  fits : length (strikes_numbers ks) ≤ 1536
  fits = omega (arith, strikes_length ks, strikes_few counts payoffs t)

  number_is : (n : ℕ) → n ≡ past (replicate 1536 0) 0 (strikes_numbers ks) → n / 3 ≡ length ks
  number_is n e =
      let all = past_all (replicate 1536 0) (strikes_numbers ks) fits in
      omega (arith, all, e, strikes_length ks)

pub returns : goal.returns
unfolding struck_text number_line
returns c =
    let old = c.args.out.now in
    let at = c.args.at in
    let counts = c.args.counts.now in
    let payoffs = c.args.payoffs.now in
    let ks : List Strike = (sweeps counts payoffs).strikes in
    let one : ℕ → List ℕ = λ n. line (codes "struck" ∷ decimal n ∷ []) in
    let s = c.sweeps-swept.ensures in
    let d = c.put_number_line-place.ensures in
    let f = c.put_lines.ensures in
    let n = c.sweeps-swept.result.end / 3 in
    let written = c.sweeps-swept.new.struck in
    let e = number_is counts payoffs c.requires c.sweeps-swept.result.end s.end_value in
    let more = flat_map (λ k. numbers_line (strike_numbers k)) ks in
    let lines_are : numbers_lines 3 n written ≡ more =
    ap₂ (numbers_lines 3) e s.struck_after ∙ strikes_lines ks (record { struck = strategy 0 0; dominator = 0 }) (replicate 1536 0) (fits counts payoffs c.requires) in
    let p =
    puts_same old at (ap₂ (λ (xs ys : List ℕ). xs ++ ys) (ap one e) lines_are)
    (puts_more old at (one n) (numbers_lines 3 n written) (d.value, d.out_after) (f.value, f.out_after)) in
    record { value = p.0; out_after = p.1 }
