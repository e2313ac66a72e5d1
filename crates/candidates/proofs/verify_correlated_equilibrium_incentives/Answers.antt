-- `candidates::verify_correlated_equilibrium_incentives` meets its contract: 0.0, raised by player
-- 1's gains and then by player 2's, is the greatest of all. Assumes nothing.
use mathlib.Core.Path.{◌≡◌, sym, ap, ◌∙◌, subst}
use mathlib.Core.Bool.{true}
use lib.Dec.{T}
use lib.Ieee.{Float}
use Rattle.game.specs.Finite.{below}
use Rattle.sums.specs.Inner.{strided}
use Rattle.candidate_input.specs.Input.{well_formed}
use Rattle.candidate_input.specs.Meaning.{WellFormed}
use Rattle.candidate_input.proofs.Meaning.{well_formed_law}
use Rattle.gains.specs.Gains.{gains_of}
use Rattle.gains.specs.Inner.{raise_all}
use Rattle.candidates.proofs.Shape.{rows_span, columns_span}
use Rattle.candidates.proofs.Incentives.{not_formed, raised_is}
use Rattle.candidates.proofs.verify_correlated_equilibrium_incentives.Goals as goal
use Rattle.candidates.proofs.verify_correlated_equilibrium_incentives.Goals.{Else-not-is_well_formed}

said : (c : Else-not-is_well_formed) → let a = c.args in well_formed a.m a.n a.u1.now a.u2.now a.weights.now ≡ true
said c = sym c.is_well_formed.ensures ∙ c.if-not-is_well_formed.false

formed : (c : Else-not-is_well_formed) → let a = c.args in WellFormed a.m a.n a.u1.now a.u2.now a.weights.now
formed c = let a = c.args in (well_formed_law a.m a.n a.u1.now a.u2.now a.weights.now).0 (subst T (sym (said c)) tt)

pub returns-then-not-is_well_formed : goal.returns-then-not-is_well_formed
returns-then-not-is_well_formed c =
    let a = c.args in
    c.infinity.ensures
    ∙ sym (not_formed a.m a.n a.u1.now a.u2.now a.weights.now (sym c.is_well_formed.ensures ∙ c.if-not-is_well_formed.true))

pub raised_player-rows-requires : goal.raised_player-rows-requires
raised_player-rows-requires c =
    let a = c.args in
    let w = formed (goal.at.raised_player-rows-requires c).Else-not-is_well_formed in
    record { count_le_max_actions = w.size.few_rows; spans = rows_span a.m a.n a.u1.now w.first.long; weights_len = w.weighted.long ∙ sym w.first.long }

pub raised_player-requires : goal.raised_player-requires
raised_player-requires c =
    let a = c.args in
    let w = formed (goal.at.raised_player-requires c).Else-not-is_well_formed in
    record { count_le_max_actions = w.size.few_columns; spans = columns_span a.m a.n a.u2.now w.second.long; weights_len = w.weighted.long ∙ sym w.second.long }

pub returns : goal.returns
returns c =
    let a = c.args in
    c.raised_player.ensures
    ∙ ap (λ (b : Float). raise_all b (gains_of (strided a.weights.now 1 a.n) (strided a.u2.now 1 a.n) (below a.m) a.n))
    c.raised_player-rows.ensures
    ∙ raised_is a.m a.n a.u1.now a.u2.now a.weights.now (said (goal.at.returns c).Else-not-is_well_formed)
