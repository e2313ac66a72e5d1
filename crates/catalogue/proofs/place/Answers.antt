-- `catalogue::place` meets its contract. Assumes nothing.
use Rattle.std.proofs.Common.{rules, tests, ◌≡◌, ap, ◌∙◌, ℕ, eqb}
use Rattle.std.specs.Prelude.{position}
use Rattle.std.proofs.lemmas.Iterator.{YieldsList-from_slice}
use Rattle.std.proofs.lemmas.Iterator.Search.{position_from_yields_List}
use Rattle.refusal.specs.Told.{optional}
use Rattle.catalogue.proofs.Places.{position_place}
use Rattle.catalogue.proofs.place.Goals as goal

pub returns : goal.returns
returns c =
    let test = λ (k : ℕ). eqb k c.args.key in
    let found : c.position.result ≡ position test c.args.keys.now =
    position_from_yields_List test _ _ c.position.result c.position.ensures.ran (YieldsList-from_slice _ c.iter.ensures.rest) (λ x b q k. search (rules, tests)) in
    ap optional found ∙ position_place c.args.keys.now c.args.key
