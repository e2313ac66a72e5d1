-- The test of `Distribution` says what `Meaning` has (`distribution-law`). Assumes nothing.
use mathlib.Core.Path.{refl}
use mathlib.Core.Bool.{Bool, not, ◌&&◌}
use mathlib.Core.List.{List}
use mathlib.Core.Logic.{◌↔◌}
use lib.Dec.{T}
use lib.Ieee.{Float, binary64, neg, sub, lt}
use Rattle.game.specs.Finite.{all}
use Rattle.payoff_order.specs.Order.{finite}
use Rattle.sums.specs.Sums.{one, rounded_sum, distance}
use Rattle.candidate_input.specs.Input.{tolerable}
use Rattle.candidate_input.proofs.Meaning.{both, none_T, all_law, none_below_law, tolerable_law}
use Rattle.mixed_strategies.specs.Distribution.{sums_to_one, distribution}
use Rattle.mixed_strategies.specs.Meaning.{Distribution}

pub distribution_law : (p : List Float) (tolerance : Float) → T (distribution p tolerance) ↔ Distribution p tolerance
unfolding distribution sums_to_one
distribution_law p t =
    let f : Bool = all finite p in
    let g : Bool = tolerable t in
    let low : Bool = all (λ x. not (lt x (neg t))) p in
    let far : Bool = lt t (distance (sub binary64 (rounded_sum p) one)) in
    let numbers = both f g (all_law finite p) (tolerable_law t) in
    let (to, from) = both (f && g && low) (not far) (both (f && g) low numbers (none_below_law (neg t) p)) (none_T far) in (
      λ h. let (((x, y), z), w) = to h in record { finites = record { long = refl; each = x }; tolerable = y; entries = z; whole = w },
      λ r. from (((r.finites.each, r.tolerable), r.entries), r.whole),
    )
