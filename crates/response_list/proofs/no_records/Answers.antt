-- `response_list::no_records` meets its contract: 0.0 is finite, by computation. Assumes nothing.
use mathlib.Core.Path.{ap}
use lib.Ieee.{Float, of_bits}
use lib.ListN.{replicate}
use Rattle.payoff_order.specs.Order.{finite}
use Rattle.payoff_tables.specs.Limits.{max_strategies}
use Rattle.response_list.specs.Responses.{response}
use Rattle.response_list.proofs.no_records.Goals as goal

pub of_finite-requires : goal.of_finite-requires
unfolding finite of_bits
of_finite-requires c = tt

pub returns : goal.returns
returns c = ap (λ (x : Float). replicate max_strategies (response 0 x)) c.of_finite.ensures
