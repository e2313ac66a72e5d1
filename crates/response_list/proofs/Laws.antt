-- What the records of a list are: the strategies and the payoffs that two outputs of its length are
-- given. A refused call writes nothing. Assumes nothing.
use mathlib.Core.Path.{◌≡◌, refl, ◌∙◌}
use mathlib.Core.List.{List, map, map-map, map-id}
use Prim.Native.Nat.{ℕ}
use lib.ListN.{take}
use lib.Ieee.{Float}
use Rattle.refusal.specs.Told.{refused}
use Rattle.written_lists.specs.Outputs.{written, over}
use Rattle.written_lists.proofs.Outputs.{refused_kept}
use Rattle.utility.specs.Value.{value_of}
use Rattle.payoff_tables.specs.Table.{payoff_at}
use Rattle.responses.specs.Answers.{against, responses, responses_written, response_utilities}
use Rattle.response_list.specs.Responses.{response, records_answer, records_written}
use Rattle.response_list.specs.declared.BestResponse.{BestResponse}

module _ (counts : List ℕ) (payoffs : List Float) (p : ℕ) (opponents : List ℕ) (room : ℕ) where
  abbrev strategies : List ℕ
  strategies = responses_written counts payoffs p opponents room room

  abbrev record_of : ℕ → BestResponse
  record_of s = response s (payoff_at counts payoffs p (against p opponents s))

  -- the records' strategies are those that an output of that length is given,
  pub records_strategies : map (λ (r : BestResponse). r.strategy) (records_written counts payoffs p opponents room) ≡ strategies
  records_strategies = map-map (λ (r : BestResponse). r.strategy) record_of strategies ∙ map-id strategies

  -- and their utilities are the payoffs of these
  pub records_utilities : map (λ (r : BestResponse). value_of r.utility) (records_written counts payoffs p opponents room)
      ≡ response_utilities counts payoffs p opponents strategies
  unfolding response_utilities
  records_utilities = map-map (λ (r : BestResponse). value_of r.utility) record_of strategies

  -- a call that refuses, by 13 too, leaves the list as it was
  pub records_kept : (e : ℕ) → records_answer counts payoffs p opponents room ≡ refused e → (old : List BestResponse)
      → over (records_written counts payoffs p opponents room) old ≡ old
  records_kept e is old = refused_kept (λ t. map record_of (take (written t) (responses counts payoffs p opponents))) (λ _. refl) _ e is old
