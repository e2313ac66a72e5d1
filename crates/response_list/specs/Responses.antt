-- Document 01, "Best responses, dominance, equilibria": the list of best responses as records, the Rust's `Vec<BestResponse>`. Assumes nothing.
use Rattle.std.specs.Prelude.{List, map, ℕ, replicate, Float}
use Rattle.std.specs.Float.Ieee.{of_bits}
use Rattle.std.specs.Float.{binary64}
use Rattle.payoff_tables.specs.Limits.{max_strategies}
use Rattle.payoff_tables.specs.Table.{payoff_at}
use Rattle.responses.specs.Answers.{against, responses_answer, responses_written}
use Rattle.refusal.specs.Told.{Told}
use Rattle.response_list.specs.declared.BestResponse.{BestResponse}

-- the record of a strategy and its payoff
abbrev pub response : ℕ → Float → BestResponse
response s x = record { strategy = s; utility = record { 0 = x } }

-- a list before any record is written
abbrev pub no_records : List BestResponse
no_records = replicate max_strategies (response 0 (of_bits binary64 0))

module _ (counts : List ℕ) (payoffs : List Float) (p : ℕ) (opponents : List ℕ) where
  -- what is answered for a list of the given length: as for two outputs of that length
  abbrev pub records_answer : ℕ → Told ℕ
  records_answer room = responses_answer counts payoffs p opponents room room

  -- the records that are written into such a list: each best response with its payoff
  abbrev pub records_written : ℕ → List BestResponse
  records_written room =
      map (λ s. response s (payoff_at counts payoffs p (against p opponents s))) (responses_written counts payoffs p opponents room room)
