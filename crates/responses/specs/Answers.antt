-- What `best_responses` answers and writes: the definitions that its contract names. Assumes nothing.
use Rattle.std.specs.Prelude.{not, ◌&&◌, List, ◌∷◌, ◌++◌, map, ℕ, ◌-◌, ltb, eqb, length, get_or, take, drop, Float}
use Rattle.game.specs.Finite.{below}
use Rattle.game.specs.Game.{choice, whole}
use Rattle.game.specs.Solution.{best_responses}
use Rattle.refusal.specs.Refusal.{Refusal, when, ◌then◌, each}
use Rattle.refusal.specs.Told.{Told, unless}
use Rattle.refusal.specs.declared.NormalFormError.TheVariants.{OpponentProfileCount, InvalidOpponentStrategy}
use Rattle.written_lists.specs.Outputs.{room_refusal, written}
use Rattle.payoff_tables.specs.Table.{payoff_at, table_game}
use Rattle.payoff_tables.specs.Checks.{table_refusal, player_refusal}

-- the profile in which player p chooses s and the others, in player order with p's own place skipped, as given
abbrev pub against : ℕ → List ℕ → ℕ → List ℕ
against p opponents s = take p opponents ++ (s ∷ drop p opponents)

-- number of opponents given differs from P − 1 (9), then an opponent's choice not below its count (10) in player order
unfoldable pub opponents_refusal : List ℕ → ℕ → List ℕ → Refusal
opponents_refusal counts p opponents =
    when (not (eqb (length opponents) (length counts - 1))) OpponentProfileCount
    then each
    (λ q. when (not (eqb q p) && not (ltb (choice (against p opponents 0) q) (get_or counts q 0))) InvalidOpponentStrategy)
    (below (length counts))

module _ (counts : List ℕ) (payoffs : List Float) (p : ℕ) (opponents : List ℕ) where
  -- all best responses of player p to the opponents' choices, ascending: p's own place, here 0, is not read
  unfoldable pub responses : List ℕ
  responses = best_responses (table_game counts payoffs) (whole (table_game counts payoffs)) p (against p opponents 0)

  -- the payoff of each
  unfoldable pub response_utilities : List ℕ → List Float
  response_utilities = map (λ s. payoff_at counts payoffs p (against p opponents s))

  -- their number, for outputs of lengths a and b, or 1 to 7, then 8, then 9, 10 in player order, last 13
  unfoldable pub responses_answer : ℕ → ℕ → Told ℕ
  responses_answer a b =
      unless
      (table_refusal counts payoffs then player_refusal counts p then opponents_refusal counts p opponents then room_refusal (length responses) a b)
      (length responses)

  -- those that are written, for outputs of lengths a and b
  abbrev pub responses_written : ℕ → ℕ → List ℕ
  responses_written a b = take (written (responses_answer a b)) responses
