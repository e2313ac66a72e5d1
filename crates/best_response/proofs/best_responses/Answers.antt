-- `best_response::best_responses` meets its contract: the refusals of the table, the player and the opponents come in this order, and nothing
-- is written; else the best of the player's row are the best responses. Assumes nothing.
use mathlib.Core.Path.{◌≡◌, ◌∙◌}
use mathlib.Core.List.{List}
use mathlib.Core.Option.{none}
use Prim.Native.Nat.{ℕ, ◌<◌}
use lib.ListN.{length}
use lib.Ieee.{Float}
use Rattle.refusal.proofs.Told.{told_values, handed_on}
use Rattle.payoff_tables.specs.Table.{offset}
use Rattle.payoff_tables.specs.Meaning.{Table}
use Rattle.payoff_tables.specs.Checks.{table_refusal}
use Rattle.payoff_tables.proofs.Checks.{table_law}
use Rattle.responses.specs.Answers.{against, opponents_refusal}
use Rattle.responses.proofs.Opponents.{opponents_law, Accepted}
use Rattle.best_response.proofs.Responses.{against_inside, refused_table, refused_player, refused_opponents, refused_whole, row_whole}
use Rattle.best_response.proofs.best_responses.Goals as goal
use Rattle.best_response.proofs.best_responses.Goals.{In_ok-table_profile_count, In_ok-at}

-- the arm where the table has no refusal
module _ (c : In_ok-table_profile_count) where
  abbrev counts : List ℕ
  counts = c.args.counts.now

  abbrev payoffs : List Float
  payoffs = c.args.payoffs.now

  checked : table_refusal counts payoffs ≡ none
  checked = (told_values _ _ _ c.in_ok-table_profile_count.ensures).0

  table : Table counts payoffs
  table = (table_law counts payoffs).0 checked

pub returns-then-counts-player : goal.returns-then-counts-player
returns-then-counts-player c =
    let a = c.args in
    let w = refused_whole a.counts.now a.payoffs.now a.player a.opponents.now (length a.strategies.now) (length a.utilities.now) a.strategies.now a.utilities.now
    (refused_player _ _ _ _ _ _ (checked (goal.at.returns-then-counts-player c).In_ok-table_profile_count) c.if-counts-player.true) in
    record { result_value = w.0; strategies_after = w.1.0; utilities_after = w.1.1 }

pub opponents_offset-requires : goal.opponents_offset-requires
opponents_offset-requires c =
    record { shape = (table (goal.at.opponents_offset-requires c).In_ok-table_profile_count).shape; player_in_bounds = c.if-counts-player.false }

-- the arm where the opponents have none either
module _ (c : In_ok-at) where
  abbrev cs : List ℕ
  cs = c.args.counts.now

  abbrev xs : List Float
  xs = c.args.payoffs.now

  abbrev player : ℕ
  player = c.args.player

  abbrev opponents : List ℕ
  opponents = c.args.opponents.now

  answered : (opponents_refusal cs player opponents ≡ none) × (c.in_ok-at.at ≡ offset cs (against player opponents 0))
  answered = told_values _ _ _ c.in_ok-at.ensures

  mine : player < length cs
  mine = c.if-counts-player.false

  whole_table : Table cs xs
  whole_table = (table_law cs xs).0 (told_values _ _ _ c.in_ok-table_profile_count.ensures).0

  accepted : Accepted cs xs player opponents
  accepted =
      let (many, fit) = (opponents_law cs player opponents).0 answered.0 in
      record { table = whole_table; mine = mine; many = many; fit = fit }

pub row_responses-requires : goal.row_responses-requires
row_responses-requires c =
    let k = (goal.at.row_responses-requires c).In_ok-at in
    record {
      table = whole_table k;
      player_in_bounds = mine k;
      by_index = λ t l. rw (answered k).1 (against_inside (accepted k) t l);
    }

pub returns-in_err-table_profile_count : goal.returns-in_err-table_profile_count
returns-in_err-table_profile_count c =
    let a = c.args in
    let w = refused_whole a.counts.now a.payoffs.now a.player a.opponents.now (length a.strategies.now) (length a.utilities.now) a.strategies.now a.utilities.now
    (refused_table _ _ _ _ _ _ _ _ c.in_err-table_profile_count.ensures) in
    record { result_value = handed_on _ _ c.from_residual.ensures.1 ∙ w.0; strategies_after = w.1.0; utilities_after = w.1.1 }

pub returns-in_err-at : goal.returns-in_err-at
returns-in_err-at c =
    let a = c.args in
    let w = refused_whole a.counts.now a.payoffs.now a.player a.opponents.now (length a.strategies.now) (length a.utilities.now) a.strategies.now a.utilities.now
    (refused_opponents _ _ _ _ _ _ (checked (goal.at.returns-in_err-at c).In_ok-table_profile_count) c.if-counts-player.false _ _ c.in_err-at.ensures) in
    record { result_value = handed_on _ _ c.from_residual-in_err-at.ensures.1 ∙ w.0; strategies_after = w.1.0; utilities_after = w.1.1 }

pub returns : goal.returns
returns c =
    let k = (goal.at.returns c).In_ok-at in
    let a = c.args in
    let r = c.row_responses.ensures in
    let w = row_whole a.counts.now a.payoffs.now a.player a.opponents.now (length a.strategies.now) (length a.utilities.now) (accepted k) (answered k).1 a.strategies.now a.utilities.now
    (r.result_value, (r.strategies_after, r.utilities_after)) in
    record { result_value = w.0; strategies_after = w.1.0; utilities_after = w.1.1 }
