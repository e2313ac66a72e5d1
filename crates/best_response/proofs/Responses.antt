-- The best of a player's row in a table are the player's best responses, and so what is told and written of the row is what is told and
-- written of these; where a refusal applies, nothing is written. Assumes nothing.
use mathlib.Core.Path.{◌≡◌, sym, ap, ap₂, ◌∙◌}
use mathlib.Core.Bool.{true}
use mathlib.Core.List.{List, [], map}
use mathlib.Core.Option.{none}
use Prim.Native.Nat.{ℕ, ◌+◌, ◌*◌, ◌≤◌, ◌<◌}
use native.Mathlib.Omega.{arith}
use lib.ListN.{length, get_or, set, take, replicate}
use lib.Ieee.{Float, nan}
use Rattle.game.specs.Finite.{◌∈◌}
use Rattle.game.specs.Game.{Profile, whole}
use Rattle.game.proofs.Finite.{map_cong, take_mem}
use Rattle.game.proofs.Solution.{best_responses_law}
use Rattle.game.proofs.Ordinal.{marks_read}
use Rattle.refusal.specs.Told.{Told, refused, unless}
use Rattle.refusal.proofs.Told.{refused_first}
use Rattle.written_lists.specs.Outputs.{room_refusal, written, over}
use Rattle.payoff_tables.specs.Limits.{max_strategies, max_marks}
use Rattle.payoff_tables.specs.Table.{offset, stride, cell, payoff_at, table_game}
use Rattle.payoff_tables.specs.Checks.{table_refusal}
use Rattle.payoff_tables.proofs.Checks.{table_law, player_law, no_player}
use Rattle.payoff_tables.proofs.Offsets.{cell_below}
use Rattle.payoff_tables.proofs.Walk.{row_cell}
use Rattle.marks.specs.Marks.{marked}
use Rattle.marks.proofs.Marks.{marks_whole}
use Rattle.strategy_row.specs.Row.{row_bests, row_reaching, row_lowest}
use Rattle.strategy_row.proofs.Row.{row_reaching_lem, row_bests_lem}
use Rattle.best_response.specs.Row.{row_responses, row_answer, row_written, row_utilities}
use Rattle.responses.specs.Answers.{against, opponents_refusal, responses, response_utilities, responses_answer, responses_written}
use Rattle.responses.proofs.Opponents.{set_against, opponents_law, Accepted, accepted_profile}

-- what is walked is the row, where its step is s and its lowest best one is b
module _ (counts : List ℕ) (payoffs : List Float) (p at : ℕ) {s b : ℕ} (e : s ≡ stride counts p)
    (f : b ≡ row_lowest payoffs (replicate max_marks true) (p * max_strategies) (at * length counts + p) (s * length counts) (get_or counts p 0)) where
  abbrev found : List ℕ
  found =
      row_reaching payoffs (replicate max_marks true) (p * max_strategies) (at * length counts + p) (s * length counts) (get_or counts p 0)
      (at * length counts + p + b * (s * length counts))

  abbrev paid : List Float
  paid = map (λ t. get_or payoffs (at * length counts + p + t * (s * length counts)) nan) found

  -- those that reach the lowest best one are the best of the row
  pub found_responses : found ≡ row_responses counts payoffs p at
  unfolding row_responses
  found_responses =
      let marks = replicate max_marks true in
      let start : ℕ = at * length counts + p in
      let count : ℕ = get_or counts p 0 in
      ap (λ (n : ℕ). row_reaching payoffs marks (p * max_strategies) start (s * length counts) count (start + n * (s * length counts))) f
      ∙ row_reaching_lem payoffs marks (p * max_strategies) start (s * length counts) count
      ∙ ap (λ (n : ℕ). row_bests payoffs marks (p * max_strategies) start (n * length counts) count) e

  -- and their payoffs are those of the best of the row
  found_utilities : paid ≡ row_utilities counts payoffs p at (row_responses counts payoffs p at)
  unfolding row_utilities
  found_utilities =
      ap₂ (λ (n : ℕ) (xs : List ℕ). map (λ t. get_or payoffs (at * length counts + p + t * (n * length counts)) nan) xs) e found_responses

  pub found_whole : {new : List ℕ} {new' : List Float} (old : List ℕ) (old' : List Float) → (new ≡ over found old) × (new' ≡ over paid old')
      → (new ≡ over (row_responses counts payoffs p at) old)
      × (new' ≡ over (row_utilities counts payoffs p at (row_responses counts payoffs p at)) old')
  found_whole old old' h =
      (h.0 ∙ ap (λ (xs : List ℕ). over xs old) found_responses, h.1 ∙ ap (λ (xs : List Float). over xs old') found_utilities)

module _ {counts : List ℕ} {payoffs : List Float} {p : ℕ} {opponents : List ℕ} (u : Accepted counts payoffs p opponents) where
  inside : p ≤ length opponents
  inside = omega (arith, u.many, u.mine)

  some_choice : 0 < get_or counts p 0
  some_choice = u.table.shape.low p u.mine

  profile : Profile counts (against p opponents 0)
  profile = accepted_profile u 0 some_choice

  -- the row starts at the profile in which p chooses 0, and its cell t is that of p's choice t
  own_place : set (against p opponents 0) p 0 ≡ against p opponents 0
  own_place = set_against p opponents inside 0 0

  pub against_cell : (t : ℕ) → t < get_or counts p 0
      → offset counts (against p opponents 0) * length counts + p + t * (stride counts p * length counts) ≡ cell counts (against p opponents t) p
  against_cell t l =
      ap (λ (x : List ℕ). offset counts x * length counts + p + t * (stride counts p * length counts)) (sym own_place)
      ∙ row_cell p profile u.mine some_choice t l
      ∙ ap (λ (x : List ℕ). cell counts x p) (set_against p opponents inside 0 t)

  pub against_inside : (t : ℕ) → t < get_or counts p 0
      → offset counts (against p opponents 0) * length counts + p + t * (stride counts p * length counts) < length payoffs
  against_inside t l =
      rw (against_cell t l, u.table.full) (cell_below p (accepted_profile u t l) u.mine)

  -- the best of the row are the best responses,
  pub row_responses_lem : row_responses counts payoffs p (offset counts (against p opponents 0)) ≡ responses counts payoffs p opponents
  unfolding row_responses responses table_game
  row_responses_lem =
      let g = table_game counts payoffs in
      let every = replicate max_marks true in
      ap
      (λ (x : List ℕ). row_bests payoffs every (p * max_strategies) (offset counts x * length counts + p) (stride counts p * length counts) (get_or counts p 0))
      (sym own_place)
      ∙ row_bests_lem u.table.shape payoffs every profile p u.mine
      ∙ (marks_read g (marked every) (whole g) (marks_whole counts payoffs u.table.shape)).same_responses p (against p opponents 0) u.mine profile

  -- each is a strategy of p,
  pub responses_below : (s : ℕ) → s ∈ responses counts payoffs p opponents → s < get_or counts p 0
  unfolding responses table_game
  responses_below s k =
      (((best_responses_law (table_game counts payoffs) (whole (table_game counts payoffs)) p (against p opponents 0)).members s).0 k).0

  -- and their payoffs in the row are those at the profiles
  pub row_utilities_lem : (k : ℕ)
      → row_utilities counts payoffs p (offset counts (against p opponents 0)) (take k (responses counts payoffs p opponents))
      ≡ response_utilities counts payoffs p opponents (take k (responses counts payoffs p opponents))
  unfolding row_utilities response_utilities payoff_at
  row_utilities_lem k =
      map_cong _ _ (take k (responses counts payoffs p opponents)) (λ t h.
      ap (λ (i : ℕ). get_or payoffs i nan) (against_cell t (responses_below t (take_mem k (responses counts payoffs p opponents) t h))))

-- ---- what is told and written

module _ (counts : List ℕ) (payoffs : List Float) (p : ℕ) (opponents : List ℕ) (a b : ℕ) where
  abbrev told : Told ℕ
  told = responses_answer counts payoffs p opponents a b

  abbrev listed : List ℕ
  listed = responses_written counts payoffs p opponents a b

  -- a refusal of the table, of the player, and of the opponents
  pub refused_table : (n v : ℕ) → refused n ≡ unless (table_refusal counts payoffs) v → refused n ≡ told
  unfolding responses_answer
  refused_table n v h = refused_first (table_refusal counts payoffs) v _ n h _

  module _ (checked : table_refusal counts payoffs ≡ none) where
    pub refused_player : length counts ≤ p → refused 8 ≡ told
    unfolding responses_answer
    refused_player h = rw (checked, no_player counts p h)

    module _ (mine : p < length counts) where
      pub refused_opponents : (n v : ℕ) → refused n ≡ unless (opponents_refusal counts p opponents) v → refused n ≡ told
      unfolding responses_answer
      refused_opponents n v h =
          rw (checked, (player_law counts p).1 mine) (refused_first (opponents_refusal counts p opponents) v _ n h _)

  -- none of them: the answer is the row's, and so is what is written
  module _ (u : Accepted counts payoffs p opponents) {at : ℕ} (e : at ≡ offset counts (against p opponents 0)) where
    same : row_responses counts payoffs p at ≡ responses counts payoffs p opponents
    same = ap (row_responses counts payoffs p) e ∙ row_responses_lem u

    row_told : row_answer counts payoffs p at a b ≡ told
    unfolding row_answer responses_answer
    row_told =
        rw ((table_law counts payoffs).1 u.table, (player_law counts p).1 u.mine, (opponents_law counts p opponents).1 (u.many, u.fit))
        (ap (λ (xs : List ℕ). unless (room_refusal (length xs) a b) (length xs)) same)

    row_listed : row_written counts payoffs p at a b ≡ listed
    row_listed = ap₂ (λ (t : Told ℕ) (xs : List ℕ). take (written t) xs) row_told same

    row_paid : row_utilities counts payoffs p at (row_written counts payoffs p at a b) ≡ response_utilities counts payoffs p opponents listed
    row_paid = ap₂ (λ (k : ℕ) (xs : List ℕ). row_utilities counts payoffs p k xs) e row_listed ∙ row_utilities_lem u (written told)

    pub row_whole : {r : Told ℕ} {new : List ℕ} {new' : List Float} (old : List ℕ) (old' : List Float)
        → (r ≡ row_answer counts payoffs p at a b)
        × ((new ≡ over (row_written counts payoffs p at a b) old) × (new' ≡ over (row_utilities counts payoffs p at (row_written counts payoffs p at a b)) old'))
        → (r ≡ told) × ((new ≡ over listed old) × (new' ≡ over (response_utilities counts payoffs p opponents listed) old'))
    row_whole old old' h = (
      h.0 ∙ row_told,
      (h.1.0 ∙ ap (λ (xs : List ℕ). over xs old) row_listed, h.1.1 ∙ ap (λ (xs : List Float). over xs old') row_paid),
    )

  -- where a refusal is told, the outputs keep their contents
  pub refused_whole : {n : ℕ} (old : List ℕ) (old' : List Float) → refused n ≡ told
      → (refused n ≡ told) × ((old ≡ over listed old) × (old' ≡ over (response_utilities counts payoffs p opponents listed) old'))
  unfolding response_utilities
  refused_whole old old' h =
      let empty : [] ≡ listed = ap (λ (t : Told ℕ). take (written t) (responses counts payoffs p opponents)) h in
      (h, (ap (λ (xs : List ℕ). over xs old) empty, ap (λ (xs : List ℕ). over (response_utilities counts payoffs p opponents xs) old') empty))
