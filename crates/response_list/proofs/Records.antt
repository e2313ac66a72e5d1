-- The records of the best responses. Two arrays of 64 have room for every answer, so what is told of them and of a list differs by 13 alone;
-- and how a loop makes the records of what stands in the two arrays. Assumes nothing.
use mathlib.Core.Path.{◌≡◌, refl, sym, ap, ap₂, ◌∙◌}
use mathlib.Core.List.{List, map}
use mathlib.Core.Option.{none, some}
use Prim.Native.Nat.{ℕ, ◌+◌, ◌≤◌, ◌<◌}
use native.Mathlib.Omega.{arith}
use lib.Dec.{T}
use lib.ListN.{length, get_or, set, take, length-map, get_or-append}
use lib.Seq.{take_all, take-length}
use lib.Ieee.{Float, nan}
use Rattle.game.specs.Finite.{below}
use Rattle.game.specs.Solution.{best_responses}
use Rattle.game.proofs.Finite.{filter_at_most, length_below}
use Rattle.refusal.specs.Refusal.{Refusal, number_of, ◌then◌}
use Rattle.refusal.specs.Told.{Told, values, refused, unless}
use Rattle.refusal.proofs.Refusal.{then_none, then_assoc}
use Rattle.refusal.proofs.Told.{apart, told_values}
use Rattle.written_lists.specs.Outputs.{room_refusal, written, over}
use Rattle.written_lists.proofs.Outputs.{first_short, room_fits, over_next}
use Rattle.payoff_order.specs.Order.{finite}
use Rattle.utility.specs.Value.{value_of}
use Rattle.utility.specs.declared.Utility.{Utility}
use Rattle.payoff_tables.specs.Limits.{max_strategies}
use Rattle.payoff_tables.specs.Table.{payoff_at, table_game}
use Rattle.payoff_tables.specs.Checks.{table_refusal, player_refusal}
use Rattle.payoff_tables.proofs.Offsets.{cell_below, get_or_map, get_or_mem}
use Rattle.responses.specs.Answers.{against, opponents_refusal, responses, response_utilities, responses_answer, responses_written}
use Rattle.responses.proofs.Opponents.{Accepted, accepted_law, accepted_profile}
use Rattle.best_response.proofs.Responses.{responses_below}
use Rattle.response_list.specs.declared.BestResponse.{BestResponse}
use Rattle.response_list.specs.Responses.{response, no_records, records_answer, records_written}

module _ (counts : List ℕ) (payoffs : List Float) (p : ℕ) (opponents : List ℕ) where
  abbrev all : List ℕ
  all = responses counts payoffs p opponents

  abbrev paid : ℕ → Float
  paid s = payoff_at counts payoffs p (against p opponents s)

  -- the records of all best responses
  abbrev pub all_records : List BestResponse
  all_records = map (λ s. response s (paid s)) all

  -- ---- what is told

  -- 1 to 10, which apply before 13
  abbrev earlier : Refusal
  earlier = table_refusal counts payoffs then player_refusal counts p then opponents_refusal counts p opponents

  -- 13 applies last,
  told_last : (a b : ℕ) → responses_answer counts payoffs p opponents a b ≡ unless (earlier then room_refusal (length all) a b) (length all)
  unfolding responses_answer
  told_last a b =
      rw (
        then_assoc (table_refusal counts payoffs) (player_refusal counts p then opponents_refusal counts p opponents) (room_refusal (length all) a b),
        then_assoc (player_refusal counts p) (opponents_refusal counts p opponents) (room_refusal (length all) a b),
      )

  module _ (u : Accepted counts payoffs p opponents) where
    -- and where none of 1 to 10 applies, it alone
    told_room : (a b : ℕ) → responses_answer counts payoffs p opponents a b ≡ unless (room_refusal (length all) a b) (length all)
    told_room a b =
        told_last a b ∙ ap (λ (r : Refusal). unless (r then room_refusal (length all) a b) (length all)) ((accepted_law counts payoffs p opponents).1 u)

    -- there are no more best responses than strategies
    few : length all ≤ max_strategies
    unfolding responses best_responses table_game
    few =
        let h : length all ≤ length (below (get_or counts p 0)) = filter_at_most _ (below (get_or counts p 0)) in
        omega (arith, length_below (get_or counts p 0), u.table.shape.high p u.mine)

    -- where there is room, all are told and written
    told_all : (room : ℕ) → length all ≤ room → responses_answer counts payoffs p opponents room room ≡ values (length all)
    told_all room h =
        told_room room room ∙ ap (λ (r : Refusal). unless r (length all)) (room_fits (length all) room room h h)

    written_all : (room : ℕ) → length all ≤ room → responses_written counts payoffs p opponents room room ≡ all
    written_all room h = ap (λ (t : Told ℕ). take (written t) all) (told_all room h) ∙ take-length all

    -- where there is not, 13 is told
    told_short : (room : ℕ) → room < length all → refused 13 ≡ responses_answer counts payoffs p opponents room room
    told_short room h =
        sym (told_room room room ∙ ap (λ (r : Refusal). unless r (length all)) (first_short (length all) room room h))

  -- what was told with room for every answer: how many there are,
  pub record NumberTold (n : ℕ) : Type 0 where
    pub accepted : Accepted counts payoffs p opponents
    pub number : n ≡ length all

  pub told_number_lem : (n : ℕ) → values n ≡ responses_answer counts payoffs p opponents max_strategies max_strategies → NumberTold n
  told_number_lem n h =
      let t = told_values (earlier then room_refusal (length all) max_strategies max_strategies) (length all) n (h ∙ told_last max_strategies max_strategies) in
      record {
        accepted = (accepted_law counts payoffs p opponents).0 ((then_none earlier (room_refusal (length all) max_strategies max_strategies)).0 t.0).0;
        number = t.1;
      }

  -- or a refusal, which is not 13 and so is told whatever the room is
  pub told_refusal : (n room : ℕ) → refused n ≡ responses_answer counts payoffs p opponents max_strategies max_strategies
      → refused n ≡ records_answer counts payoffs p opponents room
  told_refusal n room h = by earlier refl
    where
      by : (r : Refusal) → earlier ≡ r → refused n ≡ records_answer counts payoffs p opponents room
      by none e =
          let u = (accepted_law counts payoffs p opponents).0 e in absurd (apart (length all) n (sym (h ∙ told_all u max_strategies (few u))))
      by (some d) e =
          let told : (a b : ℕ) → responses_answer counts payoffs p opponents a b ≡ refused (number_of d) =
          λ a b. told_last a b ∙ ap (λ (r : Refusal). unless (r then room_refusal (length all) a b) (length all)) e in
          h ∙ told max_strategies max_strategies ∙ sym (told room room)

  -- ---- what is handed back

  -- beside a refusal no record is written
  pub refused_records : (n room : ℕ) (records : List BestResponse) → records ≡ no_records → refused n ≡ records_answer counts payoffs p opponents room
      → (refused n ≡ records_answer counts payoffs p opponents room)
      × (◌≡◌ {A = ℕ} 0 0 × (records ≡ over (records_written counts payoffs p opponents room) no_records))
  refused_records n room records e h =
      (h, (refl, e ∙ ap (λ (t : Told ℕ). over (map (λ s. response s (paid s)) (take (written t) all)) no_records) h))

  module _ {n : ℕ} (t : NumberTold n) where
    -- nor where the list is too short,
    pub short_records : (room : ℕ) (records : List BestResponse) → records ≡ no_records → room < n
        → (refused 13 ≡ records_answer counts payoffs p opponents room)
        × (◌≡◌ {A = ℕ} 0 0 × (records ≡ over (records_written counts payoffs p opponents room) no_records))
    short_records room records e h = refused_records 13 room records e (told_short t.accepted room (rw (← t.number) h))

    -- and else all are
    pub listed_records : (room i : ℕ) (records : List BestResponse) → n ≤ room → n ≤ i → records ≡ over (take i all_records) no_records
        → (values n ≡ records_answer counts payoffs p opponents room)
        × ((n ≡ n) × (records ≡ over (records_written counts payoffs p opponents room) no_records))
    listed_records room i records h k e =
        let fits : length all ≤ room = rw (← t.number) h in (
          ap values t.number ∙ sym (told_all t.accepted room fits),
          (
            refl,
            e
                ∙ ap (λ (xs : List BestResponse). over xs no_records)
                (take_all i all_records (omega (arith, length-map all (λ s. response s (paid s)), t.number))
                ∙ ap (map (λ s. response s (paid s))) (sym (written_all t.accepted room fits))),
          ),
        )

    -- ---- one record of the two arrays

    pub number_few : n ≤ max_strategies
    number_few = rw t.number (few t.accepted)

    module _ {strategies : List ℕ} {utilities : List Float} (old : List ℕ) (old' : List Float)
        (h : (strategies ≡ over (responses_written counts payoffs p opponents max_strategies max_strategies) old)
        × (utilities ≡ over (response_utilities counts payoffs p opponents (responses_written counts payoffs p opponents max_strategies max_strategies)) old'))
        (i : ℕ) (l : i < n) where
      below_all : i < length all
      below_all = rw (← t.number) l

      whole_list : responses_written counts payoffs p opponents max_strategies max_strategies ≡ all
      whole_list = written_all t.accepted max_strategies (few t.accepted)

      strategy_at : get_or strategies i 0 ≡ get_or all i 0
      strategy_at =
          ap (λ (xs : List ℕ). get_or xs i 0) (h.0 ∙ ap (λ (xs : List ℕ). over xs old) whole_list) ∙ get_or-append all _ 0 i below_all

      utility_at : get_or utilities i nan ≡ paid (get_or all i 0)
      unfolding response_utilities
      utility_at =
          ap (λ (xs : List Float). get_or xs i nan) (h.1 ∙ ap (λ (xs : List ℕ). over (map paid xs) old') whole_list)
          ∙ get_or-append (map paid all) _ nan i (rw length-map below_all)
          ∙ get_or_map paid all i 0 nan below_all

      -- its payoff is a payoff of the table, and so finite
      pub utility_finite : T (finite (get_or utilities i nan))
      unfolding payoff_at
      utility_finite =
          let s : ℕ = get_or all i 0 in
          let k = responses_below t.accepted s (get_or_mem all i 0 below_all) in
          rw utility_at
          (t.accepted.table.finites _ (rw t.accepted.table.full (cell_below p (accepted_profile t.accepted s k) t.accepted.mine)))

      -- and it is the next of the records
      pub next_record : (records : List BestResponse) (v : Utility) → records ≡ over (take i all_records) no_records → value_of v ≡ get_or utilities i nan
          → set records i (record { strategy = get_or strategies i 0; utility = v }) ≡ over (take (i + 1) all_records) no_records
      next_record records v e k =
          ap₂ (λ (rs : List BestResponse) (r : BestResponse). set rs i r) e
          (ap₂ response strategy_at (k ∙ utility_at) ∙ sym (get_or_map (λ s. response s (paid s)) all i 0 (response 0 nan) below_all))
          ∙ over_next all_records no_records i (response 0 nan) (rw length-map below_all) (omega (arith, few t.accepted, below_all))
