-- `mark_responses::mark_player` meets its contract: the rows that both ways of taking them reach are the player's. Assumes nothing.
use mathlib.Core.Path.{◌≡◌, sym, ap, ◌∙◌, subst, subst⁻¹}
use mathlib.Core.Bool.{Bool}
use mathlib.Core.List.{List, map}
use Prim.Native.Nat.{ℕ, ◌*◌, ◌/◌, ◌<◌, ◌≤◌}
use native.Mathlib.Omega.{arith}
use borrow.Author.Rules.{rules}
use lib.ListN.{length, get_or, take}
use lib.Seq.{length-take-le}
use lib.Ieee.{Float}
use Rattle.game.specs.Finite.{product}
use Rattle.payoff_tables.specs.Limits.{max_strategies}
use Rattle.payoff_tables.specs.Table.{stride as stride_of}
use Rattle.payoff_tables.specs.Meaning.{Table}
use Rattle.mark_responses.specs.Sweep.{marked_of, Nested, Within}
use Rattle.mark_responses.proofs.Row.{marked_few}
use Rattle.mark_responses.proofs.Player.{Begins, player_unmarked, rows_within, player_rows, by_blocks, blocks_all, by_places, places_all, Facts, facts}
use Rattle.mark_responses.proofs.mark_player.Goals as goal
use Rattle.mark_responses.proofs.mark_player.Goals.{After-put_steps-number, Start}

-- the number of the player's blocks
abbrev blocks : List ℕ → ℕ → ℕ → ℕ → ℕ
blocks counts player stride profiles = profiles / (get_or counts player 0 * stride)

module _ (counts : List ℕ) (payoffs : List Float) (player stride profiles : ℕ) (t : Table counts payoffs)
    (at : (profiles ≡ product counts) × (player < length counts) × (stride ≡ stride_of counts player)) where
  -- the table has so many blocks
  all_blocks : product counts ≡ blocks counts player stride profiles * (get_or counts player 0 * stride_of counts player)
  all_blocks =
      sym at.0 ∙ (facts counts payoffs player stride profiles t at.1 at.2 at.0).blocks
      ∙ ap (λ (n : ℕ). blocks counts player stride profiles * (get_or counts player 0 * n)) at.2

  module _ (survivors : List Bool) where
    -- The player's rows.
    abbrev Rows : ℕ → Type 0
    Rows = Begins counts payoffs survivors t player at.1 (blocks counts player stride profiles) all_blocks

    -- Place by place,
    near : ((st : ℕ) → Nested player (length counts) stride (get_or counts player 0 * (stride * length counts)) (blocks counts player stride profiles) st → Rows st)
        × ((st : ℕ) → Rows st → Nested player (length counts) stride (get_or counts player 0 * (stride * length counts)) (blocks counts player stride profiles) st)
    near =
        let of : ℕ → ℕ → Type 0 = λ n. Nested player (length counts) n (get_or counts player 0 * (n * length counts)) (blocks counts player stride profiles) in (
          λ st w. by_places counts payoffs survivors t player at.1 (blocks counts player stride profiles) all_blocks st (subst (λ (n : ℕ). of n st) at.2 w),
          λ st w. subst⁻¹ (λ (n : ℕ). of n st) at.2 (places_all counts payoffs survivors t player at.1 (blocks counts player stride profiles) all_blocks st w),
        )

    -- or block by block
    far : ((st : ℕ) → Nested player (get_or counts player 0 * (stride * length counts)) (blocks counts player stride profiles) (length counts) stride st → Rows st)
        × ((st : ℕ) → Rows st → Nested player (get_or counts player 0 * (stride * length counts)) (blocks counts player stride profiles) (length counts) stride st)
    far =
        let of : ℕ → ℕ → Type 0 = λ n. Nested player (get_or counts player 0 * (n * length counts)) (blocks counts player stride profiles) (length counts) n in (
          λ st w. by_blocks counts payoffs survivors t player at.1 (blocks counts player stride profiles) all_blocks st (subst (λ (n : ℕ). of n st) at.2 w),
          λ st w. subst⁻¹ (λ (n : ℕ). of n st) at.2 (blocks_all counts payoffs survivors t player at.1 (blocks counts player stride profiles) all_blocks st w),
        )

-- what is known of the player
fact : (c : Start) → let a = c.args in Facts a.counts.now a.payoffs.now a.player a.stride (blocks a.counts.now a.player a.stride a.profiles) a.profiles
fact c =
    let a = c.args in
    let at = c.requires.profiles_value in
    facts a.counts.now a.payoffs.now a.player a.stride a.profiles c.requires.table at.1 at.2 at.0

pub overflow_mul-step : goal.overflow_mul-step
overflow_mul-step c = omega (arith, fact (goal.at.overflow_mul-step c).Start)

pub put_steps-number-requires : goal.put_steps-number-requires
put_steps-number-requires c =
    let f = fact (goal.at.put_steps-number-requires c).Start in
    let r = c.requires in
    record {
      count_in_bounds = omega (arith, f, r.survivors_len, r.profiles_value);
      count_in_bounds_2 = omega (arith, f, r.survivors_len);
      step_bound = f.span;
    }

pub returns-then-number-eq0 : goal.returns-then-number-eq0
returns-then-number-eq0 c =
    let a = c.args in
    let r = c.requires in
    player_unmarked a.counts.now a.payoffs.now a.survivors.now r.table a.player r.profiles_value.1 a.marks.now r.ready
    (sym c.put_steps-number.ensures.value ∙ c.if-number-eq0.true)

pub overflow_mul-block : goal.overflow_mul-block
overflow_mul-block c = omega (arith, fact (goal.at.overflow_mul-block c).Start)

pub overflow_mul-blocks : goal.overflow_mul-blocks
overflow_mul-blocks c = omega (arith, fact (goal.at.overflow_mul-blocks c).Start)

pub nonzero_div-blocks : goal.nonzero_div-blocks
nonzero_div-blocks c = omega (arith, fact (goal.at.nonzero_div-blocks c).Start)

-- the steps
abbrev steps : After-put_steps-number → List ℕ
steps c = take c.put_steps-number.result c.put_steps-number.new.steps

listed : (c : After-put_steps-number) → (c.put_steps-number.result ≤ length c.put_steps-number.new.steps) × (length (steps c) ≡ c.put_steps-number.result)
listed c =
    let a = c.args in
    let at = c.requires.profiles_value in
    let f = facts a.counts.now a.payoffs.now a.player a.stride a.profiles c.requires.table at.1 at.2 at.0 in
    let written : List ℕ = c.put_steps-number.new.steps in
    let long : length written ≡ length a.steps.now = search rules in
    let few : c.put_steps-number.result ≤ length written =
    omega (arith, c.put_steps-number.ensures.value, long, c.requires.survivors_len, marked_few a.survivors.now (a.player * max_strategies) (get_or a.counts.now a.player 0), f) in
    (few, length-take-le c.put_steps-number.result written few)

are : (c : After-put_steps-number) → let a = c.args in
    steps c ≡ map (λ t. t * (stride_of a.counts.now a.player * length a.counts.now))
    (marked_of a.survivors.now (a.player * max_strategies) (get_or a.counts.now a.player 0))
are c =
    let a = c.args in
    c.put_steps-number.ensures.steps_after
    ∙ ap (λ (n : ℕ). map (λ t. t * (n * length a.counts.now)) (marked_of a.survivors.now (a.player * max_strategies) (get_or a.counts.now a.player 0))) c.requires.profiles_value.2

-- the player's rows lie within the table
within : (c : After-put_steps-number) (S : ℕ → Type 0) → let a = c.args in
    ((st : ℕ) → S st → Rows a.counts.now a.payoffs.now a.player a.stride a.profiles c.requires.table c.requires.profiles_value a.survivors.now st)
    × ((st : ℕ) → Rows a.counts.now a.payoffs.now a.player a.stride a.profiles c.requires.table c.requires.profiles_value a.survivors.now st → S st)
    → Within (steps c) S (length a.payoffs.now)
within c S (to, from) =
    let a = c.args in
    let at = c.requires.profiles_value in
    rows_within a.counts.now a.payoffs.now a.survivors.now c.requires.table a.player at.1 (blocks a.counts.now a.player a.stride a.profiles)
    (all_blocks a.counts.now a.payoffs.now a.player a.stride a.profiles c.requires.table at) (steps c) (are c) S to from

pub mark_groups-requires : goal.mark_groups-requires
mark_groups-requires c =
    let a = c.args in
    let r = c.requires in
    let f = fact (goal.at.mark_groups-requires c).Start in
    let p = (goal.at.mark_groups-requires c).After-put_steps-number in
    record {
      finites = r.table.finites;
      steps_nonzero = omega (arith, listed p, c.if-number-eq0.false);
      within = within p _ (near a.counts.now a.payoffs.now a.player a.stride a.profiles r.table r.profiles_value a.survivors.now);
      payoffs_len_bound = (f.full, r.payoffs_in_bounds, f.some, f.many, f.room);
    }

pub returns-then-stride-lt-SIDE_BY_SIDE : goal.returns-then-stride-lt-SIDE_BY_SIDE
returns-then-stride-lt-SIDE_BY_SIDE c =
    let a = c.args in
    let r = c.requires in
    let p = (goal.at.returns-then-stride-lt-SIDE_BY_SIDE c).After-put_steps-number in
    let n = near a.counts.now a.payoffs.now a.player a.stride a.profiles r.table r.profiles_value a.survivors.now in
    player_rows a.counts.now a.payoffs.now a.survivors.now r.table a.player r.profiles_value.1 (blocks a.counts.now a.player a.stride a.profiles)
    (all_blocks a.counts.now a.payoffs.now a.player a.stride a.profiles r.table r.profiles_value) (steps p) (are p) _ n.0 n.1
    a.marks.now _ r.ready c.mark_groups.ensures

pub mark_groups-requires-2 : goal.mark_groups-requires-2
mark_groups-requires-2 c =
    let a = c.args in
    let r = c.requires in
    let f = fact (goal.at.mark_groups-requires-2 c).Start in
    let p = (goal.at.mark_groups-requires-2 c).After-put_steps-number in
    record {
      finites = r.table.finites;
      steps_nonzero = omega (arith, listed p, c.if-number-eq0.false);
      within = within p _ (far a.counts.now a.payoffs.now a.player a.stride a.profiles r.table r.profiles_value a.survivors.now);
      payoffs_len_bound = (f.full, r.payoffs_in_bounds, f.wide, f.room, f.many);
    }

pub returns : goal.returns
returns c =
    let a = c.args in
    let r = c.requires in
    let p = (goal.at.returns c).After-put_steps-number in
    let n = far a.counts.now a.payoffs.now a.player a.stride a.profiles r.table r.profiles_value a.survivors.now in
    player_rows a.counts.now a.payoffs.now a.survivors.now r.table a.player r.profiles_value.1 (blocks a.counts.now a.player a.stride a.profiles)
    (all_blocks a.counts.now a.payoffs.now a.player a.stride a.profiles r.table r.profiles_value) (steps p) (are p) _ n.0 n.1
    a.marks.now _ r.ready c.mark_groups-2.ensures
