-- The laws of the table that a view holds. Assumes nothing.
use mathlib.Core.Path.{◌≡◌, sym, ap, ◌∙◌}
use mathlib.Core.List.{List, map}
use mathlib.Core.Option.{none, some}
use Prim.Native.Nat.{ℕ, ◌≤◌, ◌<◌}
use lib.ListN.{length, get_or, take, length-map}
use lib.Seq.{get_or-take, length-take-le}
use lib.Ieee.{Float}
use Rattle.game.specs.Finite.{below}
use Rattle.game.proofs.Finite.{below_mem, length_below, map_below, map_cong}
use Rattle.refusal.specs.Refusal.{Refusal, ◌then◌}
use Rattle.refusal.specs.declared.NormalFormError.TheVariants.{NoPlayers, TooManyPlayers}
use Rattle.payoff_tables.specs.Limits.{max_players}
use Rattle.payoff_tables.specs.Checks.{payoffs_refusal, table_refusal}
use Rattle.table.specs.Space.{space_of}
use Rattle.payoff_tables.proofs.Checks.{no_players, many_players, table_law}
use Rattle.table.proofs.Space.{space_count}
use Rattle.view_fields.specs.Counts.{first_counts}

-- The first P counts are P counts, whatever the view holds.
pub first_counts_length : (players : ℕ) (counts : List ℕ) → length (first_counts players counts) ≡ players
unfolding first_counts
first_counts_length players counts = length-map (below players) (λ p. get_or counts p 0) ∙ length_below players

-- Where the view holds as many, they are its first.
pub first_counts_take : (players : ℕ) (counts : List ℕ) → players ≤ length counts → first_counts players counts ≡ take players counts
unfolding first_counts
first_counts_take players counts h =
    map_cong (λ p. get_or counts p 0) (λ p. get_or (take players counts) p 0) (below players)
    (λ p k. sym (get_or-take players counts p 0 ((below_mem players p).0 k)))
    ∙ ap (λ (n : ℕ). map (λ p. get_or (take players counts) p 0) (below n)) (sym (length-take-le players counts h))
    ∙ map_below (take players counts)

-- A view of more players than the limit is refused by 2, whatever its counts and payoffs are.
pub first_counts_many : (players : ℕ) (counts : List ℕ) (payoffs : List Float) → max_players < players
    → table_refusal (first_counts players counts) payoffs ≡ some TooManyPlayers
unfolding table_refusal
first_counts_many players counts payoffs h =
    ap (λ (r : Refusal). r then payoffs_refusal (first_counts players counts) payoffs)
    (many_players (first_counts players counts) (rw first_counts_length h))

-- A view of no players is refused by 1.
pub first_counts_none : (counts : List ℕ) (payoffs : List Float) → table_refusal (first_counts 0 counts) payoffs ≡ some NoPlayers
unfolding table_refusal
first_counts_none counts payoffs =
    ap (λ (r : Refusal). r then payoffs_refusal (first_counts 0 counts) payoffs)
    (no_players (first_counts 0 counts) (first_counts_length 0 counts))

-- The counts that the fields of an accepted table hold are the table's.
pub view_of : (counts : List ℕ) (payoffs : List Float) → table_refusal counts payoffs ≡ none
    → first_counts (space_of counts).players (space_of counts).counts ≡ counts
unfolding first_counts space_of
view_of counts payoffs h =
    map_cong _ _ (below (length counts)) (λ p k. space_count counts p ((table_law counts payoffs).0 h).shape.few) ∙ map_below counts
