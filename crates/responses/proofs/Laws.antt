-- What the listed best responses are, where refusals 1 to 10 let a call pass: the strategies whose
-- payoff no strategy's exceeds, ascending (`responses-law`). There is one (`responses-some`), and
-- any two have payoffs of equal keys (`responses-equal`). A refused call writes nothing
-- (`responses-kept`). Assumes nothing.
use mathlib.Core.Path.{◌≡◌, refl}
use mathlib.Core.List.Memᴰ.{not-nil as not-in-nil}
use mathlib.Core.List.{List, [], ◌∷◌}
use Prim.Native.Nat.{ℕ, ◌≤◌, ◌<◌}
use native.Mathlib.Omega.{arith}
use lib.Dec.{T}
use lib.ListN.{length, get_or, set, take}
use lib.Ieee.{Float, nan, binary64, fits}
use Rattle.game.specs.Finite.{◌∈◌, Lists}
use Rattle.game.specs.Game.{whole}
use Rattle.game.proofs.Sorted.{lists_iff}
use Rattle.game.proofs.Game.{whole_law}
use Rattle.game.proofs.Solution.{best_responses_law, best_whole}
use Rattle.refusal.specs.Told.{Told, refused}
use Rattle.written_lists.specs.Outputs.{written, over}
use Rattle.written_lists.proofs.Outputs.{refused_kept}
use Rattle.payoff_order.specs.Order.{key, rank}
use Rattle.payoff_order.proofs.Rank.{rank_eq}
use Rattle.payoff_tables.specs.Table.{cell, payoff_at, table_game}
use Rattle.payoff_tables.proofs.Game.{game_playable}
use Rattle.payoff_tables.proofs.Offsets.{cell_below}
use Rattle.responses.specs.Answers.{against, responses, response_utilities, responses_answer, responses_written}
use Rattle.responses.proofs.Opponents.{set_against, Accepted, accepted_profile}

module _ {counts : List ℕ} {payoffs : List Float} {p : ℕ} {opponents : List ℕ} (u : Accepted counts payoffs p opponents) where
  -- p's payoff for the strategy s
  abbrev paid : ℕ → Float
  paid s = payoff_at counts payoffs p (against p opponents s)

  -- just the strategies of p whose payoff no strategy's exceeds, ascending
  pub responses_law : Lists ◌<◌ (λ s. (s < get_or counts p 0) × ((t : ℕ) → t < get_or counts p 0 → rank (paid t) ≤ rank (paid s)))
      (responses counts payoffs p opponents)
  unfolding responses table_game
  responses_law =
      let g = table_game counts payoffs in
      let inside : p ≤ length opponents = omega (arith, u.many, u.mine) in
      let choose : (s : ℕ) → set (against p opponents 0) p s ≡ against p opponents s = set_against p opponents inside 0 in
      lists_iff (λ s. (
        λ h. (h.0, λ t l. rw (choose t, choose s) at (h.1.1 t l ((whole_law g p t).1 l))),
        λ h. (h.0, ((whole_law g p s).1 h.0, λ t l _. rw (choose t, choose s) (h.1 t l))),
      )) (best_responses_law g (whole g) p (against p opponents 0))

  -- there is one
  pub responses_some : 0 < length (responses counts payoffs p opponents)
  unfolding responses table_game
  responses_some =
      let g = table_game counts payoffs in
      let (b, k) = best_whole g (game_playable counts payoffs u.table.shape) p (against p opponents 0) u.mine in
      not_empty (responses counts payoffs p opponents) b k
    where
      not_empty : (xs : List ℕ) (b : ℕ) → b ∈ xs → 0 < length xs
      not_empty [] b k = absurd (not-in-nil k)
      not_empty (x ∷ xs) b k = omega arith

  within : (s : ℕ) → s < get_or counts p 0 → cell counts (against p opponents s) p < length payoffs
  within s l = rw u.table.full (cell_below p (accepted_profile u s l) u.mine)

  -- any two have payoffs of equal keys: every payoff is a value that an f64 can hold, as every element of a slice of f64 is
  pub responses_equal : ((i : ℕ) → i < length payoffs → T (fits binary64 (get_or payoffs i nan))) → (s t : ℕ)
      → s ∈ responses counts payoffs p opponents → t ∈ responses counts payoffs p opponents → key (paid s) ≡ key (paid t)
  unfolding payoff_at
  responses_equal held s t h k =
      let (l, most) = (responses_law.members s).0 h in
      let (l', most') = (responses_law.members t).0 k in
      (rank_eq (paid s) (paid t) (held _ (within s l)) (held _ (within t l'))).1 (omega (arith, most t l', most' s l))

-- a call that refuses, by 13 too, leaves both outputs as they were
pub responses_kept : (counts : List ℕ) (payoffs : List Float) (p : ℕ) (opponents : List ℕ) (a b e : ℕ)
    → responses_answer counts payoffs p opponents a b ≡ refused e → (old : List ℕ) (old' : List Float)
    → let w = responses_written counts payoffs p opponents a b in
    (over w old ≡ old) × (over (response_utilities counts payoffs p opponents w) old' ≡ old')
unfolding response_utilities
responses_kept counts payoffs p opponents a b e is old old' =
    let first : Told ℕ → List ℕ = λ t. take (written t) (responses counts payoffs p opponents) in (
      refused_kept first (λ _. refl) _ e is old,
      refused_kept (λ t. response_utilities counts payoffs p opponents (first t)) (λ _. refl) _ e is old',
    )
