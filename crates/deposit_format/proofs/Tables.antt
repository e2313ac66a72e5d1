-- The counts and payoffs of a file, one by one, and which refusal its counts have. Assumes nothing.
use mathlib.Core.Path.{◌≡◌, refl, ap, ◌∙◌}
use mathlib.Core.List.{List}
use mathlib.Core.Option.{none}
use Prim.Native.Nat.{ℕ, ◌+◌, ◌<◌, ◌≤◌}
use native.Mathlib.Omega.{arith}
use borrow.Author.Tests.{le-ltb, ne_eqb}
use lib.Dec.{ltb}
use lib.ListN.{length, get_or, length-map}
use lib.Ieee.{nan}
use Rattle.game.specs.Finite.{below}
use Rattle.game.proofs.Finite.{length_below}
use Rattle.refusal.specs.Refusal.{when}
use Rattle.refusal.specs.declared.NormalFormError.TheVariants.{TooManyCells}
use Rattle.refusal.proofs.Refusal.{each_none}
use Rattle.payoff_tables.specs.Limits.{max_players, max_cells}
use Rattle.payoff_tables.specs.Table.{cells}
use Rattle.payoff_tables.specs.Checks.{count_refusal, counts_refusal}
use Rattle.payoff_tables.proofs.Offsets.{get_or_map, get_or_below}
use Rattle.file_words.specs.Words.{payload_at}
use Rattle.deposit_format.specs.Deposit.{players_in, counts_in, cell_place, payoff_in, payoffs_in}

module _ (ws : List ℕ) where
  pub counts_length : length (counts_in ws) ≡ players_in ws
  unfolding counts_in
  counts_length = length-map (below (players_in ws)) (λ p. payload_at ws (1 + p)) ∙ length_below (players_in ws)

  pub counts_at : (p : ℕ) → p < players_in ws → get_or (counts_in ws) p 0 ≡ payload_at ws (1 + p)
  unfolding counts_in
  counts_at p h =
      get_or_map (λ p. payload_at ws (1 + p)) (below (players_in ws)) p 0 0 (rw length_below h)
      ∙ ap (λ (q : ℕ). payload_at ws (1 + q)) (get_or_below (players_in ws) p h)

  pub payoffs_length : length (payoffs_in ws) ≡ cells (counts_in ws)
  unfolding payoffs_in
  payoffs_length = length-map (below (cells (counts_in ws))) (λ i. payoff_in ws (cell_place ws i)) ∙ length_below (cells (counts_in ws))

  pub payoffs_at : (i : ℕ) → i < cells (counts_in ws) → get_or (payoffs_in ws) i nan ≡ payoff_in ws (cell_place ws i)
  unfolding payoffs_in
  payoffs_at i h =
      get_or_map (λ i. payoff_in ws (cell_place ws i)) (below (cells (counts_in ws))) i 0 nan (rw length_below h)
      ∙ ap (λ (j : ℕ). payoff_in ws (cell_place ws j)) (get_or_below (cells (counts_in ws)) i h)

-- where no count is refused, and P is not, 5 is what may be left
pub counts_left : (cs : List ℕ) → 0 < length cs → length cs ≤ max_players → ((p : ℕ) → p < length cs → count_refusal (get_or cs p 0) ≡ none)
    → counts_refusal cs ≡ when (ltb max_cells (cells cs)) TooManyCells
unfolding counts_refusal
counts_left cs h k f =
    rw
    (ne_eqb (length cs) 0 (λ e. omega (arith, h, e)), le-ltb max_players (length cs) k, each_none (length cs) (λ p. count_refusal (get_or cs p 0)) f)
    refl
