-- The place of a mark, and that marks on every place are the whole game's. Assumes nothing.
use mathlib.Core.Path.{◌≡◌, ap, ◌∙◌}
use mathlib.Core.Bool.{Bool, true, false, ◌&&◌}
use mathlib.Core.List.{List}
use Prim.Native.Nat.{ℕ, ◌+◌, ◌*◌, ◌≤◌, ◌<◌}
use native.Mathlib.Omega.{arith}
use borrow.Author.Tests.{le-ltb}
use lib.Arith.{digits_lt}
use lib.Dec.{ltb, lt→ltb}
use lib.ListN.{get_or, replicate, get_or-replicate}
use lib.Ieee.{Float}
use Rattle.game.specs.Game.{whole}
use Rattle.game.specs.Ordinal.{SameMarks}
use Rattle.game.proofs.Finite.{test_true}
use Rattle.game.proofs.Game.{whole_law}
use Rattle.payoff_tables.specs.Limits.{max_players, max_strategies, max_marks}
use Rattle.payoff_tables.specs.Table.{table_game}
use Rattle.payoff_tables.specs.Meaning.{Shape}
use Rattle.marks.specs.Marks.{marked}

-- A strategy below the limit has its mark at its place.
pub mark_at : (marks : List Bool) (p s : ℕ) → s < max_strategies → marked marks p s ≡ get_or marks (p * max_strategies + s) false
unfolding marked
mark_at marks p s h =
    ap (λ (t : Bool). t && get_or marks (p * max_strategies + s) false) (test_true (ltb s max_strategies) (lt→ltb s max_strategies h))

-- One past the player's places has none.
pub mark_past : (marks : List Bool) (p s : ℕ) → max_strategies ≤ s → marked marks p s ≡ false
unfolding marked
mark_past marks p s h = ap (λ (t : Bool). t && get_or marks (p * max_strategies + s) false) (le-ltb s max_strategies h)

-- The places of the players are within the list of marks.
pub mark_inside : (p s : ℕ) → p < max_players → s < max_strategies → p * max_strategies + s < max_marks
mark_inside p s h l = digits_lt h l

-- With a mark on every place, every strategy of the game is marked.
pub marks_whole : (counts : List ℕ) (payoffs : List Float) → Shape counts
    → SameMarks (table_game counts payoffs) (marked (replicate max_marks true)) (whole (table_game counts payoffs))
unfolding table_game
marks_whole counts payoffs h p s l k =
    let under : s < max_strategies = omega (arith, h.high p l) in
    let e : marked (replicate max_marks true) p s ≡ true =
    mark_at (replicate max_marks true) p s under ∙ get_or-replicate max_marks (p * max_strategies + s) true false (mark_inside p s (omega (arith, h.few)) under) in
    (λ _. (whole_law (table_game counts payoffs) p s).1 k, λ _. rw e tt)
