-- Document 01, "The table": a table is its players' counts and its payoffs, and P is the number of counts. Profiles are those of `game`.
-- Assumes nothing.
use Rattle.std.specs.Prelude.{List, [], ◌∷◌, ℕ, suc, ◌+◌, ◌*◌, length, get_or, take, drop, Float}
use Rattle.std.specs.Float.{nan}
use Rattle.game.specs.Finite.{product}
use Rattle.game.specs.Game.{Game}
use Rattle.payoff_order.specs.Order.{rank}

-- cells in all: profiles × P. Cell is document 01's term: one payoff of the table
abbrev pub cells : List ℕ → ℕ
cells counts = product counts * length counts

-- ---- offsets

-- from n on: for each player in order, multiply by that player's count and add the choice
abbrev pub offset_from : ℕ → List ℕ → List ℕ → ℕ
offset_from n [] x = n
offset_from n (c ∷ cs) [] = n
offset_from n (c ∷ cs) (s ∷ x) = offset_from (n * c + s) cs x

-- a profile's offset, document 01's term: start at 0
unfoldable pub offset : List ℕ → List ℕ → ℕ
offset counts x = offset_from 0 counts x

-- player p's stride: how far the offset moves when p's choice goes up by one, which is the product of the counts after p
unfoldable pub stride : List ℕ → ℕ → ℕ
stride counts p = product (drop (suc p) counts)

-- ---- payoffs

-- player p's cell of a profile is at offset × P + p
abbrev pub cell : List ℕ → List ℕ → ℕ → ℕ
cell counts x p = offset counts x * length counts + p

-- player p's payoff at the profile x
unfoldable pub payoff_at : List ℕ → List Float → ℕ → List ℕ → Float
payoff_at counts payoffs p x = get_or payoffs (cell counts x p) nan

-- a cell's rank
unfoldable pub cell_rank : List Float → ℕ → ℕ
cell_rank payoffs i = rank (get_or payoffs i nan)

-- the payoffs of one profile, as a part of the table: the P payoffs at offset × P
unfoldable pub profile_part : List ℕ → List Float → List ℕ → List Float
profile_part counts payoffs x = take (length counts) (drop (offset counts x * length counts) payoffs)

-- the game that a table is: greater, equal and less between payoffs mean their keys', and ranks are ordered as keys are
unfoldable pub table_game : List ℕ → List Float → Game
table_game counts payoffs = record { counts = counts; pay = λ p x. rank (payoff_at counts payoffs p x) }
