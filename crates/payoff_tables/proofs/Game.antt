-- The game that a table is: its players and counts are the table's, every player has a strategy, and a player is paid less at one profile
-- than at another exactly where IEEE 754's `<` says so of the two payoffs, and utilities read from cells compare as the cells' ranks.
-- Assumes nothing.
use mathlib.Core.Path.{◌≡◌, refl, sym, ap₂, ◌∙◌}
use mathlib.Core.List.{List}
use Prim.Native.Nat.{ℕ, ◌<◌}
use lib.Dec.{T, ltb, eqb}
use lib.ListN.{length, get_or}
use lib.Ieee.{Float, nan, binary64, fits, lt, eq}
use Rattle.game.specs.Game.{players, count, Playable, Profile}
use Rattle.payoff_order.specs.Order.{finite, greater}
use Rattle.payoff_order.proofs.Laws.{lt_rank, eq_rank, greater_rank}
use Rattle.payoff_tables.specs.Table.{payoff_at, cell, cell_rank, table_game}
use Rattle.payoff_tables.specs.Meaning.{Shape, Finites, Table}
use Rattle.payoff_tables.proofs.Offsets.{cell_below}

module _ (counts : List ℕ) (payoffs : List Float) where
  pub game_players : players (table_game counts payoffs) ≡ length counts
  unfolding table_game
  game_players = refl

  pub game_count : (p : ℕ) → count (table_game counts payoffs) p ≡ get_or counts p 0
  unfolding table_game
  game_count p = refl

  pub game_playable : Shape counts → Playable (table_game counts payoffs)
  unfolding table_game
  game_playable s = s.low

  -- every payoff is a value that an f64 can hold, as every element of a slice of f64 is
  module _ (table : Table counts payoffs) (held : (i : ℕ) → i < length payoffs → T (fits binary64 (get_or payoffs i nan)))
      (p : ℕ) (mine : p < length counts) where
    inside : {x : List ℕ} → Profile counts x → cell counts x p < length payoffs
    inside r = rw table.full (cell_below p r mine)

    finite_here : {x : List ℕ} → Profile counts x → T (finite (payoff_at counts payoffs p x))
    unfolding payoff_at
    finite_here r = table.finites _ (inside r)

    held_here : {x : List ℕ} → Profile counts x → T (fits binary64 (payoff_at counts payoffs p x))
    unfolding payoff_at
    held_here r = held _ (inside r)

    pub pay_less : {x y : List ℕ} → Profile counts x → Profile counts y
        → ltb ((table_game counts payoffs).pay p x) ((table_game counts payoffs).pay p y) ≡ lt (payoff_at counts payoffs p x) (payoff_at counts payoffs p y)
    unfolding table_game
    pay_less r q = sym (lt_rank _ _ (held_here r) (held_here q) (finite_here r) (finite_here q))

    pub pay_equal : {x y : List ℕ} → Profile counts x → Profile counts y
        → eqb ((table_game counts payoffs).pay p x) ((table_game counts payoffs).pay p y) ≡ eq (payoff_at counts payoffs p x) (payoff_at counts payoffs p y)
    unfolding table_game
    pay_equal r q = sym (eq_rank _ _ (held_here r) (held_here q) (finite_here r) (finite_here q))

-- Two values that were read from cells of finite payoffs compare as the ranks of the cells.
pub cells_greater : (payoffs : List Float) → Finites payoffs → ((i : ℕ) → i < length payoffs → T (fits binary64 (get_or payoffs i nan)))
    → {x y : Float} (i j : ℕ) → i < length payoffs → j < length payoffs → x ≡ get_or payoffs i nan → y ≡ get_or payoffs j nan
    → greater x y ≡ ltb (cell_rank payoffs j) (cell_rank payoffs i)
unfolding cell_rank
cells_greater payoffs finites held i j h k e f =
    ap₂ greater e f ∙ greater_rank (get_or payoffs i nan) (get_or payoffs j nan) (held i h) (held j k) (finites i h) (finites j k)
