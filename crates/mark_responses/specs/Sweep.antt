-- What the sweep has marked so far. Assumes nothing.
use Rattle.std.specs.Prelude.{◌≡◌, Bool, false, not, List, [], ◌⊎◌, ◌≢◌, ℕ, ◌+◌, ◌*◌, ◌/◌, ◌%◌, ◌≤◌, ◌<◌, T, ltb, length, get_or, Float}
use Rattle.std.specs.Float.{nan}
use Rattle.game.specs.Finite.{all, below, filter, product}
use Rattle.game.specs.Game.{profiles}
use Rattle.refusal.specs.Told.{byte_of}
use Rattle.payoff_tables.specs.Table.{cells, stride, cell_rank, table_game}
use Rattle.marks.specs.Marks.{mark_place, marked}
use Rattle.response_marks.specs.Marks.{settled}

-- the marked strategies among the first n, whose marks stand from place on
unfoldable pub marked_of : List Bool → ℕ → ℕ → List ℕ
marked_of survivors place n = filter (λ t. get_or survivors (place + t) false) (below n)

-- ---- rows: the cells of the row that begins at `start` are `steps` after it

-- the rank of the payoff in the i-th cell of a row
abbrev pub step_rank : List Float → List ℕ → ℕ → ℕ → ℕ
step_rank payoffs steps start i = cell_rank payoffs (start + get_or steps i 0)

-- x is the greatest payoff of the first n cells of a row
pub record Greatest (payoffs : List Float) (steps : List ℕ) (start n : ℕ) (x : Float) : Type 0 where
  pub at : ℕ
  pub inside : at < n
  pub is : x ≡ get_or payoffs (start + get_or steps at 0) nan
  pub top : (i : ℕ) → i < n → step_rank payoffs steps start i ≤ step_rank payoffs steps start at

-- no cell of a row exceeds the i-th
unfoldable pub row_top : List Float → List ℕ → ℕ → ℕ → Bool
row_top payoffs steps start i = all (λ j. not (ltb (step_rank payoffs steps start i) (step_rank payoffs steps start j))) (below (length steps))

-- where rows begin: `number` of them, each gap after the one before,
abbrev pub Spaced : ℕ → ℕ → ℕ → ℕ → Type 0
Spaced start gap number s = (r : ℕ) × (r < number) × (s ≡ start + r * gap)

-- and the same `others` times, each time far after the time before
abbrev pub Nested : ℕ → ℕ → ℕ → ℕ → ℕ → ℕ → Type 0
Nested start far others gap number s = (o : ℕ) × (o < others) × Spaced (start + o * far) gap number s

-- rows that begin at S lie within n cells
abbrev pub Within : List ℕ → (ℕ → Type 0) → ℕ → Type 0
Within steps S n = (s i : ℕ) → S s → i < length steps → s + get_or steps i 0 < n

-- c is one of the first n cells of a row that begins at S
abbrev pub CellOf : List ℕ → ℕ → (ℕ → Type 0) → ℕ → Type 0
CellOf steps n S c = (s : ℕ) × (i : ℕ) × S s × (i < n) × (c ≡ s + get_or steps i 0)

-- the bytes of the cells W say what `want` says, and nothing else changed
pub record BytesMarked (want : ℕ → Bool) (W : ℕ → Type 0) (before marks : List ℕ) : Type 0 where
  pub long : length marks ≡ length before
  pub on : (c : ℕ) → W c → get_or marks c 0 ≡ byte_of (want c)
  pub each : (c : ℕ) → (get_or marks c 0 ≡ get_or before c 0) ⊎ W c

-- `want` says of each cell of the rows that begin at S whether no cell of its row exceeds it
abbrev pub Wants : List Float → List ℕ → (ℕ → Type 0) → (ℕ → Bool) → Type 0
Wants payoffs steps S want = (s i : ℕ) → S s → i < length steps → row_top payoffs steps s i ≡ want (s + get_or steps i 0)

-- The rows that begin at S are marked: what they want, where they want the same of the cells that they share.
abbrev pub RowsMarked : List Float → List ℕ → (ℕ → Type 0) → List ℕ → List ℕ → Type 0
RowsMarked payoffs steps S before marks = (want : ℕ → Bool) → Wants payoffs steps S want → BytesMarked want (CellOf steps (length steps) S) before marks

-- ---- players

-- player p's choice in the k-th profile
abbrev pub choice_at : List ℕ → ℕ → ℕ → ℕ
choice_at counts p k = k / stride counts p % get_or counts p 0

-- the byte of each choice of player p that is not marked is 0
abbrev pub Ready : List ℕ → List Bool → ℕ → List ℕ → Type 0
Ready counts survivors p marks =
    (k : ℕ) → k < product counts → T (get_or survivors (mark_place p (choice_at counts p k)) false) ⊎ (get_or marks (k * length counts + p) 0 ≡ 0)

-- player p's cells are marked, and nothing else changed
pub record PlayerMarked (counts : List ℕ) (payoffs : List Float) (survivors : List Bool) (p : ℕ) (before marks : List ℕ) : Type 0 where
  pub long : length marks ≡ length before
  pub done : (k : ℕ) → k < product counts
      → get_or marks (k * length counts + p) 0 ≡ byte_of (settled (table_game counts payoffs) (marked survivors) (get_or (profiles counts) k []) p)
  pub kept : (c : ℕ) → ((k : ℕ) → k < product counts → c ≢ k * length counts + p) → get_or marks c 0 ≡ get_or before c 0

-- the players from p on are marked, and nothing else changed
pub record PlayersMarked (counts : List ℕ) (payoffs : List Float) (survivors : List Bool) (p : ℕ) (before marks : List ℕ) : Type 0 where
  pub long : length marks ≡ length before
  pub done : (k q : ℕ) → k < product counts → p ≤ q → q < length counts
      → get_or marks (k * length counts + q) 0 ≡ byte_of (settled (table_game counts payoffs) (marked survivors) (get_or (profiles counts) k []) q)
  pub todo : (k q : ℕ) → k < product counts → q < p → q < length counts
      → get_or marks (k * length counts + q) 0 ≡ get_or before (k * length counts + q) 0
  pub kept : (c : ℕ) → cells counts ≤ c → get_or marks c 0 ≡ get_or before c 0

-- how many bytes are counted before their number goes to a wider one: the code's RUN
abbrev pub run : ℕ
run = 128
