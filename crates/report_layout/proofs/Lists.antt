-- The report's two lists, as the code has them in its outputs. Assumes nothing.
use mathlib.Core.Path.{◌≡◌, refl, ap, ap₂, ◌∙◌, subst⁻¹}
use mathlib.Core.List.Memᴰ.{head as here}
use mathlib.Core.List.Memᴰ.{tail as there}
use mathlib.Core.List.{List, [], ◌∷◌, ◌++◌, flat_map}
use Prim.Native.Nat.{ℕ, suc, ◌+◌, ◌*◌, ◌≤◌, ◌<◌, suc-le-suc}
use native.Mathlib.Omega.{arith}
use native.Mathlib.Nat.{mul-le-mul_right}
use lib.Dec.{T}
use lib.ListN.{length, get_or, drop, length-append, get_or-append}
use lib.Seq.{sets, get_or-take, get_or-drop}
use lib.Ieee.{Float, nan}
use Rattle.game.specs.Finite.{◌∈◌, below, sum}
use Rattle.game.specs.Game.{Profile, profiles, whole}
use Rattle.game.specs.Solution.{equilibrium, equilibria}
use Rattle.game.proofs.Finite.{filter_at_most}
use Rattle.game.proofs.Game.{length_profiles}
use Rattle.game.proofs.Solution.{equilibria_law}
use Rattle.written_lists.specs.Outputs.{over}
use Rattle.payoff_order.specs.Order.{finite}
use Rattle.payoff_tables.specs.Limits.{max_strategies, max_marks}
use Rattle.payoff_tables.specs.Table.{offset, table_game, profile_part}
use Rattle.payoff_tables.specs.Meaning.{Table}
use Rattle.payoff_tables.proofs.Table.{part_within, part_length_lem}
use Rattle.equilibria.specs.Answers.{table_equilibria}
use Rattle.outputs.proofs.Puts.{sets_all}
use Rattle.report_layout.specs.Lines.{entry_line, numbers_line, part, entry_lines, numbers_lines}
use Rattle.strike_sweeps.specs.Sweeps.{Strike, strike_numbers, strikes_numbers, sweeps}
use Rattle.strike_sweeps.proofs.Ends.{sweeps_done}
use Rattle.report_layout.specs.Table.{equilibrium_line}
use Rattle.report_layout.proofs.Entries.{part_flat, flat_below, each_flat}

flat_length : {A B : Type 0} (f : A → List B) (n : ℕ) (xs : List A) → ((x : A) → x ∈ xs → length (f x) ≡ n) → length (flat_map f xs) ≡ length xs * n
unfolding flat_map
flat_length f n [] h = omega arith
flat_length f n (x ∷ xs) h = omega (arith, length-append (f x) (flat_map f xs), h x (here refl), flat_length f n xs (λ y m. h y (there m)))

-- an output that begins with what was written over it
pub begins_with : {A : Type 0} (out old xs ys : List A) → out ≡ over xs old → xs ≡ ys → (rest : List A) × (out ≡ ys ++ rest)
begins_with {A = A} out old xs ys e q = (drop (length ys) old, e ∙ ap (λ (zs : List A). over zs old) q)

-- ---- the equilibria

module _ (counts : List ℕ) (payoffs : List Float) (t : Table counts payoffs) where
  abbrev es : List (List ℕ)
  es = table_equilibria counts payoffs

  -- each is a profile
  pub profile : (x : List ℕ) → x ∈ es → Profile counts x
  unfolding table_game
  profile x m = (((equilibria_law (table_game counts payoffs) (whole (table_game counts payoffs))).members x).0 m).0

  -- there are no more than profiles, so outputs as long as the table hold them
  pub equilibria_fit : length es * length counts ≤ length payoffs
  unfolding equilibria table_game
  equilibria_fit =
      let few = filter_at_most (equilibrium (table_game counts payoffs) (whole (table_game counts payoffs))) (profiles counts) in
      let n = length_profiles counts in
      let most = mul-le-mul_right (length counts) few in
      omega (arith, most, ap (λ (k : ℕ). k * length counts) n, t.full)

  -- an equilibrium's payoffs have the same length
  part_each : (x : List ℕ) → x ∈ es → length (profile_part counts payoffs x) ≡ length counts
  part_each x m = part_length_lem (profile x m) payoffs t.full

  -- so many choices, and so many payoffs
  pub choices_length : length (flat_map (λ x. x) es) ≡ length es * length counts
  choices_length = flat_length (λ x. x) (length counts) es (λ x m. (profile x m).each)

  pub utilities_length : length (flat_map (profile_part counts payoffs) es) ≡ length es * length counts
  utilities_length = flat_length (profile_part counts payoffs) (length counts) es part_each

  -- their payoffs are finite
  pub utilities_finite : (rest : List Float) (i : ℕ) → i < length es * length counts → T (finite (get_or (flat_map (profile_part counts payoffs) es ++ rest) i nan))
  unfolding profile_part
  utilities_finite rest i l =
      let us = flat_map (profile_part counts payoffs) es in
      let k : i < length us = omega (arith, l, utilities_length) in
      subst⁻¹ (λ (x : Float). T (finite x)) (get_or-append us rest nan i k)
      (each_flat (λ (x : Float). T (finite x)) (profile_part counts payoffs) nan es
      (λ x m j h.
      let here : j < length counts = omega (arith, h, part_each x m) in
      let w = part_within (profile x m) payoffs t.full in
      subst⁻¹ (λ (y : Float). T (finite y))
      (get_or-take (length counts) (drop (offset counts x * length counts) payoffs) j nan here ∙ get_or-drop (offset counts x * length counts) payoffs j nan)
      (t.finites (offset counts x * length counts + j) (omega (arith, here, w))))
      i k)

  -- the lines of the outputs that the listing wrote are those of the equilibria
  pub equilibria_lines : (choices-rest : List ℕ) (utilities-rest : List Float)
      → entry_lines (length counts) (length es) (flat_map (λ x. x) es ++ choices-rest) (flat_map (profile_part counts payoffs) es ++ utilities-rest)
      ≡ flat_map (equilibrium_line counts payoffs) es
  unfolding entry_lines
  equilibria_lines rest more =
      flat_below (equilibrium_line counts payoffs) [] es
      (λ i. entry_line (part (length counts) (flat_map (λ x. x) es ++ rest) i) (part (length counts) (flat_map (profile_part counts payoffs) es ++ more) i))
      (λ i l. ap₂ (λ (x : List ℕ) (us : List Float). entry_line x us)
      (part_flat (λ x. x) (length counts) [] es (λ x m. (profile x m).each) rest i l)
      (part_flat (profile_part counts payoffs) (length counts) [] es part_each more i l))

-- ---- the strikes

sum_most : (n : ℕ) (xs : List ℕ) → ((i : ℕ) → i < length xs → get_or xs i 0 ≤ n) → sum xs ≤ n * length xs
sum_most n [] h = omega arith
sum_most n (x ∷ xs) h = omega (arith, h 0 (omega arith), sum_most n xs (λ i l. h (suc i) (suc-le-suc l)))

-- there are no more than marks
pub strikes_few : (counts : List ℕ) (payoffs : List Float) → Table counts payoffs → length (sweeps counts payoffs).strikes ≤ max_marks
strikes_few counts payoffs t = omega (arith, (sweeps_done counts payoffs t).few, sum_most max_strategies counts t.shape.high, t.shape.few)

pub strikes_length : (ks : List Strike) → length (strikes_numbers ks) ≡ length ks * 3
unfolding strikes_numbers
strikes_length ks = flat_length strike_numbers 3 ks (λ k m. refl)

pub strikes_lines : (ks : List Strike) (none-struck : Strike) (old : List ℕ) → length (strikes_numbers ks) ≤ length old
    → numbers_lines 3 (length ks) (sets old 0 (strikes_numbers ks)) ≡ flat_map (λ k. numbers_line (strike_numbers k)) ks
unfolding numbers_lines strikes_numbers
strikes_lines ks none-struck old h =
    ap (λ (ns : List ℕ). flat_map (λ i. numbers_line (part 3 ns i)) (below (length ks))) (sets_all old (flat_map strike_numbers ks) h)
    ∙ flat_below (λ k. numbers_line (strike_numbers k)) none-struck ks
    (λ i. numbers_line (part 3 (flat_map strike_numbers ks ++ drop (length (flat_map strike_numbers ks)) old) i))
    (λ i l. ap numbers_line (part_flat strike_numbers 3 none-struck ks (λ k m. refl) (drop (length (flat_map strike_numbers ks)) old) i l))
