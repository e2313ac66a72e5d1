-- A report has at most `maxReportBytes` bytes. Assumes nothing.
use mathlib.Core.Path.{◌≡◌, refl, ap}
use mathlib.Core.Bool.{Bool, true, false, cond, ◌&&◌}
use mathlib.Core.List.Memᴰ.{head as here}
use mathlib.Core.List.Memᴰ.{tail as there}
use mathlib.Core.List.{List, [], ◌∷◌, ◌++◌, map, flat_map}
use mathlib.Core.Option.{Option, none, some}
use Prim.Native.Nat.{ℕ, suc, ◌+◌, ◌*◌, ◌^◌, ◌≤◌, ◌<◌, suc-le-suc}
use Prim.Native.String.{String}
use native.Mathlib.Nat.{mul-le-mul_left}
use native.Mathlib.Omega.{arith}
use lib.ListN.{length, get_or, length-append}
use lib.Ieee.{Float, nan, binary64, to_bits}
use Rattle.game.specs.Finite.{◌∈◌, First}
use Rattle.game.specs.Game.{Game}
use Rattle.refusal.specs.Refusal.{Refusal, number_of}
use Rattle.refusal.specs.Told.{unless}
use Rattle.refusal.proofs.Refusal.{number_most}
use Rattle.payoff_tables.specs.Limits.{max_strategies, max_marks}
use Rattle.payoff_tables.specs.Table.{profile_part, table_game}
use Rattle.payoff_tables.specs.Meaning.{Table}
use Rattle.payoff_tables.proofs.Table.{part_length_lem}
use Rattle.equilibria.specs.Answers.{table_equilibria}
use Rattle.file_words.specs.Words.{Bytes, words_of}
use Rattle.deposit_format.specs.Deposit.{counts_in, payoffs_in}
use Rattle.bimatrix.specs.Matrices.{bimatrix}
use Rattle.bimatrix.specs.Keys.{ranks, strictly_ranked, least_key}
use Rattle.catalogue.specs.Catalogue.{place, catalogue}
use Rattle.catalogue.specs.Answers.{two_by_two, game_number}
use Rattle.catalogue.specs.Meaning.{Stands}
use Rattle.catalogue.proofs.Places.{place_law}
use Rattle.catalogue.proofs.Rule.{catalogue_length}
use Rattle.digits_and_lines.specs.Text.{decimal, spaced, joined, line, space, line_end}
use Rattle.digits_and_lines.proofs.Digits.{decimal_short, hexadecimal_length}
use Rattle.digits_and_lines.proofs.Lines.{spaced_append}
use Rattle.report_input.specs.Input.{max_report_cells, input_refusal, input_table}
use Rattle.report_input.proofs.Input.{input_accepted}
use Rattle.report_layout.specs.Lines.{bits_word, entry_line, numbers_line}
use Rattle.strike_sweeps.specs.Sweeps.{Strike, strike_numbers, sweeps}
use Rattle.strike_sweeps.proofs.Ends.{sweeps_done}
use Rattle.report_layout.specs.Table.{codes, number_line, listed, catalogue_line, equilibrium_line, equilibria_text, struck_text, table_report}
use Rattle.report_layout.specs.Report.{told_report, report, max_report_bytes}
use Rattle.report_layout.proofs.Lists.{profile, equilibria_fit, strikes_few}

-- ---- lists of parts that are each at most so large

flat_short : {A B : Type 0} (f : A → List B) (n : ℕ) (xs : List A) → ((x : A) → x ∈ xs → length (f x) ≤ n) → length (flat_map f xs) ≤ n * length xs
unfolding flat_map
flat_short f n [] h = omega arith
flat_short f n (x ∷ xs) h = omega (arith, length-append (f x) (flat_map f xs), h x (here refl), flat_short f n xs (λ y k. h y (there k)))

-- ---- words in a line

spaced_cons : (w : List ℕ) (ws : List (List ℕ)) → length (spaced (w ∷ ws)) ≡ suc (length w) + length (spaced ws)
unfolding spaced flat_map
spaced_cons w ws = length-append (space ∷ w) (spaced ws)

-- a line has its end in place of the space before its first word
line_spaced : (w : List ℕ) (ws : List (List ℕ)) → length (line (w ∷ ws)) ≡ length (spaced (w ∷ ws))
unfolding line joined
line_spaced w ws = omega (arith, spaced_cons w ws, length-append w (spaced ws), length-append (w ++ spaced ws) (line_end ∷ []))

spaced_short : {A : Type 0} (f : A → List ℕ) (n : ℕ) (d : A) (xs : List A) → ((i : ℕ) → i < length xs → length (f (get_or xs i d)) ≤ n)
    → length (spaced (map f xs)) ≤ suc n * length xs
unfolding spaced flat_map
spaced_short f n d [] h = omega arith
spaced_short f n d (x ∷ xs) h =
    omega (arith, spaced_cons (f x) (map f xs), h 0 (omega arith), spaced_short f n d xs (λ i l. h (suc i) (suc-le-suc l)))

-- a strategy or a count
two_digits : (n : ℕ) → n ≤ max_strategies → length (decimal n) ≤ 2
two_digits n h = decimal_short n 2 (omega arith) (omega (arith, h))

numbers_short : (ns : List ℕ) → ((i : ℕ) → i < length ns → get_or ns i 0 ≤ max_strategies) → length (spaced (map decimal ns)) ≤ 3 * length ns
numbers_short ns h = spaced_short decimal 2 0 ns (λ i l. two_digits (get_or ns i 0) (h i l))

number_short : (name : String) (n j : ℕ) → 1 ≤ j → n < 10 ^ j → length (number_line name n) ≤ length (codes name) + j + 2
unfolding number_line spaced flat_map
number_short name n j h l =
    omega (arith, line_spaced (codes name) (decimal n ∷ []), spaced_cons (codes name) (decimal n ∷ []), spaced_cons (decimal n) [], decimal_short n j h l)

listed_short : {A : Type 0} (name : String) (f : A → List ℕ) (n j : ℕ) (xs : List A) → 1 ≤ j → length xs < 10 ^ j
    → ((x : A) → x ∈ xs → length (f x) ≤ n) → length (listed name f xs) ≤ length (codes name) + j + 2 + n * length xs
listed_short name f n j xs h l k =
    omega (arith, length-append (number_line name (length xs)) (flat_map f xs), number_short name (length xs) j h l, flat_short f n xs k)

-- ---- the lines of a table's report

entry_short : (x : List ℕ) (us : List Float) → 0 < length x → length us ≡ length x → ((p : ℕ) → p < length x → get_or x p 0 ≤ max_strategies)
    → length (entry_line x us) ≤ 20 * length x
unfolding entry_line bits_word
entry_short [] us h e c = absurd (omega (arith, h))
entry_short (s ∷ x) us h e c =
    let bits = spaced_short bits_word 16 nan us (λ i l. omega (arith, hexadecimal_length (to_bits binary64 (get_or us i nan)))) in
    let choices = map decimal (s ∷ x) in
    omega (
      arith,
      line_spaced (decimal s) (map decimal x ++ map bits_word us),
      ap length (spaced_append choices (map bits_word us)),
      length-append (spaced choices) (spaced (map bits_word us)),
      numbers_short (s ∷ x) c,
      bits,
      e,
    )

strike_short : (p s d : ℕ) → p < 10 → s ≤ max_strategies → d ≤ max_strategies → length (numbers_line (p ∷ s ∷ d ∷ [])) ≤ 8
unfolding numbers_line spaced flat_map
strike_short p s d h k l =
    let more = decimal s ∷ decimal d ∷ [] in
    omega (
      arith,
      line_spaced (decimal p) more,
      spaced_cons (decimal p) more,
      spaced_cons (decimal s) (decimal d ∷ []),
      spaced_cons (decimal d) [],
      decimal_short p 1 (omega arith) (omega (arith, h)),
      two_digits s k,
      two_digits d l,
    )

catalogue_short : (g : Game) → length (catalogue_line (game_number catalogue g)) ≤ 15
unfolding game_number catalogue_line line joined spaced flat_map
catalogue_short g = go (two_by_two g.counts && strictly_ranked (bimatrix g)) (place catalogue k) (place_law catalogue k)
  where
    k : ℕ
    k = least_key (ranks (bimatrix g))

    go : (b : Bool) (o : Option ℕ) → First ◌<◌ (Stands catalogue k) o → length (catalogue_line (cond b o none)) ≤ 15
    go false o l = omega arith
    go true none l = omega arith
    go true (some n) l = omega (arith, number_short "catalogue" n 3 (omega arith) (omega (arith, l.0.0, catalogue_length)))

module _ (counts : List ℕ) (payoffs : List Float) (t : Table counts payoffs) where
  equilibrium_short : (x : List ℕ) → x ∈ table_equilibria counts payoffs → length (equilibrium_line counts payoffs x) ≤ 20 * length counts
  equilibrium_short x k =
      let r = profile counts payoffs t x k in
      let e = r.each in
      let short =
      entry_short x (profile_part counts payoffs x) (omega (arith, e, t.shape.some)) (omega (arith, e, part_length_lem r payoffs t.full))
      (λ p l. omega (arith, r.fits p (omega (arith, l, e)), t.shape.high p (omega (arith, l, e))))
      in
      omega (arith, short, e)

  equilibria_short : length payoffs ≤ max_report_cells → length (equilibria_text counts payoffs) ≤ 16 + 20 * length payoffs
  unfolding equilibria_text
  equilibria_short h =
      let n = length (table_equilibria counts payoffs) in
      let each = mul-le-mul_left n t.shape.some in
      omega (
        arith,
        listed_short "equilibria" (equilibrium_line counts payoffs) (20 * length counts) 4 (table_equilibria counts payoffs) (omega arith)
            (omega (arith, each, equilibria_fit counts payoffs t, h)) equilibrium_short,
        equilibria_fit counts payoffs t,
      )

  struck_short : (k : Strike) → k ∈ (sweeps counts payoffs).strikes → length (numbers_line (strike_numbers k)) ≤ 8
  unfolding table_game
  struck_short k m =
      let name = (sweeps_done counts payoffs t).named k m in
      let high = t.shape.high k.struck.player name.struck.0 in
      strike_short k.struck.player k.struck.number k.dominator (omega (arith, name.struck.0, t.shape.few))
      (omega (arith, name.struck.1, high)) (omega (arith, name.dominator.1, high))

  strikes_short : length (struck_text counts payoffs) ≤ 11 + 8 * max_marks
  unfolding struck_text
  strikes_short =
      let few = strikes_few counts payoffs t in
      omega (
        arith,
        listed_short "struck" (λ k. numbers_line (strike_numbers k)) 8 3 (sweeps counts payoffs).strikes (omega arith) (omega (arith, few)) struck_short,
        few,
      )

  counts_short : length (line (codes "counts" ∷ map decimal counts)) ≤ 31
  counts_short =
      omega (
        arith,
        line_spaced (codes "counts") (map decimal counts),
        spaced_cons (codes "counts") (map decimal counts),
        numbers_short counts t.shape.high,
        t.shape.few,
      )

-- ---- reports

pub table_size : (counts : List ℕ) (payoffs : List Float) → Table counts payoffs → length payoffs ≤ max_report_cells
    → length (table_report counts payoffs) ≤ max_report_bytes
unfolding table_report
table_size counts payoffs t h =
    let a = number_line "players" (length counts) in
    let b = line (codes "counts" ∷ map decimal counts) in
    let c = equilibria_text counts payoffs in
    let d = struck_text counts payoffs in
    let e = catalogue_line (game_number catalogue (table_game counts payoffs)) in
    omega (
      arith,
      length-append (a ++ b ++ c ++ d) e,
      length-append (a ++ b ++ c) d,
      length-append (a ++ b) c,
      length-append a b,
      number_short "players" (length counts) 1 (omega arith) (omega (arith, t.shape.few)),
      counts_short counts payoffs t,
      equilibria_short counts payoffs t h,
      strikes_short counts payoffs t,
      catalogue_short (table_game counts payoffs),
      h,
    )

pub report_size : (bytes : List ℕ) → Bytes bytes → length (report bytes) ≤ max_report_bytes
unfolding report input_table
report_size bytes B = go (input_refusal bytes) refl
  where
    ws : List ℕ
    ws = words_of bytes

    go : (r : Refusal) → input_refusal bytes ≡ r → length (told_report (unless r (counts_in ws, payoffs_in ws))) ≤ max_report_bytes
    go none e = let (t, few) = input_accepted bytes B e in table_size (counts_in ws) (payoffs_in ws) t few
    go (some r) e = omega (arith, number_short "refused" (number_of r) 2 (omega arith) (omega (arith, number_most r)))
