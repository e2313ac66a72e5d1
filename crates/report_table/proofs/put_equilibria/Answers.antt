-- `report_table::put_equilibria` meets its contract: the outputs hold every profile, so that the listing writes all. Assumes nothing.
use mathlib.Core.Path.{◌≡◌, sym, ap, ap₂, ◌∙◌, subst}
use mathlib.Core.List.{List, [], ◌∷◌, ◌++◌, flat_map}
use Prim.Native.Nat.{ℕ, ◌*◌, ◌≤◌, ◌<◌}
use native.Mathlib.Omega.{arith}
use lib.Dec.{T}
use lib.ListN.{length, get_or, replicate, length-append}
use lib.Ieee.{Float, nan, binary64, of_bits}
use Rattle.refusal.specs.Told.{values}
use Rattle.refusal.specs.declared.Listed.{Listed}
use Rattle.refusal.proofs.Told.{apart}
use Rattle.payoff_order.specs.Order.{finite}
use Rattle.payoff_tables.specs.Table.{profile_part}
use Rattle.payoff_tables.specs.Checks.{table_refusal}
use Rattle.payoff_tables.specs.Meaning.{Table}
use Rattle.payoff_tables.proofs.Checks.{table_law}
use Rattle.equilibria.specs.Answers.{table_equilibria, equilibria_answer, equilibria_choices, equilibria_utilities}
use Rattle.equilibria.proofs.Listing.{listing_all}
use Rattle.report_input.specs.Input.{max_report_cells}
use Rattle.outputs.proofs.Puts.{puts_more, puts_same}
use Rattle.digits_and_lines.specs.Text.{decimal, line}
use Rattle.report_layout.specs.Lines.{entry_lines}
use Rattle.report_layout.specs.Table.{codes, number_line, equilibrium_line, equilibria_text}
use Rattle.report_layout.proofs.Lists.{begins_with, equilibria_fit, choices_length, utilities_length, utilities_finite, equilibria_lines}
use Rattle.report_table.proofs.put_equilibria.Goals as goal

-- after the listing
module _ (counts : List ℕ) (payoffs : List Float) (table : Table counts payoffs) (few : length payoffs ≤ max_report_cells) where
  abbrev es : List (List ℕ)
  es = table_equilibria counts payoffs

  abbrev number : ℕ
  number = length es

  -- the outputs hold all of them
  all :
      (equilibria_answer counts payoffs max_report_cells max_report_cells ≡ values (record { total = number; written = number }))
      × (equilibria_choices counts payoffs max_report_cells max_report_cells ≡ flat_map (λ x. x) es)
      × (equilibria_utilities counts payoffs max_report_cells max_report_cells ≡ flat_map (profile_part counts payoffs) es)
  all =
      let fits : number * length counts ≤ max_report_cells = omega (arith, equilibria_fit counts payoffs table, few) in
      listing_all counts payoffs es max_report_cells max_report_cells table.shape.some fits fits (table_refusal counts payoffs) ((table_law counts payoffs).1 table)

  module _ (l : Listed) (told : values l ≡ equilibria_answer counts payoffs max_report_cells max_report_cells) where
    listed : l ≡ record { total = number; written = number }
    listed = let e = told ∙ all.0 in cc

    total_is : l.total ≡ number
    total_is = ap (λ (l : Listed). l.total) listed

    written_is : l.written ≡ number
    written_is = ap (λ (l : Listed). l.written) listed

  -- outputs that begin with the listing hold as many numbers
  many_choices : (choices cs : List ℕ) → choices ≡ flat_map (λ x. x) es ++ cs → number * length counts ≤ length choices
  many_choices choices cs c = omega (arith, ap length c, length-append (flat_map (λ x. x) es) cs, choices_length counts payoffs table)

  many_utilities : (utilities us : List Float) → utilities ≡ flat_map (profile_part counts payoffs) es ++ us → number * length counts ≤ length utilities
  many_utilities utilities us u =
      omega (arith, ap length u, length-append (flat_map (profile_part counts payoffs) es) us, utilities_length counts payoffs table)

pub returns-in_default : goal.returns-in_default
returns-in_default c =
    let a = c.args in
    let t = all a.counts.now a.payoffs.now c.requires.table c.requires.payoffs_len_bound in
    let n = length (table_equilibria a.counts.now a.payoffs.now) in
    absurd (apart (record { total = n; written = n }) _ (sym t.0 ∙ sym c.in_default.ensures.result_value))

pub put_entries-requires : goal.put_entries-requires
put_entries-requires c =
    let counts = c.args.counts.now in
    let payoffs = c.args.payoffs.now in
    let t = c.requires.table in
    let few = c.requires.payoffs_len_bound in
    let utilities = c.equilibria.new.utilities in
    let r = c.equilibria.ensures in
    let whole = all counts payoffs t few in
    let es = table_equilibria counts payoffs in
    let (cs, x) =
    begins_with c.equilibria.new.choices (replicate max_report_cells 0) (equilibria_choices counts payoffs max_report_cells max_report_cells)
    (flat_map (λ x. x) es) r.choices_after whole.1 in
    let (us, u) =
    begins_with utilities (replicate max_report_cells (of_bits binary64 0)) (equilibria_utilities counts payoffs max_report_cells max_report_cells)
    (flat_map (profile_part counts payoffs) es) r.utilities_after whole.2 in
    let e = written_is counts payoffs t few c.in-Ok.listed c.in-Ok.ensures.result_value in
    record {
      players_nonzero = t.shape.some;
      players_in_bounds = (
        rw e (many_choices counts payoffs t few c.equilibria.new.choices cs x),
        rw e (many_utilities counts payoffs t few utilities us u),
      );
      by_index = λ i l.
          let h : i < length (table_equilibria counts payoffs) * length counts = subst (λ (m : ℕ). i < m * length counts) e l in
          subst (λ (xs : List Float). T (finite (get_or xs i nan))) (sym u) (utilities_finite counts payoffs t us i h);
    }

pub returns : goal.returns
unfolding equilibria_text number_line
returns c =
    let a = c.args in
    let counts = a.counts.now in
    let payoffs = a.payoffs.now in
    let t = c.requires.table in
    let few = c.requires.payoffs_len_bound in
    let r = c.equilibria.ensures in
    let choices = c.equilibria.new.choices in
    let utilities = c.equilibria.new.utilities in
    let told = c.in-Ok.ensures.result_value in
    let e = written_is counts payoffs t few c.in-Ok.listed told in
    let one : ℕ → List ℕ = λ m. line (codes "equilibria" ∷ decimal m ∷ []) in
    let m = c.in-Ok.listed.written in
    let p = length counts in
    let n = length (table_equilibria counts payoffs) in
    let whole = all counts payoffs t few in
    let es = table_equilibria counts payoffs in
    let (cs, x) =
    begins_with choices (replicate max_report_cells 0) (equilibria_choices counts payoffs max_report_cells max_report_cells)
    (flat_map (λ x. x) es) r.choices_after whole.1 in
    let (us, u) =
    begins_with utilities (replicate max_report_cells (of_bits binary64 0)) (equilibria_utilities counts payoffs max_report_cells max_report_cells)
    (flat_map (profile_part counts payoffs) es) r.utilities_after whole.2 in
    let lines_are : entry_lines p m choices utilities ≡ flat_map (equilibrium_line counts payoffs) (table_equilibria counts payoffs) =
    ap (λ (j : ℕ). entry_lines p j choices utilities) e
    ∙ ap₂ (λ (xs : List ℕ) (ys : List Float). entry_lines p n xs ys) x u
    ∙ equilibria_lines counts payoffs t cs us in
    let d = c.put_number_line-place.ensures in
    let f = c.put_entries.ensures in
    let z =
    puts_same a.out.now a.at (ap₂ (λ (xs ys : List ℕ). xs ++ ys) (ap one (total_is counts payoffs t few c.in-Ok.listed told)) lines_are)
    (puts_more a.out.now a.at (one c.in-Ok.listed.total) (entry_lines p m choices utilities) (d.value, d.out_after) (f.value, f.out_after)) in
    record { value = z.0; out_after = z.1 }
