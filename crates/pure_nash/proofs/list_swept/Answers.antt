-- `pure_nash::list_swept` meets its contract: the profiles that have no 0 among the marks of best responses are the equilibria. Assumes nothing.
use mathlib.Core.Path.{◌≡◌, ap, ◌∙◌, subst}
use mathlib.Core.List.{List}
use Prim.Native.Nat.{ℕ}
use native.Mathlib.Omega.{arith}
use lib.ListN.{length}
use Rattle.marks.specs.Marks.{marked}
use Rattle.equilibria.specs.Answers.{Wrote}
use Rattle.response_marks.specs.Marks.{marked_profiles}
use Rattle.response_marks.proofs.Marks.{marks_listed}
use borrow.Author.Rules.{rules}
use Rattle.pure_nash.proofs.list_swept.Goals as goal

pub list_marked-requires : goal.list_marked-requires
list_marked-requires c =
    let long : length c.mark_all.new.marks ≡ length c.args.marks.now = search rules in
    record { table = c.requires.table; profiles_value = (c.requires.profiles_value, omega (arith, long, c.requires.payoffs_in_bounds)) }

pub returns : goal.returns
returns c =
    let a = c.args in
    let is = ap (λ (ys : List ℕ). marked_profiles a.counts.now ys) c.mark_all.ensures ∙ marks_listed a.counts.now a.payoffs.now (marked a.survivors.now) a.marks.now in
    subst (λ (es : List (List ℕ)). Wrote a.counts.now a.payoffs.now es a.choices.now c.list_marked.new.choices a.utilities.now c.list_marked.new.utilities c.list_marked.result) is c.list_marked.ensures
