-- `catalogue::two_by_two` meets its contract: the list of counts is compared with that of two twos. Assumes nothing.
use Rattle.std.proofs.Common.{◌≡◌, refl, ap, sym, ◌∙◌, List, [], ◌∷◌, ℕ, Bool, false, length, arith}
use Rattle.std.proofs.Math.Bool.{and-true, and-false}
use Rattle.std.specs.Prelude.{◌&&◌}
use borrow.Author.Tests.{ne_eqb}
use lib.Dec.{eqb}
use lib.Pointwise.{pointwise}
use Rattle.catalogue.specs.Answers.{two_by_two}
use Rattle.catalogue.proofs.two_by_two.Goals as goal

two : (cs : List ℕ) → pointwise eqb cs (2 ∷ 2 ∷ []) ≡ two_by_two cs
unfolding two_by_two
two [] = refl
two (a ∷ []) = and-false (eqb a 2)
two (a ∷ b ∷ []) = ap (λ (t : Bool). eqb a 2 && t) (and-true (eqb b 2))
two (a ∷ b ∷ c ∷ cs) =
    let no : eqb (length (a ∷ b ∷ c ∷ cs)) 2 ≡ false = ne_eqb _ 2 (omega arith) in
    ap (λ (t : Bool). eqb a 2 && t) (and-false (eqb b 2)) ∙ and-false (eqb a 2) ∙ sym (rw no)

pub returns : goal.returns
returns c = c.eq.ensures ∙ ap (pointwise eqb c.args.counts.now) c.as_slice.ensures ∙ two c.args.counts.now
