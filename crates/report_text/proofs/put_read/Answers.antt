-- `report_text::put_read` meets its contract: the counts have no refusal, so the number of profiles is told. Assumes nothing.
use mathlib.Core.Path.{sym, ap, ◌∙◌}
use mathlib.Core.List.{List}
use Prim.Native.Nat.{ℕ}
use lib.ListN.{take}
use Rattle.game.specs.Finite.{product}
use Rattle.refusal.specs.Refusal.{Refusal}
use Rattle.refusal.specs.Told.{unless}
use Rattle.refusal.proofs.Told.{apart}
use Rattle.payoff_tables.proofs.Checks.{counts_law}
use Rattle.report_text.proofs.put_read.Goals as goal

pub returns-in_default : goal.returns-in_default
returns-in_default c =
    let counts : List ℕ = take c.args.players c.args.counts.now in
    absurd
    (apart (product counts) _
    (sym (ap (λ (r : Refusal). unless r (product counts)) ((counts_law counts).1 c.requires.table.shape)) ∙ sym c.in_default.ensures))
