-- `c_outputs::survivors_of` meets its contract, by that of `marks_of`. Assumes nothing.
use mathlib.Core.Path.{ap}
use mathlib.Core.Bool.{Bool}
use mathlib.Core.List.{List}
use Rattle.survivors.specs.declared.Survivors.{Survivors}
use Rattle.c_answers.specs.Status.{survivors_of}
use Rattle.c_outputs.proofs.survivors_of.Goals as goal

pub returns : goal.returns
unfolding survivors_of
returns c =
    let a = c.args in
    ap {B = Survivors} (λ (l : List Bool). record { players = a.players; counts = a.counts.now; marks = l }) c.marks_of.ensures
