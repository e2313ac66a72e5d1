-- `survivors::none` meets its contract, computed. Assumes nothing.
use mathlib.Core.List.{flat_map}
use mathlib.Core.Path.{refl}
use Rattle.table.specs.Space.{space_of}
use Rattle.survivors.specs.Survivors.{fresh_of, all_marks}
use Rattle.survivors.proofs.none.Goals as goal

pub returns : goal.returns
unfolding fresh_of space_of all_marks flat_map
returns c = refl
