-- `catalogue::keys` meets its contract: the keys of the definition are computed, and are the constant's. Assumes nothing.
use mathlib.Core.Path.{refl}
use mathlib.Core.List.{flat_map}
use Rattle.game.specs.Game.{profiles}
use Rattle.bimatrix.specs.Keys.{different, key, least_key}
use Rattle.catalogue.specs.Catalogue.{orders, rankings, catalogue}
use Rattle.catalogue.proofs.keys.Goals as goal

pub returns : goal.returns
unfolding flat_map profiles different key least_key orders rankings catalogue
returns c = refl
