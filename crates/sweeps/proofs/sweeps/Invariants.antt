-- The invariant of `sweeps::sweeps`: some sweeps were made, and those to come end as all do. The measure: the marks that are left, and one more
-- until a sweep strikes nothing.
use Rattle.std.proofs.Common.{◌≡◌, cond, ◌+◌}
use Rattle.game.specs.Finite.{product}
use Rattle.survivors.specs.Survivors.{mark_count}
use Rattle.sweeps.proofs.Runs.{After}
use Rattle.sweeps.proofs.sweeps.Given as goal

abbrev pub invariant-loop-progress : goal.invariant-loop-progress
invariant-loop-progress l =
    let p = l.progress in (l.table.profiles ≡ product l.counts) × After l.counts l.payoffs l.initial.struck p.end p.any p.survivors l.struck

abbrev pub decreases-loop-progress : goal.decreases-loop-progress
decreases-loop-progress l = mark_count l.progress.survivors + cond l.progress.any 1 0
