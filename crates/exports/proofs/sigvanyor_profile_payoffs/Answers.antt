-- `exports::sigvanyor_profile_payoffs` meets its contract: the part of a profile whose offset is told lies in the table. Assumes nothing.
use native.Mathlib.Omega.{arith}
use Rattle.payoff_tables.proofs.Table.{part_told}
use Rattle.exports.proofs.sigvanyor_profile_payoffs.Goals as goal

pub overflow_mul-first : goal.overflow_mul-first
overflow_mul-first c =
    let a = c.args in
    omega (arith, part_told a.counts.now a.payoffs.now a.profile.now c.in-Ok.at c.in-Ok.ensures)
