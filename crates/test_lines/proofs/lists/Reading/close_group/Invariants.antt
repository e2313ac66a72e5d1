-- `test_lines::lists::Reading::close_group`: the group's elements are added in each round. Assumes
-- nothing.
use Rattle.std.proofs.Common.{◌≡◌, ◌+◌, ◌*◌}
use Rattle.std.specs.Vec.{vec_len}
use Rattle.test_lines.proofs.lists.Reading.close_group.Given as goal

abbrev pub invariant-loop : goal.invariant-loop
invariant-loop g l =
    (vec_len l.self.elements ≡ vec_len l.initial.self.elements + l.counter * l.width)
    × (l.self.room ≡ l.initial.self.room)
    × (l.self.group ≡ l.initial.self.group)
