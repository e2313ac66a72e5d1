-- The room of a list that is read: how many elements it has and may still have. Assumes nothing.
use Rattle.std.specs.Prelude.{ℕ, ◌+◌}
use Rattle.std.specs.Vec.{vec_len}
use Rattle.test_lines.specs.declared.lists.Reading.{Reading}

-- the elements that are read, those of the group that is open among them, and the room for more
abbrev pub spoken_for : {A : Type 0} → Reading A → ℕ
spoken_for r = vec_len r.elements + r.room
