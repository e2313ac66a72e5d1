-- The number of the C interface. Assumes nothing.
use Rattle.std.specs.Prelude.{ℕ}

-- it goes up with each change of a C signature or of a limit
abbrev pub interface : ℕ
interface = 3
