-- `words::whole` meets its contract: its test is the definition's. Assumes nothing.
use mathlib.Core.Path.{refl}
use Rattle.file_words.proofs.Faults.{length_law, uneven}
use Rattle.words.proofs.whole.Goals as goal

pub returns-then-bytes-ne0 : goal.returns-then-bytes-ne0
returns-then-bytes-ne0 c = rw (uneven c.args.bytes.now c.if-bytes-ne0.true) refl

pub returns : goal.returns
returns c = rw ((length_law c.args.bytes.now).1 c.if-bytes-ne0.false) refl
