-- `words::payload` meets its contract: the remainder by 2^30 is the payload, and past the last word
-- the list of words has 0. Assumes nothing.
use Rattle.file_words.proofs.Words.{payload_here, payload_none}
use Rattle.words.proofs.payload.Goals as goal

pub returns-then-place-bytes : goal.returns-then-place-bytes
returns-then-place-bytes c = rw c.word_at.ensures (payload_here _ _ c.if-place-bytes.true)

pub returns-else-place-bytes : goal.returns-else-place-bytes
returns-else-place-bytes c = payload_none _ _ c.if-place-bytes.false
