-- `words::word_at` meets its contract: the word is the sum of the four bytes, each at its worth.
-- Assumes nothing.
use Rattle.file_words.specs.Words.{word_at}
use Rattle.words.proofs.word_at.Goals as goal

pub returns : goal.returns
unfolding word_at
returns c = c.from_be_bytes.ensures
