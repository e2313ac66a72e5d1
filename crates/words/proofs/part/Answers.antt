-- `words::part` meets its contract: the word that is due is its kind times 2^30 and its payload.
-- Assumes nothing.
use mathlib.Core.Path.{◌≡◌, sym, ◌∙◌}
use mathlib.Core.List.{List}
use mathlib.Core.Option.{none}
use Prim.Native.Nat.{ℕ, ◌+◌, ◌*◌, ◌/◌, ◌^◌, ◌<◌}
use native.Mathlib.Omega.{arith}
use lib.ListN.{length}
use Rattle.file_words.specs.Words.{word, word_at, payload_at, words_of}
use Rattle.file_words.specs.Faults.{due_fault}
use Rattle.file_words.proofs.Words.{words_length, words_at}
use Rattle.file_words.proofs.Faults.{due_law, due_word}
use Rattle.words.proofs.part.Goals as goal

-- the word is there
here : (bytes : List ℕ) (place kind : ℕ) → due_fault (words_of bytes) place kind ≡ none → place < length bytes / 4
here bytes place kind h = rw words_length at ((due_law (words_of bytes) place kind).0 h).0

-- and made of the kind and its payload
is : (bytes : List ℕ) (place kind : ℕ) → due_fault (words_of bytes) place kind ≡ none →
    word_at bytes place ≡ kind * 2 ^ 30 + payload_at (words_of bytes) place
unfolding word
is bytes place kind h =
    sym (words_at bytes place (here bytes place kind h)) ∙ due_word (words_of bytes) place kind h

pub word_at-requires : goal.word_at-requires
word_at-requires c = omega (arith, here c.args.bytes.now c.args.place c.args.kind c.requires.1)

pub overflow_sub-result : goal.overflow_sub-result
overflow_sub-result c = omega (arith, is c.args.bytes.now c.args.place c.args.kind c.requires.1, c.word_at.ensures)

pub returns : goal.returns
returns c = omega (arith, is c.args.bytes.now c.args.place c.args.kind c.requires.1, c.word_at.ensures)
