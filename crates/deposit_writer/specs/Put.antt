-- What an output holds after words were put into it, for the contracts of the writer's inner
-- functions. Assumes nothing.
use Rattle.std.specs.Prelude.{List, ℕ, ◌*◌}
use Rattle.std.proofs.lemmas.List.Edits.{sets}
use Rattle.file_words.specs.Words.{bytes_of}

-- the words' bytes stored one after the other, from the byte of a place on
abbrev pub words_put : List ℕ → ℕ → List ℕ → List ℕ
words_put bytes place ws = sets bytes (4 * place) (bytes_of ws)
