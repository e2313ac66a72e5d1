-- Document 01, "The deposit file": big-endian 32-bit words; the top 2 bits are the kind, 30 bits the payload. Kind and payload are its terms.
-- A file of words is here the list of its words. Assumes nothing.
use mathlib.Core.List.{List, [], ◌∷◌, ◌++◌, map, flat_map}
use Rattle.std.specs.Prelude.{ℕ, ◌+◌, ◌*◌, ◌/◌, ◌%◌, ◌^◌, ◌<◌, length, get_or}
use Rattle.game.specs.Finite.{below}

-- ---- a word's kind and payload

-- how many payloads there are
abbrev pub payloads : ℕ
payloads = 2 ^ 30

-- the kind of a closing word
abbrev pub closing_kind : ℕ
closing_kind = 3

-- the word of a kind and a payload
unfoldable pub word : ℕ → ℕ → ℕ
word kind payload = kind * payloads + payload

-- the top 2 bits of a word
unfoldable pub kind_of : ℕ → ℕ
kind_of w = w / payloads

-- the other 30
unfoldable pub payload_of : ℕ → ℕ
payload_of w = w % payloads

-- the payload of the word that i words stand before, 0 where there is none
abbrev pub payload_at : List ℕ → ℕ → ℕ
payload_at ws i = payload_of (get_or ws i 0)

-- ---- from words to bytes

-- the four bytes of a word, the highest first
unfoldable pub word_bytes : ℕ → List ℕ
word_bytes w = w / 2 ^ 24 ∷ w / 2 ^ 16 % 256 ∷ w / 2 ^ 8 % 256 ∷ w % 256 ∷ []

-- the bytes of a file
unfoldable pub bytes_of : List ℕ → List ℕ
bytes_of ws = flat_map word_bytes ws

-- words, and after them the closing one: the number of words before it
unfoldable pub closed : List ℕ → List ℕ
closed ws = ws ++ (word closing_kind (length ws) ∷ [])

-- ---- from bytes to words

-- each byte is below 256, as the elements of a slice of bytes are
abbrev pub Bytes : List ℕ → Type 0
Bytes bytes = (i : ℕ) → get_or bytes i 0 < 256

-- the word of the four bytes from 4 × i on
unfoldable pub word_at : List ℕ → ℕ → ℕ
word_at bytes i = get_or bytes (4 * i) 0 * 2 ^ 24 + get_or bytes (4 * i + 1) 0 * 2 ^ 16 + get_or bytes (4 * i + 2) 0 * 2 ^ 8 + get_or bytes (4 * i + 3) 0

-- the words of a file, as many as its bytes hold whole
unfoldable pub words_of : List ℕ → List ℕ
words_of bytes = map (word_at bytes) (below (length bytes / 4))
