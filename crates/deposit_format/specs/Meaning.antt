-- What a deposit's words are, place by place. Assumes nothing.
use Rattle.std.specs.Prelude.{◌≡◌, List, ℕ, ◌+◌, ◌*◌, ◌<◌, length, get_or, Float}
use Rattle.std.specs.Float.{nan}
use Rattle.file_words.specs.Words.{word}
use Rattle.deposit_format.specs.Deposit.{payoff_words}

module _ (counts : List ℕ) (payoffs : List Float) where
  -- how many words stand before the closing one
  abbrev pub words_before : ℕ
  words_before = 1 + length counts + 3 * length payoffs

  -- the opening word, a word for each count, three for each cell, the closing word, and no other
  pub record Layout (ws : List ℕ) : Type 0 where
    pub number : length ws ≡ words_before + 1
    pub opening : get_or ws 0 0 ≡ word 0 (256 + length counts)
    pub count : (p : ℕ) → p < length counts → get_or ws (1 + p) 0 ≡ word 1 (get_or counts p 0)
    pub cell : (i j : ℕ) → i < length payoffs → j < 3
        → get_or ws (1 + length counts + 3 * i + j) 0 ≡ get_or (payoff_words (get_or payoffs i nan)) j 0
    pub closing : get_or ws words_before 0 ≡ word 3 words_before
