-- `words::due` meets its contract: a place below a quarter of the length is a word's. Assumes
-- nothing.
use mathlib.Core.Path.{refl, sym, ap, ◌∙◌}
use Prim.Native.Nat.{ℕ, ◌/◌, ◌^◌}
use Rattle.file_words.proofs.Words.{payload_here}
use Rattle.file_words.proofs.Faults.{bytes_absent, bytes_other, bytes_due}
use Rattle.words.proofs.due.Goals as goal

pub returns-then-bytes-place : goal.returns-then-bytes-place
returns-then-bytes-place c = rw (bytes_absent _ _ _ c.if-bytes-place.true) refl

pub returns-then-word-kind : goal.returns-then-word-kind
returns-then-word-kind c =
    rw
    (bytes_other _ _ _ c.if-bytes-place.false
    (λ e. c.if-word-kind.true (ap (λ (w : ℕ). w / 2 ^ 30) c.word_at-word.ensures ∙ e)))
    refl

pub returns : goal.returns
returns c =
    let is = c.word_at-word.ensures in
    let here = c.if-bytes-place.false in
    rw (bytes_due _ _ _ here (ap (λ (w : ℕ). w / 2 ^ 30) (sym is) ∙ c.if-word-kind.false), is, payload_here _ _ here) refl
