-- Player after player, from the last on. Assumes nothing.
use mathlib.Core.Path.{◌≡◌, sym, ap, ◌∙◌, subst}
use mathlib.Core.Bool.{Bool, true, false}
use mathlib.Core.List.{List, []}
use mathlib.Core.Logic.{inl, inr, ⊎_elim}
use Prim.Native.Nat.{ℕ, ◌+◌, ◌*◌, ◌/◌, ◌%◌, ◌≤◌, ◌<◌}
use native.Mathlib.Nat.{eq-or-lt_of_le, mod-lt}
use native.Mathlib.Omega.{arith}
use lib.Arith.{digits_lt, digits_mod}
use lib.ListN.{length, get_or, replicate, get_or-replicate}
use lib.Seq.{ext_get_or}
use lib.Ieee.{Float}
use Rattle.game.specs.Finite.{product}
use Rattle.game.specs.Game.{profiles}
use Rattle.game.proofs.Finite.{le_or_lt}
use Rattle.refusal.specs.Told.{byte_of}
use Rattle.written_lists.specs.Outputs.{over}
use Rattle.written_lists.proofs.Outputs.{over_length, over_rest}
use Rattle.payoff_tables.specs.Limits.{max_marks}
use Rattle.payoff_tables.specs.Table.{cells, stride, table_game}
use Rattle.payoff_tables.specs.Meaning.{Shape}
use Rattle.payoff_tables.proofs.Offsets.{digits}
use Rattle.table.proofs.Space.{zeros}
use Rattle.marks.specs.Marks.{mark_place, marked}
use Rattle.marks.proofs.Marks.{mark_inside}
use Rattle.response_marks.specs.Marks.{settled, response_marks}
use Rattle.response_marks.proofs.Marks.{marks_length, marks_over}
use Rattle.mark_responses.specs.Sweep.{choice_at, Ready, PlayerMarked, PlayersMarked}

module _ (counts : List ℕ) (payoffs : List Float) (survivors : List Bool) (before : List ℕ) where
  -- a player that is not marked yet finds its bytes as they were
  pub still_ready : (p : ℕ) (marks : List ℕ) → p < length counts → Ready counts survivors p before → PlayersMarked counts payoffs survivors (p + 1) before marks
      → Ready counts survivors p marks
  still_ready p marks mine ready u k h = ⊎_elim (λ on. inl on) (λ (z : get_or before (k * length counts + p) 0 ≡ 0). inr (u.todo k p h (omega arith) mine ∙ z)) (ready k h)

  -- one player more
  pub all_more : (p : ℕ) (marks next : List ℕ) → p < length counts → PlayersMarked counts payoffs survivors (p + 1) before marks
      → PlayerMarked counts payoffs survivors p marks next → PlayersMarked counts payoffs survivors p before next
  all_more p marks next mine u r =
      record {
        long = r.long ∙ u.long;
        done = λ k q h l m.
            ⊎_elim
            (λ (e : p ≡ q). subst (λ (n : ℕ). get_or next (k * length counts + n) 0 ≡ byte_of (settled (table_game counts payoffs) (marked survivors) (get_or (profiles counts) k []) n)) e (r.done k h))
            (λ (e : p < q). other k q m (λ z. omega arith) ∙ u.done k q h (omega arith) m) (eq-or-lt_of_le l);
        todo = λ k q h l m. other k q m (λ z. omega arith) ∙ u.todo k q h (omega arith) m;
        kept = λ c h. r.kept c (λ k l e. omega (arith, digits_lt l mine)) ∙ u.kept c h;
      }
    where
      other : (k q : ℕ) → q < length counts → (q ≡ p → ⊥) → get_or next (k * length counts + q) 0 ≡ get_or marks (k * length counts + q) 0
      other k q m n =
          r.kept (k * length counts + q) (λ l h e. n (sym (digits_mod k m) ∙ ap (λ (i : ℕ). i % length counts) e ∙ digits_mod l mine))

  -- at the end it is the marks, over what stood there
  pub all_end : (marks : List ℕ) → cells counts ≤ length before → PlayersMarked counts payoffs survivors 0 before marks
      → marks ≡ over (response_marks (table_game counts payoffs) (marked survivors)) before
  unfolding table_game
  all_end marks room u =
      let xs = response_marks (table_game counts payoffs) (marked survivors) in
      let long : length xs ≡ cells counts = marks_length (table_game counts payoffs) (marked survivors) in
      ext_get_or 0 marks (over xs before) (u.long ∙ sym (over_length xs before (rw long room))) (λ i h.
      ⊎_elim (λ (l : cells counts ≤ i). u.kept i l ∙ sym (over_rest xs before i 0 (rw long l)))
      (λ (l : i < cells counts).
      let (k, p, a, b, e) = digits (product counts) (length counts) i l in
      subst (λ (n : ℕ). get_or marks n 0 ≡ get_or (over xs before) n 0) e (u.done k p a (omega arith) b ∙ sym (marks_over counts payoffs (marked survivors) before k p a b)))
      (le_or_lt (cells counts) i))

-- ---- bytes that are ready

-- with a mark on every place any bytes are
pub whole_ready : (counts marks : List ℕ) → Shape counts → (p : ℕ) → p < length counts → Ready counts (replicate max_marks true) p marks
whole_ready counts marks h p mine k l =
    let t : ℕ = choice_at counts p k in
    let less : t < get_or counts p 0 = mod-lt (k / stride counts p) (h.low p mine) in
    let e : get_or (replicate max_marks true) (mark_place p t) false ≡ true =
    get_or-replicate max_marks (mark_place p t) true false (mark_inside p t (omega (arith, h.few)) (omega (arith, h.high p mine, less))) in
    inl (rw e tt)

-- and bytes that are all 0 are, whatever is marked
pub clear_ready : (counts : List ℕ) (survivors : List Bool) (n p : ℕ) → Ready counts survivors p (replicate n 0)
clear_ready counts survivors n p k l = inr (zeros n (k * length counts + p))
