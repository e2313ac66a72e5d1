use mathlib.Core.Path.{◌≡◌, refl, sym, ap, ap₂, ◌∙◌}
use mathlib.Core.List.{List, ◌++◌}
use mathlib.Core.Option.{none}
use Prim.Native.Nat.{ℕ, ◌+◌, ◌*◌, ◌<◌, ◌≤◌}
use native.Mathlib.Omega.{arith}
use borrow.Author.Count.{below_more}
use lib.Dec.{ltb}
use lib.ListN.{length, take, get_or, replicate}
use lib.Seq.{length-take-le, ext_get_or}
use Rattle.std.proofs.lemmas.List.{take_at}
use Rattle.game.specs.Finite.{product}
use Rattle.refusal.specs.Refusal.{Refusal, when}
use Rattle.refusal.specs.declared.NormalFormError.TheVariants.{TooManyCells}
use Rattle.refusal.specs.Told.{Told, values, refused, unless}
use Rattle.refusal.proofs.Refusal.{each_none, each_some}
use Rattle.refusal.proofs.Told.{told_values, told_refused, handed_on, hands_on_last}
use Rattle.payoff_tables.specs.Limits.{max_players, max_cells}
use Rattle.payoff_tables.specs.Table.{cells}
use Rattle.payoff_tables.specs.Checks.{count_refusal, counts_refusal}
use Rattle.payoff_tables.specs.Answers.{counts_answer}
use Rattle.payoff_tables.proofs.Checks.{counts_law}
use Rattle.file_words.specs.Words.{words_of, payload_at}
use Rattle.deposit_format.specs.Deposit.{players_in, counts_in, count_fault}
use Rattle.deposit_format.proofs.Faults.{count_fault_law}
use Rattle.deposit_format.proofs.Tables.{counts_length, counts_at, counts_left}
use Rattle.deposit_reader.proofs.Written.{next_written}
use Rattle.deposit_reader.proofs.cell_count.Goals as goal
use Rattle.deposit_reader.proofs.cell_count.Goals.{After-loop-p}

-- as many places as there are players
long : (players : ℕ) → players ≤ max_players → length (take players (replicate {A = ℕ} max_players 0)) ≡ players
long players h = length-take-le players (replicate {A = ℕ} max_players 0) h

pub count_at-requires : goal.count_at-requires
count_at-requires c = omega (arith, c.requires.2, long c.args.players c.requires.2, c.loop-p-test.true)

pub returns-in_err-count : goal.returns-in_err-count
returns-in_err-count c =
    let l = c.loop-p in
    let a = c.args in
    let ws = words_of a.bytes.now in
    let t = told_refused (count_fault ws l.p) _ _ c.in_err-count.ensures in
    rw (each_some a.players (count_fault ws) l.p t.0 (omega (arith, long a.players c.requires.2, c.loop-p-test.true)) l.invariant.0 t.1)
    (handed_on _ _ c.from_residual.ensures.1 ∙ ap (λ (n : ℕ). refused n) t.2)

pub loop-p-preserved : goal.loop-p-preserved
loop-p-preserved c =
    let l = c.loop-p in
    let a = c.args in
    let ws = words_of a.bytes.now in
    let inside : l.p < a.players = omega (arith, long a.players c.requires.2, c.loop-p-test.true) in
    let read = told_values (count_fault ws l.p) (payload_at ws (1 + l.p)) c.in_ok-count.field-0 c.in_ok-count.ensures in (
      below_more _ _ l.invariant.0 read.0,
      next_written 0 (counts_in ws) l.count-items l.p _ (omega (arith, l.auto.count-items, c.loop-p-test.true)) l.invariant.1
          (read.1 ∙ sym (counts_at ws l.p (omega (arith, inside, c.requires.0)))),
    )

-- the counts that were read, and what is left of their refusals
module _
    (ws : List ℕ)
    (n p : ℕ)
    (xs : List ℕ)
    (given : (n ≡ players_in ws) × (0 < n) × (n ≤ max_players))
    (met : ((q : ℕ) → q < p → count_fault ws q ≡ none) × ((q : ℕ) → q < p → get_or xs q 0 ≡ get_or (counts_in ws) q 0))
    (filled : length xs ≡ n)
    (out : n ≤ p)
  where
    abbrev cs : List ℕ
    cs = counts_in ws

    size : length cs ≡ n
    size = counts_length ws ∙ sym given.0

    none_before : (q : ℕ) → q < n → count_fault ws q ≡ none
    none_before q h = met.0 q (omega (arith, h, out))

    left : counts_refusal cs ≡ when (ltb max_cells (cells cs)) TooManyCells
    left =
        counts_left cs (omega (arith, size, given.1)) (omega (arith, size, given.2))
        (λ p h.
        ap count_refusal (counts_at ws p (omega (arith, h, counts_length ws)))
        ∙ ((count_fault_law ws p).0 (none_before p (omega (arith, h, size)))).1)

    read : xs ≡ cs
    read = ext_get_or 0 xs cs (filled ∙ sym size) (λ q h. met.1 q (omega (arith, h, filled, out)))

    told : (ys : List ℕ) (r : Told ℕ) → r ≡ counts_answer (take n (xs ++ ys)) → r ≡ unless (when (ltb max_cells (cells cs)) TooManyCells) (product cs)
    told ys r e =
        e
        ∙ ap counts_answer (take_at xs ys n filled ∙ read)
        ∙ ap (λ (r : Refusal). unless r (product cs)) left

    -- where they are not too many
    module _ (ys : List ℕ) (profiles : ℕ) (e : values profiles ≡ counts_answer (take n (xs ++ ys))) where
      fits : (when (ltb max_cells (cells cs)) TooManyCells ≡ none) × (profiles ≡ product cs)
      fits = told_values (when (ltb max_cells (cells cs)) TooManyCells) (product cs) profiles (told ys (values profiles) e)

      number : profiles * n ≡ cells cs
      number = ap₂ (λ (m n : ℕ). m * n) fits.1 (sym size)

      room : cells cs ≤ max_cells
      room = ((counts_law cs).0 (left ∙ fits.0)).room

-- where all players are passed
module _ (c : After-loop-p) where
  filled_all : length c.loop-p.count-items ≡ c.args.players
  filled_all = c.loop-p.auto.count-items ∙ long c.args.players c.requires.2

  passed : c.args.players ≤ c.loop-p.p
  passed = omega (arith, long c.args.players c.requires.2, c.loop-p-test.false)

pub overflow_mul-result : goal.overflow_mul-result
overflow_mul-result c =
    let a = c.args in
    let l = c.loop-p in
    let k = c.in_ok-profiles in
    let ws = words_of a.bytes.now in
    let o = (goal.at.overflow_mul-result c).After-loop-p in
    omega (
      arith,
      number ws a.players l.p l.count-items c.requires l.invariant (filled_all o) (passed o) _ k.profiles k.ensures,
      room ws a.players l.p l.count-items c.requires l.invariant (filled_all o) (passed o) _ k.profiles k.ensures,
    )

pub returns-in_err-profiles : goal.returns-in_err-profiles
returns-in_err-profiles c =
    let a = c.args in
    let l = c.loop-p in
    let ws = words_of a.bytes.now in
    let o = (goal.at.returns-in_err-profiles c).After-loop-p in
    rw (each_none a.players (count_fault ws) (none_before ws a.players l.p l.count-items c.requires l.invariant (filled_all o) (passed o)))
    (hands_on_last _ _ (when (ltb max_cells (cells (counts_in ws))) TooManyCells) (product (counts_in ws)) _ c.from_residual-in_err-profiles.ensures.1
    (told ws a.players l.p l.count-items c.requires l.invariant (filled_all o) (passed o) _ _ c.in_err-profiles.ensures))

pub returns : goal.returns
returns c =
    let a = c.args in
    let l = c.loop-p in
    let k = c.in_ok-profiles in
    let ws = words_of a.bytes.now in
    let o = (goal.at.returns c).After-loop-p in
    rw (
      each_none a.players (count_fault ws) (none_before ws a.players l.p l.count-items c.requires l.invariant (filled_all o) (passed o)),
      (fits ws a.players l.p l.count-items c.requires l.invariant (filled_all o) (passed o) _ k.profiles k.ensures).0,
      number ws a.players l.p l.count-items c.requires l.invariant (filled_all o) (passed o) _ k.profiles k.ensures,
    )
    refl
