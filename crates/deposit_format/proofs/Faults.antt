-- The faults of the opening word, of a count word and of a cell's words, one after the other. Assumes nothing.
use mathlib.Core.Path.{◌≡◌, refl, sym, ◌∙◌, subst}
use mathlib.Core.Bool.{not}
use mathlib.Core.List.{List}
use mathlib.Core.Logic.{◌↔◌}
use mathlib.Core.Option.{none, some}
use Prim.Native.Nat.{ℕ, ◌+◌, ◌*◌, ◌/◌, ◌%◌, ◌^◌, ◌<◌, ◌≤◌}
use native.Mathlib.Omega.{arith}
use lib.Dec.{T, ltb, eqb}
use lib.Ieee.{binary64, of_bits}
use borrow.Author.Tests.{lt-ltb, le-ltb, eq-eqb, ne_eqb, ltb-false, eqb-true, eqb-false, not-false}
use Rattle.game.proofs.Finite.{test_true}
use Rattle.refusal.specs.Refusal.{when, ◌then◌}
use Rattle.refusal.specs.declared.NormalFormError.{NormalFormError}
use Rattle.refusal.specs.declared.NormalFormError.TheVariants.{NoPlayers, TooManyPlayers, NonFiniteUtility, WrongPayload}
use Rattle.refusal.proofs.Refusal.{when_none, then_none}
use Rattle.payoff_order.specs.Order.{finite}
use Rattle.payoff_tables.specs.Limits.{max_players}
use Rattle.payoff_tables.specs.Checks.{count_refusal}
use Rattle.file_words.specs.Words.{payload_at}
use Rattle.file_words.specs.Faults.{due_fault}
use Rattle.deposit_format.specs.Deposit.{players_in, payoff_in, opening_fault, count_fault, cell_fault}

-- ---- the opening word

pub players_is : (ws : List ℕ) → payload_at ws 0 % 256 ≡ players_in ws
unfolding players_in
players_is ws = refl

module _ (ws : List ℕ) (due : due_fault ws 0 0 ≡ none) where
  pub wrong_edition : (payload_at ws 0 / 256 ≡ 1 → ⊥) → opening_fault ws ≡ some WrongPayload
  unfolding opening_fault
  wrong_edition n = rw (due, ne_eqb (payload_at ws 0 / 256) 1 n) refl

  module _ (edition : payload_at ws 0 / 256 ≡ 1) where
    pub opens_none : players_in ws ≡ 0 → opening_fault ws ≡ some NoPlayers
    unfolding opening_fault
    opens_none e = rw (due, eq-eqb (payload_at ws 0 / 256) 1 edition, eq-eqb (players_in ws) 0 e) refl

    pub opens_many : max_players < players_in ws → opening_fault ws ≡ some TooManyPlayers
    unfolding opening_fault
    opens_many h =
        rw
        (due, eq-eqb (payload_at ws 0 / 256) 1 edition, ne_eqb (players_in ws) 0 (λ e. omega (arith, h, e)), lt-ltb max_players (players_in ws) h)
        refl

    pub opens : 0 < players_in ws → players_in ws ≤ max_players → opening_fault ws ≡ none
    unfolding opening_fault
    opens h k =
        rw
        (due, eq-eqb (payload_at ws 0 / 256) 1 edition, ne_eqb (players_in ws) 0 (λ e. omega (arith, h, e)), le-ltb max_players (players_in ws) k)
        refl

-- the opening word has no fault exactly where it is there, of kind 0, and 256 + P for a P from 1 to the limit
pub opening_law : (ws : List ℕ)
    → (opening_fault ws ≡ none) ↔ ((due_fault ws 0 0 ≡ none) × (payload_at ws 0 ≡ 256 + players_in ws) × (0 < players_in ws) × (players_in ws ≤ max_players))
unfolding opening_fault players_in
opening_law ws =
    let w = payload_at ws 0 in
    let p = w % 256 in
    let edition = eqb (w / 256) 1 in
    let most = ltb max_players p in (
      λ h.
          let (a, r) = (then_none (due_fault ws 0 0) (when (not edition) WrongPayload then when (eqb p 0) NoPlayers then when most TooManyPlayers)).0 h in
          let (b, s) = (then_none (when (not edition) WrongPayload) (when (eqb p 0) NoPlayers then when most TooManyPlayers)).0 r in
          let (c, d) = (then_none (when (eqb p 0) NoPlayers) (when most TooManyPlayers)).0 s in
          let one : w / 256 ≡ 1 = eqb-true (w / 256) 1 (not-false edition ((when_none (not edition) WrongPayload).0 b)) in
          let some : p ≡ 0 → ⊥ = eqb-false p 0 ((when_none (eqb p 0) NoPlayers).0 c) in
          (a, omega (arith, one), omega (arith, some), ltb-false max_players p ((when_none most TooManyPlayers).0 d)),
      λ (a, e, h, k). opens ws a (omega (arith, e)) h k,
    )

-- ---- a count word

module _ (ws : List ℕ) (p : ℕ) where
  -- once the word is there, the count decides
  pub count_read : due_fault ws (1 + p) 1 ≡ none → count_fault ws p ≡ count_refusal (payload_at ws (1 + p))
  unfolding count_fault
  count_read h = rw h refl

  pub count_fault_law : (count_fault ws p ≡ none) ↔ ((due_fault ws (1 + p) 1 ≡ none) × (count_refusal (payload_at ws (1 + p)) ≡ none))
  unfolding count_fault
  count_fault_law = then_none (due_fault ws (1 + p) 1) (count_refusal (payload_at ws (1 + p)))

-- ---- a cell's three words

-- the payoff, from the payloads read
pub payoff_bits : (ws : List ℕ) (at a b c : ℕ) → a ≡ payload_at ws at → b ≡ payload_at ws (at + 1) → c ≡ payload_at ws (at + 2)
    → payoff_in ws at ≡ of_bits binary64 (a * 2 ^ 60 + b * 2 ^ 30 + c)
unfolding payoff_in
payoff_bits ws at a b c A B C = rw (A, B, C) refl

module _ (ws : List ℕ) (at : ℕ) (first : due_fault ws at 2 ≡ none) where
  pub first_over : 15 < payload_at ws at → cell_fault ws at ≡ some WrongPayload
  unfolding cell_fault
  first_over h = rw (first, lt-ltb 15 (payload_at ws at) h) refl

  module _ (small : payload_at ws at ≤ 15) where
    pub second_bad : (e : NormalFormError) → due_fault ws (at + 1) 2 ≡ some e → cell_fault ws at ≡ some e
    unfolding cell_fault
    second_bad e h = rw (first, le-ltb 15 (payload_at ws at) small, h) refl

    module _ (second : due_fault ws (at + 1) 2 ≡ none) where
      pub third_bad : (e : NormalFormError) → due_fault ws (at + 2) 2 ≡ some e → cell_fault ws at ≡ some e
      unfolding cell_fault
      third_bad e h = rw (first, le-ltb 15 (payload_at ws at) small, second, h) refl

      module _ (third : due_fault ws (at + 2) 2 ≡ none) where
        pub cell_read : cell_fault ws at ≡ when (not (finite (payoff_in ws at))) NonFiniteUtility
        unfolding cell_fault
        cell_read = rw (first, le-ltb 15 (payload_at ws at) small, second, third) refl

-- what the words of a cell without a fault are
pub record Cell (ws : List ℕ) (at : ℕ) : Type 0 where
  pub first : due_fault ws at 2 ≡ none
  pub small : payload_at ws at ≤ 15
  pub second : due_fault ws (at + 1) 2 ≡ none
  pub third : due_fault ws (at + 2) 2 ≡ none
  pub held : T (finite (payoff_in ws at))

pub cell_law : (ws : List ℕ) (at : ℕ) → (cell_fault ws at ≡ none) ↔ Cell ws at
unfolding cell_fault
cell_law ws at =
    let over = when (ltb 15 (payload_at ws at)) WrongPayload in
    let is = finite (payoff_in ws at) in
    let lost = when (not is) NonFiniteUtility in
    let rest = due_fault ws (at + 1) 2 then due_fault ws (at + 2) 2 then lost in (
      λ h.
          let (a, r) = (then_none (due_fault ws at 2) (over then rest)).0 h in
          let (b, s) = (then_none over rest).0 r in
          let (c, t) = (then_none (due_fault ws (at + 1) 2) (due_fault ws (at + 2) 2 then lost)).0 s in
          let (d, e) = (then_none (due_fault ws (at + 2) 2) lost).0 t in record {
            first = a;
            small = ltb-false 15 (payload_at ws at) ((when_none (ltb 15 (payload_at ws at)) WrongPayload).0 b);
            second = c;
            third = d;
            held = subst T (sym (not-false is ((when_none (not is) NonFiniteUtility).0 e))) tt;
          },
      λ k. cell_read ws at k.first k.small k.second k.third ∙ rw (test_true is k.held) refl,
    )
