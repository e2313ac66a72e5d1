-- What the answer for a list, its number and its records say of each other, as the contracts of `find_responses` and of
-- `view_fields::responses_of` give them: the records fit into the answer's array and into the list (`number-few`, `number_fits`), and the first
-- `number` records of the array are those to be written (`delivered`). Assumes nothing.
use mathlib.Core.Path.{◌≡◌, refl, sym, ap, ◌∙◌}
use mathlib.Core.Bool.{Bool, true, false}
use mathlib.Core.List.{List}
use mathlib.Core.Option.{none, some}
use Prim.Native.Nat.{ℕ, ◌+◌, ◌≤◌}
use native.Mathlib.Omega.{arith}
use borrow.Author.Tests.{ltb-false}
use lib.Dec.{ltb}
use lib.Ieee.{Float}
use lib.ListN.{length, take, drop, length-append, length-map}
use lib.Seq.{length-take-le, take-append_seam}
use Rattle.refusal.specs.Refusal.{Refusal, when, ◌then◌}
use Rattle.refusal.specs.declared.NormalFormError.TheVariants.{OutputTooShort}
use Rattle.refusal.specs.Told.{told, unless}
use Rattle.written_lists.specs.Outputs.{room_refusal, over, written}
use Rattle.payoff_tables.specs.Limits.{max_strategies}
use Rattle.payoff_tables.specs.Checks.{table_refusal, player_refusal}
use Rattle.responses.specs.Answers.{opponents_refusal, responses, responses_answer}
use Rattle.response_list.specs.Responses.{no_records, records_answer, records_written}
use Rattle.response_list.specs.declared.BestResponse.{BestResponse}
use Rattle.response_list.specs.declared.Found.{Found}

-- no more are written than there are
written_most : (r : Refusal) (n : ℕ) → written (unless r n) ≤ n
written_most none n = omega arith
written_most (some e) n = omega arith

-- and no more than there is room for, whatever refusals come first
written_short : (n a : ℕ) (t : Bool) (s : Refusal) → ltb a n ≡ t → written (unless (when t OutputTooShort then s) n) ≤ a
written_short n a true s e = omega arith
written_short n a false s e = let h = ltb-false a n e in let k = written_most s n in omega (arith, h, k)

written_room : (q r s : Refusal) (n a b : ℕ) → written (unless (q then r then s then room_refusal n a b) n) ≤ a
unfolding room_refusal
written_room none none none n a b = written_short n a (ltb a n) (when (ltb b n) OutputTooShort) refl
written_room none none (some e) n a b = omega arith
written_room none (some e) s n a b = omega arith
written_room (some e) r s n a b = omega arith

module _ (counts : List ℕ) (payoffs : List Float) (p : ℕ) (opponents : List ℕ) (room : ℕ) where
  abbrev there : List ℕ
  there = responses counts payoffs p opponents

  abbrev listed : List BestResponse
  listed = records_written counts payoffs p opponents room

  abbrev count : ℕ
  count = written (records_answer counts payoffs p opponents room)

  told_most : count ≤ length there
  unfolding responses_answer
  told_most =
      written_most
      (table_refusal counts payoffs then player_refusal counts p then opponents_refusal counts p opponents then room_refusal (length there) room room)
      (length there)

  told_room : count ≤ room
  unfolding responses_answer
  told_room =
      written_room (table_refusal counts payoffs) (player_refusal counts p) (opponents_refusal counts p opponents) (length there) room room

  listed_long : length listed ≡ count
  listed_long = length-map (take count there) _ ∙ length-take-le count there told_most

  module _ (found : Found) (answered : told found.answer ≡ records_answer counts payoffs p opponents room)
      (many : found.number ≡ written (told found.answer)) (holds : found.records ≡ over listed no_records) where
    number_told : found.number ≡ count
    number_told = many ∙ ap written answered

    pub number_fits : found.number ≤ room
    number_fits = rw number_told told_room

    pub number_few : length found.records ≡ max_strategies → found.number ≤ max_strategies
    number_few full =
        let parts : length found.records ≡ length listed + length (drop (length listed) no_records) = ap length holds ∙ length-append listed _ in
        omega (arith, full, parts, listed_long, number_told)

    pub delivered : (out : List BestResponse) → over (take found.number found.records) out ≡ over listed out
    delivered out =
        ap (λ (xs : List BestResponse). over xs out)
        (ap (λ (n : ℕ). take n found.records) (number_told ∙ sym listed_long) ∙ ap (take (length listed)) holds ∙ take-append_seam listed _)
