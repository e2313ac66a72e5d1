-- `response_list::find_responses` meets its contract: the two arrays have room for every answer, so a refusal of the call is the list's, and 13 is
-- told where the list is too short. The invariant: of the best responses the first i have their records. Assumes nothing.
use mathlib.Core.Path.{◌≡◌}
use lib.ListN.{take}
use Rattle.written_lists.specs.Outputs.{over}
use Rattle.response_list.specs.Responses.{no_records}
use Rattle.response_list.proofs.Records.{all_records}
use Rattle.response_list.proofs.find_responses.Given as goal

abbrev pub invariant-loop-i : goal.invariant-loop-i
invariant-loop-i l = l.records ≡ over (take l.i (all_records l.counts l.payoffs l.player l.opponents)) no_records
