-- `pure_nash::list_in` meets its contract: the array is long enough, and all 0. Assumes nothing.
use Prim.Native.Nat.{ℕ}
use lib.ListN.{length-replicate}
use Rattle.mark_responses.proofs.Players.{clear_ready}
use Rattle.pure_nash.proofs.list_in.Goals as goal

pub list_swept-requires : goal.list_swept-requires
list_swept-requires g c =
    let a = c.args in
    record {
      table = c.requires.table;
      survivors_len = c.requires.survivors_len;
      profiles_value = c.requires.profiles_value;
      payoffs_in_bounds = rw (length-replicate {A = ℕ} g.row.BYTES 0) c.requires.payoffs_in_bounds.0;
      by_index = λ p l. clear_ready a.counts.now a.survivors.now g.row.BYTES p;
    }
