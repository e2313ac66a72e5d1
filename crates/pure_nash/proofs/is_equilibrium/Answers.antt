-- `pure_nash::is_equilibrium` meets its contract: the profile stands at its offset, and it is an equilibrium where all its choices are best
-- responses. Assumes nothing.
use mathlib.Core.Path.{◌≡◌, refl, sym, ap, ◌∙◌}
use mathlib.Core.Bool.{Bool, true}
use mathlib.Core.List.{List, []}
use mathlib.Core.Option.{none}
use Prim.Native.Nat.{ℕ, ◌<◌}
use lib.ListN.{get_or, replicate}
use lib.Ieee.{Float}
use Rattle.game.specs.Finite.{product}
use Rattle.game.specs.Game.{Profile, profiles, whole}
use Rattle.game.specs.Solution.{equilibrium}
use Rattle.game.proofs.Solution.{equilibrium_each}
use Rattle.refusal.specs.Refusal.{Refusal, ◌then◌}
use Rattle.refusal.specs.Told.{values, unless}
use Rattle.refusal.proofs.Refusal.{then_none}
use Rattle.refusal.proofs.Told.{told_values, hands_on_last}
use Rattle.payoff_tables.specs.Limits.{max_marks}
use Rattle.payoff_tables.specs.Table.{offset, table_game}
use Rattle.payoff_tables.specs.Meaning.{Table}
use Rattle.payoff_tables.specs.Checks.{table_refusal, profile_refusal}
use Rattle.payoff_tables.specs.Answers.{offset_answer}
use Rattle.payoff_tables.proofs.Checks.{table_law, profile_law}
use Rattle.payoff_tables.proofs.Offsets.{offset_below, nth_profile, nth_offset}
use Rattle.marks.specs.Marks.{marked}
use Rattle.equilibria.specs.Answers.{is_equilibrium_answer}
use Rattle.equilibria.proofs.Laws.{whole_equilibrium}
use Rattle.response_marks.specs.Marks.{settled}
use Rattle.pure_nash.proofs.is_equilibrium.Goals as goal

-- the arm where the offset is told
record Checked (counts : List ℕ) (payoffs : List Float) (x : List ℕ) (k : ℕ) : Type 0 where
  pub none_applies : (table_refusal counts payoffs then profile_refusal counts x) ≡ none
  pub table : Table counts payoffs
  pub profile : Profile counts x
  pub is : k ≡ offset counts x

checked : (counts : List ℕ) (payoffs : List Float) (x : List ℕ) (k : ℕ) → values k ≡ offset_answer counts payoffs x → Checked counts payoffs x k
checked counts payoffs x k h =
    let (ok, is) = told_values (table_refusal counts payoffs then profile_refusal counts x) (offset counts x) k h in
    let both = (then_none (table_refusal counts payoffs) (profile_refusal counts x)).0 ok in
    record { none_applies = ok; table = (table_law counts payoffs).0 both.0; profile = (profile_law counts x).0 both.1; is = is }

pub all_best-requires : goal.all_best-requires
all_best-requires c =
    let a = c.args in
    let f = checked a.counts.now a.payoffs.now a.profile.now c.in_ok-k.k c.in_ok-k.ensures in
    record { table = f.table; survivors_len = refl; k_bound = rw f.is (offset_below f.profile) }

pub returns-in_err-k : goal.returns-in_err-k
unfolding is_equilibrium_answer
returns-in_err-k c = hands_on_last _ _ (table_refusal c.args.counts.now c.args.payoffs.now then profile_refusal c.args.counts.now c.args.profile.now) _ _ c.from_residual.ensures.1 c.in_err-k.ensures

pub returns : goal.returns
unfolding is_equilibrium_answer settled table_game
returns c =
    let s = c.args in
    let k : ℕ = c.in_ok-k.k in
    let f = checked s.counts.now s.payoffs.now s.profile.now k c.in_ok-k.ensures in
    let g = table_game s.counts.now s.payoffs.now in
    let inside : k < product s.counts.now = rw f.is (offset_below f.profile) in
    let here : get_or (profiles s.counts.now) k [] ≡ s.profile.now = ap (λ (n : ℕ). get_or (profiles s.counts.now) n []) f.is ∙ nth_offset f.profile in
    let is =
    c.all_best.ensures
    ∙ sym (equilibrium_each g (marked (replicate max_marks true)) (get_or (profiles s.counts.now) k []) (nth_profile s.counts.now k inside))
    ∙ ap (equilibrium g (marked (replicate max_marks true))) here
    ∙ whole_equilibrium s.counts.now s.payoffs.now f.table.shape s.profile.now f.profile in
    ap (λ (b : Bool). values b) is ∙ sym (ap (λ (r : Refusal). unless r (equilibrium g (whole g) s.profile.now)) f.none_applies)
