use mathlib.Core.Path.{◌≡◌, sym, ◌∙◌, subst, subst⁻¹}
use Prim.Native.Nat.{ℕ, ◌<◌}
use native.Mathlib.Omega.{arith}
use borrow.Author.Rules.{rules}
use Rattle.table.proofs.Space.{past}
use lib.Dec.{T}
use lib.ListN.{length, get_or}
use Rattle.marks.specs.Marks.{marked}
use Rattle.survivors.specs.Survivors.{marked_from}
use Rattle.survivors.proofs.Foreign.{own_start, own_more, own_all, own_marked, own_none, foreign_past, not_own}
use Rattle.survivors.proofs.is_foreign.Goals as goal
use Rattle.survivors.proofs.is_foreign.Goals.{Joined-p-counts, else-p-counts, then-p-counts+else-not-marked_from}

-- `count` is the player's, and a player below P has a mark
module _ (c : Joined-p-counts) where
  count-is : c.if-p-counts.count ≡ get_or c.args.counts.now c.loop-p.p 0
  count-is = elim c.if-p-counts.branch [ then-p-counts+else-not-marked_from w ↦ w.count-is | else-p-counts w ↦ w.count-is ∙ sym (past c.args.counts.now c.loop-p.p w.if-p-counts.false) ]

  has-mark : c.loop-p.p < length c.args.counts.now → T (marked_from (marked c.args.survivors.marks) c.loop-p.p 0)
  has-mark l = elim c.if-p-counts.branch [ then-p-counts+else-not-marked_from w ↦ subst T (sym w.if-not-marked_from.false ∙ w.marked_from.ensures) tt | else-p-counts w ↦ absurd (omega (arith, w.if-p-counts.false, l)) ]

pub returns-then-survivors-counts : goal.returns-then-survivors-counts
returns-then-survivors-counts c =
    let s = c in
    sym (not_own s.args.counts.now s.args.survivors (λ o. c.if-survivors-counts.true o.players_agree))

pub loop-p-init : goal.loop-p-init
loop-p-init c = own_start _ _ _

pub marked_from-requires : goal.marked_from-requires
marked_from-requires c = record { marks_len = search rules; player_lt_max_players = c.loop-p-test.true }

pub returns-then-not-marked_from : goal.returns-then-not-marked_from
returns-then-not-marked_from c =
    let l = c in
    sym (not_own l.args.counts.now l.args.survivors (λ o.
    subst T (sym c.marked_from.ensures ∙ c.if-not-marked_from.true) (own_marked l.args.counts.now l.args.survivors o l.loop-p.p c.if-p-counts.true)))

pub returns-then-held-p : goal.returns-then-held-p
returns-then-held-p c =
    let l = c in
    sym (not_own l.args.counts.now l.args.survivors (λ o. c.if-held-p.true (o.counts_agree l.loop-p.p l.loop-p-test.true ∙ sym (count-is (goal.at.returns-then-held-p c).Joined-p-counts))))

pub marked_from-requires-in-loop-p : goal.marked_from-requires-in-loop-p
marked_from-requires-in-loop-p c = record { marks_len = search rules; player_lt_max_players = c.loop-p-test.true }

pub returns-then-marked_from : goal.returns-then-marked_from
returns-then-marked_from c =
    let l = c in
    sym (not_own l.args.counts.now l.args.survivors (λ o. own_none l.args.counts.now l.args.survivors o l.loop-p.p l.loop-p-test.true
    (subst (λ (n : ℕ). T (marked_from (marked l.args.survivors.marks) l.loop-p.p n)) (count-is (goal.at.returns-then-marked_from c).Joined-p-counts) (subst T (sym c.if-marked_from.true ∙ c.marked_from-in-loop-p.ensures) tt))))

pub loop-p-preserved : goal.loop-p-preserved
loop-p-preserved c =
    let j = c in
    let l = j in
    own_more l.args.counts.now l.args.survivors.counts l.args.survivors.marks l.loop-p.p l.loop-p.invariant (c.if-held-p.false ∙ count-is (goal.at.loop-p-preserved j).Joined-p-counts) (has-mark (goal.at.loop-p-preserved j).Joined-p-counts)
    (λ h. subst T (sym c.marked_from-in-loop-p.ensures ∙ c.if-marked_from.false) (subst⁻¹ (λ (n : ℕ). T (marked_from (marked l.args.survivors.marks) l.loop-p.p n)) (count-is (goal.at.loop-p-preserved j).Joined-p-counts) h))

pub returns : goal.returns
returns c =
    let s = c in
    foreign_past s.args.counts.now s.args.survivors (search rules) (λ few.
    own_all s.args.counts.now s.args.survivors c.loop-p.p c.loop-p-test.false few c.if-survivors-counts.false c.loop-p.invariant)
