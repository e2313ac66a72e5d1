use mathlib.Core.Path.{◌≡◌, sym, ap, ◌∙◌, subst⁻¹}
use mathlib.Core.Bool.{true, false, not}
use mathlib.Core.List.{List, [], flat_map}
use mathlib.Core.Logic.{◌↔◌}
use Prim.Native.Nat.{ℕ, suc, ◌+◌, ◌*◌, ◌≤◌, ◌<◌}
use native.Mathlib.Nat.{le_refl, suc-mul, mul-le-mul_right}
use native.Mathlib.Omega.{arith}
use lib.Dec.{eqb}
use lib.ListN.{length, get_or, take}
use lib.Ieee.{Float}
use Rattle.game.specs.Finite.{all, below, product}
use Rattle.game.specs.Game.{profiles}
use Rattle.game.proofs.Finite.{at_most}
use Rattle.game.proofs.Game.{length_profiles}
use Rattle.refusal.specs.declared.Listed.{Listed}
use Rattle.written_lists.specs.Outputs.{over}
use Rattle.written_lists.specs.Listing.{entries_held, listed_of}
use Rattle.written_lists.proofs.Outputs.{joined_map}
use Rattle.written_lists.proofs.Listing.{listed_is, held_law, take_written}
use Rattle.payoff_tables.specs.Limits.{max_cells}
use Rattle.payoff_tables.specs.Table.{profile_part}
use Rattle.payoff_tables.proofs.Offsets.{nth_profile, offset_nth}
use Rattle.payoff_tables.proofs.Table.{part_length_lem}
use Rattle.payoff_tables.proofs.Walk.{shape_room}
use Rattle.response_marks.specs.Marks.{all_marked, marked_profiles}
use Rattle.profile_listing.specs.Entry.{Before}
use Rattle.profile_listing.proofs.Write.{Listing, entry_before, listing_none, listing_length, listing_end, listing_no, listing_full, listing_yes}
use Rattle.profile_listing.proofs.list_marked.Goals as goal
use Rattle.profile_listing.proofs.list_marked.Goals.{At-loop-k, In-loop-k, then-all_marked, then-at-players, else-at-players, else-all_marked}

-- what the outputs hold
module _ (c : At-loop-k) where
  abbrev counts : List ℕ
  counts = c.args.counts.now

  abbrev payoffs : List Float
  payoffs = c.args.payoffs.now

  abbrev marks : List ℕ
  marks = c.args.marks.now

  abbrev a : ℕ
  a = length c.args.choices.now

  abbrev b : ℕ
  b = length c.args.utilities.now

  abbrev held : ℕ
  held = entries_held (length counts) a b

  -- what the two outputs hold when so many are found before the k-th
  abbrev Choices : List ℕ → ℕ → ℕ → Type 0
  Choices = Listing (λ x. x) (all_marked counts marks) (profiles counts) (length counts) held c.args.choices.now

  abbrev Utilities : List Float → ℕ → ℕ → Type 0
  Utilities = Listing (profile_part counts payoffs) (all_marked counts marks) (profiles counts) (length counts) held c.args.utilities.now

  -- k entries are held exactly where both outputs have room for them
  held-law-here : (k : ℕ) → (k ≤ held) ↔ ((k * length counts ≤ a) × (k * length counts ≤ b))
  held-law-here = held_law (length counts) a b c.requires.table.shape.some

  -- both outputs are as long as they were
  lengths : (length c.loop-k.choices ≡ a) × (length c.loop-k.utilities ≡ b)
  lengths =
      let most = (held-law-here held).0 (le_refl held) in (
        listing_length _ _ _ _ _ _ c.loop-k.choices c.loop-k.total c.loop-k.k c.loop-k.invariant.3 most.0,
        listing_length _ _ _ _ _ _ c.loop-k.utilities c.loop-k.total c.loop-k.k c.loop-k.invariant.4 most.1,
      )

  -- where there is room for one more, it is held
  held_more : c.loop-k.written * length counts + length counts ≤ c.min-room.result → c.loop-k.written < held
  held_more h =
      let next = suc-mul c.loop-k.written (length counts) in
      (held-law-here (suc c.loop-k.written)).1 (omega (arith, next, h, c.min-room.ensures), omega (arith, next, h, c.min-room.ensures))

  -- and else all that are held are written
  held-full : c.min-room.result < c.loop-k.written * length counts + length counts → held ≤ c.loop-k.written
  held-full h =
      at_most held c.loop-k.written
      (λ more. let room = (held-law-here (suc c.loop-k.written)).0 more in omega (arith, suc-mul c.loop-k.written (length counts), room, h, c.min-room.ensures))

-- the profile of a turn
module _ (i : In-loop-k) where
  abbrev n : ℕ
  n = length i.args.counts.now

  inside : i.loop-k.k < product i.args.counts.now
  inside = rw (← i.requires.profiles_value.0) i.loop-k-test.true

  -- there are few profiles, and an entry more fits a machine's number
  few : (i.loop-k.k < max_cells) × (i.loop-k.written * n + n ≤ max_cells)
  few =
      let room = i.requires.table.shape.room in
      let least : suc i.loop-k.written ≤ product i.args.counts.now = omega (arith, i.loop-k.invariant.1, i.loop-k.invariant.2, inside) in
      (omega (arith, inside, shape_room i.requires.table.shape), omega (arith, suc-mul i.loop-k.written n, mul-le-mul_right n least, room))

  -- the test of a turn is the profile's
  tested : all (λ p. not (eqb (get_or i.args.marks.now (i.loop-k.k * n + p) 0) 0)) (below n) ≡ all_marked i.args.counts.now i.args.marks.now (get_or (profiles i.args.counts.now) i.loop-k.k [])
  tested = sym (ap (λ (m : ℕ). all (λ p. not (eqb (get_or i.args.marks.now (m * n + p) 0) 0)) (below n)) (offset_nth i.args.counts.now i.loop-k.k inside))

  -- the profile's marks lie within the marks
  marks-within : i.loop-k.k * n + n ≤ length i.args.marks.now
  marks-within = omega (arith, suc-mul i.loop-k.k n, mul-le-mul_right n inside, i.requires.profiles_value.1, i.requires.table.full)

-- what stands before an entry, said of equals
moved : (counts : List ℕ) (k m : ℕ) (x y : List ℕ) (a b : ℕ) → m ≡ k → y ≡ x → b ≡ a → Before counts k x (a * length counts) → Before counts m y (b * length counts)
moved counts k m x y a b e f g h = rw (e, f, g) h

pub loop-k-init : goal.loop-k-init
loop-k-init c = (omega arith, omega arith, omega arith, listing_none _ _ _ _ _ _, listing_none _ _ _ _ _ _, omega arith, λ h. absurd (omega (arith, h)))

pub overflow_mul-k : goal.overflow_mul-k
overflow_mul-k c =
    let i = (goal.at.overflow_mul-k c).In-loop-k in
    omega (arith, marks-within i, suc-mul c.loop-k.k (n i), mul-le-mul_right (n i) (inside i), c.requires.table.shape.room)

pub all_marked-requires : goal.all_marked-requires
all_marked-requires c = marks-within (goal.at.all_marked-requires c).In-loop-k

pub overflow_mul-at : goal.overflow_mul-at
overflow_mul-at c = omega (arith, few (goal.at.overflow_mul-at c).In-loop-k)

pub overflow_add-at : goal.overflow_add-at
overflow_add-at c = omega (arith, few (goal.at.overflow_add-at c).In-loop-k)

pub put_entry-requires : goal.put_entry-requires
put_entry-requires c =
    let i = (goal.at.put_entry-requires c).In-loop-k in
    let l = (goal.at.put_entry-requires c).At-loop-k in
    let long = lengths l in
    record {
      table = c.requires.table;
      k_bound = inside i;
      counts_in_bounds = (omega (arith, c.if-at-players.true, c.min-room.ensures, long), omega (arith, c.if-at-players.true, c.min-room.ensures, long));
      before = λ e. subst⁻¹ (λ (m : ℕ). Before c.args.counts.now m c.loop-k.choices (c.loop-k.written * n i)) e (c.loop-k.invariant.6 (omega (arith, sym e, c.loop-k-test.true)));
    }

pub overflow_add-after : goal.overflow_add-after
overflow_add-after c = omega (arith, few (goal.at.overflow_add-after c).In-loop-k)

pub overflow_add-written : goal.overflow_add-written
overflow_add-written c = omega (arith, few (goal.at.overflow_add-written c).In-loop-k, c.loop-k.invariant.1, c.loop-k.invariant.2)

pub overflow_add-total : goal.overflow_add-total
overflow_add-total c = omega (arith, few (goal.at.overflow_add-total c).In-loop-k, c.loop-k.invariant.1)

pub loop-k-preserved : goal.loop-k-preserved
loop-k-preserved c =
    let i = (goal.at.loop-k-preserved c).In-loop-k in
    let at = (goal.at.loop-k-preserved c).At-loop-k in
    let l = c.loop-k in
    let cs = c.args.counts.now in
    let here : l.k < length (profiles cs) = omega (arith, length_profiles cs, inside i) in
    elim c.if-all_marked.branch [
      | then-all_marked w ↦
          let is : all_marked cs c.args.marks.now (get_or (profiles cs) l.k []) ≡ true = sym (tested i) ∙ sym c.all_marked.ensures ∙ w.if-all_marked.true in
          let r = nth_profile cs l.k (inside i) in
          elim w.if-at-players.branch [
            | then-at-players v ↦
                let more = held_more at v.if-at-players.true in
                let same : l.written ≡ l.total = omega (arith, l.invariant.2, more) in
                let less : l.total < held at = omega (arith, same, more) in
                let total : c.if-all_marked.total ≡ l.total + 1 = w.total-is in
                let written : c.if-all_marked.written ≡ l.written + 1 = w.written-is ∙ v.written-is in
                let after : c.if-all_marked.after ≡ l.k + 1 = w.after-is ∙ v.after-is in
                let choices = w.choices-is ∙ v.choices-is in
                let utilities = w.utilities-is ∙ v.utilities-is in (
                  omega arith,
                  omega (arith, l.invariant.1, total),
                  written ∙ omega (arith, same, less, total),
                  rw (choices, total) (listing_yes _ _ _ (length cs) _ _ l.choices l.total l.k l.invariant.3 here is _ less r.each (rw same at v.put_entry.ensures.choices_after)),
                  rw (utilities, total) (listing_yes _ _ _ (length cs) _ _ l.utilities l.total l.k l.invariant.4 here is _ less (part_length_lem r c.args.payoffs.now c.requires.table.full) (rw same at v.put_entry.ensures.utilities_after)),
                  omega (arith, after, c.loop-k-test.true),
                  λ _. moved cs _ _ _ _ _ _ after choices written
                      (entry_before cs l.choices _ l.k l.written r.each (omega (arith, v.if-at-players.true, c.min-room.ensures, lengths at)) v.put_entry.ensures.choices_after),
                )
            | else-at-players v ↦
                let full : held at ≤ l.total = omega (arith, l.invariant.2, held-full at v.if-at-players.false) in
                let total : c.if-all_marked.total ≡ l.total + 1 = w.total-is in
                let written : c.if-all_marked.written ≡ l.written = w.written-is ∙ v.written-is in
                let after : c.if-all_marked.after ≡ l.after = w.after-is ∙ v.after-is in
                let choices : c.if-all_marked.choices ≡ l.choices = w.choices-is ∙ v.choices-is in
                let utilities : c.if-all_marked.utilities ≡ l.utilities = w.utilities-is ∙ v.utilities-is in (
                  omega arith,
                  omega (arith, l.invariant.1, total),
                  written ∙ omega (arith, l.invariant.2, full, total),
                  rw (choices, total) (listing_full _ _ _ _ _ _ l.choices l.total l.k l.invariant.3 here is full),
                  rw (utilities, total) (listing_full _ _ _ _ _ _ l.utilities l.total l.k l.invariant.4 here is full),
                  omega (arith, after, l.invariant.5),
                  λ h. moved cs _ _ _ _ _ _ after choices written (l.invariant.6 (omega (arith, h, after))),
                )
          ]
      | else-all_marked w ↦
          let no-it : all_marked cs c.args.marks.now (get_or (profiles cs) l.k []) ≡ false = sym (tested i) ∙ sym c.all_marked.ensures ∙ w.if-all_marked.false in
          rw (w.choices-is, w.utilities-is, w.total-is, w.written-is, w.after-is) (
            omega arith,
            omega (arith, l.invariant.1),
            l.invariant.2,
            listing_no _ _ _ _ _ _ l.choices l.total l.k l.invariant.3 here no-it,
            listing_no _ _ _ _ _ _ l.utilities l.total l.k l.invariant.4 here no-it,
            l.invariant.5,
            l.invariant.6,
          )
    ]

pub returns : goal.returns
unfolding marked_profiles
returns c =
    let l = c.loop-k in
    let cs = c.args.counts.now in
    let es : List (List ℕ) = marked_profiles cs c.args.marks.now in
    let m : ℕ = length cs in
    let x : ℕ = length c.args.choices.now in
    let y : ℕ = length c.args.utilities.now in
    let part = profile_part cs c.args.payoffs.now in
    let done : length (profiles cs) ≤ l.k = omega (arith, length_profiles cs, c.requires.profiles_value.0, c.loop-k-test) in
    let first = listing_end _ _ _ _ _ _ l.choices l.total l.k l.invariant.3 done in
    let second = listing_end _ _ _ _ _ _ l.utilities l.total l.k l.invariant.4 done in
    let told : record { total = l.total; written = l.written } ≡ listed_of es m x y = listed_is es m x y l.total l.written first.0 l.invariant.2 in
    let many : take l.written es ≡ take (entries_held m x y) es = ap (λ (m : Listed). take m.written es) told ∙ take_written es m x y in (
      told,
      (
        first.1 ∙ sym (ap (λ (ps : List (List ℕ)). over (flat_map (λ x. x) ps) c.args.choices.now) many),
        second.1 ∙ sym (ap (λ (xs : List Float). over xs c.args.utilities.now) (joined_map part l.written es ∙ ap (flat_map part) many)),
      ),
    )
