-- A listing's laws: what it tells and writes where nothing refuses, what the total is, that outputs which hold all get all, and
-- that a refused listing leaves both outputs as they were. Assumes nothing.
use mathlib.Core.Path.{◌≡◌, refl, ap, ◌∙◌}
use mathlib.Core.List.{List, [], map, flat_map}
use mathlib.Core.Option.{none, some}
use Prim.Native.Nat.{ℕ, ◌*◌, ◌≤◌, ◌<◌}
use lib.ListN.{length}
use lib.Seq.{take-length}
use lib.Ieee.{Float}
use Rattle.refusal.specs.Refusal.{Refusal, number_of}
use Rattle.refusal.specs.Told.{Told, values, refused}
use Rattle.refusal.specs.declared.Listed.{Listed}
use Rattle.refusal.specs.declared.NormalFormError.{NormalFormError}
use Rattle.refusal.proofs.Told.{told_values}
use Rattle.written_lists.specs.Outputs.{written_of, joined, over}
use Rattle.written_lists.specs.Listing.{listed_of}
use Rattle.written_lists.proofs.Outputs.{refused_kept, joined_map}
use Rattle.written_lists.proofs.Listing.{listed_all}
use Rattle.payoff_tables.specs.Table.{profile_part}
use Rattle.equilibria.specs.Answers.{Wrote, listing_answer, listed_choices, listed_utilities}

module _ (counts : List ℕ) (payoffs : List Float) (es : List (List ℕ)) where
  module _ (old choices : List ℕ) (old' utilities : List Float) where
    -- the listing of es, unless r refuses, tells t and leaves this in its outputs
    abbrev pub Answered : Refusal → Told Listed → Type 0
    Answered r t =
        (t ≡ listing_answer counts payoffs r es (length old) (length old'))
        × ((choices ≡ over (listed_choices counts payoffs r es (length old) (length old')) old)
        × (utilities ≡ over (listed_utilities counts payoffs r es (length old) (length old')) old'))

    -- Where nothing refuses, that is the listing.
    pub listing_told : (r : Refusal) → r ≡ none → (l : Listed) → Wrote counts payoffs es old choices old' utilities l → Answered r (values l)
    unfolding listing_answer listed_choices listed_utilities
    listing_told r h l (is, (first, second)) =
        rw h (
          ap (λ (l : Listed). values l) is,
          (
            first ∙ ap (λ (l : Listed). over (joined l.written es) old) is,
            second ∙ ap (λ (l : Listed). over (joined l.written (map (profile_part counts payoffs) es)) old') is,
          ),
        )

  -- What refuses is told, and nothing is written: both outputs are as they were.
  pub listing_refused : (old : List ℕ) (old' : List Float) (r : Refusal) (e : NormalFormError) → r ≡ some e → Answered old old old' old' r (refused (number_of e))
  unfolding listing_answer listed_choices listed_utilities
  listing_refused old old' r e h = rw h (refl, (refl, refl))

  module _ (a b : ℕ) where
    -- The same for outputs of any lengths.
    pub nothing_listed : (r : Refusal) (e : NormalFormError) → r ≡ some e
        → (listing_answer counts payoffs r es a b ≡ refused (number_of e)) × (listed_choices counts payoffs r es a b ≡ []) × (listed_utilities counts payoffs r es a b ≡ [])
    unfolding listing_answer listed_choices listed_utilities
    nothing_listed r e h = rw h (refl, refl, refl)

    -- The total that is told is the length of the list, whatever the outputs' lengths.
    pub total_is_length : (r : Refusal) (l : Listed) → values l ≡ listing_answer counts payoffs r es a b → l.total ≡ length es
    unfolding listing_answer listed_of
    total_is_length r l h = ap (λ (l : Listed). l.total) (told_values r (listed_of es (length counts) a b) l h).1

    -- A listing that refuses leaves both outputs as they were.
    pub listing_kept : (r : Refusal) (e : ℕ) → listing_answer counts payoffs r es a b ≡ refused e → (old : List ℕ) (old' : List Float)
        → (over (listed_choices counts payoffs r es a b) old ≡ old) × (over (listed_utilities counts payoffs r es a b) old' ≡ old')
    unfolding listed_choices listed_utilities
    listing_kept r e is old old' = (
      refused_kept (written_of (λ l. joined l.written es)) (λ _. refl) _ e is old,
      refused_kept (written_of (λ l. joined l.written (map (profile_part counts payoffs) es))) (λ _. refl) _ e is old',
    )

    -- Outputs that hold all get all.
    pub listing_all : 0 < length counts → length es * length counts ≤ a → length es * length counts ≤ b → (r : Refusal) → r ≡ none
        → (listing_answer counts payoffs r es a b ≡ values (record { total = length es; written = length es }))
        × (listed_choices counts payoffs r es a b ≡ flat_map (λ x. x) es)
        × (listed_utilities counts payoffs r es a b ≡ flat_map (profile_part counts payoffs) es)
    unfolding listing_answer listed_choices listed_utilities
    listing_all least h k r no-refusal =
        let part = profile_part counts payoffs in
        rw (no-refusal, listed_all es (length counts) a b least h k) (
          refl,
          ap (flat_map (λ x. x)) (take-length es),
          joined_map part (length es) es ∙ ap (flat_map part) (take-length es),
        )
