-- The greatest of a list, or where it starts (`greatest-from-law`), by any test of less that on
-- these elements goes one way only and whose denials can be joined. Assumes nothing.
use mathlib.Core.Path.{◌≡◌, refl, sym, ◌∙◌, subst}
use mathlib.Core.Bool.{Bool, true, false, cond, true≢false}
use mathlib.Core.List.Memᴰ.{cases_cons as in-cons}
use mathlib.Core.List.Memᴰ.{head as here}
use mathlib.Core.List.Memᴰ.{not-nil as not-in-nil}
use mathlib.Core.List.Memᴰ.{tail as there}
use mathlib.Core.List.{List, [], ◌∷◌}
use mathlib.Core.Logic.{inl, inr, ⊎_elim}
use Rattle.game.specs.Finite.{◌∈◌}
use Rattle.gains.specs.Gains.{greatest_from}
use Rattle.gains.specs.Meaning.{GreatestFrom}

module _ {A : Type 0} (less : A → A → Bool) (Valued : A → Type 0)
    (one_way : (x y : A) → Valued x → Valued y → less x y ≡ true → less y x ≡ false)
    (joined : (x y z : A) → Valued x → Valued y → Valued z → less x y ≡ false → less y z ≡ false → less x z ≡ false) where
  -- nothing is less than itself
  own : (x : A) → Valued x → less x x ≡ false
  own x v = go (less x x) refl
    where
      go : (t : Bool) → less x x ≡ t → less x x ≡ false
      go true e = one_way x x v v e
      go false e = e

  -- what is less than y is less than a g that is not
  above : (b y g : A) → Valued b → Valued y → Valued g → less b y ≡ true → less g y ≡ false → less b g ≡ true
  above b y g v w u l h = go (less b g) refl
    where
      go : (t : Bool) → less b g ≡ t → less b g ≡ true
      go true e = e
      go false e = absurd (true≢false (sym l ∙ joined b g y v u w e h))

  -- the law, and that the greatest is not less than where it starts
  record Over (b : A) (xs : List A) (g : A) : Type 0 where
    valued : Valued g
    start : less g b ≡ false
    law : GreatestFrom less b xs g

  over : (b : A) (xs : List A) → Valued b → ((x : A) → x ∈ xs → Valued x) → Over b xs (greatest_from less b xs)
  over b [] v each = record { valued = v; start = own b v; law = record { top = λ x h. absurd (not-in-nil h); found = inl refl } }
  over b (y ∷ ys) v each = go (less b y) refl (λ c w. over c ys w (λ x h. each x (there h)))
    where
      top : (g : A) → less g y ≡ false → ((x : A) → x ∈ ys → less g x ≡ false) → (x : A) → x ∈ (y ∷ ys) → less g x ≡ false
      top g h k x i = ⊎_elim (λ (q : x ≡ y). subst (λ (z : A). less g z ≡ false) (sym q) h) (k x) (in-cons i)

      go : (t : Bool) → less b y ≡ t → ((c : A) → Valued c → Over c ys (greatest_from less c ys))
          → Over b (y ∷ ys) (greatest_from less (cond t y b) ys)
      go true e rest =
          let g = greatest_from less y ys in
          let w = each y (here refl) in
          let r = rest y w in
          record {
            valued = r.valued;
            start = joined g y b r.valued w v r.start (one_way b y v w e);
            law =
                record {
                  top = top g r.start r.law.top;
                  found = inr (⊎_elim here (λ i. there i.0) r.law.found, above b y g v w r.valued e r.start);
                };
          }
      go false e rest =
          let g = greatest_from less b ys in
          let r = rest b v in
          record {
            valued = r.valued;
            start = r.start;
            law =
                record {
                  top = top g (joined g b y r.valued v (each y (here refl)) r.start e) r.law.top;
                  found = ⊎_elim inl (λ i. inr (there i.0, i.1)) r.law.found;
                };
          }

  pub greatest_from_law : (b : A) (xs : List A) → Valued b → ((x : A) → x ∈ xs → Valued x) → GreatestFrom less b xs (greatest_from less b xs)
  greatest_from_law b xs v each = (over b xs v each).law
