-- The list of the ranks of strictly ranked tables has just these (`rankings-law`): a rank is one of 0 to 3, no two of a player's are equal,
-- and each order of the digits is its own ranks, which is computed. Assumes nothing.
use mathlib.Core.Path.{◌≡◌, refl, ap₂}
use mathlib.Core.Bool.{Bool, ◌&&◌}
use mathlib.Core.List.Memᴰ.{head as here}
use mathlib.Core.List.Memᴰ.{map as to_map}
use mathlib.Core.List.Memᴰ.{of_map}
use mathlib.Core.List.Memᴰ.{tail as there}
use mathlib.Core.List.{List, [], ◌∷◌, map, flat_map}
use mathlib.Core.Logic.{◌↔◌}
use Prim.Native.Nat.{ℕ, zero, suc, ◌<◌}
use native.Mathlib.Omega.{arith}
use lib.Dec.{T, eqb}
use lib.ListN.{length, get_or}
use Rattle.game.specs.Finite.{◌∈◌, all}
use Rattle.game.specs.Game.{choice, profiles}
use Rattle.game.proofs.Finite.{and_T, eqb_T, all_T, filter_mem, of_flat_map, to_flat_map}
use Rattle.game.proofs.Game.{profiles_law}
use Rattle.bimatrix.specs.declared.Matrix.{Matrix}
use Rattle.bimatrix.specs.declared.Bimatrix.{Bimatrix}
use Rattle.bimatrix.specs.Matrices.{in_order, bimatrix_of}
use Rattle.bimatrix.specs.Keys.{rank_among, ranked, ranks, different, strictly_ranked}
use Rattle.catalogue.specs.Catalogue.{digit_matrix, orders, rankings}
use Rattle.bimatrix.proofs.Ranks.{rank_below, strict_ranks}

-- ---- equal tables

abbrev same_matrix : Matrix → Matrix → Bool
same_matrix q r = eqb q.at00 r.at00 && eqb q.at01 r.at01 && (eqb q.at10 r.at10 && eqb q.at11 r.at11)

-- whether two tables are the same
abbrev pub same : Bimatrix → Bimatrix → Bool
same b c = same_matrix b.first c.first && same_matrix b.second c.second

same_matrix_lem : (q r : Matrix) → T (same_matrix q r) → q ≡ r
same_matrix_lem q r h =
    let (u, l) = (and_T (eqb q.at00 r.at00 && eqb q.at01 r.at01) (eqb q.at10 r.at10 && eqb q.at11 r.at11)).0 h in
    let (a, b) = (and_T (eqb q.at00 r.at00) (eqb q.at01 r.at01)).0 u in
    let (c, d) = (and_T (eqb q.at10 r.at10) (eqb q.at11 r.at11)).0 l in
    let e₀ = (eqb_T q.at00 r.at00).0 a in
    let e₁ = (eqb_T q.at01 r.at01).0 b in
    let e₂ = (eqb_T q.at10 r.at10).0 c in
    let e₃ = (eqb_T q.at11 r.at11).0 d in
    λ i. record { at00 = e₀ i; at01 = e₁ i; at10 = e₂ i; at11 = e₃ i }

pub same_law : (b c : Bimatrix) → T (same b c) → b ≡ c
same_law b c h =
    let (k, l) = (and_T (same_matrix b.first c.first) (same_matrix b.second c.second)).0 h in
    let d = same_matrix_lem b.first c.first k in
    let e = same_matrix_lem b.second c.second l in
    λ i. record { first = d i; second = e i }

-- ---- orders

abbrev fours : List ℕ
fours = 4 ∷ 4 ∷ 4 ∷ 4 ∷ []

-- four digits below 4, no two of them equal
order_in : (q : Matrix) → ((d : ℕ) → d ∈ in_order q → d < 4) → T (different (in_order q)) → q ∈ orders
unfolding orders
order_in q low t =
    (filter_mem (λ o. different (in_order o)) (map digit_matrix (profiles fours)) q).1
    (to_map digit_matrix (((profiles_law fours).members (in_order q)).1 (record { each = refl; fits = fits })), t)
  where
    fits : (p : ℕ) → p < 4 → choice (in_order q) p < get_or fours p 0
    fits zero l = low q.at00 (here refl)
    fits (suc zero) l = low q.at01 (there (here refl))
    fits (suc (suc zero)) l = low q.at10 (there (there (here refl)))
    fits (suc (suc (suc zero))) l = low q.at11 (there (there (there (here refl))))
    fits (suc (suc (suc (suc p)))) l = absurd (omega arith)

order_different : (q : Matrix) → q ∈ orders → T (different (in_order q))
unfolding orders
order_different q h = ((filter_mem (λ o. different (in_order o)) (map digit_matrix (profiles fours)) q).0 h).1

-- the ranks of an order are its own digits
own_ranks : T (all (λ q. same_matrix (ranked q) q) orders)
unfolding flat_map profiles different orders rank_among
own_ranks = tt

order_ranked : (q : Matrix) → q ∈ orders → ranked q ≡ q
order_ranked q h = same_matrix_lem (ranked q) q ((all_T (λ o. same_matrix (ranked o) o) orders).0 own_ranks q h)

-- ---- rankings

ranking_in : (a b : Matrix) → a ∈ orders → b ∈ orders → bimatrix_of a b ∈ rankings
unfolding rankings
ranking_in a b h k = to_flat_map (λ o. map (bimatrix_of o) orders) orders a (bimatrix_of a b) h (to_map (bimatrix_of a) k)

of_ranking : (r : Bimatrix) → r ∈ rankings → (r.first ∈ orders) × (r.second ∈ orders)
unfolding rankings
of_ranking r h =
    let (a, k, l) = of_flat_map (λ o. map (bimatrix_of o) orders) orders r h in
    let (b, m, e) = of_map (bimatrix_of a) orders l in
    (rw (← e) k, rw (← e) m)

order_of : (q : Matrix) → T (different (in_order (ranked q))) → ranked q ∈ orders
order_of q t =
    order_in (ranked q)
    (λ d h. let (x, k, e) = of_map (rank_among (in_order q)) (in_order q) h in rw (← e) (rank_below (in_order q) x k)) t

pub ranks_listed : (b : Bimatrix) → T (strictly_ranked b) → ranks b ∈ rankings
unfolding strictly_ranked
ranks_listed b t =
    let (k, l) = (and_T (different (in_order (ranked b.first))) (different (in_order (ranked b.second)))).0 (rw (← strict_ranks b) at t) in
    ranking_in (ranked b.first) (ranked b.second) (order_of b.first k) (order_of b.second l)

-- just the ranks of strictly ranked tables
pub rankings_law : (r : Bimatrix) → (r ∈ rankings) ↔ ((b : Bimatrix) × T (strictly_ranked b) × (ranks b ≡ r))
unfolding strictly_ranked
rankings_law r = (
  λ h.
      let (k, l) = of_ranking r h in (
        r,
        (and_T (different (in_order r.first)) (different (in_order r.second))).1 (order_different r.first k, order_different r.second l),
        ap₂ bimatrix_of (order_ranked r.first k) (order_ranked r.second l),
      ),
  λ (b, t, e). rw (← e) (ranks_listed b t),
)

-- ---- how many

pub orders_length : length orders ≡ 24
unfolding flat_map profiles different orders
orders_length = refl

pub rankings_length : length rankings ≡ 576
unfolding flat_map profiles different orders rankings
rankings_length = refl
