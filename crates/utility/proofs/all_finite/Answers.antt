-- `utility::all_finite` meets its contract: every piece of `RUN` values passes where all values do.
-- Assumes nothing.
use mathlib.Core.Path.{◌≡◌, ap, ◌∙◌}
use mathlib.Core.Bool.{true, false}
use mathlib.Core.List.{List}
use Prim.Native.Nat.{ℕ, ◌*◌, ◌<◌, ◌≤◌}
use native.Mathlib.Omega.{arith}
use borrow.Author.Rules.{rules}
use lib.ListN.{length, take, drop}
use lib.Ieee.{Float}
use Rattle.std.specs.Option.{IfSome, IsSomeAnd}
use Rattle.game.specs.Finite.{all}
use Rattle.payoff_order.specs.Order.{finite}
use Rattle.utility.proofs.Pieces.{if_some, is_there, item_passes, item_fails, pieces_pass, piece_fails, same_answer}
use Rattle.utility.proofs.all_finite.Goals as goal

pub returns : goal.returns
returns c =
    let xs = c.args.values.now in
    let (p, from, m) = c.all.ensures.runs in
    let size : p.from.size ≡ 1024 = search rules in
    let rest : p.from.rest.now ≡ xs = search rules in
    let chunks = c.chunks.ensures.runs p p.seen (omega (arith, size)) in
    let each : c.all.result ≡ true → (k : ℕ) → IfSome (p.at k) (λ x. all finite x.now ≡ true) = search rules in
    let some : c.all.result ≡ false → (k : ℕ) × IsSomeAnd (p.at k) (λ x. all finite x.now ≡ false) = search rules in
    let whole : c.all.result ≡ true → length xs ≤ p.len * 1024 = search rules in
    let piece : (k : ℕ) → IfSome (p.at k) (λ x. x.now ≡ take 1024 (drop (k * 1024) xs)) =
    λ k.
    if_some (p.at k)
    (λ x h. h.2.0 ∙ ap (λ (n : ℕ). take n (drop (k * n) p.from.rest.now)) size ∙ ap (λ (ys : List Float). take 1024 (drop (k * 1024) ys)) rest)
    (chunks.2 k) in
    let there : (k : ℕ) → k < p.len → IsSomeAnd (p.at k) (λ x. Unit {0}) = λ k h. is_there (p.at k) _ (p.reads k c.args.values h) in
    same_answer c.all.result (all finite xs)
    (λ e. pieces_pass xs (λ k h. item_passes (p.at k) _ (there k (omega (arith, h, whole e))) (each e k) (piece k)))
    (λ e. piece_fails xs ((some e).0 * 1024) (item_fails (p.at (some e).0) _ (some e).1 (piece (some e).0)))
