use native.Mathlib.Omega.{arith}
use borrow.Author.Count.{below_more}
use lib.ListN.{length}
use Rattle.payoff_tables.proofs.Checks.{count_zero, count_over, count_fits, no_players, many_players, bad_count, many_cells, counts_fit}
use Rattle.payoff_tables.proofs.Products.{product_more, product_end, power_more, power_cap}
use Rattle.table.proofs.profile_count.Goals as goal

pub returns-then-players-eq0 : goal.returns-then-players-eq0
returns-then-players-eq0 c = rw (no_players _ c.if-players-eq0.true)

pub returns-then-players-gt-MAX_PLAYERS : goal.returns-then-players-gt-MAX_PLAYERS
returns-then-players-gt-MAX_PLAYERS c = rw (many_players _ c.if-players-gt-MAX_PLAYERS.true)

pub returns-then-count-eq0 : goal.returns-then-count-eq0
returns-then-count-eq0 c =
    let l = c.loop-count in
    rw (bad_count c.args.counts.now l.count-index _ (omega arith) (omega arith) l.invariant.2 (count_zero _ c.if-count-eq0.true))

pub returns-then-count-gt-MAX_STRATEGIES : goal.returns-then-count-gt-MAX_STRATEGIES
returns-then-count-gt-MAX_STRATEGIES c =
    let l = c.loop-count in
    rw (bad_count c.args.counts.now l.count-index _ (omega arith) (omega arith) l.invariant.2 (count_over _ c.if-count-gt-MAX_STRATEGIES.true))

pub overflow_mul-profiles : goal.overflow_mul-profiles
overflow_mul-profiles c = let l = c.loop-count in omega (arith, power_cap l.profiles _ l.count-index l.invariant.0 (omega arith) c.if-count-gt-MAX_STRATEGIES.false)

pub loop-count-preserved : goal.loop-count-preserved
loop-count-preserved c =
    let l = c.loop-count in (
      power_more l.profiles _ l.count-index l.invariant.0 c.if-count-gt-MAX_STRATEGIES.false,
      product_more _ l.count-index l.profiles _ (omega arith) l.invariant.1,
      below_more _ _ l.invariant.2 (count_fits _ (omega arith) c.if-count-gt-MAX_STRATEGIES.false),
    )

pub overflow_mul-profiles-2 : goal.overflow_mul-profiles-2
overflow_mul-profiles-2 c = let l = c.loop-count in omega (arith, power_cap l.profiles (length c.args.counts.now) l.count-index l.invariant.0 (omega arith) (omega arith))

pub returns-then-profiles-players-gt-MAX_CELLS : goal.returns-then-profiles-players-gt-MAX_CELLS
returns-then-profiles-players-gt-MAX_CELLS c =
    let l = c.loop-count in
    let e = product_end _ l.count-index l.profiles (omega arith) l.invariant.1 in
    rw (many_cells c.args.counts.now (omega arith) (omega arith) (λ q h. l.invariant.2 q (omega arith)) (rw e at c.if-profiles-players-gt-MAX_CELLS.true))

pub returns : goal.returns
returns c =
    let l = c.loop-count in
    let e = product_end _ l.count-index l.profiles (omega arith) l.invariant.1 in
    rw (counts_fit c.args.counts.now (omega arith) (omega arith) (λ q h. l.invariant.2 q (omega arith)) (rw e at c.if-profiles-players-gt-MAX_CELLS.false), e)
