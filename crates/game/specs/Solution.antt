-- Document 01, "Best responses, dominance, equilibria": in pure strategies, and among the marked ones alone.
-- Those of the game itself are the case `whole g`. A list x is meant to be a profile. Assumes nothing.
use Rattle.std.specs.Prelude.{Bool, not, ◌&&◌, List, ℕ, ltb, eqb, set}
use Rattle.std.proofs.Math.Option.{Option}
use Rattle.game.specs.Finite.{◌⇒◌, all, below, filter, empty, first}
use Rattle.game.specs.Game.{Game, count, Strategy, strategy, strategies, profiles, Marks, inside, others}

module _ (g : Game) (m : Marks) where
  -- t strictly dominates s of the same player p: t ≠ s, and t's payoff is greater against every marked choice of the others
  unfoldable pub dominates : ℕ → ℕ → ℕ → Bool
  dominates p t s =
      not (eqb t s)
      && all (λ x. others g m p x ⇒ ltb (g.pay p (set x p s)) (g.pay p (set x p t))) (profiles g.counts)

  -- the marked strategies of player p that strictly dominate s, ascending: dominators are pure strategies
  unfoldable pub dominators : ℕ → ℕ → List ℕ
  dominators p s = filter (λ t. m p t && dominates p t s) (below (count g p))

  -- the lowest dominator
  unfoldable pub dominator : ℕ → ℕ → Option ℕ
  dominator p s = first (dominators p s)

  -- a player gains by strategy c at x: c is marked, and the change of only that player's own choice gives it a greater payoff
  unfoldable pub gains : List ℕ → Strategy → Bool
  gains x c = m c.player c.number && ltb (g.pay c.player x) (g.pay c.player (set x c.player c.number))

  -- every strategy by which its player gains at x, players ascending and then numbers
  unfoldable pub deviations : List ℕ → List Strategy
  deviations x = filter (gains x) (strategies g)

  -- the lowest player that gains at x, with the lowest strategy by which it does
  unfoldable pub deviation : List ℕ → Option Strategy
  deviation x = first (deviations x)

  -- s is a best response of player p to the others' choices in x: s is marked, and no marked strategy of p has a payoff that exceeds
  -- its own. p's own place in x is not read
  unfoldable pub best_response : ℕ → List ℕ → ℕ → Bool
  best_response p x s = m p s && all (λ t. not (gains (set x p s) (strategy p t))) (below (count g p))

  -- all best responses, ascending
  unfoldable pub best_responses : ℕ → List ℕ → List ℕ
  best_responses p x = filter (best_response p x) (below (count g p))

  -- x is an equilibrium: every choice is marked, and no player's change of only its own choice gives that player a greater payoff
  unfoldable pub equilibrium : List ℕ → Bool
  equilibrium x = inside g m x && empty (deviations x)

  -- all equilibria, in profile order
  unfoldable pub equilibria : List (List ℕ)
  equilibria = filter equilibrium (profiles g.counts)
