-- Document 01, "Refusal table": each refusal's number, and which of several refusals a call gives. Assumes nothing.
use Rattle.std.specs.Prelude.{Bool, true, false, List, [], ◌∷◌, ℕ}
use Rattle.std.proofs.Math.Option.{Option, none, some}
use Rattle.refusal.specs.declared.NormalFormError.{NormalFormError}
use Rattle.refusal.specs.declared.NormalFormError.TheVariants.{NoPlayers, TooManyPlayers, NoStrategies, TooManyStrategies, TooManyCells, PayoffCount, NonFiniteUtility, InvalidPlayer, OpponentProfileCount, InvalidOpponentStrategy, ProfileCount, InvalidStrategy, OutputTooShort, NoSurvivingStrategy, NotDominated, ForeignSurvivors, MissingWord, WrongKind, WrongPayload, TrailingWord}

-- the number of each refusal, with document 01's words for when it is given
abbrev pub number_of : NormalFormError → ℕ
-- P is 0
number_of NoPlayers = 1
-- P over 8
number_of TooManyPlayers = 2
-- a count is 0
number_of NoStrategies = 3
-- a count over 64
number_of TooManyStrategies = 4
-- cells over 65,536
number_of TooManyCells = 5
-- number of payoffs given differs from cells
number_of PayoffCount = 6
-- a payoff is NaN or infinite
number_of NonFiniteUtility = 7
-- player not below P
number_of InvalidPlayer = 8
-- number of opponents given differs from P − 1
number_of OpponentProfileCount = 9
-- an opponent's choice not below its count
number_of InvalidOpponentStrategy = 10
-- number of choices given differs from P
number_of ProfileCount = 11
-- a choice not below its count
number_of InvalidStrategy = 12
-- an output is shorter than the result needs
number_of OutputTooShort = 13
-- strategy not below its count, or struck
number_of NoSurvivingStrategy = 14
-- no survivor strictly dominates the strategy
number_of NotDominated = 15
-- foreign survivors
number_of ForeignSurvivors = 16
-- byte length no multiple of 4, or a due word is absent
number_of MissingWord = 17
-- a word's kind isn't the one due
number_of WrongKind = 18
-- wrong payload
number_of WrongPayload = 19
-- a word follows the closing word
number_of TrailingWord = 20

-- ---- in which order refusals apply

-- the refusal that a call gives, or none
abbrev pub Refusal : Type 0
Refusal = Option NormalFormError

-- e, when the test holds
abbrev pub when : Bool → NormalFormError → Refusal
when true e = some e
when false e = none

infixr 20 ◌then◌
-- a first, and b where a is none
abbrev pub ◌then◌ : Refusal → Refusal → Refusal
some e then b = some e
none then b = b

-- one after the other: the first refusal of f over a list, of players or of places
abbrev pub each : (ℕ → Refusal) → List ℕ → Refusal
each f [] = none
each f (p ∷ ps) = f p then each f ps
