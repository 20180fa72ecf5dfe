-- What `suggest` answers for a specification.
use Rattle.std.specs.Prelude.{◌≡◌, ℕ, zero, suc, List}
use Rattle.spec_core.specs.Specification.{Specification}
use Rattle.suggest.specs.declared.answer.SuggestTally.{SuggestTally}
use Rattle.suggest.specs.Texts.{IsSuggestion, IsSuggestionFront as IsFront}

-- the most log lines of each verdict
abbrev pub suggest_budget : ℕ
suggest_budget = 10000

-- 0 where no pair is unknown, else 5
abbrev pub status_by : ℕ → ℕ
status_by zero = 0
status_by (suc n) = 5

-- The suggestion for the specification: a good answer for each of its pairs, and the status by how many of them are unknown.
pub record IsSuggested (d : Specification) (status : ℕ) (text : List ℕ) : Type 0 where
  pub tally : SuggestTally
  pub suggested : IsSuggestion d suggest_budget tally text
  pub status_is : status ≡ status_by tally.unknown

-- what is left of one that is stopped
abbrev pub IsSuggestionFront : Specification → List ℕ → Type 0
IsSuggestionFront d front = IsFront d suggest_budget front
