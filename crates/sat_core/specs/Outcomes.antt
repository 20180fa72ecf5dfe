-- What a step of the search comes to.
use Rattle.std.specs.Prelude.{◌≡◌, ◌⊎◌, ℕ, ◌<◌, ◌≤◌, ◌^◌, Bool, true, List, [], ◌∷◌, ◌++◌, length, Option}
use Rattle.lin_rows.specs.Rows.{Row}
use Rattle.proof_lines.specs.declared.clause.Lit.{Lit}
use Rattle.proof_lines.specs.declared.line.Line.{Line}
use Rattle.sat_core.specs.declared.trail.Entry.{Entry}
use Rattle.sat_core.specs.SearchLogs.{with_row}
use Rattle.sat_core.specs.declared.checking.Outcome.{Outcome}
use Rattle.sat_core.specs.declared.checking.Outcome.TheVariants.{Continue, Refuted, Found, BudgetExhausted, Rows, Range, Memory}
use Rattle.sat_core.specs.declared.analyzing.Analyzed.{Analyzed}
use Rattle.sat_core.specs.declared.analyzing.Analyzed.TheVariants.{Empty, Cut, BudgetExhausted as ExhaustedThere, Memory as NoMemory}
use Rattle.sat_core.specs.Answers.{IsRefuted, IsModelOf, IsExhausted, IsTooLong, IsTooLarge}
use Rattle.sat_core.specs.declared.state.SearchState.{SearchState}
use Rattle.sat_core.specs.Searching.{Aim, InSearch, IsBackjump, work}

-- what a step of a search comes to, and in which state: it continues, with less left to do, or it ends with an answer. `stop` is
-- whether its solver of rows may stop
abbrev pub IsOutcome : Outcome → Aim → Bool → ℕ → SearchState → SearchState → Type 0
IsOutcome Continue a stop budget s n = InSearch a budget n × (work a budget n < work a budget s)
IsOutcome Refuted a stop budget s n = IsRefuted a.split a.problem budget n.log
IsOutcome (Found i) a stop budget s n = IsModelOf a.problem i
IsOutcome BudgetExhausted a stop budget s n = IsExhausted a.split a.problem budget n.log
IsOutcome (Rows used steps) a stop budget s n =
    (stop ≡ true) × IsTooLong a.split a.problem budget
    (record { log = n.log; used = used; steps = steps })
IsOutcome (Range used steps what) a stop budget s n =
    (stop ≡ true) × IsTooLarge a.split a.problem budget
    (record { log = n.log; used = used; steps = steps; what = what })
IsOutcome Memory a stop budget s n = Unit {0}

-- a literal was pushed
abbrev pub IsPushed : Outcome → List Entry → Lit → Option ℕ → List Entry → Type 0
IsPushed Continue t l reason u = u ≡ record { lit = l; reason = reason } ∷ t
IsPushed Memory t l reason u = Unit {0}
IsPushed Refuted t l reason u = ⊥
IsPushed (Found i) t l reason u = ⊥
IsPushed BudgetExhausted t l reason u = ⊥
IsPushed (Rows used steps) t l reason u = ⊥
IsPushed (Range used steps what) t l reason u = ⊥

-- a Split line was written and its atom added, or the log has as many lines as it may
abbrev pub IsSplitOff : Outcome → ℕ → SearchState → Row → Line → SearchState → Type 0
IsSplitOff Continue budget s row line n =
    (length s.log < budget) × (n.grown ≡ with_row s.grown row) × (n.trail ≡ s.trail)
    × (n.log ≡ s.log ++ line ∷ []) × (length n.grown.atoms < 2 ^ 32)
IsSplitOff Refuted budget s row line n = ⊥
IsSplitOff (Found i) budget s row line n = ⊥
IsSplitOff BudgetExhausted budget s row line n = (budget ≤ length s.log) × (n ≡ s)
IsSplitOff (Rows used steps) budget s row line n = ⊥
IsSplitOff (Range used steps what) budget s row line n = ⊥
IsSplitOff Memory budget s row line n = ⊥

-- what a step comes to that analyzes a conflict
abbrev pub outcome_of : Analyzed → Outcome
outcome_of Empty = Refuted
outcome_of Cut = Continue
outcome_of ExhaustedThere = BudgetExhausted
outcome_of NoMemory = Memory

-- where the search continues, something holds
abbrev pub IfContinue : Outcome → Type 0 → Type 0
IfContinue Continue P = P
IfContinue Refuted P = Unit {0}
IfContinue (Found i) P = Unit {0}
IfContinue BudgetExhausted P = Unit {0}
IfContinue (Rows used steps) P = Unit {0}
IfContinue (Range used steps what) P = Unit {0}
IfContinue Memory P = Unit {0}

-- the trail and the clauses are as they were, or there was a backjump
abbrev pub IsStay : SearchState → SearchState → Type 0
IsStay s n =
    ((n.trail ≡ s.trail) × (n.grown.clauses ≡ s.grown.clauses))
    ⊎ IsBackjump s.grown.clauses s.trail n.grown.clauses n.trail
