-- When a verdict is valid, and when a report is, as people say it.
use Rattle.std.specs.Prelude.{◌≡◌, ℕ, suc, ◌<◌, ◌≤◌, true, List, [], ◌∷◌, length, Ok}
use Rattle.spec_core.specs.Specification.{Specification}
use Rattle.spec_core.specs.State.{Listing, reads}
use Rattle.obligation_list.specs.declared.obligation.Obligation.{Obligation}
use Rattle.obligation_list.specs.Refuting.{IsRefutation}
use Rattle.proof_lines.specs.declared.line.Line.{Line}
use Rattle.proof_kernel.specs.Rules.{State, run}
use Rattle.proof_kernel.specs.Evidence.{is_fresh, rows_hold, range_holds}
use Rattle.ground_problem.specs.Problem.{formulas_of}
use Rattle.ground_numbers.specs.Problem.{problem_of}
use Rattle.ground_problem.specs.Problem.{most_formulas}
use Rattle.proof_report.specs.declared.place.PartialWitness.{PartialWitness}
use Rattle.proof_report.specs.Verdicts.{VerdictForm, proved, refuted, instances, lines, rows, range, obligation_at}
use Rattle.report_reader.specs.Reader.{reads_of}

-- the obligation has few enough formulas to be decided
abbrev pub HasFew : Specification → Obligation → Type 0
HasFew d ob = length (formulas_of d ob) ≤ most_formulas

-- the obligation has too many formulas
abbrev pub HasMany : Specification → Obligation → Type 0
HasMany d ob = most_formulas < length (formulas_of d ob)

-- the kernel accepts all lines of a log, and this stands after them
abbrev pub Leads : Specification → Obligation → List Line → State → Type 0
Leads d ob log s = run (problem_of d ob) log ≡ Ok s

-- A log proves an obligation: the kernel accepts it on the obligation's problem, with an empty clause.
pub record IsProof (d : Specification) (ob : Obligation) (log : List Line) : Type 0 where
  pub few : HasFew d ob
  pub state : State
  pub leads : Leads d ob log state
  pub empty : state.empty ≡ true

-- A witness refutes an obligation: it breaks it in a state that reads as is shown.
pub record IsBroken (d : Specification) (ob : Obligation) (p : PartialWitness)
    (es : List ℕ) : Type 0 where
  pub state : Listing
  pub reads_so : reads state ≡ reads_of p
  pub breaks : IsRefutation d ob p.world state p.calls es

-- A fresh log has as many lines as the budget allows.
pub record IsSpent (d : Specification) (ob : Obligation) (budget : ℕ)
    (log : List Line) : Type 0 where
  pub few : HasFew d ob
  pub state : State
  pub leads : Leads d ob log state
  pub fresh : is_fresh state ≡ true
  pub all : length log ≡ budget

-- A verdict on an obligation is valid, where the budget of log lines is this.
abbrev pub IsValid : Specification → ℕ → Obligation → VerdictForm → Type 0
IsValid d budget ob (proved log) = IsProof d ob log
IsValid d budget ob (refuted p es) = IsBroken d ob p es
IsValid d budget ob instances = HasMany d ob
IsValid d budget ob (lines log) = IsSpent d ob budget log
IsValid d budget ob (rows log r) =
    HasFew d ob × (s : State) × Leads d ob log s × (is_fresh s ≡ true)
    × (rows_hold s r.used r.steps ≡ true)
IsValid d budget ob (range log r) =
    HasFew d ob × (s : State) × Leads d ob log s × (is_fresh s ≡ true)
    × (range_holds s r.used r.steps r.what ≡ true)

-- Each of some verdicts is valid, on the obligations from a place of the list on.
abbrev pub AreValid : Specification → ℕ → ℕ → List VerdictForm → Type 0
AreValid d budget i [] = Unit {0}
AreValid d budget i (v ∷ vs) = IsValid d budget (obligation_at d i) v × AreValid d budget (suc i) vs
