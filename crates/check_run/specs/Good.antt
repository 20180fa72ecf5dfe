-- When a verdict on an obligation is good: what it rests on is there.
use Rattle.std.specs.Prelude.{◌≡◌, ℕ, ◌≤◌, ◌<◌, true, Ok, List, [], ◌∷◌, length}
use Rattle.spec_core.specs.Specification.{Specification}
use Rattle.obligation_list.specs.declared.obligation.Obligation.{Obligation}
use Rattle.obligation_list.specs.Refuting.{IsRefutation}
use Rattle.proof_lines.specs.declared.line.Line.{Line}
use Rattle.proof_lines.specs.Problems.{PlainProblem}
use Rattle.proof_kernel.specs.Rules.{State, run}
use Rattle.ground_problem.specs.Problem.{formulas_of}
use Rattle.ground_numbers.specs.Problem.{problem_of}
use Rattle.ground_problem.specs.Problem.{most_formulas}
use Rattle.sat_core.specs.Answers.{IsExhausted, IsTooLong, IsTooLarge}
use Rattle.proof_report.specs.Verdicts.{VerdictForm, proved, refuted, instances, lines, rows, range}
use Rattle.check_run.specs.Shown.{listing_of}

-- an obligation has no more formulas than are decided
abbrev pub HasFew : Specification → Obligation → Type 0
HasFew d ob = length (formulas_of d ob) ≤ most_formulas

-- an obligation has more formulas than are decided
abbrev pub HasMany : Specification → Obligation → Type 0
HasMany d ob = most_formulas < length (formulas_of d ob)

-- A log refutes a problem: the kernel accepts its lines, and an empty clause is among the clauses.
pub record Refutes (p : PlainProblem) (log : List Line) : Type 0 where
  pub state : State
  pub runs : run p log ≡ Ok state
  pub empty : state.empty ≡ true

-- A log proves an obligation, in at most so many lines: it refutes the obligation's problem.
pub record IsProof (d : Specification) (budget : ℕ) (ob : Obligation)
    (log : List Line) : Type 0 where
  pub few : HasFew d ob
  pub refutes : Refutes (problem_of d ob) log
  pub within : length log ≤ budget

-- A verdict on an obligation is good, where logs may have so many lines. The search may have split.
abbrev pub IsGood : Specification → ℕ → Obligation → VerdictForm → Type 0
IsGood d budget ob (proved log) = IsProof d budget ob log
IsGood d budget ob (refuted p es) = IsRefutation d ob p.world (listing_of d p) p.calls es
IsGood d budget ob instances = HasMany d ob
IsGood d budget ob (lines log) = HasFew d ob × IsExhausted true (problem_of d ob) budget log
IsGood d budget ob (rows log r) =
    HasFew d ob
    × IsTooLong true (problem_of d ob) budget (record { log = log; used = r.used; steps = r.steps })
IsGood d budget ob (range log r) =
    HasFew d ob
    × IsTooLarge true (problem_of d ob) budget
    (record { log = log; used = r.used; steps = r.steps; what = r.what })

-- There is a good verdict on each of these obligations, in their order.
abbrev pub AreGood : Specification → ℕ → List Obligation → List VerdictForm → Type 0
AreGood d budget [] [] = Unit {0}
AreGood d budget [] (v ∷ vs) = ⊥
AreGood d budget (ob ∷ obs) [] = ⊥
AreGood d budget (ob ∷ obs) (v ∷ vs) = IsGood d budget ob v × AreGood d budget obs vs

-- The verdicts are good ones on a front of these obligations.
abbrev pub AreGoodSoFar : Specification → ℕ → List Obligation → List VerdictForm → Type 0
AreGoodSoFar d budget obs [] = Unit {0}
AreGoodSoFar d budget [] (v ∷ vs) = ⊥
AreGoodSoFar d budget (ob ∷ obs) (v ∷ vs) = IsGood d budget ob v × AreGoodSoFar d budget obs vs
