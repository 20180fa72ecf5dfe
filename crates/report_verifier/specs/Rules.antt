-- What a verdict of a report rests on, and the line at which that isn't there.
use Rattle.std.specs.Prelude.{ℕ, suc, ◌+◌, ◌==◌, nat_lt, Bool, true, false, ◌&&◌, List, [], ◌∷◌, length, Option, Some, None, Result, Ok, Err, cond}
use Rattle.spec_core.specs.Specification.{Specification}
use Rattle.spec_core.specs.Fits.{fits_places, world_fits}
use Rattle.obligation_list.specs.declared.obligation.Obligation.{Obligation}
use Rattle.obligation_list.specs.Breaking.{elements_of}
use Rattle.obligation_list.specs.Refuting.{refutes_in}
use Rattle.proof_lines.specs.declared.line.Why.{Why}
use Rattle.proof_lines.specs.declared.line.Why.TheVariants as why
use Rattle.proof_lines.specs.Problems.{PlainProblem}
use Rattle.proof_kernel.specs.Rules.{State, run}
use Rattle.proof_kernel.specs.Evidence.{is_fresh, rows_hold, range_holds}
use Rattle.ground_problem.specs.Problem.{formulas_of}
use Rattle.ground_numbers.specs.Problem.{problem_of}
use Rattle.ground_problem.specs.Problem.{most_formulas}
use Rattle.proof_report.specs.declared.kind.Fault.{Fault}
use Rattle.proof_report.specs.declared.kind.ReportKind.{ReportKind}
use Rattle.proof_report.specs.declared.kind.ReportKind.TheVariants as kinds
use Rattle.proof_report.specs.declared.place.PartialWitness.{PartialWitness}
use Rattle.proof_report.specs.Verdicts.{VerdictForm, proved, refuted, instances, lines, rows, range, obligation_at, ReportForm}
use Rattle.report_reader.specs.Reader.{reads_of}
use Rattle.report_bytes.specs.Reading.{BlockForm, blocks_of}

-- ---- faults

-- a fault at a line
abbrev pub fault_at : ℕ → ReportKind → Option Fault
fault_at line kind = Some (record { number = line; kind = kind })

-- a fault where something isn't there
abbrev pub unless : Bool → Option Fault → Option Fault
unless true fault = None
unless false fault = fault

-- the first of two faults
abbrev pub or_else : Option Fault → Option Fault → Option Fault
or_else (Some fault) later = Some fault
or_else None later = later

-- the kind of a log line that breaks a rule
abbrev pub kind_of : Why → ReportKind
kind_of why.Place = kinds.Place
kind_of why.Pivot = kinds.Pivot
kind_of why.Multiplier = kinds.Multiplier
kind_of why.Contradiction = kinds.Contradiction
kind_of why.Range = kinds.Range
kind_of why.SplitAgain = kinds.SplitAgain
kind_of why.SplitCause = kinds.SplitCause
kind_of why.Evidence = kinds.Evidence
kind_of why.Dropped = kinds.Dropped

-- ---- what a verdict rests on

-- an obligation has more formulas than may be
abbrev pub has_many : Specification → Obligation → Bool
has_many d ob = nat_lt most_formulas (length (formulas_of d ob))

-- a witness, with these elements, refutes an obligation in the state that it shows
abbrev pub refutes_shown : Specification → Obligation → PartialWitness → List ℕ → Bool
refutes_shown d ob p es =
    (world_fits d p.world && fits_places p.world (elements_of d ob) es)
    && refutes_in d ob p.world (reads_of p) p.calls es

-- The first line of a log that breaks a rule is a fault, the log standing behind this line; else what is said of the state after the
-- log.
abbrev pub log_fault : ℕ → (State → Option Fault) → Result State (ℕ × Why) → Option Fault
log_fault line behind (Ok s) = behind s
log_fault line behind (Err e) = fault_at (line + 1 + e.0) (kind_of e.1)

-- The fault of a verdict that begins at a line, on an obligation with this problem. A proved log needs an empty clause, a witness
-- has to break the obligation, and an undecided verdict needs its evidence; too many formulas aren't there.
abbrev pub problem_fault : Specification → ℕ → PlainProblem → ℕ → Obligation
    → VerdictForm → Option Fault
problem_fault d budget problem line ob (proved log) =
    log_fault line (λ s. unless s.empty (fault_at line kinds.NoEmpty)) (run problem log)
problem_fault d budget problem line ob (refuted p es) =
    unless (refutes_shown d ob p es) (fault_at line kinds.Witness)
problem_fault d budget problem line ob instances = fault_at line kinds.Evidence
problem_fault d budget problem line ob (lines log) =
    log_fault line
    (λ s. unless ((length log == budget) && is_fresh s) (fault_at line kinds.Evidence))
    (run problem log)
problem_fault d budget problem line ob (rows log r) =
    log_fault line
    (λ s. unless (is_fresh s && rows_hold s r.used r.steps) (fault_at line kinds.Evidence))
    (run problem log)
problem_fault d budget problem line ob (range log r) =
    log_fault line
    (λ s. unless (is_fresh s && range_holds s r.used r.steps r.what) (fault_at line kinds.Evidence))
    (run problem log)

-- The fault of one on an obligation with too many formulas: that they are too many is good, and so is a witness that breaks it.
abbrev pub many_fault : Specification → ℕ → Obligation → VerdictForm → Option Fault
many_fault d line ob (refuted p es) =
    unless (refutes_shown d ob p es) (fault_at line kinds.Evidence)
many_fault d line ob instances = None
many_fault d line ob v = fault_at line kinds.Evidence

-- The fault of a verdict that begins at a line, if it has one.
abbrev pub rule_fault : Specification → ℕ → ℕ → Obligation → VerdictForm → Option Fault
rule_fault d budget line ob v =
    cond (has_many d ob) (many_fault d line ob v)
    (problem_fault d budget (problem_of d ob) line ob v)

-- ---- reports

-- the first fault of some blocks, on the obligations from a place of the list on
abbrev pub blocks_fault : Specification → ℕ → ℕ → List BlockForm → Option Fault
blocks_fault d budget i [] = None
blocks_fault d budget i (b ∷ bs) =
    or_else (rule_fault d budget b.line (obligation_at d i) b.verdict)
    (blocks_fault d budget (suc i) bs)

-- The first fault of the verdicts of a report, if it has one.
abbrev pub verdict_fault : Specification → ReportForm → Option Fault
verdict_fault d r = blocks_fault d r.budget 0 (blocks_of r)
