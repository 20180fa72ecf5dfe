-- What the reader of a whole report keeps between two lines. It mirrors the code.
use Rattle.spec_core.specs.Typed.{is_specification}
use Rattle.std.specs.Prelude.{◌≡◌, ℕ, suc, true, List, [], ◌∷◌, ◌++◌, Option, Some, None, Result, Ok, Err}
use Rattle.proof_lines.specs.declared.line.Line.{Line}
use Rattle.report_lines.specs.declared.verdict.VerdictWord.{VerdictWord}
use Rattle.proof_report.specs.declared.event.Event.{Event}
use Rattle.proof_report.specs.declared.kind.ReportRefused.{ReportRefused}
use Rattle.proof_report.specs.declared.kind.ReportRefused.TheVariants as refused
use Rattle.proof_report.specs.declared.verdict.Ended.{Ended}
use Rattle.proof_report.specs.declared.verdict.Ended.TheVariants as ended
use Rattle.proof_report.specs.declared.verdict.Fed.{Fed}
use Rattle.proof_report.specs.declared.verdict.Verdict.{Verdict}
use Rattle.proof_report.specs.declared.verdict.Verdict.TheVariants as verdicts
use Rattle.proof_report.specs.declared.verdict.Cause.TheVariants as causes
use Rattle.spec_core.specs.Specification.{Specification}
use Rattle.proof_report.specs.declared.kind.Fault.{Fault}
use Rattle.proof_report.specs.declared.place.State.{State}
use Rattle.proof_report.specs.Feeding.{after}
use Rattle.proof_report.specs.Verdicts.{VerdictForm, proved, refuted, instances, lines, rows, range}
use Rattle.report_reader.specs.Reader.{EndForm, end_proved, end_refuted, end_instances, end_lines, end_rows, end_range, begin_of, log_of_event, ended_by, budget_of, stated, ReaderForm, read_line, first_reader, Tells}
use Rattle.report_bytes.specs.Bytes.{lines_of, unended}
use Rattle.report_bytes.specs.Reading.{◌>>=◌, BlockForm, AreBlocks, IsRead, read_lines, fault_behind}
use Rattle.report_bytes.specs.declared.reading.Collected.{Collected}

-- the verdict that ends a block, with its log
abbrev pub verdict_of : Ended → List Line → Verdict
verdict_of ended.Proved log = verdicts.Proved log
verdict_of (ended.Refuted w) log = verdicts.Refuted w
verdict_of ended.Instances log = verdicts.Undecided causes.Instances
verdict_of ended.Lines log = verdicts.Undecided (causes.Lines log)
verdict_of (ended.Rows used steps) log =
    verdicts.Undecided (causes.Rows (record { log = log; used = used; steps = steps }))
verdict_of (ended.Range used steps what) log =
    verdicts.Undecided
    (causes.Range (record { log = log; used = used; steps = steps; what = what }))

-- the number of a verdict's first line, where one begins
abbrev pub with_begin : ℕ → Option VerdictWord → Collected → Collected
with_begin n None c = c
with_begin n (Some b) c = record { line = n; log = c.log; blocks = c.blocks }

-- one more line of the log
abbrev pub with_line : Option Line → Collected → Collected
with_line None c = c
with_line (Some l) c = record { line = c.line; log = c.log ++ l ∷ []; blocks = c.blocks }

-- one more block, where one ends
abbrev pub with_end : Option Ended → Collected → Collected
with_end None c = c
with_end (Some e) c = record {
  line = c.line;
  log = [];
  blocks = c.blocks ++ record { line = c.line; verdict = verdict_of e c.log } ∷ [];
}

-- what is kept behind the line of this number, which tells this
abbrev pub collect : ℕ → Fed → Collected → Collected
collect n f c = with_end f.ended (with_line f.log (with_begin n f.begin c))

-- ---- the same of what lines say

-- the line that began the last verdict, its log so far, the blocks before it, and the budget if it was stated
pub record Kept : Type 0 where
  pub line : ℕ
  pub log : List Line
  pub blocks : List BlockForm
  pub budget : Option ℕ

-- before the first line
abbrev pub nothing_kept : Kept
nothing_kept = record { line = 0; log = []; blocks = []; budget = None }

-- the verdict of a block that ends so
abbrev pub end_verdict : EndForm → List Line → VerdictForm
end_verdict end_proved log = proved log
end_verdict (end_refuted p es) log = refuted p es
end_verdict end_instances log = instances
end_verdict end_lines log = lines log
end_verdict (end_rows r) log = rows log r
end_verdict (end_range r) log = range log r

-- the number of a verdict's first line, where one begins
abbrev pub kept_begin : ℕ → Option VerdictWord → Kept → Kept
kept_begin n None k = k
kept_begin n (Some b) k = record { line = n; log = k.log; blocks = k.blocks; budget = k.budget }

-- one more line of the log
abbrev pub kept_line : Option Line → Kept → Kept
kept_line None k = k
kept_line (Some l) k =
    record { line = k.line; log = k.log ++ l ∷ []; blocks = k.blocks; budget = k.budget }

-- one more block, where one ends
abbrev pub kept_end : Option EndForm → Kept → Kept
kept_end None k = k
kept_end (Some e) k = record {
  line = k.line;
  log = [];
  blocks = k.blocks ++ record { line = k.line; verdict = end_verdict e k.log } ∷ [];
  budget = k.budget;
}

-- the budget, as far as it is known
abbrev pub with_budget : Option ℕ → Kept → Kept
with_budget b k = record { line = k.line; log = k.log; blocks = k.blocks; budget = b }

-- behind the line of this number
abbrev pub keep : ℕ → State → Event → Kept → Kept
keep n s e k =
    with_budget (stated (budget_of e) k.budget)
    (kept_end (ended_by s e) (kept_line (log_of_event e) (kept_begin n (begin_of e) k)))

-- behind many lines, with so many before them: where the reader stands, and what is kept
unfoldable pub keep_all : Specification → ℕ → State → Kept → List Event → State × Kept
keep_all d n s k [] = (s, k)
keep_all d n s k (e ∷ es) = keep_all d (suc n) (after d s e) (keep (suc n) s e k) es

-- a reader takes many lines: where it stands then, and what is kept, or the first fault
unfoldable pub read_kept : ReaderForm → Kept → List (List ℕ) → Result (ReaderForm × Kept) Fault
read_kept r k [] = Ok (r, k)
read_kept r k (line ∷ more) =
    read_line r line >>= λ x. read_kept x.1 (keep (suc r.number) r.state x.0 k) more

-- What the program keeps is what is kept.
pub record Holds (d : Specification) (k : Kept) (c : Collected) : Type 0 where
  pub line : c.line ≡ k.line
  pub log : c.log ≡ k.log
  pub blocks : AreBlocks d k.blocks c.blocks

-- ---- what the parts of the reader answer

-- A line is taken, or refused.
abbrev pub IsTaken : ReaderForm → Collected → List ℕ → ReaderForm → Collected
    → Result (Unit {0}) ReportRefused → Type 0
IsTaken r c line q k (Ok u) =
    (e : Event) × (f : Fed) × (read_line r line ≡ Ok (e, q)) × Tells r.spec r.state e f
    × (k ≡ collect (suc r.number) f c)
IsTaken r c line q k (Err (refused.Line n x)) =
    read_line r line ≡ Err (record { number = n; kind = x })
IsTaken r c line q k (Err refused.Memory) = Unit {0}

-- All lines of bytes are taken, with these bytes behind them, or one is refused.
abbrev pub AreTaken : ReaderForm → Kept → List ℕ → ReaderForm → Collected → List ℕ → Type 0
AreTaken r k bytes q c rest =
    (l : Kept) × Holds q.spec l c × (read_kept r k (lines_of bytes) ≡ Ok (q, l))
    × (unended bytes ≡ rest) × (q.spec ≡ r.spec)

-- The refusal is the first fault of the lines, or for want of memory.
abbrev pub IsRefused : ReaderForm → List ℕ → ReportRefused → Type 0
IsRefused r bytes (refused.Line n x) =
    read_lines r (lines_of bytes) ≡ Err (record { number = n; kind = x })
IsRefused r bytes refused.Memory = Unit {0}

-- the budget that was stated, and 0 where none was
abbrev pub budget_in : Option ℕ → ℕ
budget_in None = 0
budget_in (Some n) = n

-- What is answered where the lines end: that all is there, or a fault.
abbrev pub IsEnded : ReaderForm → List ℕ → Result (Unit {0}) ReportRefused → Type 0
IsEnded q rest (Ok u) = fault_behind (Ok q) rest ≡ None
IsEnded q rest (Err (refused.Line n x)) =
    fault_behind (Ok q) rest ≡ Some (record { number = n; kind = x })
IsEnded q rest (Err refused.Memory) = Unit {0}

-- The bytes are a whole report, with these blocks, of this version and with this budget.
abbrev pub AreRead : ReaderForm → List ℕ → Collected → ℕ → ℕ → Type 0
AreRead r bytes c version budget =
    (d : Specification) → is_specification d ≡ true → r ≡ first_reader d
    → IsRead d bytes (Ok (record { version = version; budget = budget; blocks = c.blocks }))

-- They are none.
abbrev pub IsFaulty : ReaderForm → List ℕ → ReportRefused → Type 0
IsFaulty r bytes error = (d : Specification) → r ≡ first_reader d → IsRead d bytes (Err error)
