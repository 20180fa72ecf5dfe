-- Reading a whole report from its bytes.
use Rattle.std.specs.Prelude.{◌≡◌, ℕ, suc, ◌+◌, true, List, [], ◌∷◌, length, Option, Some, Result, Ok, Err}
use Rattle.spec_core.specs.Specification.{Specification}
use Rattle.proof_report.specs.declared.kind.Fault.{Fault}
use Rattle.proof_report.specs.declared.kind.ReportKind.TheVariants as kinds
use Rattle.proof_report.specs.declared.kind.ReportRefused.{ReportRefused}
use Rattle.proof_report.specs.declared.kind.ReportRefused.TheVariants as refused
use Rattle.proof_report.specs.declared.verdict.Report.{Report}
use Rattle.proof_report.specs.declared.verdict.Block.{Block}
use Rattle.proof_report.specs.declared.verdict.Verdict.{Verdict}
use Rattle.proof_report.specs.declared.verdict.Verdict.TheVariants as verdicts
use Rattle.proof_report.specs.declared.verdict.Cause.{Cause}
use Rattle.proof_report.specs.declared.verdict.Cause.TheVariants as causes
use Rattle.proof_report.specs.Verdicts.{VerdictForm, proved, refuted, instances, lines, rows, range, ReportForm, is_report}
use Rattle.proof_report.specs.Events.{verdict_lines}
use Rattle.report_reader.specs.Reader.{ReaderForm, read_line, first_reader, fault_at_end, IsShownBy}
use Rattle.report_bytes.specs.Bytes.{report_bytes, lines_of, unended}

-- ---- the first fault

infixl 10 ◌>>=◌
-- goes on with what was read, or stops at the fault
abbrev pub ◌>>=◌ : {A B : Type 0} → Result A Fault → (A → Result B Fault) → Result B Fault
(Ok x) >>= f = f x
(Err k) >>= f = Err k

-- the reader behind some lines, or the first fault of them
unfoldable pub read_lines : ReaderForm → List (List ℕ) → Result ReaderForm Fault
read_lines r [] = Ok r
read_lines r (line ∷ more) = read_line r line >>= λ x. read_lines x.1 more

-- behind all lines: bytes without a line feed behind them are a fault, and so is it that a line is missing
abbrev pub fault_behind : Result ReaderForm Fault → List ℕ → Option Fault
fault_behind (Err f) rest = Some f
fault_behind (Ok r) [] = fault_at_end r
fault_behind (Ok r) (b ∷ bs) = Some (record { number = suc r.number; kind = kinds.Form })

-- The first fault of bytes, if they have one.
abbrev pub first_fault : Specification → List ℕ → Option Fault
first_fault d bytes = fault_behind (read_lines (first_reader d) (lines_of bytes)) (unended bytes)

-- ---- what is read

-- a verdict, and the number of the line that begins it
pub record BlockForm : Type 0 where
  pub line : ℕ
  pub verdict : VerdictForm

-- the blocks of some verdicts behind so many lines: the line of an obligation stands before its verdict
abbrev pub blocks_behind : ℕ → List VerdictForm → List BlockForm
blocks_behind n [] = []
blocks_behind n (v ∷ vs) =
    record { line = n + 2; verdict = v } ∷ blocks_behind (n + 1 + length (verdict_lines v [])) vs

-- the blocks of a report stand behind its first three lines
abbrev pub blocks_of : ReportForm → List BlockForm
blocks_of r = blocks_behind 3 r.verdicts

-- the cause that the code holds is the one that was read
abbrev pub IsCause : VerdictForm → Cause → Type 0
IsCause instances causes.Instances = Unit {0}
IsCause (lines log) (causes.Lines l) = l ≡ log
IsCause (rows log r) (causes.Rows e) = (e.log ≡ log) × (e.used ≡ r.used) × (e.steps ≡ r.steps)
IsCause (range log r) (causes.Range e) =
    (e.log ≡ log) × (e.used ≡ r.used) × (e.steps ≡ r.steps) × (e.what ≡ r.what)
IsCause _ _ = ⊥

-- a verdict is the one that is shown
abbrev pub IsVerdict : Specification → VerdictForm → Verdict → Type 0
IsVerdict d (proved log) (verdicts.Proved l) = l ≡ log
IsVerdict d (refuted p es) (verdicts.Refuted w) = IsShownBy d p es w
IsVerdict d v (verdicts.Undecided cause) = IsCause v cause
IsVerdict d _ _ = ⊥

-- each of some blocks is a block that was read: of its line, with its verdict
abbrev pub AreBlocks : Specification → List BlockForm → List Block → Type 0
AreBlocks d [] [] = Unit {0}
AreBlocks d (f ∷ fs) (b ∷ bs) =
    (b.line ≡ f.line) × IsVerdict d f.verdict b.verdict × AreBlocks d fs bs
AreBlocks d _ _ = ⊥

-- A report is the one that is shown.
pub record IsReport (d : Specification) (r : ReportForm) (x : Report) : Type 0 where
  pub version : x.version ≡ r.version
  pub budget : x.budget ≡ r.budget
  pub blocks : AreBlocks d (blocks_of r) x.blocks

-- What is read from bytes: the report whose bytes they are, or their first fault.
abbrev pub IsRead : Specification → List ℕ → Result Report ReportRefused → Type 0
IsRead d bytes (Ok x) =
    (r : ReportForm) × (is_report d r ≡ true) × (bytes ≡ report_bytes d r) × IsReport d r x
IsRead d bytes (Err (refused.Line n k)) =
    first_fault d bytes ≡ Some (record { number = n; kind = k })
IsRead d bytes (Err refused.Memory) = Unit {0}
