-- What a verifier has read, line by line, and what it answers.
use Rattle.std.specs.Prelude.{◌≡◌, ℕ, suc, ◌+◌, ◌≤◌, ◌==◌, Bool, true, false, ◌&&◌, cond, List, [], ◌∷◌, length, Option, Some, None, Result, Ok, Err}
use Rattle.spec_core.specs.Specification.{Specification}
use Rattle.obligation_list.specs.declared.obligation.Obligation.{Obligation}
use Rattle.proof_lines.specs.declared.line.Line.{Line}
use Rattle.proof_lines.specs.declared.line.Why.{Why}
use Rattle.proof_kernel.specs.Rules.{State, start, next}
use Rattle.proof_kernel.specs.Evidence.{is_fresh, rows_hold, range_holds}
use Rattle.ground_numbers.specs.Problem.{problem_of}
use Rattle.report_lines.specs.declared.head.Tally.{Tally}
use Rattle.report_lines.specs.declared.verdict.VerdictWord.{VerdictWord}
use Rattle.report_lines.specs.declared.verdict.VerdictWord.TheVariants as word
use Rattle.proof_report.specs.declared.event.Event.{Event}
use Rattle.proof_report.specs.declared.kind.Fault.{Fault}
use Rattle.proof_report.specs.declared.kind.ReportKind.{ReportKind}
use Rattle.proof_report.specs.declared.kind.ReportKind.TheVariants as kinds
use Rattle.proof_report.specs.declared.place.State.{State as Place}
use Rattle.proof_report.specs.Verdicts.{obligation_at}
use Rattle.proof_report.specs.Events.{told, no_verdicts, with_proved, with_refuted, with_undecided}
use Rattle.report_reader.specs.Reader.{EndForm, end_proved, end_refuted, end_instances, end_lines, end_rows, end_range, begin_of, log_of_event, ended_by, budget_of, stated, ReaderForm, read_line, first_reader, fault_at_end}
use Rattle.proof_report.specs.Feeding.{after}
use Rattle.report_bytes.specs.Bytes.{lines_of, unended}
use Rattle.report_bytes.specs.Collecting.{budget_in}
use Rattle.report_verifier.specs.declared.judgement.Judgement.{Judgement}
use Rattle.report_verifier.specs.Rules.{fault_at, unless, or_else, kind_of, has_many, refutes_shown}
use Rattle.report_verifier.specs.declared.refused.VerifyRefused.{VerifyRefused}
use Rattle.report_verifier.specs.declared.refused.VerifyRefused.TheVariants as refused

-- What is kept of the verdicts so far is a `Judgement`. Nothing stands in its kernel outside a log, where an obligation has too many
-- formulas, and behind a fault.
abbrev pub no_judgement : Judgement
no_judgement = record {
  tally = no_verdicts;
  line = 0;
  many = false;
  kernel = None;
  log = 0;
  fault = None;
}

-- the obligation of the next verdict
abbrev pub obligation_due : Specification → Judgement → Obligation
obligation_due d j = obligation_at d (told j.tally)

-- ---- a verdict begins

-- a log follows the word
abbrev pub has_log : VerdictWord → Bool
has_log (word.Proved n) = true
has_log word.Refuted = false
has_log word.Instances = false
has_log (word.Lines n) = true
has_log (word.Rows n) = true
has_log (word.Range n) = true

-- the kernel before a log, where there is one and not too many formulas
abbrev pub posed : Specification → Obligation → Bool → Option State
posed d ob true = cond (has_many d ob) None (Some (start (problem_of d ob)))
posed d ob false = None

-- on this obligation; or behind a fault, where no problem is posed
abbrev pub begun_in : Specification → Obligation → ℕ → Bool → Judgement → Judgement
begun_in d ob n logs j = record {
  tally = j.tally;
  line = n;
  many = has_many d ob;
  kernel = posed d ob logs;
  log = 0;
  fault = j.fault;
}

-- after a fault no problem is made
abbrev pub begun_behind : Specification → ℕ → VerdictWord → Judgement → Option Fault → Judgement
begun_behind d n b j (Some fault) = record {
  tally = j.tally;
  line = n;
  many = false;
  kernel = None;
  log = 0;
  fault = j.fault;
}
begun_behind d n b j None = begun_in d (obligation_due d j) n (has_log b) j

-- what is kept where a verdict begins, if one does
abbrev pub begun : Specification → ℕ → Option VerdictWord → Judgement → Judgement
begun d n None j = j
begun d n (Some b) j = begun_behind d n b j j.fault

-- ---- a line of a log

-- what is kept after a line that the kernel took or refused
abbrev pub after_line : ℕ → Judgement → Result State Why → Judgement
after_line n j (Ok s) = record {
  tally = j.tally;
  line = j.line;
  many = j.many;
  kernel = Some s;
  log = suc j.log;
  fault = j.fault;
}
after_line n j (Err why) = record {
  tally = j.tally;
  line = j.line;
  many = j.many;
  kernel = None;
  log = suc j.log;
  fault = or_else j.fault (fault_at n (kind_of why));
}

-- a line outside a kernel is counted alone
abbrev pub logged_in : ℕ → Line → Judgement → Option State → Judgement
logged_in n l j None = record {
  tally = j.tally;
  line = j.line;
  many = j.many;
  kernel = None;
  log = suc j.log;
  fault = j.fault;
}
logged_in n l j (Some s) = after_line n j (next s l)

-- what is kept after a line of a log, if it is one
abbrev pub logged : ℕ → Option Line → Judgement → Judgement
logged n None j = j
logged n (Some l) j = logged_in n l j j.kernel

-- what is kept behind some lines of a log, of which the first one has this number
abbrev pub log_all : ℕ → List Line → Judgement → Judgement
log_all n [] j = j
log_all n (l ∷ ls) j = log_all (suc n) ls (logged n (Some l) j)

-- ---- a verdict ends

-- what is said of the state in the kernel; evidence is missing where there are too many formulas
abbrev pub kernel_fault : ℕ → (State → Option Fault) → Option State → Option Fault
kernel_fault line behind (Some s) = behind s
kernel_fault line behind None = fault_at line kinds.Evidence

-- the kind of fault of a witness that doesn't break, where there may be too many formulas
abbrev pub unrefuted : Bool → ReportKind
unrefuted many = cond many kinds.Evidence kinds.Witness

-- what is wrong with a verdict that ends so
abbrev pub end_fault : Specification → ℕ → Judgement → EndForm → Option Fault
end_fault d budget j end_proved =
    kernel_fault j.line (λ s. unless s.empty (fault_at j.line kinds.NoEmpty)) j.kernel
end_fault d budget j (end_refuted p es) =
    unless (refutes_shown d (obligation_due d j) p es) (fault_at j.line (unrefuted j.many))
end_fault d budget j end_instances = unless j.many (fault_at j.line kinds.Evidence)
end_fault d budget j end_lines =
    kernel_fault j.line
    (λ s. unless ((j.log == budget) && is_fresh s) (fault_at j.line kinds.Evidence)) j.kernel
end_fault d budget j (end_rows r) =
    kernel_fault j.line
    (λ s. unless (is_fresh s && rows_hold s r.used r.steps)
    (fault_at j.line kinds.Evidence)) j.kernel
end_fault d budget j (end_range r) =
    kernel_fault j.line
    (λ s. unless (is_fresh s && range_holds s r.used r.steps r.what)
    (fault_at j.line kinds.Evidence)) j.kernel

-- one more verdict of this kind
abbrev pub with_ended : EndForm → Tally → Tally
with_ended end_proved t = with_proved t
with_ended (end_refuted p es) t = with_refuted t
with_ended end_instances t = with_undecided t
with_ended end_lines t = with_undecided t
with_ended (end_rows r) t = with_undecided t
with_ended (end_range r) t = with_undecided t

-- what is kept after a block, if one ends
abbrev pub ended : Specification → ℕ → Option EndForm → Judgement → Judgement
ended d budget None j = j
ended d budget (Some e) j = record {
  tally = with_ended e j.tally;
  line = j.line;
  many = j.many;
  kernel = None;
  log = j.log;
  fault = or_else j.fault (end_fault d budget j e);
}

-- ---- a line

-- what is kept behind the line of this number, which says this at a place of the text
abbrev pub judge : Specification → ℕ → ℕ → Place → Event → Judgement → Judgement
judge d budget n s e j =
    ended d budget (ended_by s e) (logged n (log_of_event e) (begun d n (begin_of e) j))

-- What a verifier has read: the text, what is kept of its verdicts, and whether a line was refused for want of memory.
pub record VerifierForm : Type 0 where
  pub reader : ReaderForm
  pub judgement : Judgement
  pub failed : Bool

-- before the first line
abbrev pub first_verifier : Specification → VerifierForm
first_verifier d = record { reader = first_reader d; judgement = no_judgement; failed = false }

-- the verifier behind a line that says something, or at the first fault of the text, which stays
abbrev pub behind : VerifierForm → Result (Event × ReaderForm) Fault → VerifierForm
behind v (Ok x) = record {
  reader = x.1;
  judgement = judge v.reader.spec (budget_in x.1.budget) x.1.number v.reader.state x.0 v.judgement;
  failed = false;
}
behind v (Err fault) = record {
  reader = record v.reader { fault = Some fault };
  judgement = v.judgement;
  failed = false;
}

-- The verifier behind the next line.
abbrev pub next_verifier : VerifierForm → List ℕ → VerifierForm
next_verifier v line = behind v (read_line v.reader line)

-- behind many lines
unfoldable pub verifier_after : VerifierForm → List (List ℕ) → VerifierForm
verifier_after v [] = v
verifier_after v (line ∷ lines) = verifier_after (next_verifier v line) lines

-- What is answered to a line: it is taken, where no line before was refused; or else the verifier has failed.
abbrev pub IsTaken : {E : Type 0} → VerifierForm → List ℕ → VerifierForm
    → Result (Unit {0}) E → Type 0
IsTaken v line w (Ok x) = (v.failed ≡ false) × (w ≡ next_verifier v line)
IsTaken v line w (Err error) = w.failed ≡ true

-- ---- the end

-- what is wrong at the end: the text, or else a verdict
abbrev pub final_fault : VerifierForm → Option Fault
final_fault v = or_else (fault_at_end v.reader) v.judgement.fault

-- What is answered at the end of the lines.
abbrev pub IsFinished : VerifierForm → Result Tally VerifyRefused → Type 0
IsFinished v (Ok tally) = (v.failed ≡ false) × (final_fault v ≡ None) × (tally ≡ v.judgement.tally)
IsFinished v (Err (refused.Line n k)) =
    (v.failed ≡ false) × (final_fault v ≡ Some (record { number = n; kind = k }))
IsFinished v (Err refused.Long) = ⊥
IsFinished v (Err refused.Fault) = ⊥
IsFinished v (Err refused.Memory) = Unit {0}

-- ---- what is kept

-- how many clauses are in the kernel
abbrev pub clauses_in : Option State → ℕ
clauses_in None = 0
clauses_in (Some s) = length s.slots

-- the clauses of the problem of the verdict's obligation, and the lines of its log so far
abbrev pub most_kept : Specification → Judgement → ℕ
most_kept d j = length (problem_of d (obligation_due d j)).clauses + j.log

-- The kernel keeps no more than that.
abbrev pub IsWithin : Specification → Judgement → Type 0
IsWithin d j = clauses_in j.kernel ≤ most_kept d j

-- ---- bytes behind the last line

-- what is wrong where bytes without a line feed stand behind the last line: the text, by then or there
abbrev pub unended_fault : VerifierForm → Option Fault
unended_fault v = or_else v.reader.fault (fault_at (suc v.reader.number) kinds.Form)

-- What is answered where bytes without a line feed stand last.
abbrev pub IsCutOff : VerifierForm → Result Tally VerifyRefused → Type 0
IsCutOff v (Ok tally) = ⊥
IsCutOff v (Err (refused.Line n k)) =
    (v.failed ≡ false) × (unended_fault v ≡ Some (record { number = n; kind = k }))
IsCutOff v (Err refused.Long) = ⊥
IsCutOff v (Err refused.Fault) = ⊥
IsCutOff v (Err refused.Memory) = Unit {0}

-- ---- the same of what lines say

-- behind many lines of a text, with the budget that was stated before them and so many lines before them: where the reader stands, and
-- what is kept of the verdicts
unfoldable pub judge_all : Specification → Option ℕ → ℕ → Place → Judgement → List Event
    → Place × Judgement
judge_all d o n s j [] = (s, j)
judge_all d o n s j (e ∷ es) =
    judge_all d (stated (budget_of e) o) (suc n) (after d s e)
    (judge d (budget_in (stated (budget_of e) o)) (suc n) s e j) es

-- What is answered at the end of bytes, of which these stand behind the last line.
abbrev pub IsEnded : VerifierForm → List ℕ → Result Tally VerifyRefused → Type 0
IsEnded v [] result = IsFinished v result
IsEnded v (b ∷ bs) result = IsCutOff v result

-- the first fault of a verdict, or how many of each kind there are, unless memory was wanting
abbrev pub IsJudgement : Judgement → Result Tally VerifyRefused → Type 0
IsJudgement j (Ok tally) = (j.fault ≡ None) × (tally ≡ j.tally)
IsJudgement j (Err (refused.Line n k)) = j.fault ≡ Some (record { number = n; kind = k })
IsJudgement j (Err refused.Long) = ⊥
IsJudgement j (Err refused.Fault) = ⊥
IsJudgement j (Err refused.Memory) = Unit {0}

-- What is answered where the next line is missing.
abbrev pub IsMissing : ℕ → Result Tally VerifyRefused → Type 0
IsMissing number (Ok tally) = ⊥
IsMissing number (Err (refused.Line n k)) = (n ≡ suc number) × (k ≡ kinds.Form)
IsMissing number (Err refused.Long) = ⊥
IsMissing number (Err refused.Fault) = ⊥
IsMissing number (Err refused.Memory) = Unit {0}

-- All lines of bytes are fed, and these bytes stand behind them.
abbrev pub AreFed : VerifierForm → List ℕ → VerifierForm → List ℕ → Type 0
AreFed v bytes w rest = (verifier_after v (lines_of bytes) ≡ w) × (unended bytes ≡ rest)
