-- What the lines of a report say, and their words.
use Rattle.std.specs.Prelude.{ℕ, suc, ◌+◌, nat_lt, if◌then◌else◌, List, [], ◌∷◌, ◌++◌, map, length, get_or, codes}
use Rattle.std.specs.Fmt.{decimal, signed_decimal}
use Rattle.spec_core.specs.declared.world.Call.{Call}
use Rattle.spec_core.specs.Specification.{Specification}
use Rattle.proof_lines.specs.declared.line.Line.{Line}
use Rattle.report_lines.specs.declared.head.Tally.{Tally}
use Rattle.report_lines.specs.declared.head.Outcome.{Outcome}
use Rattle.report_lines.specs.declared.head.Outcome.TheVariants as outcomes
use Rattle.report_lines.specs.declared.verdict.VerdictWord.TheVariants as word
use Rattle.report_lines.specs.declared.witness.Fact.{Fact}
use Rattle.report_lines.specs.declared.witness.Reading.{Reading}
use Rattle.report_lines.specs.declared.witness.Shown.{Shown}
use Rattle.report_lines.specs.declared.witness.Shown.TheVariants as shown
use Rattle.report_lines.specs.Heads.{title_format, budget_format, obligations_format, summary_format, outcome_format}
use Rattle.report_lines.specs.Logs.{line_format}
use Rattle.report_lines.specs.Evidence.{rows_format, range_format}
use Rattle.report_lines.specs.Witnesses.{size_format, const_format, relation_names, counter_names, operation_names}
use Rattle.report_lines.specs.Blocks.{obligation_words, verdict_format}
use Rattle.proof_report.specs.declared.event.Event.{Event}
use Rattle.proof_report.specs.declared.event.Event.TheVariants as events
use Rattle.proof_report.specs.declared.place.PartialWitness.{PartialWitness}
use Rattle.proof_report.specs.Verdicts.{VerdictForm, proved, refuted, instances, lines, rows, range, obligation_at, obligation_count, const_at, ReportForm}

-- ---- how many verdicts of each kind there are

-- how many verdicts there are
abbrev pub told : Tally → ℕ
told t = t.proved + (t.refuted + t.undecided)

-- none so far
abbrev pub no_verdicts : Tally
no_verdicts = record { proved = 0; refuted = 0; undecided = 0 }

-- one more that is proved
abbrev pub with_proved : Tally → Tally
with_proved t = record { proved = suc t.proved; refuted = t.refuted; undecided = t.undecided }

-- one more that is refuted
abbrev pub with_refuted : Tally → Tally
with_refuted t = record { proved = t.proved; refuted = suc t.refuted; undecided = t.undecided }

-- one more that is undecided
abbrev pub with_undecided : Tally → Tally
with_undecided t = record { proved = t.proved; refuted = t.refuted; undecided = suc t.undecided }

-- one more of this kind
abbrev pub with_verdict : VerdictForm → Tally → Tally
with_verdict (proved log) t = with_proved t
with_verdict (refuted p es) t = with_refuted t
with_verdict instances t = with_undecided t
with_verdict (lines log) t = with_undecided t
with_verdict (rows log r) t = with_undecided t
with_verdict (range log r) t = with_undecided t

-- what the verdicts come to: rejected where one is refuted, else undecided where one is undecided
abbrev pub outcome_of : Tally → Outcome
outcome_of t =
    if nat_lt 0 t.refuted then outcomes.Rejected
    else (if nat_lt 0 t.undecided then outcomes.Undecided else outcomes.Accepted)

-- ---- the lines of a block, before those behind it

-- the lines of a log, and what follows them
abbrev pub log_lines : List Line → List Event → List Event
log_lines [] es = es
log_lines (l ∷ ls) es = events.Log l ∷ log_lines ls es

-- the sizes of the sorts from one on
abbrev pub size_lines : ℕ → List ℕ → List Event → List Event
size_lines i [] es = es
size_lines i (n ∷ ns) es = events.Size i n ∷ size_lines (suc i) ns es

-- the elements of the constants from one on
abbrev pub const_lines : ℕ → List ℕ → List Event → List Event
const_lines j [] es = es
const_lines j (x ∷ xs) es = events.Const j x ∷ const_lines (suc j) xs es

-- the tuples that are true
abbrev pub fact_lines : List Fact → List Event → List Event
fact_lines [] es = es
fact_lines (f ∷ fs) es = events.Shown (shown.Fact f) ∷ fact_lines fs es

-- the values that aren't 0
abbrev pub reading_lines : List Reading → List Event → List Event
reading_lines [] es = es
reading_lines (r ∷ rs) es = events.Shown (shown.Reading r) ∷ reading_lines rs es

-- the calls
abbrev pub call_lines : List Call → List Event → List Event
call_lines [] es = es
call_lines (c ∷ cs) es = events.Shown (shown.Call c) ∷ call_lines cs es

-- a witness: its world, what is true, the values, the calls, and the elements
abbrev pub witness_lines : PartialWitness → List ℕ → List Event → List Event
witness_lines p xs es =
    size_lines 0 p.world.sizes (const_lines 0 p.world.consts
    (fact_lines p.facts (reading_lines p.readings
    (call_lines p.calls (events.Shown (shown.At xs) ∷ es)))))

-- a verdict: its word, and what shows it
abbrev pub verdict_lines : VerdictForm → List Event → List Event
verdict_lines (proved log) es = events.Begin (word.Proved (length log)) ∷ log_lines log es
verdict_lines (refuted p xs) es = events.Begin word.Refuted ∷ witness_lines p xs es
verdict_lines instances es = events.Begin word.Instances ∷ es
verdict_lines (lines log) es = events.Begin (word.Lines (length log)) ∷ log_lines log es
verdict_lines (rows log r) es =
    events.Begin (word.Rows (length log)) ∷ log_lines log (events.Rows r ∷ es)
verdict_lines (range log r) es =
    events.Begin (word.Range (length log)) ∷ log_lines log (events.Range r ∷ es)

-- ---- a whole report

-- the blocks behind those that were counted, the summary and the last word
abbrev pub block_lines : Tally → List VerdictForm → List Event
block_lines t [] = events.Summary t ∷ events.Last (outcome_of t) ∷ []
block_lines t (v ∷ vs) =
    events.Opened (told t) ∷ verdict_lines v (block_lines (with_verdict v t) vs)

-- The lines of a report.
abbrev pub report_lines : Specification → ReportForm → List Event
report_lines d r =
    events.Title r.version ∷ events.Budget r.budget ∷ events.Count (obligation_count d)
    ∷ block_lines no_verdicts r.verdicts

-- ---- their words

-- the words of a line of a witness
abbrev pub shown_words : Specification → Shown → List (List ℕ)
shown_words d (shown.Fact f) =
    codes "true" ∷ get_or (relation_names d) f.relation [] ∷ map decimal f.tuple
shown_words d (shown.Reading r) =
    codes "count" ∷ get_or (counter_names d) r.counter []
    ∷ (map decimal r.key ++ signed_decimal r.value ∷ [])
shown_words d (shown.Call c) =
    codes "call" ∷ get_or (operation_names d) c.op [] ∷ map signed_decimal c.args
shown_words d (shown.At es) = codes "at" ∷ map decimal es

-- The words of the line that says something.
abbrev pub words : Specification → Event → List (List ℕ)
words d (events.Title v) = title_format.put v
words d (events.Budget n) = budget_format.put n
words d (events.Count n) = obligations_format.put n
words d (events.Opened i) = obligation_words d (obligation_at d i)
words d (events.Begin b) = verdict_format.put b
words d (events.Log l) = line_format.put l
words d (events.Size i n) = (size_format (get_or d.sorts i [])).put n
words d (events.Const j e) = (const_format (const_at d j).name 0).put e
words d (events.Shown s) = shown_words d s
words d (events.Rows r) = rows_format.put r
words d (events.Range r) = range_format.put r
words d (events.Summary t) = summary_format.put t
words d (events.Last o) = outcome_format.put o

-- The text of a report as lines of words.
abbrev pub text : Specification → ReportForm → List (List (List ℕ))
text d r = map (words d) (report_lines d r)
