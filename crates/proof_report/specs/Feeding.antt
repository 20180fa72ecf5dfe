-- Reading a report line by line: the line that may come at each place, what it must say besides, and the place behind it.
use Rattle.std.specs.Prelude.{◌≡◌, ℕ, zero, suc, Bool, true, false, ◌==◌, nat_lt, ◌&&◌, if◌then◌else◌, List, [], ◌∷◌, ◌++◌, length, get_or, Option, Some, None, Result, Ok, Err}
use Rattle.spec_core.specs.declared.world.World.{World}
use Rattle.spec_core.specs.declared.world.Call.{Call}
use Rattle.spec_core.specs.Specification.{Specification}
use Rattle.spec_core.specs.World.{size_of}
use Rattle.proof_lines.specs.declared.line.Line.{Line}
use Rattle.obligation_list.specs.declared.obligation.Obligation.{Obligation}
use Rattle.report_lines.specs.declared.evidence.RowsLine.{RowsLine}
use Rattle.report_lines.specs.declared.evidence.RangeLine.{RangeLine}
use Rattle.report_lines.specs.declared.head.Tally.{Tally}
use Rattle.report_lines.specs.declared.head.Outcome.{Outcome}
use Rattle.report_lines.specs.declared.head.Outcome.TheVariants as outcomes
use Rattle.report_lines.specs.declared.verdict.VerdictWord.{VerdictWord}
use Rattle.report_lines.specs.declared.verdict.VerdictWord.TheVariants as word
use Rattle.report_lines.specs.declared.witness.Fact.{Fact}
use Rattle.report_lines.specs.declared.witness.Reading.{Reading}
use Rattle.report_lines.specs.declared.witness.Shown.{Shown}
use Rattle.report_lines.specs.declared.witness.Shown.TheVariants as shown
use Rattle.report_lines.specs.Formats.{Format, case, none, read}
use Rattle.report_lines.specs.Heads.{title_format, budget_format, obligations_format, summary_format, outcome_format}
use Rattle.report_lines.specs.Blocks.{obligation_format, verdict_format}
use Rattle.report_lines.specs.Logs.{log_format}
use Rattle.report_lines.specs.Evidence.{rows_format, range_format}
use Rattle.report_lines.specs.declared.witness.Due.{Due}
use Rattle.report_lines.specs.Witnesses.{size_format, const_format, shown_format}
use Rattle.proof_report.specs.declared.event.Event.{Event}
use Rattle.proof_report.specs.declared.event.Event.TheVariants as events
use Rattle.proof_report.specs.declared.place.PartialWitness.{PartialWitness}
use Rattle.proof_report.specs.declared.place.LogOf.{LogOf}
use Rattle.proof_report.specs.declared.place.LogOf.TheVariants as log_of
use Rattle.proof_report.specs.declared.place.Place.{Place}
use Rattle.proof_report.specs.declared.place.Place.TheVariants as places
use Rattle.proof_report.specs.declared.place.Stage.TheVariants as stages
use Rattle.proof_report.specs.declared.place.State.{State}
use Rattle.proof_report.specs.declared.kind.ReportKind.{ReportKind}
use Rattle.proof_report.specs.declared.kind.ReportKind.TheVariants as kinds
use Rattle.proof_report.specs.Verdicts.{obligation_at, obligation_count, call_count, element_count, may_drop, const_at, fact_behind, relation_due, reading_behind, counter_due}
use Rattle.proof_report.specs.Events.{told, no_verdicts, with_proved, with_refuted, with_undecided, outcome_of}

-- ---- what may be said in a line of one kind

-- the version, where the line is the title
abbrev pub from_title : Event → Option ℕ
from_title (events.Title v) = Some v
from_title _ = None

-- the budget, where it is stated
abbrev pub from_budget : Event → Option ℕ
from_budget (events.Budget n) = Some n
from_budget _ = None

-- the number of obligations, where it is stated
abbrev pub from_count : Event → Option ℕ
from_count (events.Count n) = Some n
from_count _ = None

-- whether a block of this obligation begins
abbrev pub from_opened : ℕ → Event → Option (Unit {0})
from_opened i (events.Opened j) = if j == i then Some tt else None
from_opened i _ = None

-- the word of the verdict, where one begins
abbrev pub from_begin : Event → Option VerdictWord
from_begin (events.Begin b) = Some b
from_begin _ = None

-- the line of a log
abbrev pub from_log : Event → Option Line
from_log (events.Log l) = Some l
from_log _ = None

-- the size of this sort, where it is shown
abbrev pub from_size : ℕ → Event → Option ℕ
from_size i (events.Size j n) = if j == i then Some n else None
from_size i _ = None

-- the element of this constant, where it is shown
abbrev pub from_const : ℕ → Event → Option ℕ
from_const i (events.Const j e) = if j == i then Some e else None
from_const i _ = None

-- what a witness shows after its world
abbrev pub from_shown : Event → Option Shown
from_shown (events.Shown s) = Some s
from_shown _ = None

-- the evidence of too many rows
abbrev pub from_rows : Event → Option RowsLine
from_rows (events.Rows r) = Some r
from_rows _ = None

-- the evidence of a number beyond its range
abbrev pub from_range : Event → Option RangeLine
from_range (events.Range r) = Some r
from_range _ = None

-- the counts of the summary
abbrev pub from_summary : Event → Option Tally
from_summary (events.Summary t) = Some t
from_summary _ = None

-- the last word
abbrev pub from_last : Event → Option Outcome
from_last (events.Last o) = Some o
from_last _ = None

-- the title
abbrev pub title_line : Format Event
title_line = case (record { to = events.Title; from = from_title }) title_format

-- the line of the budget
abbrev pub budget_line : Format Event
budget_line = case (record { to = events.Budget; from = from_budget }) budget_format

-- the line of the number of obligations
abbrev pub count_line : Format Event
count_line = case (record { to = events.Count; from = from_count }) obligations_format

-- the first line of the block of this obligation
abbrev pub opened_line : Specification → ℕ → Format Event
opened_line d i =
    case (record { to = λ u. events.Opened i; from = from_opened i })
    (obligation_format d (obligation_at d i))

-- the line of a verdict
abbrev pub begin_line : Format Event
begin_line = case (record { to = events.Begin; from = from_begin }) verdict_format

-- a line of a log, where clauses may be dropped or not
abbrev pub log_line : Bool → Format Event
log_line drops = case (record { to = events.Log; from = from_log }) (log_format drops)

-- the line of this sort's size
abbrev pub size_line : Specification → ℕ → Format Event
size_line d i =
    case (record { to = events.Size i; from = from_size i }) (size_format (get_or d.sorts i []))

-- the line of this constant's element
abbrev pub const_line : Specification → World → ℕ → Format Event
const_line d w j =
    case (record { to = events.Const j; from = from_const j })
    (const_format (const_at d j).name (size_of w (const_at d j).sort))

-- a line of a witness after its world, from where on things may come
abbrev pub shown_line : Specification → World → Due → Format Event
shown_line d w due = case (record { to = events.Shown; from = from_shown }) (shown_format d w due)

-- the line of the evidence of rows
abbrev pub rows_line : Format Event
rows_line = case (record { to = events.Rows; from = from_rows }) rows_format

-- the line of the evidence of a range
abbrev pub range_line : Format Event
range_line = case (record { to = events.Range; from = from_range }) range_format

-- the summary
abbrev pub summary_line : Format Event
summary_line = case (record { to = events.Summary; from = from_summary }) summary_format

-- the last line
abbrev pub last_line : Format Event
last_line = case (record { to = events.Last; from = from_last }) outcome_format

-- ---- the line that may come

-- the line of the obligation that is due, or the summary
abbrev pub due_line : Specification → Bool → ℕ → Format Event
due_line d true i = summary_line
due_line d false i = opened_line d i

-- the last one of a list
abbrev pub last_of : {A : Type 0} → List A → Option A
last_of [] = None
last_of (x ∷ []) = Some x
last_of (x ∷ y ∷ xs) = last_of (y ∷ xs)

-- whether a line of this log may drop clauses: in version 2, in logs that prove
abbrev pub drops_in : ℕ → LogOf → Bool
drops_in version log_of.Proved = may_drop version
drops_in version log_of.Lines = false
drops_in version log_of.Rows = false
drops_in version log_of.Range = false

-- from where on things may come in a witness: before its first value, before its first call, and behind that
abbrev pub due_facts : Specification → Obligation → PartialWitness → Due
due_facts d ob p =
    record {
      relation = relation_due (last_of p.facts);
      counter = counter_due (last_of p.readings);
      elements = element_count d ob;
    }

-- before its first call, where values were shown
abbrev pub due_readings : Specification → Obligation → PartialWitness → Due
due_readings d ob p =
    record {
      relation = length d.relations;
      counter = counter_due (last_of p.readings);
      elements = element_count d ob;
    }

-- where calls were shown
abbrev pub due_calls : Specification → Obligation → Due
due_calls d ob =
    record {
      relation = length d.relations;
      counter = length d.counters;
      elements = element_count d ob;
    }

-- The format of the line that may come at a place. None may come after the last.
abbrev pub place_line : Specification → ℕ → Tally → Place → Format Event
place_line d version t places.Title = title_line
place_line d version t places.Budget = budget_line
place_line d version t places.Count = count_line
place_line d version t places.Due = due_line d (told t == obligation_count d) (told t)
place_line d version t places.Opened = begin_line
place_line d version t (places.Log k zero) = none
place_line d version t (places.Log k (suc n)) = log_line (drops_in version k)
place_line d version t places.Rows = rows_line
place_line d version t places.Range = range_line
place_line d version t (places.Sizes w) = size_line d (length w.sizes)
place_line d version t (places.Consts w) = const_line d w (length w.consts)
place_line d version t (places.Showing stages.Facts p) =
    shown_line d p.world (due_facts d (obligation_at d (told t)) p)
place_line d version t (places.Showing stages.Readings p) =
    shown_line d p.world (due_readings d (obligation_at d (told t)) p)
place_line d version t (places.Showing stages.Calls p) =
    shown_line d p.world (due_calls d (obligation_at d (told t)))
place_line d version t places.Last = last_line
place_line d version t places.Over = none

-- the format of the line that may come in a state
abbrev pub line_at : Specification → State → Format Event
line_at d s = place_line d s.version s.tally s.place

-- ---- what it must say

-- two tallies are equal
abbrev pub same_tally : Tally → Tally → Bool
same_tally t u =
    (t.proved == u.proved) && ((t.refuted == u.refuted) && (t.undecided == u.undecided))

-- two last words are equal
abbrev pub same_outcome : Outcome → Outcome → Bool
same_outcome outcomes.Accepted outcomes.Accepted = true
same_outcome outcomes.Rejected outcomes.Rejected = true
same_outcome outcomes.Undecided outcomes.Undecided = true
same_outcome _ _ = false

-- the next call, while calls are left, and then the elements
abbrev pub call_or_end : Obligation → PartialWitness → Shown → Bool
call_or_end ob p (shown.Fact f) = false
call_or_end ob p (shown.Reading r) = false
call_or_end ob p (shown.Call c) = nat_lt (length p.calls) (call_count ob)
call_or_end ob p (shown.At es) = length p.calls == call_count ob

-- what a witness may show next: facts rise, values rise and stand behind them, and then come the calls and the elements
abbrev pub may_show : Obligation → Place → Shown → Bool
may_show ob (places.Showing stages.Facts p) (shown.Fact f) = fact_behind (last_of p.facts) f
may_show ob (places.Showing stages.Facts p) (shown.Reading r) =
    reading_behind (last_of p.readings) r
may_show ob (places.Showing stages.Facts p) s = call_or_end ob p s
may_show ob (places.Showing stages.Readings p) (shown.Reading r) =
    reading_behind (last_of p.readings) r
may_show ob (places.Showing stages.Readings p) s = call_or_end ob p s
may_show ob (places.Showing stages.Calls p) s = call_or_end ob p s
may_show ob _ s = false

-- What a line says is true at its place: numbers are those that are due, and the summary counts the verdicts.
abbrev pub says : Specification → State → Event → Bool
says d s (events.Count n) = n == obligation_count d
says d s (events.Size i n) = nat_lt i (length d.sorts)
says d s (events.Const j e) = nat_lt j (length d.consts)
says d s (events.Shown x) = may_show (obligation_at d (told s.tally)) s.place x
says d s (events.Summary t) = same_tally t s.tally
says d s (events.Last o) = same_outcome o (outcome_of s.tally)
says d s _ = true

-- ---- the place behind it

-- the state at another place
abbrev pub put_at : State → Place → State
put_at s p = record { version = s.version; place = p; tally = s.tally }

-- the state between two blocks
abbrev pub closed : ℕ → Tally → State
closed version t = record { version = version; place = places.Due; tally = t }

-- behind the last line of a log
abbrev pub log_ended : LogOf → ℕ → Tally → State
log_ended log_of.Proved version t = closed version (with_proved t)
log_ended log_of.Lines version t = closed version (with_undecided t)
log_ended log_of.Rows version t = record { version = version; place = places.Rows; tally = t }
log_ended log_of.Range version t = record { version = version; place = places.Range; tally = t }

-- where so many lines of a log are left
abbrev pub log_left : LogOf → ℕ → ℕ → Tally → State
log_left k zero version t = log_ended k version t
log_left k (suc n) version t = record { version = version; place = places.Log k (suc n); tally = t }

-- a witness of this world that shows nothing yet
abbrev pub no_witness : World → PartialWitness
no_witness w = record { world = w; facts = []; readings = []; calls = [] }

-- where the world has its sizes, and where it has its constants too
abbrev pub at_consts : Specification → World → Place
at_consts d w =
    if length w.consts == length d.consts then places.Showing stages.Facts (no_witness w)
    else places.Consts w

-- where the world has its sizes, if all were shown
abbrev pub at_sizes : Specification → World → Place
at_sizes d w = if length w.sizes == length d.sorts then at_consts d w else places.Sizes w

-- the world of which nothing was shown
abbrev pub no_world : World
no_world = record { sizes = []; consts = [] }

-- the state after the line of a verdict
abbrev pub begun : Specification → VerdictWord → ℕ → Tally → State
begun d (word.Proved n) version t = log_left log_of.Proved n version t
begun d word.Refuted version t =
    record { version = version; place = at_sizes d no_world; tally = t }
begun d word.Instances version t = closed version (with_undecided t)
begun d (word.Lines n) version t = log_left log_of.Lines n version t
begun d (word.Rows n) version t = log_left log_of.Rows n version t
begun d (word.Range n) version t = log_left log_of.Range n version t

-- the state after a line of a log
abbrev pub one_less : Place → ℕ → Tally → State
one_less (places.Log k (suc n)) version t = log_left k n version t
one_less p version t = record { version = version; place = p; tally = t }

-- the world with the size of one more sort
abbrev pub with_size : ℕ → World → World
with_size n w = record { sizes = w.sizes ++ n ∷ []; consts = w.consts }

-- the world with the element of one more constant
abbrev pub with_const : ℕ → World → World
with_const e w = record { sizes = w.sizes; consts = w.consts ++ e ∷ [] }

-- the place after a size
abbrev pub sized : Specification → ℕ → Place → Place
sized d n (places.Sizes w) = at_sizes d (with_size n w)
sized d n p = p

-- the place after an element
abbrev pub named : Specification → ℕ → Place → Place
named d e (places.Consts w) = at_consts d (with_const e w)
named d e p = p

-- what was shown, with one more tuple
abbrev pub with_fact : Fact → PartialWitness → PartialWitness
with_fact f p =
    record { world = p.world; facts = p.facts ++ f ∷ []; readings = p.readings; calls = p.calls }

-- with one more value
abbrev pub with_reading : Reading → PartialWitness → PartialWitness
with_reading r p =
    record { world = p.world; facts = p.facts; readings = p.readings ++ r ∷ []; calls = p.calls }

-- with one more call
abbrev pub with_call : Call → PartialWitness → PartialWitness
with_call c p =
    record { world = p.world; facts = p.facts; readings = p.readings; calls = p.calls ++ c ∷ [] }

-- what was shown, at a place behind the world
abbrev pub shown_at : Place → PartialWitness
shown_at (places.Showing stage p) = p
shown_at _ = no_witness no_world

-- the place after a tuple
abbrev pub fact_at : Fact → Place → Place
fact_at f (places.Showing stages.Facts p) = places.Showing stages.Facts (with_fact f p)
fact_at f p = p

-- the place after a value, after which no tuple comes
abbrev pub reading_at : Reading → Place → Place
reading_at r (places.Showing stages.Facts p) = places.Showing stages.Readings (with_reading r p)
reading_at r (places.Showing stages.Readings p) = places.Showing stages.Readings (with_reading r p)
reading_at r p = p

-- the place after a call, after which no value comes
abbrev pub call_at : Call → Place → Place
call_at c (places.Showing stage p) = places.Showing stages.Calls (with_call c p)
call_at c p = p

-- The state after a line of a witness. The elements end it.
abbrev pub showed : Shown → State → State
showed (shown.Fact f) s = put_at s (fact_at f s.place)
showed (shown.Reading r) s = put_at s (reading_at r s.place)
showed (shown.Call c) s = put_at s (call_at c s.place)
showed (shown.At es) s = closed s.version (with_refuted s.tally)

-- The state after a line that says this.
abbrev pub after : Specification → State → Event → State
after d s (events.Title v) = record { version = v; place = places.Budget; tally = s.tally }
after d s (events.Budget n) = put_at s places.Count
after d s (events.Count n) = put_at s places.Due
after d s (events.Opened i) = put_at s places.Opened
after d s (events.Begin b) = begun d b s.version s.tally
after d s (events.Log l) = one_less s.place s.version s.tally
after d s (events.Size i n) = put_at s (sized d n s.place)
after d s (events.Const j e) = put_at s (named d e s.place)
after d s (events.Shown x) = showed x s
after d s (events.Rows r) = closed s.version (with_undecided s.tally)
after d s (events.Range r) = closed s.version (with_undecided s.tally)
after d s (events.Summary t) = put_at s places.Last
after d s (events.Last o) = put_at s places.Over

-- ---- feeding

-- the kind of the fault where a line can't be read at a place: any other line is wrong where a block's first line is due
abbrev pub unread_due : Bool → ReportKind
unread_due true = kinds.Form
unread_due false = kinds.Obligation

-- the kind of the fault where a line can't be read at a place of a report
abbrev pub unread : Specification → Tally → Place → ReportKind
unread d t places.Due = unread_due (told t == obligation_count d)
unread d t _ = kinds.Form

-- the kind of the fault where it says something else
abbrev pub untrue : Event → ReportKind
untrue (events.Count n) = kinds.Obligation
untrue (events.Summary t) = kinds.Summary
untrue (events.Last o) = kinds.Summary
untrue _ = kinds.Form

-- what was read, where it is true, with the state after it
abbrev pub judged : Specification → State → Option Event → Result (Event × State) ReportKind
judged d s None = Err (unread d s.tally s.place)
judged d s (Some e) = if says d s e then Ok (e, after d s e) else Err (untrue e)

-- What a line of these words says and the state behind it, or the kind of the fault.
abbrev pub fed : Specification → State → List (List ℕ) → Result (Event × State) ReportKind
fed d s words = judged d s (read (line_at d s) words)

-- before the first line
abbrev pub start : State
start = record { version = 1; place = places.Title; tally = no_verdicts }

-- whether the report has ended
abbrev pub is_over : Place → Bool
is_over places.Over = true
is_over _ = false

-- ---- many lines

infixl 10 ◌>>=◌
-- goes on with what was read, or stops at the fault
abbrev pub ◌>>=◌ : {A B : Type 0} → Result A ReportKind → (A → Result B ReportKind)
    → Result B ReportKind
(Ok x) >>= f = f x
(Err k) >>= f = Err k

-- what lines say and the state behind them, or the first fault
unfoldable pub fed_all : Specification → State → List (List (List ℕ))
    → Result (List Event × State) ReportKind
fed_all d s [] = Ok ([], s)
fed_all d s (line ∷ lines) = fed d s line >>= λ x. fed_all d x.1 lines >>= λ y. Ok (x.0 ∷ y.0, y.1)

-- Lines are fed to the end without a fault, and say this.
abbrev pub IsFed : Specification → List (List (List ℕ)) → List Event → Type 0
IsFed d lines es = (u : State) × (fed_all d start lines ≡ Ok (es, u)) × (is_over u.place ≡ true)

-- ---- the same of what lines say

-- whether something may be said in a state, and is true there
abbrev pub goes : Specification → State → Event → Bool
goes d s e = (line_at d s).fits e && says d s e

-- events may be said from a state on, one after the other, to the end of the report
unfoldable pub admits : Specification → State → List Event → Bool
admits d s [] = is_over s.place
admits d s (e ∷ es) = goes d s e && admits d (after d s e) es
