-- What a reader of a report keeps between two lines, and what it tells of each.
use Rattle.std.specs.Prelude.{◌≡◌, ℕ, zero, suc, ◌<◌, ◌≤◌, nat_lt, nat_le, Bool, true, false, ◌&&◌, ◌^◌, List, [], ◌∷◌, length, map, take, Option, Some, None, Result, Ok, Err}
use Rattle.std.specs.List.{list_all}
use Rattle.spec_core.specs.declared.world.World.{World}
use Rattle.spec_core.specs.Limits.{most_elements}
use Rattle.spec_core.specs.Specification.{Specification, relation_places, counter_keys}
use Rattle.spec_core.specs.State.{Reads, reads, nothing, with_has, with_count}
use Rattle.spec_core.specs.Fits.{fits_places, in_state_range, is_state, world_fits}
use Rattle.obligation_list.specs.declared.witness.Witness.{Witness}
use Rattle.proof_lines.specs.declared.line.Line.{Line}
use Rattle.report_lines.specs.declared.evidence.RowsLine.{RowsLine}
use Rattle.report_lines.specs.declared.evidence.RangeLine.{RangeLine}
use Rattle.report_lines.specs.declared.head.Tally.{Tally}
use Rattle.report_lines.specs.declared.verdict.VerdictWord.{VerdictWord}
use Rattle.report_lines.specs.declared.verdict.VerdictWord.TheVariants as word
use Rattle.report_lines.specs.declared.witness.Fact.{Fact}
use Rattle.report_lines.specs.declared.witness.Reading.{Reading}
use Rattle.report_lines.specs.declared.witness.Shown.TheVariants as shown
use Rattle.proof_report.specs.declared.event.Event.{Event}
use Rattle.proof_report.specs.declared.event.Event.TheVariants as events
use Rattle.proof_report.specs.declared.place.LogOf.{LogOf}
use Rattle.proof_report.specs.declared.place.LogOf.TheVariants as log_of
use Rattle.proof_report.specs.declared.place.PartialWitness.{PartialWitness}
use Rattle.proof_report.specs.declared.place.Place.{Place}
use Rattle.proof_report.specs.declared.place.Place.TheVariants as places
use Rattle.proof_report.specs.declared.place.State.{State}
use Rattle.proof_report.specs.declared.verdict.Ended.{Ended}
use Rattle.proof_report.specs.declared.verdict.Ended.TheVariants as ended
use Rattle.proof_report.specs.declared.verdict.Fed.{Fed}
use Rattle.proof_report.specs.Verdicts.{obligation_count}
use Rattle.proof_report.specs.Events.{told}
use Rattle.report_reader.specs.declared.feeding.Told.{Told}
use Rattle.report_reader.specs.declared.feeding.Refusal.{Refusal}
use Rattle.report_reader.specs.declared.feeding.Refusal.TheVariants as refusal
use Rattle.proof_report.specs.declared.kind.Fault.{Fault}
use Rattle.proof_report.specs.declared.kind.ReportKind.{ReportKind}
use Rattle.proof_report.specs.declared.kind.ReportKind.TheVariants as kinds
use Rattle.proof_report.specs.declared.kind.ReportRefused.{ReportRefused}
use Rattle.proof_report.specs.declared.kind.ReportRefused.TheVariants as refused
use Rattle.report_lines.specs.Words.{parts}
use Rattle.proof_report.specs.Feeding.{shown_at, judged, fed, start, is_over}

-- ---- what a line tells

-- the verdict that it begins
abbrev pub begin_of : Event → Option VerdictWord
begin_of (events.Begin b) = Some b
begin_of _ = None

-- the line of a log that it is
abbrev pub log_of_event : Event → Option Line
log_of_event (events.Log l) = Some l
log_of_event _ = None

-- what ends with a block
pub data EndForm : Type 0 where
  end_proved : EndForm
  end_refuted : PartialWitness → List ℕ → EndForm
  end_instances : EndForm
  end_lines : EndForm
  end_rows : RowsLine → EndForm
  end_range : RangeLine → EndForm

-- a log without lines ends its block at once
abbrev pub begun_end : VerdictWord → Option EndForm
begun_end (word.Proved zero) = Some end_proved
begun_end (word.Proved (suc n)) = None
begun_end word.Refuted = None
begun_end word.Instances = Some end_instances
begun_end (word.Lines zero) = Some end_lines
begun_end (word.Lines (suc n)) = None
begun_end (word.Rows n) = None
begun_end (word.Range n) = None

-- the last line of a log ends its block where no evidence follows
abbrev pub log_end : LogOf → ℕ → Option EndForm
log_end log_of.Proved (suc zero) = Some end_proved
log_end log_of.Lines (suc zero) = Some end_lines
log_end _ _ = None

-- how a log ends behind the next line at a place, where it does
abbrev pub log_end_at : Place → Option EndForm
log_end_at (places.Log k n) = log_end k n
log_end_at _ = None

-- what ends with a line
abbrev pub ended_by : State → Event → Option EndForm
ended_by s (events.Begin b) = begun_end b
ended_by s (events.Log l) = log_end_at s.place
ended_by s (events.Shown (shown.At es)) = Some (end_refuted (shown_at s.place) es)
ended_by s (events.Rows r) = Some (end_rows r)
ended_by s (events.Range r) = Some (end_range r)
ended_by s _ = None

-- ---- witnesses

-- readings with facts, and with values
abbrev pub with_facts : Reads → List Fact → Reads
with_facts r [] = r
with_facts r (f ∷ fs) = with_facts (with_has r f.relation f.tuple true) fs

-- readings with these values
abbrev pub with_readings : Reads → List Reading → Reads
with_readings r [] = r
with_readings r (q ∷ qs) = with_readings (with_count r q.counter q.key q.value) qs

-- what is shown is true, and nothing else; values that aren't shown are 0
abbrev pub reads_of : PartialWitness → Reads
reads_of p = with_readings (with_facts nothing p.facts) p.readings

-- A witness is what was shown, with these elements.
pub record IsShownBy (d : Specification) (p : PartialWitness) (es : List ℕ)
    (w : Witness) : Type 0 where
  pub world : w.world ≡ p.world
  pub state : reads w.state ≡ reads_of p
  pub fits : is_state d p.world w.state ≡ true
  pub calls : w.calls ≡ p.calls
  pub elements : w.elements ≡ es

-- What was told of the end of a block is what ended there.
abbrev pub IsEnd : Specification → Option EndForm → Option Ended → Type 0
IsEnd d None None = Unit {0}
IsEnd d (Some end_proved) (Some ended.Proved) = Unit {0}
IsEnd d (Some (end_refuted p es)) (Some (ended.Refuted w)) = IsShownBy d p es w
IsEnd d (Some end_instances) (Some ended.Instances) = Unit {0}
IsEnd d (Some end_lines) (Some ended.Lines) = Unit {0}
IsEnd d (Some (end_rows r)) (Some (ended.Rows used steps)) = (used ≡ r.used) × (steps ≡ r.steps)
IsEnd d (Some (end_range r)) (Some (ended.Range used steps what)) =
    (used ≡ r.used) × (steps ≡ r.steps) × (what ≡ r.what)
IsEnd d _ _ = ⊥

-- What is told of a line: whether it begins a verdict, is a line of a log, or is the last one of a block.
pub record Tells (d : Specification) (s : State) (e : Event) (f : Fed) : Type 0 where
  pub begin : f.begin ≡ begin_of e
  pub log : f.log ≡ log_of_event e
  pub ended : IsEnd d (ended_by s e) f.ended

-- ---- what is kept

-- a tuple fits the world
abbrev pub fact_fits : Specification → World → Fact → Bool
fact_fits d w f =
    nat_lt f.relation (length d.relations) && fits_places w (relation_places d f.relation) f.tuple

-- a key and its value fit the world
abbrev pub reading_fits : Specification → World → Reading → Bool
reading_fits d w r =
    nat_lt r.counter (length d.counters) && (fits_places w (counter_keys d r.counter) r.key
    && in_state_range r.value)

-- what was shown fits
pub record IsShowing (d : Specification) (p : PartialWitness) : Type 0 where
  pub world : world_fits d p.world ≡ true
  pub facts : list_all (fact_fits d p.world) p.facts ≡ true
  pub readings : list_all (reading_fits d p.world) p.readings ≡ true

-- sizes of a front of the sorts
pub record AreSizes (d : Specification) (w : World) : Type 0 where
  pub within : length w.sizes ≤ length d.sorts
  pub few : list_all (λ n. nat_le n most_elements) w.sizes ≡ true

-- elements of a front of the constants
pub record AreConsts (d : Specification) (w : World) : Type 0 where
  pub within : length w.consts ≤ length d.consts
  pub fits : fits_places w (take (length w.consts) (map (λ c. c.sort) d.consts)) w.consts ≡ true

-- What a state keeps: verdicts are left for each obligation that is due, and what was shown fits.
abbrev pub IsKept : Specification → Tally → Place → Type 0
IsKept d t places.Opened = told t < obligation_count d
IsKept d t (places.Log k n) = told t < obligation_count d
IsKept d t places.Rows = told t < obligation_count d
IsKept d t places.Range = told t < obligation_count d
IsKept d t (places.Sizes w) = (told t < obligation_count d) × AreSizes d w × (w.consts ≡ [])
IsKept d t (places.Consts w) =
    (told t < obligation_count d) × AreSizes d w × (length w.sizes ≡ length d.sorts) × AreConsts d w
IsKept d t (places.Showing stage p) = (told t < obligation_count d) × IsShowing d p
IsKept d t _ = told t ≤ obligation_count d

-- ---- one line

-- the budget that it states
abbrev pub budget_of : Event → Option ℕ
budget_of (events.Budget n) = Some n
budget_of _ = None

-- What is answered to a line that says something, with the state behind it.
abbrev pub IsTaken : Specification → State → Event → State → Result Told Refusal → Type 0
IsTaken d s e u (Ok x) =
    (judged d s (Some e) ≡ Ok (e, u)) × Tells d s e x.fed × (x.budget ≡ budget_of e)
IsTaken d s e u (Err (refusal.Line k)) = (judged d s (Some e) ≡ Err k) × (u ≡ s)
IsTaken d s e u (Err refusal.Memory) = u ≡ s

-- What is answered to a line of these words.
abbrev pub IsStep : Specification → State → List (List ℕ) → State → Result Told Refusal → Type 0
IsStep d s words u (Ok x) =
    (e : Event) × (fed d s words ≡ Ok (e, u)) × Tells d s e x.fed × (x.budget ≡ budget_of e)
IsStep d s words u (Err (refusal.Line k)) = (fed d s words ≡ Err k) × (u ≡ s)
IsStep d s words u (Err refusal.Memory) = u ≡ s

-- ---- a reader

-- What a reader of a report on a specification has read: where it stands behind so many lines, the budget if it was stated, and
-- the first fault.
pub record ReaderForm : Type 0 where
  pub spec : Specification
  pub state : State
  pub number : ℕ
  pub budget : Option ℕ
  pub fault : Option Fault

-- the budget, once it was stated
abbrev pub stated : Option ℕ → Option ℕ → Option ℕ
stated None before = before
stated (Some n) before = Some n

-- the reader after a line that was read, or the line's fault
abbrev pub read_on : ReaderForm → Result (Event × State) ReportKind
    → Result (Event × ReaderForm) Fault
read_on r (Ok x) =
    Ok (
      x.0,
      record {
        spec = r.spec;
        state = x.1;
        number = suc r.number;
        budget = stated (budget_of x.0) r.budget;
        fault = None;
      },
    )
read_on r (Err k) = Err (record { number = suc r.number; kind = k })

-- the reader after a line; a fault that it has met already stays
abbrev pub read_behind : ReaderForm → List (List ℕ) → Option Fault
    → Result (Event × ReaderForm) Fault
read_behind r words (Some f) = Err f
read_behind r words None = read_on r (fed r.spec r.state words)

-- What the next line says and the reader behind it, or the first fault of the lines so far.
abbrev pub read_line : ReaderForm → List ℕ → Result (Event × ReaderForm) Fault
read_line r text = read_behind r (parts text) r.fault

-- What is answered to the next line. A fault stays, and want of memory changes nothing.
abbrev pub IsAnswered : ReaderForm → List ℕ → ReaderForm → Result Fed ReportRefused → Type 0
IsAnswered r text q (Ok f) = (e : Event) × (read_line r text ≡ Ok (e, q)) × Tells r.spec r.state e f
IsAnswered r text q (Err (refused.Line n k)) =
    (read_line r text ≡ Err (record { number = n; kind = k }))
    × (q ≡ record r { fault = Some (record { number = n; kind = k }) })
IsAnswered r text q (Err refused.Memory) = q ≡ r

-- what is wrong where the lines end: the first fault, or that a line is missing
abbrev pub end_fault : ReaderForm → Bool → Option Fault → Option Fault
end_fault r over (Some f) = Some f
end_fault r true None = None
end_fault r false None = Some (record { number = suc r.number; kind = kinds.Form })

-- what is wrong where the lines of a reader end
abbrev pub fault_at_end : ReaderForm → Option Fault
fault_at_end r = end_fault r (is_over r.state.place) r.fault

-- What is answered where the lines end. A line's number has at most 32 bits.
abbrev pub IsFinished : ReaderForm → Result (Unit {0}) ReportRefused → Type 0
IsFinished r (Ok u) = fault_at_end r ≡ None
IsFinished r (Err (refused.Line n k)) = fault_at_end r ≡ Some (record { number = n; kind = k })
IsFinished r (Err refused.Memory) = suc r.number ≡ 2 ^ 32

-- before the first line
abbrev pub first_reader : Specification → ReaderForm
first_reader d = record { spec = d; state = start; number = 0; budget = None; fault = None }
