-- The report that lines say, from what each says.
use Rattle.std.specs.Prelude.{ℕ, List, [], ◌∷◌}
use Rattle.spec_core.specs.declared.world.Call.{Call}
use Rattle.proof_lines.specs.declared.line.Line.{Line}
use Rattle.report_lines.specs.declared.evidence.RowsLine.{RowsLine}
use Rattle.report_lines.specs.declared.evidence.RangeLine.{RangeLine}
use Rattle.proof_lines.specs.declared.line.RangeWhat.TheVariants.{Product}
use Rattle.report_lines.specs.declared.verdict.VerdictWord.{VerdictWord}
use Rattle.report_lines.specs.declared.verdict.VerdictWord.TheVariants as word
use Rattle.report_lines.specs.declared.witness.Fact.{Fact}
use Rattle.report_lines.specs.declared.witness.Reading.{Reading}
use Rattle.report_lines.specs.declared.witness.Shown.{Shown}
use Rattle.report_lines.specs.declared.witness.Shown.TheVariants as shown
use Rattle.proof_report.specs.declared.event.Event.{Event}
use Rattle.proof_report.specs.declared.event.Event.TheVariants as events
use Rattle.proof_report.specs.declared.place.PartialWitness.{PartialWitness}
use Rattle.proof_report.specs.Verdicts.{VerdictForm, proved, refuted, instances, lines, rows, range, ReportForm}

-- What was gathered from some lines: of the verdict that begins before them, and the verdicts that begin among them.
pub record Gathered : Type 0 where
  pub version : ℕ
  pub budget : ℕ
  pub log : List Line
  pub sizes : List ℕ
  pub consts : List ℕ
  pub facts : List Fact
  pub readings : List Reading
  pub calls : List Call
  pub elements : List ℕ
  pub rows_line : RowsLine
  pub range_line : RangeLine
  pub verdicts : List VerdictForm

-- the witness that was gathered
abbrev pub gathered_witness : Gathered → PartialWitness
gathered_witness g =
    record {
      world = record { sizes = g.sizes; consts = g.consts };
      facts = g.facts;
      readings = g.readings;
      calls = g.calls;
    }

-- the verdict of this word, with what was gathered
abbrev pub gathered_verdict : VerdictWord → Gathered → VerdictForm
gathered_verdict (word.Proved n) g = proved g.log
gathered_verdict word.Refuted g = refuted (gathered_witness g) g.elements
gathered_verdict word.Instances g = instances
gathered_verdict (word.Lines n) g = lines g.log
gathered_verdict (word.Rows n) g = rows g.log g.rows_line
gathered_verdict (word.Range n) g = range g.log g.range_line

-- one more line of a witness
abbrev pub with_shown : Shown → Gathered → Gathered
with_shown (shown.Fact f) g = record g { facts = f ∷ g.facts }
with_shown (shown.Reading r) g = record g { readings = r ∷ g.readings }
with_shown (shown.Call c) g = record g { calls = c ∷ g.calls }
with_shown (shown.At es) g =
    record g { sizes = []; consts = []; facts = []; readings = []; calls = []; elements = es }

-- what a line says, in front of what was gathered from those behind it
abbrev pub with_event : Event → Gathered → Gathered
with_event (events.Title v) g = record g { version = v }
with_event (events.Budget n) g = record g { budget = n }
with_event (events.Begin b) g = record g { log = []; verdicts = gathered_verdict b g ∷ g.verdicts }
with_event (events.Log l) g = record g { log = l ∷ g.log }
with_event (events.Size i n) g = record g { sizes = n ∷ g.sizes }
with_event (events.Const j e) g = record g { consts = e ∷ g.consts }
with_event (events.Shown s) g = with_shown s g
with_event (events.Rows r) g = record g { log = []; rows_line = r }
with_event (events.Range r) g = record g { log = []; range_line = r }
with_event _ g = g

-- before the first line
abbrev pub nothing_gathered : Gathered
nothing_gathered = record {
  version = 0;
  budget = 0;
  log = [];
  sizes = [];
  consts = [];
  facts = [];
  readings = [];
  calls = [];
  elements = [];
  rows_line = record { used = []; steps = [] };
  range_line = record { used = []; steps = []; what = Product 0 0 0 };
  verdicts = [];
}

-- What lines say, from the last one back to the first.
abbrev pub gather : List Event → Gathered
gather [] = nothing_gathered
gather (e ∷ es) = with_event e (gather es)

-- The report that lines say.
abbrev pub report_of : List Event → ReportForm
report_of es =
    record {
      version = (gather es).version;
      budget = (gather es).budget;
      verdicts = (gather es).verdicts;
    }
