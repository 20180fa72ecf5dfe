-- The text of a report as it is written, block by block.
use Rattle.std.specs.Prelude.{◌≡◌, ℕ, suc, true, List, [], ◌∷◌, ◌++◌, length, get_or, codes}
use Rattle.std.specs.Fmt.{decimal}
use Rattle.std.specs.List.{flat_map, list_all}
use Rattle.spec_core.specs.declared.world.Call.{Call}
use Rattle.spec_core.specs.Specification.{Specification}
use Rattle.spec_core.specs.State.{reads}
use Rattle.spec_states.specs.StateText.{state_text}
use Rattle.spec_core.specs.Fits.{is_state, world_fits, call_fits}
use Rattle.obligation_list.specs.declared.obligation.Obligation.{Obligation}
use Rattle.obligation_list.specs.declared.witness.Witness.{Witness}
use Rattle.proof_lines.specs.declared.line.Line.{Line}
use Rattle.proof_lines.specs.declared.line.RowsEvidence.{RowsEvidence}
use Rattle.proof_lines.specs.declared.line.RangeEvidence.{RangeEvidence}
use Rattle.report_lines.specs.declared.head.Tally.{Tally}
use Rattle.report_lines.specs.declared.verdict.VerdictWord.TheVariants as word
use Rattle.report_lines.specs.Words.{line_text}
use Rattle.report_lines.specs.Heads.{title_format, budget_format, obligations_format, summary_format, outcome_format}
use Rattle.report_lines.specs.Blocks.{obligation_words, verdict_format}
use Rattle.report_lines.specs.Logs.{line_format}
use Rattle.report_lines.specs.Evidence.{rows_format, range_format}
use Rattle.report_lines.specs.Fields.{count_format}
use Rattle.report_lines.specs.Witnesses.{size_format, call_format}
use Rattle.proof_report.specs.declared.verdict.Verdict.{Verdict}
use Rattle.proof_report.specs.declared.verdict.Verdict.TheVariants as verdicts
use Rattle.proof_report.specs.declared.verdict.Cause.{Cause}
use Rattle.proof_report.specs.declared.verdict.Cause.TheVariants as causes
use Rattle.proof_report.specs.Verdicts.{const_at, obligation_count}
use Rattle.proof_report.specs.Events.{outcome_of}

-- the lines of a log
abbrev pub log_text : List Line → List ℕ
log_text log = flat_map (λ l. line_text (line_format.put l)) log

-- the sizes of the sorts from a place on, and the elements of the constants
abbrev pub sizes_text : Specification → ℕ → List ℕ → List ℕ
sizes_text d i [] = []
sizes_text d i (n ∷ ns) =
    line_text ((size_format (get_or d.sorts i [])).put n) ++ sizes_text d (suc i) ns

-- the elements of the constants from one on
abbrev pub consts_text : Specification → ℕ → List ℕ → List ℕ
consts_text d j [] = []
consts_text d j (e ∷ es) =
    line_text (codes "const" ∷ (const_at d j).name ∷ decimal e ∷ []) ++ consts_text d (suc j) es

-- the calls
abbrev pub calls_text : Specification → List Call → List ℕ
calls_text d cs = flat_map (λ c. line_text (codes "call" ∷ (call_format d).put c)) cs

-- the world, what holds in the state, the calls and the elements
abbrev pub witness_text : Specification → Witness → List ℕ
witness_text d w =
    sizes_text d 0 w.world.sizes ++ (consts_text d 0 w.world.consts
    ++ (state_text d w.world (reads w.state)
    ++ (calls_text d w.calls ++ line_text (codes "at" ∷ flat_map count_format.put w.elements))))

-- a log, and the evidence that there are too many rows
abbrev pub rows_text : RowsEvidence → List ℕ
rows_text e =
    line_text (verdict_format.put (word.Rows (length e.log)))
    ++ (log_text e.log ++ line_text (rows_format.put (record { used = e.used; steps = e.steps })))

-- a log, and the evidence that a number is beyond its range
abbrev pub range_text : RangeEvidence → List ℕ
range_text e =
    line_text (verdict_format.put (word.Range (length e.log)))
    ++ (log_text e.log ++ line_text (range_format.put
    (record { used = e.used; steps = e.steps; what = e.what })))

-- why an obligation is undecided, with the evidence
abbrev pub cause_text : Cause → List ℕ
cause_text causes.Instances = line_text (verdict_format.put word.Instances)
cause_text (causes.Lines log) =
    line_text (verdict_format.put (word.Lines (length log))) ++ log_text log
cause_text (causes.Rows e) = rows_text e
cause_text (causes.Range e) = range_text e

-- a verdict with what shows it
abbrev pub verdict_text : Specification → Verdict → List ℕ
verdict_text d (verdicts.Proved log) =
    line_text (verdict_format.put (word.Proved (length log))) ++ log_text log
verdict_text d (verdicts.Refuted w) =
    line_text (verdict_format.put word.Refuted) ++ witness_text d w
verdict_text d (verdicts.Undecided cause) = cause_text cause

-- A block: the line of the obligation, and its verdict.
abbrev pub block_text : Specification → Obligation → Verdict → List ℕ
block_text d ob v = line_text (obligation_words d ob) ++ verdict_text d v

-- The lines before the blocks.
abbrev pub head_text : Specification → ℕ → ℕ → List ℕ
head_text d version budget =
    line_text (title_format.put version) ++ (line_text (budget_format.put budget)
    ++ line_text (obligations_format.put (obligation_count d)))

-- The lines behind them.
abbrev pub end_text : Tally → List ℕ
end_text t = line_text (summary_format.put t) ++ line_text (outcome_format.put (outcome_of t))

-- a witness that fits has a text
pub record WitnessFits (d : Specification) (w : Witness) : Type 0 where
  pub world : world_fits d w.world ≡ true
  pub state : is_state d w.world w.state ≡ true
  pub calls : list_all (call_fits d w.world) w.calls ≡ true

-- A verdict can stand in a report: the witness, where there is one, fits.
abbrev pub CanStand : Specification → Verdict → Type 0
CanStand d (verdicts.Proved log) = Unit {0}
CanStand d (verdicts.Refuted w) = WitnessFits d w
CanStand d (verdicts.Undecided cause) = Unit {0}
