-- What a report shows of verdicts, and the text of a report as it is written, block by block.
use Rattle.std.specs.Prelude.{◌≡◌, ℕ, suc, ◌<◌, ◌≤◌, unsigned_abs, true, List, [], ◌∷◌, ◌++◌, map, length}
use Rattle.std.specs.List.{filter}
use Rattle.spec_core.specs.declared.spec.Relation.{Relation}
use Rattle.spec_core.specs.declared.spec.Counter.{Counter}
use Rattle.spec_core.specs.declared.world.World.{World}
use Rattle.spec_core.specs.Specification.{Specification}
use Rattle.spec_core.specs.State.{Reads, reads}
use Rattle.spec_core.specs.World.{tuples}
use Rattle.spec_core.specs.Limits.{greatest_value}
use Rattle.obligation_list.specs.declared.obligation.Obligation.{Obligation}
use Rattle.obligation_list.specs.declared.witness.Witness.{Witness}
use Rattle.report_lines.specs.declared.head.Tally.{Tally}
use Rattle.report_lines.specs.declared.witness.Fact.{Fact}
use Rattle.report_lines.specs.declared.witness.Reading.{Reading}
use Rattle.report_lines.specs.Witnesses.{is_other}
use Rattle.proof_report.specs.declared.place.PartialWitness.{PartialWitness}
use Rattle.proof_report.specs.declared.verdict.Verdict.{Verdict}
use Rattle.proof_report.specs.declared.verdict.Verdict.TheVariants as verdicts
use Rattle.proof_report.specs.declared.verdict.Cause.{Cause}
use Rattle.proof_report.specs.declared.verdict.Cause.TheVariants as causes
use Rattle.proof_report.specs.Verdicts.{VerdictForm, proved, refuted, instances, lines, rows, range, obligation_at, obligation_count, call_count, are_elements, is_log, may_drop, is_verdict, ReportForm}
use Rattle.proof_report.specs.Events.{no_verdicts, with_verdict}
use Rattle.proof_report.specs.Texts.{head_text, block_text, end_text, CanStand, WitnessFits}

-- ---- what is shown of a state

-- a tuple of a relation
abbrev pub fact_of : ℕ → List ℕ → Fact
fact_of k t = record { relation = k; tuple = t }

-- a value of a counter
abbrev pub reading_of : Reads → ℕ → List ℕ → Reading
reading_of r k t = record { counter = k; key = t; value = r.count k t }

-- of each relation, those from a number on, the tuples that read true, rising
abbrev pub facts_from : World → Reads → ℕ → List Relation → List Fact
facts_from w r k [] = []
facts_from w r k (x ∷ xs) =
    map (fact_of k) (filter (r.has k) (tuples w x.places)) ++ facts_from w r (suc k) xs

-- of each counter, those from a number on, the keys whose value isn't 0, rising
abbrev pub readings_from : World → Reads → ℕ → List Counter → List Reading
readings_from w r k [] = []
readings_from w r k (c ∷ cs) =
    map (reading_of r k) (filter (λ t. is_other (r.count k t)) (tuples w c.keys))
    ++ readings_from w r (suc k) cs

-- What is shown of a witness.
abbrev pub shown_by : Specification → Witness → PartialWitness
shown_by d w = record {
  world = w.world;
  facts = facts_from w.world (reads w.state) 0 d.relations;
  readings = readings_from w.world (reads w.state) 0 d.counters;
  calls = w.calls;
}

-- ---- what is shown of verdicts

-- why an obligation is undecided, as a report shows it
abbrev pub shown_cause : Cause → VerdictForm
shown_cause causes.Instances = instances
shown_cause (causes.Lines log) = lines log
shown_cause (causes.Rows e) = rows e.log (record { used = e.used; steps = e.steps })
shown_cause (causes.Range e) =
    range e.log (record { used = e.used; steps = e.steps; what = e.what })

-- What is shown of a verdict.
abbrev pub shown_verdict : Specification → Verdict → VerdictForm
shown_verdict d (verdicts.Proved log) = proved log
shown_verdict d (verdicts.Refuted w) = refuted (shown_by d w) w.elements
shown_verdict d (verdicts.Undecided cause) = shown_cause cause

-- A report of some verdicts.
abbrev pub report_on : Specification → ℕ → ℕ → List Verdict → ReportForm
report_on d version budget vs =
    record { version = version; budget = budget; verdicts = map (shown_verdict d) vs }

-- ---- the text as it is written

-- each of some verdicts can be written
abbrev pub AllStand : Specification → List Verdict → Type 0
AllStand d [] = Unit {0}
AllStand d (v ∷ vs) = CanStand d v × AllStand d vs

-- the blocks of the obligations from a place on
abbrev pub blocks_text : Specification → ℕ → List Verdict → List ℕ
blocks_text d i [] = []
blocks_text d i (v ∷ vs) = block_text d (obligation_at d i) v ++ blocks_text d (suc i) vs

-- how many verdicts of each kind there are, behind those that were counted
abbrev pub counted : Tally → List VerdictForm → Tally
counted t [] = t
counted t (v ∷ vs) = counted (with_verdict v t) vs

-- The lines before the blocks, the blocks, and the lines behind them.
abbrev pub written_text : Specification → ℕ → ℕ → List Verdict → List ℕ
written_text d version budget vs =
    head_text d version budget
    ++ (blocks_text d 0 vs ++ end_text (counted no_verdicts (map (shown_verdict d) vs)))

-- ---- what can be shown

-- A witness can be shown for an obligation: it fits, its values are in the range of a state, it has as many calls and elements as the
-- obligation speaks of, and a line can hold its elements.
pub record CanBeShown (d : Specification) (ob : Obligation) (w : Witness) : Type 0 where
  pub fits : WitnessFits d w
  pub values : (k : ℕ) (t : List ℕ) → unsigned_abs ((reads w.state).count k t) ≤ greatest_value
  pub calls : length w.calls ≡ call_count ob
  pub elements : are_elements d ob w.elements ≡ true

-- A verdict can stand in a report of this version, on this obligation.
abbrev pub IsFit : Specification → ℕ → Obligation → Verdict → Type 0
IsFit d version ob (verdicts.Proved log) = is_log (may_drop version) log ≡ true
IsFit d version ob (verdicts.Refuted w) = CanBeShown d ob w
IsFit d version ob (verdicts.Undecided cause) = is_verdict d version ob (shown_cause cause) ≡ true

-- Each of some verdicts can be written, one for each obligation from a place on.
abbrev pub AllFit : Specification → ℕ → ℕ → List Verdict → Type 0
AllFit d version i [] = i ≡ obligation_count d
AllFit d version i (v ∷ vs) =
    (i < obligation_count d) × IsFit d version (obligation_at d i) v × AllFit d version (suc i) vs
