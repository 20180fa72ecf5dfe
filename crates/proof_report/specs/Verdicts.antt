-- Verdicts as a report shows them, and which may stand in one.
use Rattle.std.specs.Prelude.{ℕ, suc, Bool, true, false, ◌&&◌, ◌==◌, nat_le, nat_lt, List, [], ◌∷◌, length, get_or, Option, Some, None}
use Rattle.std.specs.Ordering.{nat_cmp, is_lt}
use Rattle.std.specs.Cmp.Lexicographic.{slice_cmp}
use Rattle.std.specs.List.{list_all}
use Rattle.spec_core.specs.declared.spec.Const.{Const}
use Rattle.spec_core.specs.declared.world.World.{World}
use Rattle.spec_core.specs.declared.world.Call.{Call}
use Rattle.spec_core.specs.Specification.{Specification}
use Rattle.spec_core.specs.World.{size_of}
use Rattle.proof_lines.specs.declared.line.Line.{Line}
use Rattle.obligation_list.specs.declared.obligation.Obligation.{Obligation}
use Rattle.obligation_list.specs.declared.obligation.Obligation.TheVariants as obligation
use Rattle.obligation_list.specs.Obligations.{obligations_of}
use Rattle.obligation_list.specs.Breaking.{operations_of, elements_of}
use Rattle.report_lines.specs.declared.evidence.RowsLine.{RowsLine}
use Rattle.report_lines.specs.declared.evidence.RangeLine.{RangeLine}
use Rattle.report_lines.specs.declared.witness.Fact.{Fact}
use Rattle.report_lines.specs.declared.witness.Reading.{Reading}
use Rattle.report_lines.specs.Fields.{most_count}
use Rattle.report_lines.specs.Heads.{title_format, budget_format}
use Rattle.report_lines.specs.Logs.{log_format}
use Rattle.report_lines.specs.Evidence.{rows_format, range_format}
use Rattle.report_lines.specs.Witnesses.{size_format, const_format, fact_format, reading_format, call_format, at_format}
use Rattle.proof_report.specs.declared.place.PartialWitness.{PartialWitness}

-- A verdict as a report shows it: a log that proves, a witness with the elements at which the conclusion fails, or the evidence of
-- an undecided one.
pub data VerdictForm : Type 0 where
  proved : List Line → VerdictForm
  refuted : PartialWitness → List ℕ → VerdictForm
  instances : VerdictForm
  lines : List Line → VerdictForm
  rows : List Line → RowsLine → VerdictForm
  range : List Line → RangeLine → VerdictForm

-- ---- the obligations, in their order

-- how many obligations there are
abbrev pub obligation_count : Specification → ℕ
obligation_count d = length (obligations_of d)

-- the obligation at a place of the list
abbrev pub obligation_at : Specification → ℕ → Obligation
obligation_at d i = get_or (obligations_of d) i (obligation.Init 0)

-- how many calls an obligation speaks of
abbrev pub call_count : Obligation → ℕ
call_count ob = length (operations_of ob)

-- at how many elements its conclusion may fail
abbrev pub element_count : Specification → Obligation → ℕ
element_count d ob = length (elements_of d ob)

-- ---- logs

-- the log of a proved verdict may drop clauses in version 2 alone, and no other log may
abbrev pub is_log : Bool → List Line → Bool
is_log drops log = nat_le (length log) most_count && list_all (log_format drops).fits log

-- logs of version 2 may drop clauses
abbrev pub may_drop : ℕ → Bool
may_drop version = version == 2

-- ---- witnesses

-- what stands for a constant that isn't there
abbrev pub no_const : Const
no_const = record { name = []; sort = 0 }

-- the size of each sort from a place on
abbrev pub are_sizes : Specification → ℕ → List ℕ → Bool
are_sizes d i [] = i == length d.sorts
are_sizes d i (n ∷ ns) =
    nat_lt i (length d.sorts) && ((size_format (get_or d.sorts i [])).fits n
    && are_sizes d (suc i) ns)

-- the constant at a place
abbrev pub const_at : Specification → ℕ → Const
const_at d j = get_or d.consts j no_const

-- the element of each constant from a place on
abbrev pub are_consts : Specification → World → ℕ → List ℕ → Bool
are_consts d w j [] = j == length d.consts
are_consts d w j (e ∷ es) =
    nat_lt j (length d.consts) && ((const_format (const_at d j).name
    (size_of w (const_at d j).sort)).fits e && are_consts d w (suc j) es)

-- a tuple or key of one thing stands before one of another: by the thing, and then by the first element that differs
abbrev pub stands_before : ℕ → List ℕ → ℕ → List ℕ → Bool
stands_before k t j u = is_lt (slice_cmp nat_cmp (k ∷ t) (j ∷ u))

-- a tuple comes after the last one
abbrev pub fact_behind : Option Fact → Fact → Bool
fact_behind None g = true
fact_behind (Some f) g = stands_before f.relation f.tuple g.relation g.tuple

-- the first relation of which a fact may still come
abbrev pub relation_due : Option Fact → ℕ
relation_due None = 0
relation_due (Some f) = f.relation

-- rising facts of a world, behind one
abbrev pub are_facts : Specification → World → Option Fact → List Fact → Bool
are_facts d w last [] = true
are_facts d w last (f ∷ fs) =
    ((fact_format d w (relation_due last)).fits f && fact_behind last f)
    && are_facts d w (Some f) fs

-- a value stands behind another one, by its counter and its key
abbrev pub reading_behind : Option Reading → Reading → Bool
reading_behind None r = true
reading_behind (Some q) r = stands_before q.counter q.key r.counter r.key

-- the first counter of which a value may still come
abbrev pub counter_due : Option Reading → ℕ
counter_due None = 0
counter_due (Some r) = r.counter

-- values at rising keys of a world, behind one
abbrev pub are_readings : Specification → World → Option Reading → List Reading → Bool
are_readings d w last [] = true
are_readings d w last (r ∷ rs) =
    ((reading_format d w (counter_due last)).fits r && reading_behind last r)
    && are_readings d w (Some r) rs

-- the calls that an obligation speaks of, behind so many; of which operations isn't asked
abbrev pub are_calls : Specification → Obligation → ℕ → List Call → Bool
are_calls d ob n [] = n == call_count ob
are_calls d ob n (c ∷ cs) =
    ((call_format d).fits c && nat_lt n (call_count ob)) && are_calls d ob (suc n) cs

-- as many elements as the obligation asks for
abbrev pub are_elements : Specification → Obligation → List ℕ → Bool
are_elements d ob es = (at_format (element_count d ob)).fits es

-- a witness that can be shown for an obligation, whether it breaks it or not
abbrev pub is_witness : Specification → Obligation → PartialWitness → List ℕ → Bool
is_witness d ob p es =
    are_sizes d 0 p.world.sizes && (are_consts d p.world 0 p.world.consts
    && (are_facts d p.world None p.facts && (are_readings d p.world None p.readings
    && (are_calls d ob 0 p.calls && are_elements d ob es))))

-- ---- verdicts

-- a verdict that can stand in a report of this version, on this obligation
abbrev pub is_verdict : Specification → ℕ → Obligation → VerdictForm → Bool
is_verdict d version ob (proved log) = is_log (may_drop version) log
is_verdict d version ob (refuted p es) = is_witness d ob p es
is_verdict d version ob instances = true
is_verdict d version ob (lines log) = is_log false log
is_verdict d version ob (rows log r) = is_log false log && rows_format.fits r
is_verdict d version ob (range log r) = is_log false log && range_format.fits r

-- a verdict on each obligation from a place on
abbrev pub are_verdicts : Specification → ℕ → ℕ → List VerdictForm → Bool
are_verdicts d version i [] = i == obligation_count d
are_verdicts d version i (v ∷ vs) =
    nat_lt i (obligation_count d) && (is_verdict d version (obligation_at d i) v
    && are_verdicts d version (suc i) vs)

-- A report: a version of the format, the budget, and a verdict on each obligation in order.
pub record ReportForm : Type 0 where
  pub version : ℕ
  pub budget : ℕ
  pub verdicts : List VerdictForm

-- A report that can be written and read.
abbrev pub is_report : Specification → ReportForm → Bool
is_report d r =
    title_format.fits r.version && (budget_format.fits r.budget
    && are_verdicts d r.version 0 r.verdicts)
