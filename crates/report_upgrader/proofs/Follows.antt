-- In a report all lines of each log that proves follow its verdict.
use Rattle.std.proofs.Common.{◌≡◌, ℕ, suc, Bool, true, ◌&&◌, List, [], ◌∷◌, length, refl}
use Rattle.std.specs.Prelude.{nat_le, nat_lt}
use Rattle.std.specs.List.{list_all}
use Rattle.std.proofs.lemmas.Bool.{and_parts, and_from, leb-true}
use Rattle.obligation_list.specs.declared.obligation.Obligation.{Obligation}
use Rattle.report_lines.specs.Fields.{most_count}
use Rattle.report_lines.specs.Heads.{title_format, budget_format}
use Rattle.report_lines.specs.Logs.{line_format, log_format, may_stand}
use Rattle.spec_core.specs.declared.world.Call.{Call}
use Rattle.spec_core.specs.Specification.{Specification}
use Rattle.proof_lines.specs.declared.line.Line.{Line}
use Rattle.report_lines.specs.declared.head.Tally.{Tally}
use Rattle.report_lines.specs.declared.witness.Fact.{Fact}
use Rattle.report_lines.specs.declared.witness.Reading.{Reading}
use Rattle.proof_report.specs.declared.event.Event.{Event}
use Rattle.proof_report.specs.Verdicts.{VerdictForm, proved, refuted, instances, lines, rows, range, is_log, may_drop, is_verdict, are_verdicts, obligation_at, obligation_count, ReportForm, is_report}
use Rattle.proof_report.specs.Events.{no_verdicts, with_verdict, log_lines, size_lines, const_lines, fact_lines, reading_lines, call_lines, verdict_lines, block_lines}
use Rattle.report_upgrader.specs.Passing.{IsLogAhead, logs_follow}
use Rattle.report_upgrader.proofs.Passes.{lines_behind}

log_follows : (ls : List Line) (es : List Event) → logs_follow es → logs_follow (log_lines ls es)
unfolding logs_follow
log_follows [] es h = h
log_follows (l ∷ ls) es h = (tt, log_follows ls es h)

-- and the same behind a log
pub behind_log : (ls : List Line) (es : List Event) → logs_follow (log_lines ls es) → logs_follow es
unfolding logs_follow
behind_log [] es h = h
behind_log (l ∷ ls) es h = behind_log ls es h.1

sizes_follow : (i : ℕ) (ns : List ℕ) (es : List Event) → logs_follow es → logs_follow (size_lines i ns es)
unfolding logs_follow
sizes_follow i [] es h = h
sizes_follow i (n ∷ ns) es h = (tt, sizes_follow (suc i) ns es h)

consts_follow : (j : ℕ) (xs : List ℕ) (es : List Event) → logs_follow es → logs_follow (const_lines j xs es)
unfolding logs_follow
consts_follow j [] es h = h
consts_follow j (x ∷ xs) es h = (tt, consts_follow (suc j) xs es h)

facts_follow : (fs : List Fact) (es : List Event) → logs_follow es → logs_follow (fact_lines fs es)
unfolding logs_follow
facts_follow [] es h = h
facts_follow (f ∷ fs) es h = (tt, facts_follow fs es h)

readings_follow : (rs : List Reading) (es : List Event) → logs_follow es → logs_follow (reading_lines rs es)
unfolding logs_follow
readings_follow [] es h = h
readings_follow (r ∷ rs) es h = (tt, readings_follow rs es h)

calls_follow : (cs : List Call) (es : List Event) → logs_follow es → logs_follow (call_lines cs es)
unfolding logs_follow
calls_follow [] es h = h
calls_follow (c ∷ cs) es h = (tt, calls_follow cs es h)

-- lines that may stand in some log fit a line
log_fits : (drops : Bool) (ls : List Line) → list_all (log_format drops).fits ls ≡ true → list_all line_format.fits ls ≡ true
log_fits drops [] h = refl
log_fits drops (l ∷ ls) h =
    let a = and_parts ((log_format drops).fits l) (list_all (log_format drops).fits ls) h in
    let b = and_parts (line_format.fits l) (may_stand drops l) a.0 in
    and_from _ _ b.0 (log_fits drops ls a.1)

log_ahead : (drops : Bool) (log : List Line) (es : List Event) → is_log drops log ≡ true → IsLogAhead (length log) (log_lines log es)
log_ahead drops log es h =
    let a = and_parts (nat_le (length log) most_count) (list_all (log_format drops).fits log) h in
    record { log = log; behind = es; long = refl; few = leb-true (length log) most_count a.0; fits = log_fits drops log a.1; are = refl }

verdict_follows : (d : Specification) (version : ℕ) (ob : Obligation) (v : VerdictForm) (es : List Event) → is_verdict d version ob v ≡ true → logs_follow es → logs_follow (verdict_lines v es)
unfolding logs_follow
verdict_follows d version ob (proved log) es f h = (log_ahead (may_drop version) log es f, log_follows log es h)
verdict_follows d version ob (refuted p xs) es f h =
    (tt, sizes_follow 0 p.world.sizes _ (consts_follow 0 p.world.consts _ (facts_follow p.facts _ (readings_follow p.readings _ (calls_follow p.calls _ (tt, h))))))
verdict_follows d version ob instances es f h = (tt, h)
verdict_follows d version ob (lines log) es f h = (tt, log_follows log es h)
verdict_follows d version ob (rows log r) es f h = (tt, log_follows log _ (tt, h))
verdict_follows d version ob (range log r) es f h = (tt, log_follows log _ (tt, h))

blocks_follow : (d : Specification) (version i : ℕ) (t : Tally) (vs : List VerdictForm) → are_verdicts d version i vs ≡ true → logs_follow (block_lines t vs)
unfolding logs_follow
blocks_follow d version i t [] f = (tt, (tt, tt))
blocks_follow d version i t (v ∷ vs) f =
    let a = and_parts (nat_lt i (obligation_count d)) (is_verdict d version (obligation_at d i) v && are_verdicts d version (suc i) vs) f in
    let b = and_parts (is_verdict d version (obligation_at d i) v) (are_verdicts d version (suc i) vs) a.1 in
    (tt, verdict_follows d version (obligation_at d i) v _ b.0 (blocks_follow d version (suc i) (with_verdict v t) vs b.1))

pub report_follows : (d : Specification) (r : ReportForm) → is_report d r ≡ true → logs_follow (lines_behind d r)
unfolding logs_follow
report_follows d r ok =
    let a = and_parts (title_format.fits r.version) (budget_format.fits r.budget && are_verdicts d r.version 0 r.verdicts) ok in
    let b = and_parts (budget_format.fits r.budget) (are_verdicts d r.version 0 r.verdicts) a.1 in
    (tt, (tt, blocks_follow d r.version 0 no_verdicts r.verdicts b.1))
