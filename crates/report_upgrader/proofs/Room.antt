-- The logs of an upgraded report have few lines, where the report has few bytes.
use Rattle.std.proofs.Common.{◌≡◌, ℕ, suc, ◌+◌, ◌*◌, ◌≤◌, true, List, [], ◌∷◌, length, refl, ap, arith}
use Rattle.std.specs.Prelude.{nat_le}
use Rattle.std.specs.List.{list_all}
use Rattle.std.proofs.lemmas.Bool.{and_from}
use Rattle.std.proofs.lemmas.Bool.Decides.{nat_tests}
use Rattle.std.proofs.lemmas.List.{length-append}
use Rattle.spec_core.specs.declared.world.Call.{Call}
use Rattle.spec_core.specs.Specification.{Specification}
use Rattle.proof_lines.specs.declared.line.Line.{Line}
use Rattle.proof_lines.specs.declared.line.Line.TheVariants.{Resolve, Farkas, Split, Drop}
use Rattle.report_lines.specs.declared.head.Tally.{Tally}
use Rattle.report_lines.specs.declared.witness.Fact.{Fact}
use Rattle.report_lines.specs.declared.witness.Reading.{Reading}
use Rattle.report_lines.specs.declared.witness.Shown.TheVariants as shown
use Rattle.report_lines.specs.Fields.{most_count}
use Rattle.report_lines.specs.Words.{joined, line_text}
use Rattle.proof_report.specs.declared.event.Event.{Event}
use Rattle.proof_report.specs.declared.event.Event.TheVariants as events
use Rattle.proof_report.specs.declared.place.PartialWitness.{PartialWitness}
use Rattle.proof_report.specs.Verdicts.{VerdictForm, proved, refuted, instances, lines, rows, range, ReportForm}
use Rattle.proof_report.specs.Events.{with_verdict, no_verdicts, log_lines, size_lines, const_lines, fact_lines, reading_lines, call_lines, witness_lines, verdict_lines, block_lines, report_lines, words}
use Rattle.report_bytes.specs.Bytes.{report_bytes}
use Rattle.report_verifier.specs.Verified.{most_report_bytes}
use Rattle.report_upgrader.specs.UpgradedLogs.{last_named, drop_line, upgraded}
use Rattle.report_upgrader.specs.Reports.{has_room}
use Rattle.report_upgrader.specs.Passing.{text_of}

-- ---- an upgraded log has at most twice as many lines

drop_few : (ns : List ℕ) → length (drop_line ns) ≤ 1
drop_few [] = omega arith
drop_few (n ∷ ns) = omega arith

pub upgraded_few : (ls : List Line) → length (upgraded ls) ≤ 2 * length ls
upgraded_few [] = omega arith
upgraded_few (Resolve left right pivot ∷ ls) =
    let a = length-append (drop_line (last_named (Resolve left right pivot) ls)) (upgraded ls) in
    let b = drop_few (last_named (Resolve left right pivot) ls) in
    let c = upgraded_few ls in
    omega (arith, a, b, c)
upgraded_few (Farkas used steps ∷ ls) = let c = upgraded_few ls in omega (arith, c)
upgraded_few (Split place at used steps low high values ∷ ls) = let c = upgraded_few ls in omega (arith, c)
upgraded_few (Drop clauses ∷ ls) = let c = upgraded_few ls in omega (arith, c)

-- ---- lines stand behind others

log_count : (ls : List Line) (es : List Event) → length (log_lines ls es) ≡ length ls + length es
log_count [] es = omega arith
log_count (l ∷ ls) es = let a = log_count ls es in omega (arith, a)

sizes_more : (i : ℕ) (ns : List ℕ) (es : List Event) → length es ≤ length (size_lines i ns es)
sizes_more i [] es = omega arith
sizes_more i (n ∷ ns) es = let a = sizes_more (suc i) ns es in omega (arith, a)

consts_more : (j : ℕ) (xs : List ℕ) (es : List Event) → length es ≤ length (const_lines j xs es)
consts_more j [] es = omega arith
consts_more j (x ∷ xs) es = let a = consts_more (suc j) xs es in omega (arith, a)

facts_more : (fs : List Fact) (es : List Event) → length es ≤ length (fact_lines fs es)
facts_more [] es = omega arith
facts_more (f ∷ fs) es = let a = facts_more fs es in omega (arith, a)

readings_more : (rs : List Reading) (es : List Event) → length es ≤ length (reading_lines rs es)
readings_more [] es = omega arith
readings_more (r ∷ rs) es = let a = readings_more rs es in omega (arith, a)

calls_more : (cs : List Call) (es : List Event) → length es ≤ length (call_lines cs es)
calls_more [] es = omega arith
calls_more (c ∷ cs) es = let a = calls_more cs es in omega (arith, a)

witness_more : (p : PartialWitness) (xs : List ℕ) (es : List Event) → length es ≤ length (witness_lines p xs es)
witness_more p xs es =
    let last : List Event = events.Shown (shown.At xs) ∷ es in
    let calls : List Event = call_lines p.calls last in
    let values : List Event = reading_lines p.readings calls in
    let facts : List Event = fact_lines p.facts values in
    let consts : List Event = const_lines 0 p.world.consts facts in
    let a = calls_more p.calls last in
    let b = readings_more p.readings calls in
    let c = facts_more p.facts values in
    let e = consts_more 0 p.world.consts facts in
    let f = sizes_more 0 p.world.sizes consts in
    omega (arith, a, b, c, e, f)

-- ---- a log of few lines has room

few_room : (log : List Line) (m : ℕ) → length log ≤ m → 2 * m ≤ most_count → has_room (proved log) ≡ true
few_room log m few most = within (length (upgraded log)) (let a = upgraded_few log in omega (arith, a, few, most))
  where
    within : (n : ℕ) → n ≤ most_count → nat_le n most_count ≡ true
    within n h = grind (arith, nat_tests)

-- a verdict before other lines
verdict_room : (v : VerdictForm) (es : List Event) (m : ℕ) → length (verdict_lines v es) ≤ m → 2 * m ≤ most_count → (has_room v ≡ true) × (length es ≤ m)
verdict_room (proved log) es m few most = let a = log_count log es in (few_room log m (omega (arith, a, few)) most, omega (arith, a, few))
verdict_room (refuted p xs) es m few most = let a = witness_more p xs es in (refl, omega (arith, a, few))
verdict_room instances es m few most = (refl, omega (arith, few))
verdict_room (lines log) es m few most = let a = log_count log es in (refl, omega (arith, a, few))
verdict_room (rows log r) es m few most = let a = log_count log (events.Rows r ∷ es) in (refl, omega (arith, a, few))
verdict_room (range log r) es m few most = let a = log_count log (events.Range r ∷ es) in (refl, omega (arith, a, few))

blocks_room : (t : Tally) (vs : List VerdictForm) (m : ℕ) → length (block_lines t vs) ≤ m → 2 * m ≤ most_count → list_all has_room vs ≡ true
blocks_room t [] m few most = refl
blocks_room t (v ∷ vs) m few most =
    let a = verdict_room v (block_lines (with_verdict v t) vs) m (omega (arith, few)) most in
    and_from (has_room v) (list_all has_room vs) a.0 (blocks_room (with_verdict v t) vs m a.1 most)

-- ---- a line is a byte at least

lines_few : (d : Specification) (es : List Event) → length es ≤ length (text_of d es)
lines_few d [] = omega arith
lines_few d (e ∷ es) =
    let a = length-append (line_text (words d e)) (text_of d es) in
    let b = length-append (joined (words d e)) (10 ∷ []) in
    let c = lines_few d es in
    omega (arith, a, b, c)

-- so the logs of a report of at most 64 MiB have room
pub report_room : (d : Specification) (bytes : List ℕ) (r : ReportForm) → bytes ≡ report_bytes d r → length bytes ≤ most_report_bytes → list_all has_room r.verdicts ≡ true
report_room d bytes r same few =
    let a = ap length same in
    let b = lines_few d (report_lines d r) in
    blocks_room no_verdicts r.verdicts most_report_bytes (omega (arith, a, b, few)) (omega arith)
