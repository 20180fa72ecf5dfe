-- What an upgraded report keeps of a report.
use Rattle.std.proofs.Common.{◌≡◌, ℕ, suc, ◌==◌, Bool, true, false, not, cond, ◌&&◌, List, [], ◌∷◌, ◌++◌, length, refl, ◌∙◌, ap, arith}
use Rattle.std.specs.Prelude.{nat_le, nat_lt, map, filter}
use Rattle.std.specs.List.{fold, list_all}
use Rattle.std.proofs.lemmas.Bool.{and_parts, and_from}
use Rattle.std.proofs.lemmas.List.Folds.{list_all-append}
use Rattle.spec_core.specs.Specification.{Specification}
use Rattle.proof_lines.specs.declared.line.Line.{Line}
use Rattle.proof_lines.specs.declared.line.Line.TheVariants.{Resolve, Farkas, Split, Drop}
use Rattle.obligation_list.specs.declared.obligation.Obligation.{Obligation}
use Rattle.report_lines.specs.declared.head.Tally.{Tally}
use Rattle.report_lines.specs.Fields.{most_count}
use Rattle.report_lines.specs.Heads.{title_format, budget_format}
use Rattle.report_lines.specs.Logs.{log_format, line_format, drop_words}
use Rattle.proof_report.specs.Verdicts.{VerdictForm, proved, refuted, instances, lines, rows, range, ReportForm, is_report, may_drop, is_verdict, are_verdicts, obligation_at, obligation_count}
use Rattle.proof_report.specs.Events.{with_verdict}
use Rattle.report_upgrader.specs.UpgradedLogs.{is_named, last_named, drop_line, upgraded}
use Rattle.report_upgrader.proofs.Names.{upgraded-twice, last-all}
use Rattle.report_upgrader.specs.Reports.{upgraded_verdict, upgraded_report, has_room}

-- ---- upgrading twice

verdict-twice : (v : VerdictForm) → upgraded_verdict (upgraded_verdict v) ≡ upgraded_verdict v
verdict-twice (proved log) = ap proved (upgraded-twice log)
verdict-twice (refuted p es) = refl
verdict-twice instances = refl
verdict-twice (lines log) = refl
verdict-twice (rows log r) = refl
verdict-twice (range log r) = refl

verdicts-twice : (vs : List VerdictForm) → map upgraded_verdict (map upgraded_verdict vs) ≡ map upgraded_verdict vs
verdicts-twice [] = refl
verdicts-twice (v ∷ vs) = λ i. verdict-twice v i ∷ verdicts-twice vs i

pub report-twice : (r : ReportForm) → upgraded_report (upgraded_report r) ≡ upgraded_report r
report-twice r = λ i. record { version = 2; budget = r.budget; verdicts = verdicts-twice r.verdicts i }

-- ---- the same summary

verdict-counts : (v : VerdictForm) (t : Tally) → with_verdict (upgraded_verdict v) t ≡ with_verdict v t
verdict-counts (proved log) t = refl
verdict-counts (refuted p es) t = refl
verdict-counts instances t = refl
verdict-counts (lines log) t = refl
verdict-counts (rows log r) t = refl
verdict-counts (range log r) t = refl

pub same-summary : (vs : List VerdictForm) (t : Tally) → fold (λ t v. with_verdict v t) t (map upgraded_verdict vs) ≡ fold (λ t v. with_verdict v t) t vs
same-summary [] t = refl
same-summary (v ∷ vs) t = same-summary vs (with_verdict (upgraded_verdict v) t) ∙ ap (λ (s : Tally). fold (λ t v. with_verdict v t) s vs) (verdict-counts v t)

-- ---- an upgraded report can stand

abbrev fits : Line → Bool
fits = (log_format true).fits

one : (a : Bool) → a ≡ true → (a && true) ≡ true
one a h = grind arith

first : (a b : Bool) → (a && b) ≡ true → a ≡ true
first a b h = grind arith

-- a Drop line of few small numbers can stand
drop-fits : (ns : List ℕ) → nat_le (length ns) most_count ≡ true → list_all (λ n. nat_le n most_count) ns ≡ true → list_all fits (drop_line ns) ≡ true
drop-fits [] few small = refl
drop-fits (n ∷ ns) few small = one (fits (Drop (n ∷ ns))) (one (drop_words.fits (n ∷ ns)) (and_from (nat_le (length (n ∷ ns)) most_count) (list_all (λ n. nat_le n most_count) (n ∷ ns)) few small))

-- a Resolve line names two clauses at most
few-last : (left right pivot : ℕ) (ls : List Line) → nat_le (length (last_named (Resolve left right pivot) ls)) most_count ≡ true
few-last left right pivot ls = few-rising (λ n. not (is_named ls n)) (left == right) (nat_lt left right)
  where
    few-two : (a b : ℕ) (p q : Bool) → nat_le (length (cond p (a ∷ cond q (b ∷ []) []) (cond q (b ∷ []) []))) most_count ≡ true
    few-two a b true true = refl
    few-two a b true false = refl
    few-two a b false true = refl
    few-two a b false false = refl

    few-one : (a : ℕ) (p : Bool) → nat_le (length (cond p (a ∷ []) [])) most_count ≡ true
    few-one a true = refl
    few-one a false = refl

    few-rising : (q : ℕ → Bool) (e l : Bool) → nat_le (length (filter q (cond e (left ∷ []) (cond l (left ∷ right ∷ []) (right ∷ left ∷ []))))) most_count ≡ true
    few-rising q true l = few-one left (q left)
    few-rising q false true = few-two left right (q left) (q right)
    few-rising q false false = few-two right left (q right) (q left)

-- the line, the Drop line behind it, and the others
join : (xs ys zs : List Line) → list_all fits xs ≡ true → list_all fits ys ≡ true → list_all fits zs ≡ true → list_all fits (xs ++ (ys ++ zs)) ≡ true
join xs ys zs h k l =
    list_all-append fits xs (ys ++ zs) ∙ and_from (list_all fits xs) (list_all fits (ys ++ zs)) h (list_all-append fits ys zs ∙ and_from (list_all fits ys) (list_all fits zs) k l)

log-fits : (b : Bool) (ls : List Line) → list_all (log_format b).fits ls ≡ true → list_all fits (upgraded ls) ≡ true
log-fits b [] h = refl
log-fits b (Resolve left right pivot ∷ ls) h =
    let p = and_parts ((log_format b).fits (Resolve left right pivot)) (list_all (log_format b).fits ls) h in
    let w : (nat_le left most_count && (nat_le right most_count && nat_le pivot most_count)) ≡ true = first (nat_le left most_count && (nat_le right most_count && nat_le pivot most_count)) _ p.0 in
    let q = and_parts (nat_le left most_count) (nat_le right most_count && nat_le pivot most_count) w in
    let r = and_parts (nat_le right most_count) (nat_le pivot most_count) q.1 in
    join (Resolve left right pivot ∷ []) (drop_line (last_named (Resolve left right pivot) ls)) (upgraded ls)
    (one (fits (Resolve left right pivot)) (one (line_format.fits (Resolve left right pivot)) w))
    (drop-fits (last_named (Resolve left right pivot) ls) (few-last left right pivot ls) (last-all left right pivot ls (λ n. nat_le n most_count) q.0 r.0))
    (log-fits b ls p.1)
log-fits b (Farkas used steps ∷ ls) h =
    let p = and_parts ((log_format b).fits (Farkas used steps)) (list_all (log_format b).fits ls) h in
    join (Farkas used steps ∷ []) [] (upgraded ls) (one (fits (Farkas used steps)) (one (line_format.fits (Farkas used steps)) (first (line_format.fits (Farkas used steps)) _ p.0))) refl (log-fits b ls p.1)
log-fits b (Split place at used steps low high values ∷ ls) h =
    let l : Line = Split place at used steps low high values in
    let p = and_parts ((log_format b).fits l) (list_all (log_format b).fits ls) h in
    join (l ∷ []) [] (upgraded ls) (one (fits l) (one (line_format.fits l) (first (line_format.fits l) _ p.0))) refl (log-fits b ls p.1)
log-fits b (Drop clauses ∷ ls) h = log-fits b ls (and_parts ((log_format b).fits (Drop clauses)) (list_all (log_format b).fits ls) h).1

verdict-stands : (d : Specification) (version : ℕ) (ob : Obligation) (v : VerdictForm) → is_verdict d version ob v ≡ true → has_room v ≡ true → is_verdict d 2 ob (upgraded_verdict v) ≡ true
verdict-stands d version ob (proved log) h room =
    let p = and_parts (nat_le (length log) most_count) (list_all (log_format (may_drop version)).fits log) h in
    and_from (nat_le (length (upgraded log)) most_count) (list_all fits (upgraded log)) room (log-fits (may_drop version) log p.1)
verdict-stands d version ob (refuted p es) h room = h
verdict-stands d version ob instances h room = h
verdict-stands d version ob (lines log) h room = h
verdict-stands d version ob (rows log r) h room = h
verdict-stands d version ob (range log r) h room = h

verdicts-stand : (d : Specification) (version i : ℕ) (vs : List VerdictForm) → are_verdicts d version i vs ≡ true → list_all has_room vs ≡ true → are_verdicts d 2 i (map upgraded_verdict vs) ≡ true
verdicts-stand d version i [] h room = h
verdicts-stand d version i (v ∷ vs) h room =
    let p = and_parts (nat_lt i (obligation_count d)) (is_verdict d version (obligation_at d i) v && are_verdicts d version (suc i) vs) h in
    let q = and_parts (is_verdict d version (obligation_at d i) v) (are_verdicts d version (suc i) vs) p.1 in
    let r = and_parts (has_room v) (list_all has_room vs) room in
    and_from (nat_lt i (obligation_count d)) _ p.0
    (and_from (is_verdict d 2 (obligation_at d i) (upgraded_verdict v)) (are_verdicts d 2 (suc i) (map upgraded_verdict vs))
    (verdict-stands d version (obligation_at d i) v q.0 r.0) (verdicts-stand d version (suc i) vs q.1 r.1))

pub report-stands : (d : Specification) (r : ReportForm) → is_report d r ≡ true → list_all has_room r.verdicts ≡ true → is_report d (upgraded_report r) ≡ true
report-stands d r h room =
    let p = and_parts (title_format.fits r.version) (budget_format.fits r.budget && are_verdicts d r.version 0 r.verdicts) h in
    let q = and_parts (budget_format.fits r.budget) (are_verdicts d r.version 0 r.verdicts) p.1 in
    and_from (budget_format.fits r.budget) (are_verdicts d 2 0 (map upgraded_verdict r.verdicts)) q.0 (verdicts-stand d r.version 0 r.verdicts q.1 room)
