-- The lines of a report that stands, passed on one by one.
use Rattle.std.proofs.Common.{◌≡◌, ℕ, ◌+◌, ◌≤◌, true, false, List, [], ◌∷◌, ◌++◌, map, length, drop, Option, None, Result, Ok, Err, refl, sym, ap, subst, ◌∙◌, append-nil, arith}
use Rattle.std.specs.Prelude.{IfOk, OnOk, OnErr}
use Rattle.std.specs.Io.KnownBytes.{Appends}
use Rattle.std.specs.List.{list_all}
use Rattle.std.proofs.lemmas.Bool.{and_parts}
use Rattle.std.proofs.KnownBytes.{Appends-trans}
use Rattle.byte_ports.specs.Written.{IsFrontWritten}
use Rattle.spec_core.specs.Specification.{Specification}
use Rattle.spec_core.specs.Typed.{is_specification}
use Rattle.proof_lines.specs.declared.line.Line.{Line}
use Rattle.report_lines.specs.declared.verdict.VerdictWord.TheVariants as word
use Rattle.report_lines.specs.Words.{parts, line_text}
use Rattle.report_lines.specs.Heads.{title_format}
use Rattle.report_lines.specs.Logs.{line_format}
use Rattle.proof_report.specs.declared.event.Event.{Event}
use Rattle.proof_report.specs.declared.event.Event.TheVariants as events
use Rattle.proof_report.specs.Verdicts.{proved, ReportForm, is_report}
use Rattle.proof_report.specs.Events.{words, log_lines, verdict_lines, report_lines}
use Rattle.proof_report.specs.Feeding
use Rattle.proof_report.proofs.Whole.{all_ok}
use Rattle.report_bytes.specs.Bytes.{report_bytes, pieces, before_last, lines_of}
use Rattle.report_bytes.proofs.BytesOfReports.{text_bytes_are_fed}
use Rattle.report_bytes.proofs.Cutting.{front_more, pieces_some, no_bytes}
use Rattle.report_upgrader.specs.UpgradedLogs.{upgraded}
use Rattle.report_upgrader.specs.Reports.{upgraded_report, upgraded_version}
use Rattle.report_upgrader.specs.Passing.{passed, text_of, proved_text, say_log, IsLogAhead, begins_proof, is_followed, logs_follow, IsLeft, Progress, Task, IsGathered, IsUnderway}
use Rattle.report_upgrader.proofs.Gathered.{gathered_first, gathered_rest, gathered_stopped, gathered_still}
use Rattle.report_upgrader.proofs.Passes.{lines_behind, report_passed, line_passed, verdict_passed}
use Rattle.report_upgrader.proofs.Follows.{behind_log, report_follows}
use Rattle.report_upgrader.proofs.Texts.{proved_before, text_same}

head_is : {A : Type 0} (x y : A) (xs ys : List A) → (x ∷ xs) ≡ (y ∷ ys) → x ≡ y
head_is x y xs ys e = cc

tail_is : {A : Type 0} (x y : A) (xs ys : List A) → (x ∷ xs) ≡ (y ∷ ys) → xs ≡ ys
tail_is x y xs ys e = cc

-- ---- the next line

-- The first line says this, and what is behind it the others.
pub record IsFirst (d : Specification) (es : List Event) (line behind : List ℕ) : Type 0 where
  pub event : Event
  pub more : List Event
  pub are : es ≡ event ∷ more
  pub says : parts line ≡ words d event
  pub followed : is_followed event more
  pub left : IsLeft d behind more

lines_cut : (rest line behind : List ℕ) → pieces rest ≡ line ∷ pieces behind → lines_of rest ≡ line ∷ lines_of behind
lines_cut rest line behind cut = ap before_last cut ∙ (front_more line (pieces behind) (pieces_some behind)).0

pub first_of : (d : Specification) (es : List Event) (rest line behind : List ℕ) → pieces rest ≡ line ∷ pieces behind → IsLeft d rest es → IsFirst d es line behind
unfolding logs_follow
first_of d [] rest line behind cut left =
    let none : (parts line ∷ map parts (lines_of behind)) ≡ [] = ap (map parts) (sym (lines_cut rest line behind cut)) ∙ left.said in
    absurd cc
first_of d (e ∷ es) rest line behind cut left =
    let both : (parts line ∷ map parts (lines_of behind)) ≡ (words d e ∷ map (words d) es) = ap (map parts) (sym (lines_cut rest line behind cut)) ∙ left.said in
    record {
      event = e;
      more = es;
      are = refl;
      says = head_is _ _ _ _ both;
      followed = left.whole.0;
      left = record { said = tail_is _ _ _ _ both; whole = left.whole.1 };
    }

-- It is passed on as it is.
pub record IsPlainNext (task : Task) (line behind : List ℕ) (after : Option (List ℕ)) (text : List ℕ) : Type 0 where
  pub later : List ℕ
  pub gathered : IsGathered task.whole task.before after text ((line ++ 10 ∷ []) ++ later)
  pub onward : (now : Option (List ℕ)) (new : List ℕ) → IsGathered task.whole task.before now new later → IsUnderway task (record { rest = behind; text = new }) now

pub plain_next : (task : Task) (line behind text rest : List ℕ) (after : Option (List ℕ)) → pieces rest ≡ line ∷ pieces behind → ((d : Specification) (e : Event) (es : List Event) → parts line ≡ words d e → is_followed e es → begins_proof e ≡ false)
    → IsUnderway task (record { rest = rest; text = text }) after → IsPlainNext task line behind after text
plain_next task line behind text rest after cut plain way =
    let d = task.spec in
    let f = first_of d way.events rest line behind cut way.left in
    let others : List ℕ = text_of d (passed None f.more) in
    let out : text_of d (passed None way.events) ≡ (line ++ 10 ∷ []) ++ others =
    ap (λ (x : List Event). text_of d (passed None x)) f.are ∙ ap (text_of d) (line_passed f.event f.more (plain d f.event f.more f.says f.followed))
    ∙ ap (λ (x : List ℕ). x ++ others) (text_same line (words d f.event) f.says) in
    record {
      later = others;
      gathered = gathered_rest task.whole task.before after text (text_of d (passed None way.events)) ((line ++ 10 ∷ []) ++ others) way.gathered out;
      onward = λ now new so. record { events = f.more; left = f.left; gathered = so };
    }

-- ---- a log

record IsBehind (d : Specification) (ls : List Line) (es : List Event) (texts : List (List ℕ)) : Type 0 where
  says : say_log ls texts
  said : map parts (before_last (drop (length ls) texts)) ≡ map (words d) es

log_said : (d : Specification) (ls : List Line) (es : List Event) (texts : List (List ℕ)) → list_all line_format.fits ls ≡ true → map parts (before_last texts) ≡ map (words d) (log_lines ls es) → IsBehind d ls es texts
unfolding say_log
log_said d [] es texts f h = record { says = tt; said = h }
log_said d (l ∷ ls) es [] f h = absurd cc
log_said d (l ∷ ls) es (t ∷ []) f h = absurd cc
log_said d (l ∷ ls) es (t ∷ u ∷ us) f h =
    let a = and_parts (line_format.fits l) (list_all line_format.fits ls) f in
    let first : parts t ≡ line_format.put l = head_is _ _ _ _ h in
    let more = log_said d ls es (u ∷ us) a.1 (tail_is _ _ _ _ h) in
    record { says = ((first, a.0), more.says); said = more.said }

-- what is said of the lines behind a proved verdict
pub record IsWhole (d : Specification) (es : List Event) (count : ℕ) (behind : List ℕ) : Type 0 where
  pub log : List Line
  pub later : List Event
  pub long : length log ≡ count
  pub says : say_log log (pieces behind)
  pub left : (rest : List ℕ) → drop count (pieces behind) ≡ pieces rest → IsLeft d rest later
  pub passes : passed None es ≡ verdict_lines (proved (upgraded log)) (passed None later)

whole_log : (d : Specification) (es : List Event) (line behind : List ℕ) (count : ℕ) (f : IsFirst d es line behind) → f.event ≡ events.Begin (word.Proved count) → IsWhole d es count behind
whole_log d es line behind count f begun =
    let ahead : IsLogAhead count f.more = subst (λ (e : Event). is_followed e f.more) begun f.followed in
    let log = ahead.log in
    let later = ahead.behind in
    let b = log_said d log later (pieces behind) ahead.fits (f.left.said ∙ ap (map (words d)) ahead.are) in
    let events_are : es ≡ events.Begin (word.Proved (length log)) ∷ log_lines log later =
    f.are ∙ (λ i. begun i ∷ ahead.are i) ∙ ap (λ (n : ℕ). events.Begin (word.Proved n) ∷ log_lines log later) (sym ahead.long) in
    record {
      log = log;
      later = later;
      long = ahead.long;
      says = b.says;
      left = λ rest h. record {
        said = ap (λ (t : List (List ℕ)). map parts (before_last t)) (sym h ∙ ap (λ (n : ℕ). drop n (pieces behind)) (sym ahead.long)) ∙ b.said;
        whole = behind_log log later (subst logs_follow ahead.are f.left.whole);
      };
      passes = ap (passed None) events_are ∙ verdict_passed (proved log) later;
    }

-- It is passed on with its log.
pub record IsLogNext (task : Task) (count : ℕ) (behind : List ℕ) (after : Option (List ℕ)) (text : List ℕ) : Type 0 where
  pub log : List Line
  pub long : length log ≡ count
  pub says : say_log log (pieces behind)
  pub later : List ℕ
  pub gathered : IsGathered task.whole task.before after text (proved_text (upgraded log) ++ later)
  pub onward : (left : List ℕ) → drop count (pieces behind) ≡ pieces left → (now : Option (List ℕ)) (new : List ℕ) → IsGathered task.whole task.before now new later → IsUnderway task (record { rest = left; text = new }) now

pub log_next : (task : Task) (line behind text rest : List ℕ) (count : ℕ) (after : Option (List ℕ)) → pieces rest ≡ line ∷ pieces behind
    → ((d : Specification) (e : Event) (es : List Event) → parts line ≡ words d e → is_followed e es → e ≡ events.Begin (word.Proved count))
    → IsUnderway task (record { rest = rest; text = text }) after → IsLogNext task count behind after text
log_next task line behind text rest count after cut begun way =
    let d = task.spec in
    let f = first_of d way.events rest line behind cut way.left in
    let w = whole_log d way.events line behind count f (begun d f.event f.more f.says f.followed) in
    let others : List ℕ = text_of d (passed None w.later) in
    let out : text_of d (passed None way.events) ≡ proved_text (upgraded w.log) ++ others = ap (text_of d) w.passes ∙ proved_before d (upgraded w.log) (passed None w.later) in
    record {
      log = w.log;
      long = w.long;
      says = w.says;
      later = others;
      gathered = gathered_rest task.whole task.before after text (text_of d (passed None way.events)) (proved_text (upgraded w.log) ++ others) way.gathered out;
      onward = λ left same now new so. record { events = w.later; left = w.left left same; gathered = so };
    }

-- how it ended
pub plain_ok : {A E : Type 0} (result : Result A E) (bytes : A → List ℕ) (task : Task) (line behind : List ℕ) (after now : Option (List ℕ)) (text new : List ℕ) (n : IsPlainNext task line behind after text)
    → OnOk result (IsGathered task.whole task.before now new n.later) → IfOk result (λ x. bytes x ≡ behind) → IfOk result (λ x. IsUnderway task (record { rest = bytes x; text = new }) now)
plain_ok (Ok x) bytes task line behind after now text new n so is = subst (λ (b : List ℕ). IsUnderway task (record { rest = b; text = new }) now) (sym is) (n.onward now new so)
plain_ok (Err e) bytes task line behind after now text new n so is = tt

pub same_bytes : {A E : Type 0} (result : Result A E) (bytes : A → List ℕ) (behind : A) → IfOk result (λ x. x ≡ behind) → IfOk result (λ x. bytes x ≡ bytes behind)
same_bytes (Ok x) bytes behind is = ap bytes is
same_bytes (Err e) bytes behind is = tt

pub log_ok : {A E : Type 0} (result : Result A E) (bytes : A → List ℕ) (task : Task) (count : ℕ) (behind : List ℕ) (after now : Option (List ℕ)) (text new : List ℕ) (n : IsLogNext task count behind after text)
    → OnOk result (IsGathered task.whole task.before now new n.later) → IfOk result (λ x. drop count (pieces behind) ≡ pieces (bytes x)) → IfOk result (λ x. IsUnderway task (record { rest = bytes x; text = new }) now)
log_ok (Ok x) bytes task count behind after now text new n so is = n.onward (bytes x) is now new so
log_ok (Err e) bytes task count behind after now text new n so is = tt

-- ---- what is left

nothing_said : (d : Specification) (es : List Event) → [] ≡ map (words d) es → es ≡ []
nothing_said d [] e = refl
nothing_said d (x ∷ es) e = absurd cc

-- no line is left
nothing_left : (d : Specification) (rest : List ℕ) (es : List Event) → pieces rest ≡ rest ∷ [] → IsLeft d rest es → es ≡ []
nothing_left d rest es cut left = nothing_said d es (ap (map parts) (sym (ap before_last cut)) ∙ left.said)

-- behind the first line
behind_title : (d : Specification) (bytes line behind : List ℕ) (x : ReportForm) → is_specification d ≡ true → is_report d x ≡ true → bytes ≡ report_bytes d x → pieces bytes ≡ line ∷ pieces behind → IsLeft d behind (lines_behind d x)
behind_title d bytes line behind x ok stands same cut =
    let f = text_bytes_are_fed d x ok stands in
    let w = all_ok d Feeding.start (map parts (lines_of (report_bytes d x))) (report_lines d x) f.1.0 ok f.1.1 f.1.2 in
    let all : map parts (lines_of bytes) ≡ map (words d) (report_lines d x) = ap (λ (b : List ℕ). map parts (lines_of b)) same ∙ w.0 in
    record {
      said = tail_is _ _ _ _ (ap (map parts) (sym (lines_cut bytes line behind cut)) ∙ all);
      whole = report_follows d x stands;
    }

-- ---- what is written

-- behind the first line, none of the upgraded text was written, and its first line is gathered
pub begun : (d : Specification) (bytes line behind : List ℕ) (x : ReportForm) (text start : List ℕ) (before : Option (List ℕ)) → is_specification d ≡ true → is_report d x ≡ true → bytes ≡ report_bytes d x → pieces bytes ≡ line ∷ pieces behind
    → start ≡ [] → text ≡ start ++ line_text (title_format.put upgraded_version) → IsUnderway (record { spec = d; whole = report_bytes d (upgraded_report x); before = before }) (record { rest = behind; text = text }) before
begun d bytes line behind x text start before ok stands same cut none titled =
    record {
      events = lines_behind d x;
      left = behind_title d bytes line behind x ok stands same cut;
      gathered = gathered_first (report_bytes d (upgraded_report x)) before text (text_of d (passed None (lines_behind d x)))
          (ap (λ (t : List ℕ). t ++ text_of d (passed None (lines_behind d x))) (titled ∙ ap (λ (s : List ℕ). s ++ line_text (title_format.put upgraded_version)) none) ∙ ap (λ (es : List Event). line_text (title_format.put upgraded_version) ++ text_of d es) (report_passed d x));
    }

-- nothing more was written
pub stopped_at : (task : Task) (at : Progress) (after : Option (List ℕ)) → IsUnderway task at after → IsFrontWritten task.whole task.before after
stopped_at task at after way = gathered_still task.whole task.before after at.text (text_of task.spec (passed None way.events)) way.gathered

-- all was written, where no line is left
pub written_all : (task : Task) (at : Progress) (after later : Option (List ℕ)) → pieces at.rest ≡ at.rest ∷ [] → IsUnderway task at after → Appends after later at.text → Appends task.before later task.whole
unfolding passed
written_all task at after later cut way more =
    let none = nothing_left task.spec at.rest way.events cut way.left in
    let so = way.gathered in
    let same : so.front ++ at.text ≡ task.whole =
    ap (λ (x : List ℕ). so.front ++ x) (sym (append-nil at.text) ∙ ap (λ (es : List Event). at.text ++ text_of task.spec (passed None es)) (sym none)) ∙ so.sum in
    subst (Appends task.before later) same (Appends-trans task.before after later so.front at.text so.written more)

pub no_line : (rest : List ℕ) (taken many : ℕ) → length rest + taken ≤ many → many ≤ taken → pieces rest ≡ rest ∷ []
no_line rest taken many few all = no_bytes rest (omega (arith, few, all))

-- ---- the end

-- where what is gathered was written, all was
pub all_written : {E : Type 0} (result : Result (Unit {0}) E) (task : Task) (at : Progress) (after later : Option (List ℕ)) → pieces at.rest ≡ at.rest ∷ [] → IsUnderway task at after
    → OnOk result (Appends after later at.text) → OnOk result (Appends task.before later task.whole)
all_written (Ok x) task at after later cut way more = written_all task at after later cut way more
all_written (Err e) task at after later cut way more = tt

-- where a front of it was, a front of all was
pub front_written : {E : Type 0} (result : Result (Unit {0}) E) (task : Task) (at : Progress) (after later : Option (List ℕ)) → IsUnderway task at after
    → OnErr result (IsFrontWritten at.text after later) → OnErr result (IsFrontWritten task.whole task.before later)
front_written (Ok x) task at after later way more = tt
front_written (Err e) task at after later way more = gathered_stopped task.whole task.before after later at.text (text_of task.spec (passed None way.events)) way.gathered more
