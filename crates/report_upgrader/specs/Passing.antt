-- How a report that stands is upgraded line by line: what is held of the log of a proved verdict, and
-- what is written behind each line. It mirrors the code.
use Rattle.std.specs.Prelude.{◌≡◌, ℕ, ◌≤◌, nat_lt, Bool, true, false, if◌then◌else◌, List, [], ◌∷◌}
use Rattle.std.specs.Prelude.{◌++◌, map, length, Option, Some, None}
use Rattle.std.specs.Io.KnownBytes.{Appends}
use Rattle.std.specs.List.{flat_map, list_all}
use Rattle.spec_core.specs.Specification.{Specification}
use Rattle.proof_lines.specs.declared.line.Line.{Line}
use Rattle.report_lines.specs.declared.verdict.VerdictWord.{VerdictWord}
use Rattle.report_lines.specs.declared.verdict.VerdictWord.TheVariants as word
use Rattle.report_lines.specs.Words.{parts, line_text}
use Rattle.report_lines.specs.Fields.{most_count}
use Rattle.report_lines.specs.Logs.{line_format}
use Rattle.report_lines.specs.Blocks.{verdict_format}
use Rattle.proof_report.specs.declared.event.Event.{Event}
use Rattle.proof_report.specs.declared.event.Event.TheVariants as events
use Rattle.proof_report.specs.Verdicts.{proved}
use Rattle.proof_report.specs.Events.{words, log_lines, verdict_lines}
use Rattle.report_reader.specs.Reader.{begin_of, log_of_event}
use Rattle.proof_report.specs.Texts.{log_text}
use Rattle.report_bytes.specs.Bytes.{lines_of}
use Rattle.report_upgrader.specs.UpgradedLogs.{upgraded}
use Rattle.report_upgrader.specs.declared.planning.Rewritten.{Rewritten}
use Rattle.report_upgrader.specs.Plans.{AreWritten}

-- ---- the log that is held

-- The log of a proved verdict: how many lines it has, and those that have come.
pub record Held : Type 0 where
  pub due : ℕ
  pub log : List Line

-- Behind a line that begins a proved verdict or is a line of its log: so many lines of the log are due,
-- and these have come. Nothing is held behind any other line.
abbrev pub held_with : Option Held → Option VerdictWord → Option Line → Option Held
held_with None (Some (word.Proved n)) l = Some (record { due = n; log = [] })
held_with None b l = None
held_with (Some h) b (Some l) = Some (record { due = h.due; log = h.log ++ l ∷ [] })
held_with (Some h) b None = None

-- what is held of a log once an event of a report has come
abbrev pub held_at : Option Held → Event → Option Held
held_at h e = held_with h (begin_of e) (log_of_event e)

-- lines are still due
abbrev pub is_due : Held → Bool
is_due h = nat_lt (length h.log) h.due

-- a log is held until all its lines have come
abbrev pub held_on : Option Held → Option Held
held_on None = None
held_on (Some h) = if is_due h then Some h else None

-- ---- what lines say

-- a whole log is written with its verdict, upgraded
abbrev pub whole_lines : Held → List Event
whole_lines h = if is_due h then [] else verdict_lines (proved (upgraded h.log)) []

-- what is written behind a line: the line itself, where it isn't held
abbrev pub lines_out : Event → Option Held → List Event
lines_out e None = e ∷ []
lines_out e (Some h) = whole_lines h

-- what is written behind many lines
unfoldable pub passed : Option Held → List Event → List Event
passed h [] = []
passed h (e ∷ es) = lines_out e (held_at h e) ++ passed (held_on (held_at h e)) es

-- ---- their text

-- the text of these lines
abbrev pub text_of : Specification → List Event → List ℕ
text_of d es = flat_map line_text (map (words d) es)

-- the text of a proved verdict with such a log
abbrev pub verdict_text : List Line → List ℕ
verdict_text log = line_text (verdict_format.put (word.Proved (length log)))

-- the text of a proved verdict and its log
abbrev pub proved_text : List Line → List ℕ
proved_text log = verdict_text log ++ log_text log

-- ---- the lines that are left

-- a text is that of this line of a log
abbrev pub IsText : Line → List ℕ → Type 0
IsText l text = (parts text ≡ line_format.put l) × (line_format.fits l ≡ true)

-- Lines between line feeds begin with those of this log.
unfoldable pub say_log : List Line → List (List ℕ) → Type 0
say_log [] texts = Unit {0}
say_log (l ∷ ls) [] = ⊥
say_log (l ∷ ls) (text ∷ texts) = IsText l text × say_log ls texts

-- Lines between line feeds begin with those of this log, so many, and a plan says what is written for each.
pub record IsPlanned (ls : List Line) (count : ℕ) (texts : List (List ℕ)) (plan : List Rewritten) : Type 0 where
  pub long : length ls ≡ count
  pub says : say_log ls texts
  pub written : AreWritten plan ls

-- The lines of a log, so many, come first, and these behind them.
pub record IsLogAhead (n : ℕ) (es : List Event) : Type 0 where
  pub log : List Line
  pub behind : List Event
  pub long : length log ≡ n
  pub few : n ≤ most_count
  pub fits : list_all line_format.fits log ≡ true
  pub are : es ≡ log_lines log behind

-- where a verdict is proved, its log follows
abbrev pub begins_log : VerdictWord → List Event → Type 0
begins_log (word.Proved n) es = IsLogAhead n es
begins_log b es = Unit {0}

-- the same of a line of any kind
abbrev pub is_followed : Event → List Event → Type 0
is_followed (events.Begin b) es = begins_log b es
is_followed e es = Unit {0}

-- all lines of each log that proves follow its verdict
unfoldable pub logs_follow : List Event → Type 0
logs_follow [] = Unit {0}
logs_follow (e ∷ es) = is_followed e es × logs_follow es

-- The lines of these bytes say this.
pub record IsLeft (d : Specification) (rest : List ℕ) (es : List Event) : Type 0 where
  pub said : map parts (lines_of rest) ≡ map (words d) es
  pub whole : logs_follow es

-- ---- steps

-- a verdict that is proved
abbrev pub proves : VerdictWord → Bool
proves (word.Proved n) = true
proves b = false

-- a line that begins a proved verdict
abbrev pub begins_proof : Event → Bool
begins_proof (events.Begin b) = proves b
begins_proof e = false

-- a line begins a proved verdict with a log of so many lines, or none
abbrev pub IsBegun : Option ℕ → Event → Type 0
IsBegun (Some n) e = e ≡ events.Begin (word.Proved n)
IsBegun None e = begins_proof e ≡ false

-- How far lines were passed on: the bytes that are left, and the text that is gathered.
pub record Progress : Type 0 where
  pub rest : List ℕ
  pub text : List ℕ

-- What is written of a report on a specification, and what the sink held before.
pub record Task : Type 0 where
  pub spec : Specification
  pub whole : List ℕ
  pub before : Option (List ℕ)

-- A front of a whole text was written, more is gathered, and these bytes are left to gather.
pub record IsGathered (whole : List ℕ) (before after : Option (List ℕ)) (text rest : List ℕ) : Type 0 where
  pub front : List ℕ
  pub written : Appends before after front
  pub sum : front ++ (text ++ rest) ≡ whole

-- The same where what is left comes of the lines that are left.
pub record IsUnderway (task : Task) (at : Progress) (after : Option (List ℕ)) : Type 0 where
  pub events : List Event
  pub left : IsLeft task.spec at.rest events
  pub gathered : IsGathered task.whole task.before after at.text
      (text_of task.spec (passed None events))
