-- What is written for each line of a log, and how it is found. It mirrors the code.
use Rattle.std.specs.Prelude.{◌≡◌, ℕ, zero, suc, ◌+◌, Bool, true, false, List, [], ◌∷◌, ◌++◌, length, slice_index_or}
use Rattle.proof_lines.specs.declared.line.Line.{Line}
use Rattle.proof_lines.specs.declared.line.Line.TheVariants.{Resolve, Farkas, Split, Drop}
use Rattle.proof_report.specs.Texts.{log_text}
use Rattle.report_verifier.specs.Notes.{NoteForm}
use Rattle.report_upgrader.specs.UpgradedLogs.{rising, named, is_named, last_named, unless_drop, drop_line}
use Rattle.report_upgrader.specs.declared.log_bytes.LogLine.{LogLine}
use Rattle.report_upgrader.specs.declared.log_bytes.LogLine.TheVariants as kinds
use Rattle.report_upgrader.specs.declared.planning.Rewritten.{Rewritten}
use Rattle.report_upgrader.specs.declared.planning.Rewritten.TheVariants as rewritten

-- what is said of a line: the clauses that it resolves, or whether it drops clauses
abbrev pub IsKind : LogLine → Line → Type 0
IsKind (kinds.Resolve left right) l = (pivot : ℕ) × (l ≡ Resolve left right pivot)
IsKind kinds.Drop l = (named l ≡ []) × (unless_drop l ≡ [])
IsKind kinds.Other l = (named l ≡ []) × (unless_drop l ≡ l ∷ [])

-- ---- what is written for a line

-- the line itself, unless it drops clauses, and a Drop line of those that it names and no later line does
abbrev pub with_drops : Line → List Line → List Line
with_drops l later = unless_drop l ++ drop_line (last_named l later)

-- the Drop line behind a line that resolves these clauses
abbrev pub dropped_by : Rewritten → ℕ → ℕ → List Line
dropped_by rewritten.Alone a b = []
dropped_by rewritten.DropsFirst a b = Drop (a ∷ []) ∷ []
dropped_by rewritten.DropsSecond a b = Drop (b ∷ []) ∷ []
dropped_by rewritten.DropsBoth a b = Drop (rising a b) ∷ []
dropped_by rewritten.Nothing a b = []

-- the same behind a line of any kind; only a line that resolves clauses drops some
abbrev pub dropped_from : Rewritten → Line → List Line
dropped_from x (Resolve left right pivot) = dropped_by x left right
dropped_from x (Farkas used steps) = dropped_by x 0 0
dropped_from x (Split place at used steps low high values) = dropped_by x 0 0
dropped_from x (Drop clauses) = dropped_by x 0 0

-- what is written for a line
abbrev pub written_for : Rewritten → Line → List Line
written_for rewritten.Alone l = l ∷ []
written_for rewritten.DropsFirst l = l ∷ dropped_from rewritten.DropsFirst l
written_for rewritten.DropsSecond l = l ∷ dropped_from rewritten.DropsSecond l
written_for rewritten.DropsBoth l = l ∷ dropped_from rewritten.DropsBoth l
written_for rewritten.Nothing l = []

-- a plan says of each line of a log what is written for it
abbrev pub AreWritten : List Rewritten → List Line → Type 0
AreWritten [] [] = Unit {0}
AreWritten [] (l ∷ ls) = ⊥
AreWritten (x ∷ plan) [] = ⊥
AreWritten (x ∷ plan) (l ∷ ls) = (written_for x l ≡ with_drops l ls) × AreWritten plan ls

-- the text of these lines was added
abbrev pub IsWritten : List Line → List ℕ → List ℕ → Type 0
IsWritten ls old new = new ≡ old ++ log_text ls

-- ---- how it is found

-- a table says of each clause whether one of these lines names it
abbrev pub IsSeen : List Bool → List Line → Type 0
IsSeen seen ls = (n : ℕ) → slice_index_or seen n false ≡ is_named ls n

-- what is written for a line that resolves two clauses, by whether a later line names each
abbrev pub written_by : Bool → Bool → Rewritten
written_by true true = rewritten.Alone
written_by true false = rewritten.DropsSecond
written_by false true = rewritten.DropsFirst
written_by false false = rewritten.DropsBoth

-- how many bytes so many lines take with their line feeds, by what was noted of them
abbrev pub place_of : List NoteForm → ℕ → ℕ
place_of ns zero = 0
place_of [] (suc i) = 0
place_of (n ∷ ns) (suc i) = n.len + 1 + place_of ns i
