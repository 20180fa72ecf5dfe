-- The bytes of a report, and the lines of bytes.
use Rattle.std.specs.Prelude.{ℕ, ◌==◌, List, [], ◌∷◌}
use Rattle.std.specs.List.{slice_split, flat_map}
use Rattle.spec_core.specs.Specification.{Specification}
use Rattle.report_lines.specs.Words.{line_text}
use Rattle.proof_report.specs.Verdicts.{ReportForm}
use Rattle.proof_report.specs.Events.{text}

-- The bytes of a report: its lines, each with a line feed.
abbrev pub report_bytes : Specification → ReportForm → List ℕ
report_bytes d r = flat_map line_text (text d r)

-- what stands between line feeds
abbrev pub pieces : List ℕ → List (List ℕ)
pieces bytes = slice_split (λ b. b == 10) bytes

-- all but the last one of a list
abbrev pub before_last : List (List ℕ) → List (List ℕ)
before_last [] = []
before_last (x ∷ []) = []
before_last (x ∷ y ∷ xs) = x ∷ before_last (y ∷ xs)

-- the last one
abbrev pub last_of : List (List ℕ) → List ℕ
last_of [] = []
last_of (x ∷ []) = x
last_of (x ∷ y ∷ xs) = last_of (y ∷ xs)

-- The lines of bytes that end with a line feed, without it.
abbrev pub lines_of : List ℕ → List (List ℕ)
lines_of bytes = before_last (pieces bytes)

-- What stands behind the last line feed.
abbrev pub unended : List ℕ → List ℕ
unended bytes = last_of (pieces bytes)
