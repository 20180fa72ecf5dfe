-- What is told of a line that resolves two clauses, and where a reader stands behind it. It mirrors the code.
use Rattle.std.specs.Prelude.{◌≡◌, ◌<◌, ℕ, List, suc, Some, None, slice_index_or}
use Rattle.proof_lines.specs.declared.line.Line.TheVariants.{Resolve}
use Rattle.proof_report.specs.declared.place.Place.{Place}
use Rattle.proof_report.specs.declared.place.Place.TheVariants as places
use Rattle.report_reader.specs.declared.resolving.ResolveLine.{ResolveLine}
use Rattle.proof_report.specs.declared.verdict.Fed.{Fed}

-- One line of a log less is left, and at least one is.
abbrev pub IsOneLess : Place → Place → Type 0
IsOneLess (places.Log k (suc (suc n))) q = q ≡ places.Log k (suc n)
IsOneLess p q = ⊥

-- what is told of it where it isn't the last line
abbrev pub resolve_told : ResolveLine → Fed
resolve_told l = record { begin = None; log = Some (Resolve l.left l.right l.pivot); ended = None }

-- some bytes are in front, and the first is no 0 where there are more than one
abbrev pub IsShort : ℕ → List ℕ → Type 0
IsShort len bytes = (0 < len) × (1 < len → slice_index_or bytes 0 0 ≡ 48 → ⊥)
