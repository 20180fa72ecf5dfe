-- What is noted of the lines of bytes that are held.
use Rattle.std.specs.Prelude.{◌≡◌, ℕ, ◌/◌, ◌%◌, ◌==◌, if◌then◌else◌, List, [], ◌∷◌, ◌++◌, length, Option, None, Some}
use Rattle.report_bytes.specs.Bytes.{pieces}
use Rattle.proof_lines.specs.declared.line.Line.TheVariants.{Resolve}
use Rattle.report_lines.specs.Words.{parts}
use Rattle.report_lines.specs.Logs.{line_format}
use Rattle.report_verifier.specs.declared.notes.ResolvedPair.{ResolvedPair}

-- What is noted of a line: the clauses that it resolves, where they were noted, and how long it is.
pub record NoteForm : Type 0 where
  pub pair : Option ResolvedPair
  pub len : ℕ

-- The note that two numbers hold: below 128 counts how long a line is whose clauses are noted.
abbrev pub note_of : ℕ → ℕ → NoteForm
note_of first second =
    if first % 128 == 0 then record { pair = None; len = second }
    else record { pair = Some (record { left = first / 128; right = second }); len = first % 128 }

-- Bytes begin with a line that is so long, and its line feed.
pub record IsLong (len : ℕ) (bytes : List ℕ) : Type 0 where
  pub line : List ℕ
  pub behind : List ℕ
  pub are : bytes ≡ line ++ 10 ∷ behind
  pub long : length line ≡ len
  pub cut : pieces bytes ≡ line ∷ pieces behind

-- a text is a line that resolves these two clauses, where two were noted
abbrev pub IsPair : Option ResolvedPair → List ℕ → Type 0
IsPair None text = Unit {0}
IsPair (Some x) text =
    (pivot : ℕ) × (parts text ≡ line_format.put (Resolve x.left x.right pivot))

-- bytes begin with lines of which this was noted, and these come behind
abbrev pub AreNotedTo : List NoteForm → List ℕ → List ℕ → Type 0
AreNotedTo [] bytes end = bytes ≡ end
AreNotedTo (n ∷ ns) bytes end =
    (h : IsLong n.len bytes) × (IsPair n.pair h.line × AreNotedTo ns h.behind end)

-- this was noted of all lines of bytes
abbrev pub AreNoted : List NoteForm → List ℕ → Type 0
AreNoted ns bytes = (end : List ℕ) × (AreNotedTo ns bytes end × (pieces end ≡ end ∷ []))
