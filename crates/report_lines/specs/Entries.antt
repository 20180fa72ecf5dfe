-- What lists in lines are made of, besides numbers: literals and steps of rows.
use Rattle.std.specs.Prelude.{ℕ, Bool, true, false, if◌then◌else◌, ◌==◌, nat_le, ℤ, List, [], ◌∷◌, Option, Some, None}
use Rattle.std.specs.Fmt.{decimal}
use Rattle.word_cut.specs.Whole.{size_read}
use Rattle.proof_lines.specs.declared.clause.Lit.{Lit}
use Rattle.proof_lines.specs.declared.line.RowStep.{RowStep}
use Rattle.report_lines.specs.Formats.{Format, word, both, seen}
use Rattle.report_lines.specs.Fields.{most_count, count_format, integer_format}

-- ---- literals

-- `+` or `-` before the number of the atom
abbrev pub literal_text : Lit → List ℕ
literal_text l = (if l.positive then 43 else 45) ∷ decimal l.atom

-- a literal of this sign, where its atom is a number
abbrev pub with_sign : Bool → Option ℕ → Option Lit
with_sign sign None = None
with_sign sign (Some n) = Some (record { atom = n; positive = sign })

-- the literal that a word spells: a sign and a number
abbrev pub literal_of : List ℕ → Option Lit
literal_of [] = None
literal_of (b ∷ bs) =
    if b == 43 then with_sign true (size_read bs)
    else (if b == 45 then with_sign false (size_read bs) else None)

-- a literal whose atom a line can name
abbrev pub small_literal : Option Lit → Option Lit
small_literal None = None
small_literal (Some l) = if nat_le l.atom most_count then Some l else None

-- a literal as a word
abbrev pub literal_format : Format Lit
literal_format = word literal_text literal_of (λ l. nat_le l.atom most_count)

-- ---- steps

-- the left row and its multiplier, then the right row and its multiplier
abbrev pub to_step : ℕ × (ℤ × (ℕ × ℤ)) → RowStep
to_step x = record { left = x.0; first = x.1.0; right = x.1.1.0; second = x.1.1.1 }

-- the parts of a step
abbrev pub of_step : RowStep → ℕ × (ℤ × (ℕ × ℤ))
of_step s = (s.left, (s.first, (s.right, s.second)))

-- the words of a step
abbrev pub step_words : Format (ℕ × (ℤ × (ℕ × ℤ)))
step_words = both count_format (both integer_format (both count_format integer_format))

-- a step
abbrev pub step_format : Format RowStep
step_format = seen to_step of_step step_words
