-- What a sink holds behind the writing of a text.
use Rattle.std.specs.Prelude.{ℕ, List, take, Option, Result, Ok, Err}
use Rattle.std.specs.Io.KnownBytes.{Appends}
use Rattle.byte_ports.specs.declared.text.WriteOut.{WriteOut}

-- a front of a text was written
abbrev pub IsFrontWritten : List ℕ → Option (List ℕ) → Option (List ℕ) → Type 0
IsFrontWritten text before after = (n : ℕ) × Appends before after (take n text)

-- a text was written, or a front of it
abbrev pub IsText : {A : Type 0} → List ℕ → Option (List ℕ) → Option (List ℕ) → Result A WriteOut
    → Type 0
IsText text before after (Ok x) = Appends before after text
IsText text before after (Err why) = IsFrontWritten text before after
