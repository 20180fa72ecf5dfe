-- The tie from the code to the definitions of typing: names with what they mean, as a program holds them.
use Rattle.std.specs.Prelude.{ℕ, if◌then◌else◌, List, [], ◌∷◌, Option, None, Some}
use Rattle.std.specs.Str.{bytes_eq}
use Rattle.typing_rules.specs.declared.meaning.Meaning.{Meaning}
use Rattle.typing_rules.specs.Scope.{Names}

-- what a name means in a list; nothing where it isn't listed
abbrev pub meaning_in : List (List ℕ × Meaning) → Names
meaning_in [] = λ name. None
meaning_in (e ∷ es) = λ name. if bytes_eq name e.0 then Some e.1 else meaning_in es name
