-- What a call on rows answers, against its definition.
use Rattle.std.specs.Prelude.{◌≡◌, Option, Some, None, Result, Ok, Err}
use Rattle.lin_rows.specs.declared.refused.RowRefused.{RowRefused}
use Rattle.lin_rows.specs.declared.refused.RowRefused.TheVariants.{Range, Memory}

-- a call answers what the definition gives: Range exactly where it gives nothing, and want of memory at any time
abbrev pub Gives : {A : Type 0} → Result A RowRefused → Option A → Type 0
Gives (Ok value) given = given ≡ Some value
Gives (Err Range) given = given ≡ None
Gives (Err Memory) given = Unit {0}
