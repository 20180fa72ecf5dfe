-- Which refusal a value beyond the range of a state calls for.
use Rattle.std.specs.Prelude.{◌≡◌, Option, None, Some}
use Rattle.effectors.specs.declared.applying.ApplyRefused.{ApplyRefused}
use Rattle.effectors.specs.declared.applying.ApplyRefused.TheVariants.{Range, Memory}
use Rattle.effectors.specs.Beyond.{Beyond}

-- a refusal names the value that is beyond, and there is none where none is
abbrev pub refused_by : Option ApplyRefused → Option Beyond → Type 0
refused_by None beyond = beyond ≡ None
refused_by (Some (Range k key value)) beyond =
    beyond ≡ Some (record { counter = k; key = key; value = value })
refused_by (Some Memory) beyond = ⊥
