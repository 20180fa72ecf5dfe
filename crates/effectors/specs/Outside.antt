-- What is found of one counter, before what is found of the counters after it.
use Rattle.std.specs.Prelude.{ℕ, Option, None, Some}
use Rattle.effectors.specs.declared.outside.Outside.{Outside}
use Rattle.effectors.specs.Beyond.{Beyond}

-- the value found at the counter, else what is found later
abbrev pub outside_or : ℕ → Option Outside → Option Beyond → Option Beyond
outside_or k None later = later
outside_or k (Some o) later = Some (record { counter = k; key = o.key; value = o.value })
