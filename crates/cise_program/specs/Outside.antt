-- What is known of a run from outside: what its two sources tell, how often they have failed, and what its sink holds.
use Rattle.std.specs.Prelude.{ℕ, List, Option}

-- What the two sources have left at one time, where they tell it: that of the specification, and the second one.
pub record Told : Type 0 where
  pub spec : Option (List ℕ)
  pub extra : Option (List ℕ)

-- what two sources tell
abbrev pub told_by : {S E : Type 0} → (S → Option (List ℕ)) → (E → Option (List ℕ)) → S → E → Told
told_by left left_extra spec extra = record { spec = left spec; extra = left_extra extra }

-- How often the two sources have failed: that of the specification, and the second one.
pub record Failures : Type 0 where
  pub spec : ℕ
  pub extra : ℕ

-- how often two sources have failed
abbrev pub failures_of : {S E : Type 0} → (S → ℕ) → (E → ℕ) → S → E → Failures
failures_of fails fails_extra spec extra = record { spec = fails spec; extra = fails_extra extra }

-- What the sink held before a run, and what it holds after it, where it tells that.
pub record Held : Type 0 where
  pub before : Option (List ℕ)
  pub after : Option (List ℕ)

-- what a sink holds before and after
abbrev pub held_by : {K : Type 0} → (K → Option (List ℕ)) → K → K → Held
held_by holds before after = record { before = holds before; after = holds after }
