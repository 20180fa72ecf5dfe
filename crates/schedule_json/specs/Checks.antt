-- Checks one after the other: the first that fails is answered.
use Rattle.std.specs.Prelude.{Bool, true, false, List, ◌∷◌, Option, None, Some, Result, Ok, Err}
use Rattle.schedule_json.specs.declared.refusal.Path.{Path}
use Rattle.schedule_json.specs.declared.refusal.Fault.{Fault}
use Rattle.schedule_json.specs.declared.refusal.Fault.TheVariants as fault
use Rattle.schedule_json.specs.declared.refusal.ScheduleRefused.{ScheduleRefused}
use Rattle.schedule_json.specs.declared.refusal.ScheduleRefused.TheVariants.{Shape, Size}

-- what a check gives, or the refusal where it fails
abbrev pub Checked : Type 0 → Type 0
Checked A = Result A ScheduleRefused

-- a fault at a place
abbrev pub fault_at : Path → Fault → ScheduleRefused
fault_at path fault.Shape = Shape path
fault_at path fault.Size = Size path

-- what is found at a place, or the fault there
abbrev pub located : {A : Type 0} → Path → Result A Fault → Checked A
located path (Ok x) = Ok x
located path (Err f) = Err (fault_at path f)

-- refused where the test is false, else what comes next
abbrev pub need : {A : Type 0} → Bool → ScheduleRefused → Checked A → Checked A
need false why next = Err why
need true why next = next

-- refused where there is nothing, else what comes next for what there is
abbrev pub with_some : {A B : Type 0} → Option A → ScheduleRefused → (A → Checked B) → Checked B
with_some None why next = Err why
with_some (Some x) why next = next x

-- what comes next for what a check gives
abbrev pub and_then : {A B : Type 0} → Checked A → (A → Checked B) → Checked B
and_then (Err why) next = Err why
and_then (Ok x) next = next x

-- what a check gives, in front of what further ones give
abbrev pub with_first : {A : Type 0} → Checked A → Checked (List A) → Checked (List A)
with_first (Err why) rest = Err why
with_first (Ok x) (Err why) = Err why
with_first (Ok x) (Ok xs) = Ok (x ∷ xs)
