-- Which steps the member `steps` of a schedule gives, and the first check that fails.
use Rattle.std.specs.Prelude.{ℕ, ◌^◌, suc, ℤ, List, [], ◌∷◌, nat_lt, nat_le, if◌then◌else◌, Option, None, Some, option_map, option_and_then, Ok, Err, codes}
use Rattle.serde_json.specs.Data.{Data, Items, no_items, item}
use Rattle.serde_json.specs.Find.{get, as_str, as_array}
use Rattle.serde_json.specs.Events.{items_len}
use Rattle.spec_core.specs.Name.{is_name}
use Rattle.replica_replay.specs.declared.step.Step.{Step}
use Rattle.replica_replay.specs.declared.step.Step.TheVariants as step
use Rattle.schedule_json.specs.declared.refusal.Path.TheVariants as path
use Rattle.schedule_json.specs.declared.refusal.ScheduleRefused.TheVariants as refused
use Rattle.schedule_json.specs.Parts.{whole, natural, has_exactly}
use Rattle.schedule_json.specs.Checks.{Checked, need, with_some, with_first}

-- how many steps a schedule has at most
abbrev pub most_steps : ℕ
most_steps = 10000

-- the number of a replica or an event: a whole number from 0 to 4,294,967,295
abbrev pub number : Data → Option ℕ
number v = option_and_then (λ n. if nat_lt n (2 ^ 32) then Some n else None) (natural v)

-- the name of a called operation: a text of 1 to 32 bytes
abbrev pub name : Data → Option (List ℕ)
name v = option_and_then (λ text. if is_name text then Some text else None) (as_str v)

-- whole numbers
abbrev pub wholes : Items → Option (List ℤ)
wholes no_items = Some []
wholes (item v vs) = option_and_then (λ n. option_map (λ ns. n ∷ ns) (wholes vs)) (whole v)

-- the arguments of a call: a list of whole numbers
abbrev pub arguments : Data → Option (List ℤ)
arguments v = option_and_then wholes (as_array v)

-- the keys of a call
abbrev pub call_keys : List (List ℕ)
call_keys = codes "replica" ∷ codes "call" ∷ codes "args" ∷ []

-- the keys of a taking
abbrev pub taking_keys : List (List ℕ)
taking_keys = codes "replica" ∷ codes "take" ∷ []

-- a call, from what stands at its keys
abbrev pub call_from : Option Data → Option Data → Option Data → Option Step
call_from replica called args =
    option_and_then
    (λ r. option_and_then
    (λ op. option_map (λ as_. step.Call r op as_) (option_and_then arguments args))
    (option_and_then name called))
    (option_and_then number replica)

-- a taking, from what stands at its keys
abbrev pub taking_from : Option Data → Option Data → Option Step
taking_from replica taken =
    option_and_then (λ r. option_map (λ e. step.Take r e) (option_and_then number taken))
    (option_and_then number replica)

-- A step: an object with exactly the keys of a call, or with exactly those of a taking.
abbrev pub step_of : Data → Option Step
step_of v =
    if has_exactly call_keys v
    then call_from (get (codes "replica") v) (get (codes "call") v) (get (codes "args") v)
    else (if has_exactly taking_keys v
    then taking_from (get (codes "replica") v) (get (codes "take") v) else None)

-- the step of this number, or the fault there
abbrev pub at_step : ℕ → Option Step → Checked Step
at_step k None = Err (refused.Shape (path.Step k))
at_step k (Some s) = Ok s

-- the steps, numbered on from here
abbrev pub steps_at : ℕ → Items → Checked (List Step)
steps_at k no_items = Ok []
steps_at k (item v vs) = with_first (at_step k (step_of v)) (steps_at (suc k) vs)

-- A list of at most 10,000 steps.
abbrev pub steps_of : Option Data → Checked (List Step)
steps_of v =
    with_some (option_and_then as_array v) (refused.Shape path.Steps)
    (λ vs. need (nat_le (items_len vs) most_steps) (refused.Size path.Steps) (steps_at 0 vs))
