-- The definitions of readings, by the calls that a program holds.
use Rattle.std.specs.Prelude.{ℕ, ◌==◌, cond, List, [], get_or}
use Rattle.spec_core.specs.declared.update.Thing.{Thing}
use Rattle.spec_core.specs.declared.update.Thing.TheVariants as thing
use Rattle.spec_core.specs.Specification.{Specification}
use Rattle.ground_problem.specs.Symbols.{Symbolic}
use Rattle.ground_numbers.specs.Stages.{latest_call}
use Rattle.ground_atoms.specs.declared.call.GroundCall.{GroundCall}
use Rattle.stage_defs.specs.Settings.{has_definition, count_definition}

-- a call where there is none
abbrev pub no_call : GroundCall
no_call = record { op = 0; args = [] }

-- the call of a number
abbrev pub call_at : List GroundCall → ℕ → GroundCall
call_at calls n = get_or calls n no_call

-- the definition of a thing's reading at a numbered stage, which is one after this call
abbrev pub defined_at : Specification → GroundCall → ℕ → Thing → List ℕ → List Symbolic
defined_at d call k (thing.Relation r) t = has_definition d call k r t
defined_at d call k (thing.Counter i) t = count_definition d call k i t

-- the definition of a reading by its stage's latest call, none at the entry
abbrev pub defined_by : Specification → List GroundCall → ℕ → Thing → List ℕ → List Symbolic
defined_by d calls k x t = cond (k == 0) [] (defined_at d (call_at calls (latest_call k)) k x t)
