-- What a formula of the specification is read in: the readings, the call, and the constants of its parameters.
use Rattle.std.specs.Prelude.{◌≡◌, ℕ, List}
use Rattle.spec_core.specs.declared.update.Thing.TheVariants as thing
use Rattle.spec_core.specs.Specification.{Specification, op_of}
use Rattle.ground_problem.specs.Symbols.{Symbolic, has}
use Rattle.ground_problem.specs.Formulas.{Caller, Readings, at_stage, at_start}
use Rattle.ground_problem.specs.Definitions.{define_has, define_count, has_updated, updates_of}
use Rattle.ground_numbers.specs.Stages.{stage_of, stage_before, latest_call}
use Rattle.ground_atoms.specs.Known.{Known}
use Rattle.ground_atoms.specs.Making.{make}
use Rattle.ground_atoms.specs.Formulas.{form_of, consts_of_args}
use Rattle.ground_atoms.specs.declared.call.GroundCall.{GroundCall}
use Rattle.ground_atoms.specs.declared.formula.GroundFormula.{GroundFormula}
use Rattle.stage_defs.specs.declared.setting.Stage.{Stage}
use Rattle.stage_defs.specs.declared.setting.Stage.TheVariants.{Initial, Numbered}
use Rattle.stage_defs.specs.declared.setting.Setting.{Setting}
use Rattle.stage_defs.specs.declared.defined.Defined.{Defined}

-- the readings of the initial state, or those at a stage
abbrev pub readings_of : Specification → Stage → Readings
readings_of d Initial = at_start d
readings_of d (Numbered k) = at_stage (stage_of k)

-- the readings of a setting
abbrev pub readings_in : Setting → Readings
readings_in s = readings_of s.spec.now s.stage

-- the call of a setting, with the constants of its parameters
abbrev pub caller_in : Setting → Caller
caller_in s = record { call = s.call; params = consts_of_args s.args.now }

-- a program's formula is this one, made from left to right
abbrev pub IsMade : Known → Symbolic → Known → GroundFormula → Type 0
IsMade old f new made = make old f ≡ record { known = new; form = form_of made }

-- ---- definitions of the readings at a stage after the entry, by the call that it follows

-- the call that led to a stage, with the constants of its parameters
abbrev pub caller_at : GroundCall → ℕ → Caller
caller_at call k = record { call = latest_call k; params = consts_of_args call.args }

-- the readings at the stage before
abbrev pub before : ℕ → Readings
before k = at_stage (stage_of (stage_before k))

-- what defines a relation's reading at a stage
abbrev pub has_definition : Specification → GroundCall → ℕ → ℕ → List ℕ → List Symbolic
has_definition d call k r t =
    define_has (before k) (caller_at call k) (op_of d call.op).updates (has (stage_of k) r t) r t

-- what defines a counter's reading at a stage
abbrev pub count_definition : Specification → GroundCall → ℕ → ℕ → List ℕ → List Symbolic
count_definition d call k i t =
    define_count (before k) (caller_at call k) (op_of d call.op).updates (stage_of k) i t

-- a relation's reading at the stage itself
abbrev pub itself : Defined → Symbolic
itself q = has (stage_of q.stage) q.number q.tuple.now

-- what defines a reading, where it is a relation's
abbrev pub has_defined : Defined → List Symbolic
has_defined q =
    define_has (readings_in q.before) (caller_in q.before) q.updates.now (itself q) q.number
    q.tuple.now

-- what defines a reading, where it is a counter's
abbrev pub count_defined : Defined → List Symbolic
count_defined q =
    define_count (readings_in q.before) (caller_in q.before) q.updates.now (stage_of q.stage)
    q.number q.tuple.now

-- what the updates make of a relation's reading
abbrev pub updated_by : Defined → Symbolic
updated_by q =
    has_updated (readings_in q.before) (caller_in q.before) q.tuple.now
    (updates_of (thing.Relation q.number) q.updates.now)
    ((readings_in q.before).has q.number q.tuple.now)
