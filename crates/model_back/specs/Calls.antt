-- The calls of a witness, from calls at constants and at names of whole numbers.
use Rattle.std.specs.Prelude.{ℕ, ℤ, pos, map}
use Rattle.spec_core.specs.declared.world.Call.{Call}
use Rattle.ground_atoms.specs.declared.call.GroundArg.{GroundArg}
use Rattle.ground_atoms.specs.declared.call.GroundArg.TheVariants as arg
use Rattle.ground_atoms.specs.declared.call.GroundCall.{GroundCall}

-- an argument: the element of a constant, or the value of a name
abbrev pub argument_by : (ℕ → ℕ) → (ℕ → ℤ) → GroundArg → ℤ
argument_by element value (arg.Elem c) = pos (element c)
argument_by element value (arg.Int n) = value n

-- a call: its operation at these values of its arguments
abbrev pub call_by : (ℕ → ℕ) → (ℕ → ℤ) → GroundCall → Call
call_by element value g = record { op = g.op; args = map (argument_by element value) g.args }
