-- The calls of an obligation, as a program holds them.
use Rattle.std.specs.Prelude.{ℕ, suc, ◌+◌, cond, List, [], ◌∷◌, length}
use Rattle.spec_core.specs.declared.operation.Param.{Param as Parameter}
use Rattle.spec_core.specs.Specification.{Specification, op_of}
use Rattle.spec_core.specs.Typed.{is_int}
use Rattle.obligation_list.specs.declared.obligation.Obligation.{Obligation}
use Rattle.obligation_list.specs.Breaking.{operations_of}
use Rattle.ground_problem.specs.Constants.{sorts_of_params}
use Rattle.ground_atoms.specs.declared.call.GroundArg.{GroundArg}
use Rattle.ground_atoms.specs.declared.call.GroundArg.TheVariants.{Elem, Int}
use Rattle.ground_atoms.specs.declared.call.GroundCall.{GroundCall}

-- the constants and the integers that stand for parameters, where the first of each has this number
abbrev pub args_from : ℕ → ℕ → List Parameter → List GroundArg
args_from n i [] = []
args_from n i (p ∷ ps) =
    cond (is_int p.kind) (Int i ∷ args_from n (suc i) ps) (Elem n ∷ args_from (suc n) i ps)

-- how many of these parameters are whole numbers
abbrev pub ints_among : List Parameter → ℕ
ints_among [] = 0
ints_among (p ∷ ps) = cond (is_int p.kind) (suc (ints_among ps)) (ints_among ps)

-- the calls of these operations, where the first constant and the first whole number have these numbers
abbrev pub calls_from : Specification → ℕ → ℕ → List ℕ → List GroundCall
calls_from d n i [] = []
calls_from d n i (o ∷ os) =
    record { op = o; args = args_from n i (op_of d o).params }
    ∷ calls_from d (n + length (sorts_of_params (op_of d o).params))
    (i + ints_among (op_of d o).params) os

-- The calls of an obligation.
abbrev pub calls_of : Specification → Obligation → List GroundCall
calls_of d ob = calls_from d (length d.consts) 0 (operations_of ob)
