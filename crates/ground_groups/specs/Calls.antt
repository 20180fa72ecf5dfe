-- The constants of an obligation, as a program holds them.
use Rattle.std.specs.Prelude.{[], map}
use Rattle.spec_core.specs.Specification.{Specification}
use Rattle.obligation_list.specs.declared.obligation.Obligation.{Obligation}
use Rattle.ground_problem.specs.Constants.{Constants}
use Rattle.ground_numbers.specs.Problem.{arguments_of}
use Rattle.ground_atoms.specs.Formulas.{consts_of_args}
use Rattle.ground_atoms.specs.Known.{Known}
use Rattle.ground_groups.specs.declared.gathering.Named.{Named}

-- the constants that a program holds
abbrev pub constants_in : Named → Constants
constants_in c = record {
  sorts = c.sorts;
  params = map (λ g. consts_of_args g.args) c.calls;
  chosen = c.chosen;
  elements = c.elements;
}

-- what is known once the whole numbers among the arguments have numbers
abbrev pub numbered_arguments : Specification → Obligation → Known
numbered_arguments d ob =
    record { table = record { atoms = []; ints = arguments_of d ob }; named = [] }
