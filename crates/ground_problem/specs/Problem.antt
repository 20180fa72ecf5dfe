-- The problem of an obligation: a list of formulas that some interpretation makes true exactly where something breaks it.
use Rattle.std.specs.Prelude.{ℕ, List, ◌++◌}
use Rattle.spec_core.specs.Specification.{Specification}
use Rattle.obligation_list.specs.declared.obligation.Obligation.{Obligation}
use Rattle.obligation_list.specs.Obligations.{things}
use Rattle.ground_problem.specs.Symbols.{Symbolic}
use Rattle.ground_problem.specs.Constants.{Constants, constants_of}
use Rattle.ground_problem.specs.Entry.{before_conclusion}
use Rattle.ground_problem.specs.Conclusion.{conclusion}
use Rattle.ground_problem.specs.Definitions.{readings_after, with_definitions}
use Rattle.ground_problem.specs.Equality.{equality, congruence}

-- what is true at the entry, and that the conclusion fails
abbrev pub stated : Specification → Obligation → Constants → List Symbolic
stated d ob z = before_conclusion d ob z ++ conclusion d ob z

-- What is stated, with the definitions of all later readings that the list so far names, in the order in which it first names them. A
-- definition names the reading itself and readings of the stage before. Before the definitions there are readings after two
-- calls and none after one, or none after two. So those after two calls come first.
abbrev pub defined : Specification → Obligation → Constants → List Symbolic
defined d ob z = with_definitions d ob z 1 (with_definitions d ob z 2 (stated d ob z))

-- The formulas of an obligation, in their order.
abbrev pub formulas_of : Specification → Obligation → List Symbolic
formulas_of d ob =
    let z = constants_of d ob in
    let list = defined d ob z in
    list ++ (equality 0 z.sorts ++ congruence (readings_after 0 list) (things d))

-- The greatest number of formulas with which an obligation is decided.
abbrev pub most_formulas : ℕ
most_formulas = 20000
