-- The problem of an obligation: clauses over numbered atoms.
use Rattle.std.specs.Prelude.{ℕ, suc, pos, Bool, cond, ◌&&◌, List, [], ◌∷◌, ◌++◌, map, length, replicate}
use Rattle.std.specs.List.{list_all}
use Rattle.spec_core.specs.declared.operation.Param.{Param as Parameter}
use Rattle.spec_core.specs.Specification.{Specification}
use Rattle.spec_core.specs.Typed.{is_int}
use Rattle.obligation_list.specs.declared.obligation.Obligation.{Obligation}
use Rattle.proof_lines.specs.declared.problem.AtomKind.{AtomKind}
use Rattle.proof_lines.specs.declared.problem.AtomKind.TheVariants.{Plain, Row as OfRow}
use Rattle.proof_lines.specs.Problems.{PlainProblem, names_below, Meaning}
use Rattle.ground_problem.specs.Symbols.{Integer, argument, Interpretation}
use Rattle.ground_problem.specs.Constants.{params_of}
use Rattle.ground_problem.specs.Problem.{formulas_of}
use Rattle.ground_numbers.specs.Numbered.{Numbered}
use Rattle.ground_numbers.specs.Numbers.{Atom, same_atom, has_atom, row_atom, Table, has_number, has_integer, number_of, integer_of, numbered, naming_all}
use Rattle.ground_numbers.specs.Clauses.{all_names, all_clauses}

-- ---- the table of an obligation

-- the parameters that are whole numbers, where the first of these parameters has this number
abbrev pub numbers_from : ℕ → List Parameter → List ℕ
numbers_from n [] = []
numbers_from n (p ∷ ps) =
    cond (is_int p.kind) (n ∷ numbers_from (suc n) ps) (numbers_from (suc n) ps)

-- the whole numbers among the arguments of calls, the first of which has this place
abbrev pub arguments_from : ℕ → List (List Parameter) → List Integer
arguments_from n [] = []
arguments_from n (ps ∷ more) = map (argument n) (numbers_from 0 ps) ++ arguments_from (suc n) more

-- The whole numbers among the arguments are the first integers, call by call, whether a formula names them or not.
abbrev pub arguments_of : Specification → Obligation → List Integer
arguments_of d ob = arguments_from 0 (params_of d ob)

-- The table of an obligation: then come all others, in the order in which its formulas first name them.
abbrev pub table_of : Specification → Obligation → Table
table_of d ob = naming_all (record { atoms = []; ints = arguments_of d ob }) (formulas_of d ob)

-- Its formulas over these numbers.
abbrev pub numbered_of : Specification → Obligation → List Numbered
numbered_of d ob = map (numbered (table_of d ob)) (formulas_of d ob)

-- ---- the problem

-- an atom of the problem: plain, or with its row
abbrev pub kind_of : Atom → AtomKind
kind_of (same_atom a b) = Plain
kind_of (has_atom k r t) = Plain
kind_of (row_atom r) = OfRow r

-- the places of the rows of a table are numbers of its integers
abbrev pub rows_placed : Table → Bool
rows_placed o = list_all (names_below (length o.ints)) (map kind_of o.atoms)

-- The problem of formulas over the numbers of a table: the atoms keep their numbers, and after them come those that name parts.
abbrev pub problem : Table → List Numbered → PlainProblem
problem o fs = record {
  atoms = map kind_of o.atoms ++ replicate (all_names fs) Plain;
  ints = length o.ints;
  clauses = all_clauses (length o.atoms) fs;
}

-- The problem of an obligation.
abbrev pub problem_of : Specification → Obligation → PlainProblem
problem_of d ob = problem (table_of d ob) (numbered_of d ob)

-- ---- numbers read as names

-- What a meaning of the numbers says of what they stand for; what has no number is false or 0.
abbrev pub interpretation_of : Table → Meaning → Interpretation
interpretation_of o m = record {
  same = λ a b. has_number o (same_atom a b) && m.truth (number_of o (same_atom a b));
  has = λ k r t. has_number o (has_atom k r t) && m.truth (number_of o (has_atom k r t));
  int = λ x. cond (has_integer o x) (m.number (integer_of o x)) (pos 0);
}
