-- Small problems, computed: two calls that raise a flag, and a sale after another sale; parts that are named, and names without a row.
use Rattle.std.specs.Prelude.{◌≡◌, ℤ, pos, negsuc, true, false, List, [], ◌∷◌, ℕ}
use Rattle.std.proofs.Common.{refl}
use Rattle.spec_core.specs.declared.formula.Elem.TheVariants.{Param, Var}
use Rattle.spec_core.specs.declared.formula.Cmp.TheVariants.{AtLeast}
use Rattle.spec_core.specs.declared.formula.Body.TheVariants as body
use Rattle.spec_core.specs.declared.line.Prefix.TheVariants.{Plain, Forall}
use Rattle.spec_core.specs.declared.operation.Kind.TheVariants.{Sort, Int}
use Rattle.spec_core.specs.declared.operation.Operation.{Operation}
use Rattle.spec_core.specs.declared.update.Thing.TheVariants as thing
use Rattle.spec_core.specs.declared.update.Spot.TheVariants.{One}
use Rattle.spec_core.specs.declared.update.Change.TheVariants.{Insert, Add}
use Rattle.spec_core.specs.Form.{true_form, has_form, compare_form}
use Rattle.spec_core.specs.Line.{Line}
use Rattle.spec_core.specs.Specification.{Specification}
use Rattle.obligation_list.specs.declared.obligation.Obligation.TheVariants.{Commute, Stable}
use Rattle.lin_rows.specs.declared.term.RowTerm.{RowTerm}
use Rattle.lin_rows.specs.Rows.{Row}
use Rattle.proof_lines.specs.declared.clause.Lit.{Lit}
use Rattle.proof_lines.specs.declared.problem.AtomKind.TheVariants as atom
use Rattle.proof_lines.specs.Clauses.{lit_of}
use Rattle.ground_problem.specs.Symbols.{Integer, argument, reading, number, multiple, at_most}
use Rattle.ground_numbers.specs.Numbered.{Numbered, known, literal, negation, conjunction, disjunction}
use Rattle.ground_numbers.specs.Steps.{steps}
use Rattle.ground_numbers.specs.Clauses.{all_clauses}
use Rattle.ground_numbers.specs.Numbers.{same_atom, has_atom, row_atom}
use Rattle.ground_numbers.specs.Problem.{table_of, problem_of}

-- ---- a flag that is up, and an operation that raises it

flag : Specification
flag = record {
  version = 1;
  sorts = [];
  consts = [];
  relations = record { name = []; places = []; initial = true } ∷ [];
  counters = [];
  tokens = [];
  rules = [];
  invariants = record { name = []; line = record { prefix = Plain; vars = []; body = has_form 0 [] } } ∷ [];
  operations = record { name = []; params = []; requires_ = []; updates = record { thing = thing.Relation 0; at = []; change = Insert; guard = true_form } ∷ []; takes = []; observes = [] } ∷ [];
}

yes : ℕ → Lit
yes n = lit_of n true

nay : ℕ → Lit
nay n = lit_of n false

-- The flag at the entry, after both calls in either order, and after one of them, are the atoms 0 to 4; 5 and 6 name parts.
flag-problem : problem_of flag (Commute 0 0 (thing.Relation 0)) ≡ record {
  atoms = atom.Plain ∷ atom.Plain ∷ atom.Plain ∷ atom.Plain ∷ atom.Plain ∷ atom.Plain ∷ atom.Plain ∷ [];
  ints = 0;
  clauses =
      (yes 0 ∷ [])
      ∷ (yes 5 ∷ yes 6 ∷ [])
      ∷ (nay 5 ∷ yes 1 ∷ [])
      ∷ (nay 5 ∷ nay 2 ∷ [])
      ∷ (nay 6 ∷ nay 1 ∷ [])
      ∷ (nay 6 ∷ yes 2 ∷ [])
      ∷ (yes 1 ∷ [])
      ∷ (yes 2 ∷ [])
      ∷ (yes 3 ∷ [])
      ∷ (yes 4 ∷ [])
      ∷ [];
}
unfolding flag yes nay
flag-problem = refl

flag-table : table_of flag (Commute 0 0 (thing.Relation 0)) ≡ record {
  atoms = has_atom [] 0 [] ∷ has_atom (1 ∷ 0 ∷ []) 0 [] ∷ has_atom (0 ∷ 1 ∷ []) 0 [] ∷ has_atom (0 ∷ []) 0 [] ∷ has_atom (1 ∷ []) 0 [] ∷ [];
  ints = [];
}
unfolding flag
flag-table = refl

-- ---- a stock of each product, and a sale that needs enough of it

abbrev enough : Line
enough = record { prefix = Plain; vars = []; body = compare_form (record { summands = record { coef = pos 1; body = body.Count 0 (Param 0 ∷ []) } ∷ [] }) AtLeast (record { summands = record { coef = pos 1; body = body.Param 1 } ∷ [] }) }

abbrev sale : Operation
sale = record {
  name = [];
  params = record { name = []; kind = Sort 0 } ∷ record { name = []; kind = Int } ∷ [];
  requires_ = enough ∷ [];
  updates = record { thing = thing.Counter 0; at = One (Param 0) ∷ []; change = Add (record { summands = record { coef = negsuc 0; body = body.Param 1 } ∷ [] }); guard = true_form } ∷ [];
  takes = record { token = 0; args = Param 0 ∷ []; shared = false } ∷ [];
  observes = [];
}

shop : Specification
shop = record {
  version = 1;
  sorts = [] ∷ [];
  consts = [];
  relations = [];
  counters = record { name = []; keys = 0 ∷ []; initial = pos 0 } ∷ [];
  tokens = record { name = []; places = 0 ∷ [] } ∷ [];
  rules = record { left = record { token = 0; vars = 0 ∷ [] }; right = record { token = 0; vars = 0 ∷ [] } } ∷ [];
  invariants = record { name = []; line = record { prefix = Forall; vars = 0 ∷ []; body = compare_form (record { summands = record { coef = pos 1; body = body.Count 0 (Var 0 ∷ []) } ∷ [] }) AtLeast (record { summands = record { coef = pos 0; body = body.One } ∷ [] }) } } ∷ [];
  operations = sale ∷ [];
}

-- a row that a sum is at most a number
row : List RowTerm → ℤ → Row
row ts n = record { terms = ts; bound = n }

one : ℕ → RowTerm
one n = record { place = n; coef = pos 1 }

less : ℕ → RowTerm
less n = record { place = n; coef = negsuc 0 }

-- The amounts of both sales are the integers 0 and 1, the stocks at the entry 2 and 3, the stock after the second sale 4.
shop-table : table_of shop (Stable 0 0 0) ≡ record {
  atoms =
      row_atom (row (less 2 ∷ []) (pos 0))
      ∷ row_atom (row (less 3 ∷ []) (pos 0))
      ∷ row_atom (row (one 0 ∷ less 2 ∷ []) (pos 0))
      ∷ row_atom (row (one 1 ∷ less 3 ∷ []) (pos 0))
      ∷ same_atom 0 1
      ∷ row_atom (row (one 0 ∷ less 4 ∷ []) (pos 0))
      ∷ row_atom (row (one 1 ∷ less 2 ∷ one 4 ∷ []) (pos 0))
      ∷ row_atom (row (less 1 ∷ one 2 ∷ less 4 ∷ []) (pos 0))
      ∷ row_atom (row (less 2 ∷ one 4 ∷ []) (pos 0))
      ∷ row_atom (row (one 2 ∷ less 4 ∷ []) (pos 0))
      ∷ row_atom (row (one 2 ∷ less 3 ∷ []) (pos 0))
      ∷ row_atom (row (less 2 ∷ one 3 ∷ []) (pos 0))
      ∷ [];
  ints = argument 0 1 ∷ argument 1 1 ∷ reading [] 0 (0 ∷ []) ∷ reading [] 0 (1 ∷ []) ∷ reading (1 ∷ []) 0 (0 ∷ []) ∷ [];
}
unfolding shop row one less
shop-table = refl

-- The three equalities of sums that stand in an "or" are named by the atoms 12 to 14.
shop-clauses : (problem_of shop (Stable 0 0 0)).clauses ≡
    (yes 0 ∷ [])
    ∷ (yes 1 ∷ [])
    ∷ (yes 2 ∷ [])
    ∷ (yes 3 ∷ [])
    ∷ (nay 4 ∷ [])
    ∷ (nay 4 ∷ [])
    ∷ (nay 5 ∷ [])
    ∷ (nay 4 ∷ yes 12 ∷ [])
    ∷ (nay 12 ∷ yes 6 ∷ [])
    ∷ (nay 12 ∷ yes 7 ∷ [])
    ∷ (yes 4 ∷ yes 13 ∷ [])
    ∷ (nay 13 ∷ yes 8 ∷ [])
    ∷ (nay 13 ∷ yes 9 ∷ [])
    ∷ (nay 4 ∷ yes 14 ∷ [])
    ∷ (nay 14 ∷ yes 10 ∷ [])
    ∷ (nay 14 ∷ yes 11 ∷ [])
    ∷ []
unfolding shop yes nay
shop-clauses = refl

-- ---- parts of parts

abbrev atom_true : ℕ → Numbered
atom_true n = literal n true

-- An "or" of two "and"s and a literal, the first of which holds an "or" with an "and" of its own; then a negation, an "or" that says
-- one thing twice, one that says nothing, and one more "and" in an "or".
nested : List Numbered
nested =
    conjunction (disjunction (conjunction (conjunction (atom_true 0) (atom_true 1)) (disjunction (atom_true 2) (conjunction (atom_true 3) (atom_true 4)))) (disjunction (conjunction (atom_true 5) (negation (atom_true 6))) (atom_true 0))) (known true)
    ∷ negation (disjunction (atom_true 0) (conjunction (atom_true 1) (atom_true 2)))
    ∷ disjunction (atom_true 3) (atom_true 3)
    ∷ disjunction (known false) (negation (known true))
    ∷ disjunction (conjunction (atom_true 1) (atom_true 2)) (atom_true 5)
    ∷ []

nested-clauses : all_clauses 7 nested ≡
    (yes 7 ∷ yes 8 ∷ yes 0 ∷ [])
    ∷ (nay 7 ∷ yes 0 ∷ [])
    ∷ (nay 7 ∷ yes 1 ∷ [])
    ∷ (nay 7 ∷ yes 2 ∷ yes 9 ∷ [])
    ∷ (nay 9 ∷ yes 3 ∷ [])
    ∷ (nay 9 ∷ yes 4 ∷ [])
    ∷ (nay 8 ∷ yes 5 ∷ [])
    ∷ (nay 8 ∷ nay 6 ∷ [])
    ∷ (nay 0 ∷ [])
    ∷ (nay 1 ∷ nay 2 ∷ [])
    ∷ (yes 3 ∷ [])
    ∷ []
    ∷ (yes 10 ∷ yes 5 ∷ [])
    ∷ (nay 10 ∷ yes 1 ∷ [])
    ∷ (nay 10 ∷ yes 2 ∷ [])
    ∷ []
unfolding nested yes nay
nested-clauses = refl

-- ---- names without a row

abbrev first_argument : Integer
first_argument = argument 0 0

abbrev second_argument : Integer
second_argument = argument 0 1

-- 2x + 3 - 2x <= y - y + 2 is false and no atom; x and y have numbers all the same.
cancelled : steps (record { atoms = []; ints = [] }) (at_most (multiple (pos 2) first_argument ∷ number (pos 3) ∷ multiple (negsuc 1) first_argument ∷ []) (multiple (pos 1) second_argument ∷ multiple (negsuc 0) second_argument ∷ []) (pos 2))
    ≡ record { table = record { atoms = []; ints = first_argument ∷ second_argument ∷ [] }; form = known false }
cancelled = refl

-- x + 3 < y - x + 1 is 2x - y <= -3.
added : steps (record { atoms = []; ints = [] }) (at_most (multiple (pos 1) first_argument ∷ number (pos 3) ∷ []) (multiple (pos 1) second_argument ∷ multiple (negsuc 0) first_argument ∷ number (pos 1) ∷ []) (negsuc 0))
    ≡ record { table = record { atoms = row_atom (row (record { place = 0; coef = pos 2 } ∷ less 1 ∷ []) (negsuc 2)) ∷ []; ints = first_argument ∷ second_argument ∷ [] }; form = literal 0 true }
unfolding row less
added = refl
