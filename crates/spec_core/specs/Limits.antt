-- The limits of the language: how many things of each kind there may be, and how large numbers may be.
use Rattle.std.specs.Prelude.{ℕ, ◌^◌}

-- ---- of a specification

-- how many sorts a specification has at most
abbrev pub most_sorts : ℕ
most_sorts = 8

-- constants of one sort
abbrev pub most_constants : ℕ
most_constants = 4

-- how many relations it has at most
abbrev pub most_relations : ℕ
most_relations = 16

-- places of a relation or a token
abbrev pub most_places : ℕ
most_places = 3

-- how many counters it has at most
abbrev pub most_counters : ℕ
most_counters = 8

-- keys of a counter
abbrev pub most_keys : ℕ
most_keys = 2

-- how many tokens it has at most
abbrev pub most_tokens : ℕ
most_tokens = 16

-- conflict rules
abbrev pub most_rules : ℕ
most_rules = 32

-- how many invariants it has at most
abbrev pub most_invariants : ℕ
most_invariants = 16

-- how many operations it has at most
abbrev pub most_operations : ℕ
most_operations = 24

-- ---- of an operation

-- how many parameters an operation has at most
abbrev pub most_parameters : ℕ
most_parameters = 6

-- lines of its precondition
abbrev pub most_requires : ℕ
most_requires = 8

-- how many updates it has at most
abbrev pub most_updates : ℕ
most_updates = 16

-- takings of tokens
abbrev pub most_takes : ℕ
most_takes = 4

-- lines of its observation
abbrev pub most_observes : ℕ
most_observes = 8

-- ---- of lines, formulas and names

-- variables of a line
abbrev pub most_variables : ℕ
most_variables = 3

-- summands of a term
abbrev pub most_summands : ℕ
most_summands = 16

-- parts of a formula
abbrev pub most_nodes : ℕ
most_nodes = 200

-- how deep they nest
abbrev pub most_depth : ℕ
most_depth = 200

-- bytes of a name
abbrev pub most_name_bytes : ℕ
most_name_bytes = 32

-- ---- of numbers

-- the size of a literal or a coefficient
abbrev pub greatest_literal : ℕ
greatest_literal = 10 ^ 9

-- the size of a value in a state, and of an argument
abbrev pub greatest_value : ℕ
greatest_value = 10 ^ 15

-- the elements of a sort in a world
abbrev pub most_elements : ℕ
most_elements = 100
