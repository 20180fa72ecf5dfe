-- What names mean. All names that are declared for the whole specification share one scope, each from its own word on.
-- Parameters are in scope in their operation, and variables in their formula.
use Rattle.std.specs.Prelude.{ℕ, Bool, true, false, ◌||◌, if◌then◌else◌, List, [], ◌∷◌, map, Option, None, Some, is_some, unwrap_or}
use Rattle.std.specs.List.{list_any}
use Rattle.std.specs.Str.{bytes_eq}
use Rattle.spec_core.specs.declared.operation.Kind.{Kind}
use Rattle.spec_core.specs.declared.operation.Kind.TheVariants as kind
use Rattle.spec_core.specs.declared.operation.Param.{Param as Parameter}
use Rattle.spec_core.specs.Specification.{Specification}
use Rattle.spec_trees.specs.declared.tree.Mark.{Mark}
use Rattle.spec_trees.specs.declared.tree.Param.{Param}
use Rattle.spec_trees.specs.declared.tree.ParamKind.{ParamKind}
use Rattle.spec_trees.specs.declared.tree.ParamKind.TheVariants as kinds
use Rattle.spec_trees.specs.declared.tree.Variable.{Variable}
use Rattle.typing_rules.specs.declared.meaning.Meaning.{Meaning}
use Rattle.typing_rules.specs.declared.meaning.Meaning.TheVariants as meaning
use Rattle.typing_rules.specs.Fault.{Fault, ◌otherwise◌, unknown_at, twice_at, kind_at}

-- what each name means that is declared for the whole specification
abbrev pub Names : Type 0
Names = List ℕ → Option Meaning

-- no name is declared
abbrev pub no_names : Names
no_names = λ name. None

-- one more name is declared
abbrev pub with_name : Names → List ℕ → Meaning → Names
with_name names name m = λ other. if bytes_eq other name then Some m else names other

-- What is in scope at a place: what was declared for the whole specification so far, the specification of it, and the
-- parameters and variables.
pub record Scope : Type 0 where
  pub design : Specification
  pub names : Names
  pub params : List Param
  pub vars : List Variable

-- the name of a parameter
abbrev pub is_param : List ℕ → List Param → Bool
is_param name ps = list_any (λ p. bytes_eq p.name.text name) ps

-- the name of a variable
abbrev pub is_var : List ℕ → List Variable → Bool
is_var name vs = list_any (λ v. bytes_eq v.name.text name) vs

-- A name is in scope where it is declared for the whole specification, or is a parameter or a variable.
abbrev pub in_scope : Scope → List ℕ → Bool
in_scope sc name = is_some (sc.names name) || is_param name sc.params || is_var name sc.vars

-- a name that isn't what its place needs: unknown where it isn't in scope
abbrev pub stranger_fault : Scope → Mark → Option Fault
stranger_fault sc m = if in_scope sc m.text then kind_at m else unknown_at m

-- a name that is declared while it is in scope
abbrev pub declared_fault : Scope → Mark → Option Fault
declared_fault sc m = if in_scope sc m.text then twice_at m else None

-- ---- what a name of the whole specification is

-- the sort that it is, where it is one
abbrev pub sort_meant : Option Meaning → Option ℕ
sort_meant (Some (meaning.Sort k)) = Some k
sort_meant _ = None

-- the constant that it is
abbrev pub const_meant : Option Meaning → Option ℕ
const_meant (Some (meaning.Const k)) = Some k
const_meant _ = None

-- the relation that it is
abbrev pub relation_meant : Option Meaning → Option ℕ
relation_meant (Some (meaning.Relation k)) = Some k
relation_meant _ = None

-- the counter that it is
abbrev pub counter_meant : Option Meaning → Option ℕ
counter_meant (Some (meaning.Counter k)) = Some k
counter_meant _ = None

-- the token that it is
abbrev pub token_meant : Option Meaning → Option ℕ
token_meant (Some (meaning.Token k)) = Some k
token_meant _ = None

-- ---- sorts

-- what is no sort stands for the first one, and is refused
abbrev pub sort_number : Names → Mark → ℕ
sort_number names m = unwrap_or (sort_meant (names m.text)) 0

-- A name that needs to be a sort; the name that is being declared is in scope already.
abbrev pub sort_fault_at : Scope → List ℕ → Mark → Option ℕ → Option Fault
sort_fault_at sc own m (Some k) = None
sort_fault_at sc own m None = if bytes_eq m.text own then kind_at m else stranger_fault sc m

-- what is wrong with a name that needs to be a sort, by its meaning in scope
abbrev pub sort_fault : Scope → List ℕ → Mark → Option Fault
sort_fault sc own m = sort_fault_at sc own m (sort_meant (sc.names m.text))

-- the sort of a variable
abbrev pub var_sort : Names → Variable → ℕ
var_sort names v = sort_number names v.sort

-- the sorts of some variables
abbrev pub var_sorts : Names → List Variable → List ℕ
var_sorts names vs = map (var_sort names) vs

-- the kind of a parameter
abbrev pub kind_of : Names → ParamKind → Kind
kind_of names (kinds.Sort m) = kind.Sort (sort_number names m)
kind_of names kinds.Int = kind.Int

-- a parameter with its kind
abbrev pub param_of : Names → Param → Parameter
param_of names p = record { name = p.name.text; kind = kind_of names p.kind }

-- the parameters with their kinds
abbrev pub params_of : Names → List Param → List Parameter
params_of names ps = map (param_of names) ps
