-- The generated specifications: a chain of relations over one sort, in which each needs the one before it.
use Rattle.std.specs.Prelude.{ℕ, ◌+◌, ◌-◌, nat_lt, false, if◌then◌else◌, List, [], ◌∷◌, ◌++◌, map, codes}
use Rattle.std.specs.List.{flat_map}
use Rattle.std.specs.Fmt.{decimal}
use Rattle.spec_core.specs.declared.formula.Elem.TheVariants as elem
use Rattle.spec_core.specs.declared.line.Prefix.TheVariants.{Plain, Forall}
use Rattle.spec_core.specs.declared.operation.Kind.TheVariants as kind
use Rattle.spec_core.specs.declared.operation.Param.{Param}
use Rattle.spec_core.specs.declared.operation.Take.{Take}
use Rattle.spec_core.specs.declared.operation.Operation.{Operation}
use Rattle.spec_core.specs.declared.update.Thing.TheVariants as thing
use Rattle.spec_core.specs.declared.update.Spot.TheVariants.{One}
use Rattle.spec_core.specs.declared.update.Change.{Change}
use Rattle.spec_core.specs.declared.update.Change.TheVariants.{Insert, Remove}
use Rattle.spec_core.specs.declared.spec.Relation.{Relation}
use Rattle.spec_core.specs.declared.spec.Token.{Token}
use Rattle.spec_core.specs.declared.spec.Pattern.{Pattern}
use Rattle.spec_core.specs.declared.spec.Rule.{Rule}
use Rattle.spec_core.specs.declared.spec.Invariant.{Invariant}
use Rattle.spec_core.specs.Form.{Form, true_form, not_form, implies_form, has_form}
use Rattle.spec_core.specs.Line.{Line}
use Rattle.spec_core.specs.UpdateLine.{UpdateLine}
use Rattle.spec_core.specs.Specification.{Specification}
use Rattle.spec_core.specs.World.{below}

-- a word with a number written behind it, as in `needs1`
abbrev pub numbered : List ℕ → ℕ → List ℕ
numbered word i = word ++ decimal i

-- the one sort, `Item`
abbrev pub item : ℕ
item = 0

-- the one token, `t`
abbrev pub t : ℕ
t = 0

-- ---- relations, the token and the invariants

-- `relation r(i) ( Item )`, false to begin with
abbrev pub relation_at : ℕ → Relation
relation_at i = record { name = numbered (codes "r") i; places = item ∷ []; initial = false }

-- `token t ( Item )`
abbrev pub the_token : Token
the_token = record { name = codes "t"; places = item ∷ [] }

-- `t ( x )`, in a rule
abbrev pub pattern : Pattern
pattern = record { token = t; vars = 0 ∷ [] }

-- `conflict t ( x ) t ( x )`
abbrev pub the_rule : Rule
the_rule = record { left = pattern; right = pattern }

-- `invariant needs(i) forall x : Item . ( r(i) ( x ) implies r(i-1) ( x ) )`
abbrev pub needs : ℕ → Invariant
needs i = record {
  name = numbered (codes "needs") i;
  line = record {
    prefix = Forall;
    vars = item ∷ [];
    body = implies_form (has_form i (elem.Var 0 ∷ [])) (has_form (i - 1) (elem.Var 0 ∷ []));
  };
}

-- ---- operations on one item x

-- the parameters `( x : Item )`
abbrev pub an_item : List Param
an_item = record { name = codes "x"; kind = kind.Sort item } ∷ []

-- `r(i) ( x )`
abbrev pub has_item : ℕ → Form
has_item i = has_form i (elem.Param 0 ∷ [])

-- a line `requires` without variables
abbrev pub requires_line : Form → Line
requires_line f = record { prefix = Plain; vars = []; body = f }

-- an update `insert r(i) ( x )` or `remove r(i) ( x )`
abbrev pub update_of : Change → ℕ → UpdateLine
update_of change i = record {
  thing = thing.Relation i;
  at = One (elem.Param 0) ∷ [];
  change = change;
  guard = true_form;
}

-- `takes t ( x )`
abbrev pub takes_item : Take
takes_item = record { token = t; args = elem.Param 0 ∷ []; shared = false }

-- an operation on one item, which takes the item's token
abbrev pub on_item : List ℕ → List Line → UpdateLine → Operation
on_item name requires_ update = record {
  name = name;
  params = an_item;
  requires_ = requires_;
  updates = update ∷ [];
  takes = takes_item ∷ [];
  observes = [];
}

-- `add(i)` puts x into r(i); from i = 1 on it `requires r(i-1) ( x )`
abbrev pub adding : ℕ → Operation
adding i =
    on_item (numbered (codes "add") i)
    (if nat_lt 0 i then requires_line (has_item (i - 1)) ∷ [] else []) (update_of Insert i)

-- `del(i)` takes x out of r(i); where there is a next relation, it `requires not r(i+1) ( x )`
abbrev pub deleting : ℕ → ℕ → Operation
deleting n i =
    on_item (numbered (codes "del") i)
    (if nat_lt (i + 1) n then requires_line (not_form (has_item (i + 1))) ∷ [] else [])
    (update_of Remove i)

-- ---- the whole

-- the numbers from 1 to n-1
abbrev pub from_one : ℕ → List ℕ
from_one n = map (λ i. i + 1) (below (n - 1))

-- The specification `sample n`: n relations, an invariant for each but the first, and two operations for each.
abbrev pub sample : ℕ → Specification
sample n = record {
  version = 1;
  sorts = codes "Item" ∷ [];
  consts = [];
  relations = map relation_at (below n);
  counters = [];
  tokens = the_token ∷ [];
  rules = the_rule ∷ [];
  invariants = map needs (from_one n);
  operations = flat_map (λ i. adding i ∷ deleting n i ∷ []) (below n);
}
