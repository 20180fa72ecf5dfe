-- Specifications as plain data, and what stands at a place of one.
use Rattle.std.specs.Prelude.{ℕ, pos, false, List, [], get_or}
use Rattle.spec_core.specs.declared.spec.Const.{Const}
use Rattle.spec_core.specs.declared.spec.Relation.{Relation}
use Rattle.spec_core.specs.declared.spec.Counter.{Counter}
use Rattle.spec_core.specs.declared.spec.Token.{Token}
use Rattle.spec_core.specs.declared.spec.Rule.{Rule}
use Rattle.spec_core.specs.declared.spec.Invariant.{Invariant}
use Rattle.spec_core.specs.declared.operation.Operation.{Operation}
use Rattle.spec_core.specs.declared.update.Thing.{Thing}
use Rattle.spec_core.specs.declared.update.Thing.TheVariants as thing
use Rattle.spec_core.specs.declared.line.Prefix.TheVariants.{Plain}
use Rattle.spec_core.specs.Form.{true_form}
use Rattle.spec_core.specs.Line.{Line}

-- A specification: what it declares, the conflict rules, the invariants and the operations. Whatever refers to a
-- declared thing does so by its place in these lists.
pub record Specification : Type 0 where
  pub version : ℕ
  pub sorts : List (List ℕ)
  pub consts : List Const
  pub relations : List Relation
  pub counters : List Counter
  pub tokens : List Token
  pub rules : List Rule
  pub invariants : List Invariant
  pub operations : List Operation

-- what stands for a relation that isn't there
abbrev pub no_relation : Relation
no_relation = record { name = []; places = []; initial = false }

-- what stands for a counter that isn't there
abbrev pub no_counter : Counter
no_counter = record { name = []; keys = []; initial = pos 0 }

-- what stands for a token that isn't there
abbrev pub no_token : Token
no_token = record { name = []; places = [] }

-- what stands for an operation that isn't there
abbrev pub no_operation : Operation
no_operation =
    record { name = []; params = []; requires_ = []; updates = []; takes = []; observes = [] }

-- what stands for a line that isn't there
abbrev pub no_line : Line
no_line = record { prefix = Plain; vars = []; body = true_form }

-- what stands for an invariant that isn't there
abbrev pub no_invariant : Invariant
no_invariant = record { name = []; line = no_line }

-- the sorts of a relation's places
abbrev pub relation_places : Specification → ℕ → List ℕ
relation_places d k = (get_or d.relations k no_relation).places

-- the sorts of a counter's keys
abbrev pub counter_keys : Specification → ℕ → List ℕ
counter_keys d k = (get_or d.counters k no_counter).keys

-- the sorts of a token's places
abbrev pub token_places : Specification → ℕ → List ℕ
token_places d k = (get_or d.tokens k no_token).places

-- the sorts of the places of a relation, or of the keys of a counter
abbrev pub places_of : Specification → Thing → List ℕ
places_of d (thing.Relation k) = relation_places d k
places_of d (thing.Counter k) = counter_keys d k

-- the operation that a call names
abbrev pub op_of : Specification → ℕ → Operation
op_of d n = get_or d.operations n no_operation
