-- The specification of the bank is well formed.
use Rattle.std.proofs.Common.{◌≡◌, ℕ, true, List, [], refl, ◌∙◌, ap}
use Rattle.spec_core.specs.declared.operation.Operation.{Operation}
use Rattle.spec_core.specs.declared.spec.Const.{Const}
use Rattle.spec_core.specs.declared.spec.Relation.{Relation}
use Rattle.spec_core.specs.declared.spec.Counter.{Counter}
use Rattle.spec_core.specs.declared.spec.Token.{Token}
use Rattle.spec_core.specs.declared.spec.Rule.{Rule}
use Rattle.spec_core.specs.declared.spec.Invariant.{Invariant}
use Rattle.spec_core.specs.Specification.{Specification}
use Rattle.spec_core.specs.Typed.{is_specification}
use Rattle.bank_host.specs.Bank.{bank}

pub well : is_specification bank ≡ true
well = refl

-- ---- of its parts

abbrev of_parts : List (List ℕ) → List Const → List Relation → List Counter → List Token → List Rule → List Invariant → List Operation → Specification
of_parts sorts consts relations counters tokens rules invariants operations =
    record { version = 1; sorts = sorts; consts = consts; relations = relations; counters = counters; tokens = tokens; rules = rules; invariants = invariants; operations = operations }

pub parts_well : (sorts : List (List ℕ)) (consts : List Const) (relations : List Relation) (counters : List Counter) (tokens : List Token) (rules : List Rule) (invariants : List Invariant) (operations : List Operation)
    → sorts ≡ bank.sorts → consts ≡ [] → relations ≡ [] → counters ≡ bank.counters → tokens ≡ bank.tokens → rules ≡ bank.rules → invariants ≡ bank.invariants → operations ≡ bank.operations
    → is_specification (of_parts sorts consts relations counters tokens rules invariants operations) ≡ true
parts_well sorts consts relations counters tokens rules invariants operations a b c d e f g h = ap is_specification (λ i. of_parts (a i) (b i) (c i) (d i) (e i) (f i) (g i) (h i)) ∙ well
