-- Small problems, computed: two calls that raise a flag commute; after another sale there is still enough to sell, and without the
-- conflict rule there isn't.
use Rattle.std.specs.Prelude.{◌≡◌, ℤ, pos, negsuc, true, false, List, [], ◌∷◌, ◌++◌, ℕ}
use Rattle.std.proofs.Common.{refl}
use Rattle.spec_core.specs.declared.formula.Elem.TheVariants.{Param, Var}
use Rattle.spec_core.specs.declared.formula.Cmp.TheVariants.{AtLeast}
use Rattle.spec_core.specs.declared.formula.Body.TheVariants as body
use Rattle.spec_core.specs.declared.line.Prefix.TheVariants.{Plain, Forall}
use Rattle.spec_core.specs.declared.operation.Kind.TheVariants.{Sort, Int}
use Rattle.spec_core.specs.declared.operation.Operation.{Operation}
use Rattle.spec_core.specs.declared.update.Thing.TheVariants as thing
use Rattle.spec_core.specs.declared.update.Spot.TheVariants.{One}
use Rattle.spec_core.specs.declared.update.Change.TheVariants.{Insert, Add}
use Rattle.spec_core.specs.Form.{true_form, has_form, compare_form}
use Rattle.spec_core.specs.Line.{Line}
use Rattle.spec_core.specs.Specification.{Specification}
use Rattle.obligation_list.specs.declared.obligation.Obligation.TheVariants.{Commute, Stable}
use Rattle.ground_problem.specs.Symbols.{Integer, argument, reading, partial, number, multiple, Symbolic, always, same, has, at_most, negated, both, either, equal, Interpretation, all_true}
use Rattle.ground_problem.specs.Problem.{formulas_of}

-- ---- a flag that is up, and an operation that raises it

flag : Specification
flag = record {
  version = 1;
  sorts = [];
  consts = [];
  relations = record { name = []; places = []; initial = true } ∷ [];
  counters = [];
  tokens = [];
  rules = [];
  invariants = record { name = []; line = record { prefix = Plain; vars = []; body = has_form 0 [] } } ∷ [];
  operations = record { name = []; params = []; requires_ = []; updates = record { thing = thing.Relation 0; at = []; change = Insert; guard = true_form } ∷ []; takes = []; observes = [] } ∷ [];
}

-- what the flag reads after a raise is true or what it read before
defined_by : List ℕ → List ℕ → List Symbolic
defined_by after before =
    either (negated (has after 0 [])) (either (always true) (has before 0 []))
    ∷ either (has after 0 []) (negated (either (always true) (has before 0 [])))
    ∷ []

flag-commutes : formulas_of flag (Commute 0 0 (thing.Relation 0)) ≡
    has [] 0 []
    ∷ either (both (has (1 ∷ 0 ∷ []) 0 []) (negated (has (0 ∷ 1 ∷ []) 0 []))) (both (negated (has (1 ∷ 0 ∷ []) 0 [])) (has (0 ∷ 1 ∷ []) 0 []))
    ∷ (defined_by (1 ∷ 0 ∷ []) (0 ∷ []) ++ defined_by (0 ∷ 1 ∷ []) (1 ∷ []) ++ defined_by (0 ∷ []) [] ++ defined_by (1 ∷ []) [])
unfolding flag defined_by
flag-commutes = refl

-- ---- a stock of each product, and a sale that needs enough of it

abbrev enough : Line
enough = record { prefix = Plain; vars = []; body = compare_form (record { summands = record { coef = pos 1; body = body.Count 0 (Param 0 ∷ []) } ∷ [] }) AtLeast (record { summands = record { coef = pos 1; body = body.Param 1 } ∷ [] }) }

abbrev sale : Operation
sale = record {
  name = [];
  params = record { name = []; kind = Sort 0 } ∷ record { name = []; kind = Int } ∷ [];
  requires_ = enough ∷ [];
  updates = record { thing = thing.Counter 0; at = One (Param 0) ∷ []; change = Add (record { summands = record { coef = negsuc 0; body = body.Param 1 } ∷ [] }); guard = true_form } ∷ [];
  takes = record { token = 0; args = Param 0 ∷ []; shared = false } ∷ [];
  observes = [];
}

shop : Specification
shop = record {
  version = 1;
  sorts = [] ∷ [];
  consts = [];
  relations = [];
  counters = record { name = []; keys = 0 ∷ []; initial = pos 0 } ∷ [];
  tokens = record { name = []; places = 0 ∷ [] } ∷ [];
  rules = record { left = record { token = 0; vars = 0 ∷ [] }; right = record { token = 0; vars = 0 ∷ [] } } ∷ [];
  invariants = record { name = []; line = record { prefix = Forall; vars = 0 ∷ []; body = compare_form (record { summands = record { coef = pos 1; body = body.Count 0 (Var 0 ∷ []) } ∷ [] }) AtLeast (record { summands = record { coef = pos 0; body = body.One } ∷ [] }) } } ∷ [];
  operations = sale ∷ [];
}

-- The constants 0 and 1 are the products of the two sales.
shop-stable : formulas_of shop (Stable 0 0 0) ≡
    at_most (number (pos 0) ∷ []) (multiple (pos 1) (reading [] 0 (0 ∷ [])) ∷ []) (pos 0)
    ∷ at_most (number (pos 0) ∷ []) (multiple (pos 1) (reading [] 0 (1 ∷ [])) ∷ []) (pos 0)
    ∷ at_most (multiple (pos 1) (argument 0 1) ∷ []) (multiple (pos 1) (reading [] 0 (0 ∷ [])) ∷ []) (pos 0)
    ∷ at_most (multiple (pos 1) (argument 1 1) ∷ []) (multiple (pos 1) (reading [] 0 (1 ∷ [])) ∷ []) (pos 0)
    ∷ negated (same 0 1)
    ∷ negated (same 0 1)
    ∷ negated (at_most (multiple (pos 1) (argument 0 1) ∷ []) (multiple (pos 1) (reading (1 ∷ []) 0 (0 ∷ [])) ∷ []) (pos 0))
    ∷ either (negated (both (same 0 1) (always true))) (equal (multiple (pos 1) (reading (1 ∷ []) 0 (0 ∷ [])) ∷ []) (multiple (pos 1) (reading [] 0 (0 ∷ [])) ∷ multiple (negsuc 0) (argument 1 1) ∷ []))
    ∷ either (both (same 0 1) (always true)) (equal (multiple (pos 1) (reading (1 ∷ []) 0 (0 ∷ [])) ∷ []) (multiple (pos 1) (reading [] 0 (0 ∷ [])) ∷ []))
    ∷ either (negated (same 0 1)) (equal (multiple (pos 1) (reading [] 0 (0 ∷ [])) ∷ []) (multiple (pos 1) (reading [] 0 (1 ∷ [])) ∷ []))
    ∷ []
unfolding shop
shop-stable = refl

-- ---- the same without the conflict rule: two sales of the last piece

free_shop : Specification
free_shop = record {
  version = shop.version;
  sorts = shop.sorts;
  consts = shop.consts;
  relations = shop.relations;
  counters = shop.counters;
  tokens = shop.tokens;
  rules = [];
  invariants = shop.invariants;
  operations = shop.operations;
}

-- one piece is left, both sales want one, and they are of one product
amounts : Integer → ℤ
amounts (argument c p) = pos 1
amounts (reading [] i t) = pos 1
amounts (reading (n ∷ k) i t) = pos 0
amounts (partial n k i t) = pos 0

oversold : Interpretation
oversold = record { same = λ a b. true; has = λ k i t. false; int = amounts }

shop-oversold : all_true oversold (formulas_of free_shop (Stable 0 0 0)) ≡ true
unfolding shop free_shop amounts oversold
shop-oversold = refl
