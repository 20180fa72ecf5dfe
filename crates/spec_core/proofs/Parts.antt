use Rattle.std.proofs.Common.{◌≡◌, ℕ, ℤ, ◌≤◌, true, cond, ◌||◌, ◌==◌, nat_le, nat_lt, List, [], ◌∷◌, length, refl, arith}
use Rattle.std.proofs.lemmas.Bool.Decides.{nat_tests}
use Rattle.std.specs.List.{list_all}
use Rattle.spec_core.specs.declared.spec.Counter.{Counter}
use Rattle.spec_core.specs.Limits.{most_sorts, most_relations, most_places, most_counters, most_keys, most_tokens, most_rules, most_invariants, most_operations, most_parameters, most_requires, most_updates, most_takes, most_observes}
use Rattle.spec_core.specs.Name.{is_word_name}
use Rattle.spec_core.specs.Fits.{in_literal_range, in_state_range}
use Rattle.spec_core.specs.declared.operation.Operation.{Operation}
use Rattle.spec_core.specs.Specification.{Specification, no_relation, no_counter, no_token, relation_places, counter_keys, token_places}
use Rattle.spec_core.specs.Typed.{are_sorts, consts_typed, is_relation, is_counter, is_token, is_rule, is_invariant, is_parameter, parameter_names, is_line, is_update, is_take, is_operation, all_distinct, global_names, is_specification}
use Rattle.std.proofs.lemmas.Bool.{and_parts, and_from}
use Rattle.spec_core.proofs.Lists.{list_all-get_or}

-- what a well-formed specification keeps
pub record Parts (d : Specification) : Type 0 where
  pub version : ((d.version == 1) || (d.version == 2)) ≡ true
  pub sorts : nat_le (length d.sorts) most_sorts ≡ true
  pub consts : consts_typed d ≡ true
  pub few_relations : nat_le (length d.relations) most_relations ≡ true
  pub relations : list_all (is_relation d) d.relations ≡ true
  pub few_counters : nat_le (length d.counters) most_counters ≡ true
  pub counters : list_all (is_counter d) d.counters ≡ true
  pub few_tokens : nat_le (length d.tokens) most_tokens ≡ true
  pub tokens : list_all (is_token d) d.tokens ≡ true
  pub few_rules : nat_le (length d.rules) most_rules ≡ true
  pub rules : list_all (is_rule d) d.rules ≡ true
  pub few_invariants : nat_le (length d.invariants) most_invariants ≡ true
  pub invariants : list_all (is_invariant d) d.invariants ≡ true
  pub few_operations : nat_le (length d.operations) most_operations ≡ true
  pub operations : list_all (is_operation d) d.operations ≡ true
  pub words : list_all is_word_name (global_names d) ≡ true
  pub distinct : all_distinct (global_names d) ≡ true

pub parts_of : (d : Specification) → is_specification d ≡ true → Parts d
parts_of d h =
    let a = and_parts _ _ h in let b = and_parts _ _ a.0 in let c = and_parts _ _ b.0 in let e = and_parts _ _ c.0 in let f = and_parts _ _ e.0 in
    let g = and_parts _ _ f.0 in let i = and_parts _ _ g.0 in let j = and_parts _ _ i.0 in let k = and_parts _ _ j.0 in let l = and_parts _ _ k.0 in
    let m = and_parts _ _ l.0 in let n = and_parts _ _ m.0 in let o = and_parts _ _ n.0 in let p = and_parts _ _ o.0 in let q = and_parts _ _ p.0 in let r = and_parts _ _ q.0 in
    record {
      version = r.0;
      sorts = r.1;
      consts = q.1;
      few_relations = p.1;
      relations = o.1;
      few_counters = n.1;
      counters = m.1;
      few_tokens = l.1;
      tokens = k.1;
      few_rules = j.1;
      rules = i.1;
      few_invariants = g.1;
      invariants = f.1;
      few_operations = e.1;
      operations = c.1;
      words = b.1;
      distinct = a.1;
    }

at_most : (most : ℕ) (d : Specification) (ss : List ℕ) → are_sorts d most ss ≡ true → length ss ≤ most
at_most most d ss h = let p = (and_parts (nat_le (length ss) most) (list_all (λ s. nat_lt s (length d.sorts)) ss) h).0 in grind (arith, nat_tests)

-- a relation has few places, a counter few keys, a token few places
pub few_places : (d : Specification) → is_specification d ≡ true → (k : ℕ) → length (relation_places d k) ≤ most_places
few_places d h k = at_most most_places d (relation_places d k) (list_all-get_or (is_relation d) d.relations (parts_of d h).relations k no_relation refl)

pub few_keys : (d : Specification) → is_specification d ≡ true → (k : ℕ) → length (counter_keys d k) ≤ most_keys
few_keys d h k = at_most most_keys d (counter_keys d k) (and_parts _ _ (list_all-get_or (is_counter d) d.counters (parts_of d h).counters k no_counter refl)).0

pub few_token_places : (d : Specification) → is_specification d ≡ true → (k : ℕ) → length (token_places d k) ≤ most_places
few_token_places d h k = at_most most_places d (token_places d k) (list_all-get_or (is_token d) d.tokens (parts_of d h).tokens k no_token refl)

-- a counter begins in the range of a state
pub counters_in_range : (d : Specification) → is_specification d ≡ true → list_all (λ (c : Counter). in_state_range c.initial) d.counters ≡ true
counters_in_range d h = each d.counters (parts_of d h).counters
  where
    one : (n : ℤ) → in_literal_range n ≡ true → in_state_range n ≡ true
    one n h = grind (arith, nat_tests)

    each : (cs : List Counter) → list_all (is_counter d) cs ≡ true → list_all (λ (c : Counter). in_state_range c.initial) cs ≡ true
    each [] h = refl
    each (c ∷ cs) h =
        let p = and_parts (is_counter d c) (list_all (is_counter d) cs) h in
        and_from (in_state_range c.initial) (list_all (λ (c : Counter). in_state_range c.initial) cs) (one c.initial (and_parts (are_sorts d most_keys c.keys) (in_literal_range c.initial) p.0).1) (each cs p.1)

-- what a well-formed operation keeps
pub record OperationParts (d : Specification) (o : Operation) : Type 0 where
  pub few_params : nat_le (length o.params) most_parameters ≡ true
  pub params : list_all (is_parameter d) o.params ≡ true
  pub distinct : all_distinct (parameter_names o.params) ≡ true
  pub few_requires : nat_le (length o.requires_) most_requires ≡ true
  pub requires_ : list_all (is_line d o.params) o.requires_ ≡ true
  pub few_updates : nat_le (length o.updates) most_updates ≡ true
  pub updates : list_all (is_update d o.params) o.updates ≡ true
  pub few_takes : nat_le (length o.takes) most_takes ≡ true
  pub takes : list_all (is_take d o.params) o.takes ≡ true
  pub few_observes : nat_le (length o.observes) (cond (d.version == 2) most_observes 0) ≡ true
  pub observes : list_all (is_line d o.params) o.observes ≡ true

pub operation_parts : (d : Specification) (o : Operation) → is_operation d o ≡ true → OperationParts d o
operation_parts d o h =
    let a = and_parts _ _ h in let b = and_parts _ _ a.0 in let c = and_parts _ _ b.0 in let e = and_parts _ _ c.0 in let f = and_parts _ _ e.0 in
    let g = and_parts _ _ f.0 in let i = and_parts _ _ g.0 in let j = and_parts _ _ i.0 in let k = and_parts _ _ j.0 in let l = and_parts _ _ k.0 in
    record {
      few_params = l.0;
      params = l.1;
      distinct = k.1;
      few_requires = j.1;
      requires_ = i.1;
      few_updates = g.1;
      updates = f.1;
      few_takes = e.1;
      takes = c.1;
      few_observes = b.1;
      observes = a.1;
    }
