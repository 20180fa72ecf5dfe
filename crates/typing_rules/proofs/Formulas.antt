-- Formulas without a fault are typed, and so are formulas with their variables.
use Rattle.std.proofs.Common.{◌≡◌, ℕ, ◌+◌, ◌<◌, ◌≤◌, Bool, true, false, ◌&&◌, nat_lt, nat_le, if◌then◌else◌, List, length, take, Option, None, Some, refl, sym, ◌∙◌, ap, subst, arith}
use Rattle.std.proofs.lemmas.Bool.{and_from}
use Rattle.std.proofs.lemmas.List.Folds.{list_all-map}
use Rattle.std.proofs.lemmas.List.{length-map}
use Rattle.std.specs.Prelude.{unwrap_or}
use Rattle.std.specs.List.{list_all}
use Rattle.std.specs.Str.{bytes_eq}
use Rattle.spec_core.specs.declared.formula.Elem.{Elem}
use Rattle.spec_core.specs.Form as core
use Rattle.spec_core.specs.Specification.{Specification, relation_places}
use Rattle.spec_core.specs.Fits.{is_plain}
use Rattle.spec_core.specs.Typed.{sort_of, same_sort, elems_typed, term_typed, form_typed, nodes, depth, is_formula, are_sorts, is_line}
use Rattle.spec_trees.specs.declared.tree.Mark.{Mark}
use Rattle.spec_trees.specs.declared.tree.Reading.{Reading}
use Rattle.spec_trees.specs.declared.tree.Term.{Term}
use Rattle.spec_trees.specs.declared.tree.Comparison.{Comparison}
use Rattle.spec_trees.specs.declared.tree.Connective.{Connective}
use Rattle.spec_trees.specs.declared.tree.Connective.TheVariants as connectives
use Rattle.spec_trees.specs.declared.tree.Variable.{Variable}
use Rattle.spec_trees.specs.declared.tree.Quantifier.{Quantifier}
use Rattle.spec_trees.specs.declared.tree.Quantifier.TheVariants as quantifiers
use Rattle.spec_trees.specs.declared.tree.Prefix.{Prefix}
use Rattle.spec_trees.specs.Form.{Form, true_form, false_form, not_form, connect_form, has_form, compare_form, Sentence}
use Rattle.typing_rules.specs.declared.which.Which.TheVariants.{Variables}
use Rattle.typing_rules.specs.Fault.{◌otherwise◌, kind_at, limit_at}
use Rattle.typing_rules.specs.Scope.{Names, Scope, stranger_fault, declared_fault, sort_fault_at, sort_fault, sort_meant, sort_number, relation_meant, var_sort, var_sorts, params_of}
use Rattle.typing_rules.specs.Terms.{sort_named, elem_of, elems_of, term_fault, term_of}
use Rattle.typing_rules.specs.Formulas.{atom_fault_at, side_element, sorts_fault, terms_fault, compared_fault, parts_fault, node_count, nodes_fault, formula_fault, is_unequal, compared_of, connected_of, formula_of, with_vars, variable_fault, variables_fault, vars_of, sentence_fault, quantified, prefix_of, sentence_of}
use Rattle.typing_rules.proofs.Basics.{test, test_le, tested_le, same_some, some_same, otherwise_none, tested_none, limit_none, first_none, first_few}
use Rattle.typing_rules.proofs.Elements.{NamesFit, stranger, named_sort, args_typed, term_is_typed}

-- ---- sizes

pub shallow : (f : core.Form) → depth f ≤ nodes f
shallow core.true_form = omega arith
shallow core.false_form = omega arith
shallow (core.not_form f) = let p = shallow f in omega arith
shallow (core.and_form f g) = let p = shallow f in let q = shallow g in omega arith
shallow (core.or_form f g) = let p = shallow f in let q = shallow g in omega arith
shallow (core.implies_form f g) = let p = shallow f in let q = shallow g in omega arith
shallow (core.has_form k es) = omega arith
shallow (core.same_form a b) = omega arith
shallow (core.differ_form a b) = omega arith
shallow (core.compare_form t c u) = omega arith

connected_nodes : (c : Connective) (f g : core.Form) → nodes (connected_of c f g) ≡ 1 + (nodes f + nodes g)
connected_nodes connectives.And f g = refl
connected_nodes connectives.Or f g = refl
connected_nodes connectives.Implies f g = refl

elements_nodes : (b : Bool) (x y : Elem) → nodes (if b then core.differ_form x y else core.same_form x y) ≡ 1
elements_nodes true x y = refl
elements_nodes false x y = refl

compared_nodes : (sc : Scope) (s : Term) (c : Comparison) (t : Term) (a b : Option Mark) → nodes (compared_of sc s c t a b) ≡ 1
compared_nodes sc s c t (Some a) (Some b) = elements_nodes (is_unequal c) (elem_of sc a) (elem_of sc b)
compared_nodes sc s c t (Some a) None = refl
compared_nodes sc s c t None (Some b) = refl
compared_nodes sc s c t None None = refl

formula_nodes : (sc : Scope) (f : Form) → nodes (formula_of sc f) ≡ node_count f
formula_nodes sc (true_form w) = refl
formula_nodes sc (false_form w) = refl
formula_nodes sc (not_form w f) = ap (λ n. 1 + n) (formula_nodes sc f)
formula_nodes sc (connect_form w f c g) =
    connected_nodes c (formula_of sc f) (formula_of sc g)
    ∙ ap (λ n. 1 + (n + nodes (formula_of sc g))) (formula_nodes sc f)
    ∙ ap (λ n. 1 + (node_count f + n)) (formula_nodes sc g)
formula_nodes sc (has_form w r) = refl
formula_nodes sc (compare_form w s c t) = compared_nodes sc s c t (side_element sc c s) (side_element sc c t)

few_nodes : (f : Form) → nodes_fault f ≡ None → nat_le (node_count f) 200 ≡ true
few_nodes f h = tested_none (nat_le (node_count f) 200) _ h

-- ---- sorts

-- what has no fault where a sort is needed is a sort
pub sort_is : (sc : Scope) (own : List ℕ) (m : Mark) → sort_fault sc own m ≡ None → (k : ℕ) × (sort_meant (sc.names m.text) ≡ Some k)
sort_is sc own m h = by (sort_meant (sc.names m.text)) h
  where
    no : (b : Bool) → (if b then kind_at m else stranger_fault sc m) ≡ None → ⊥
    no true h = cc
    no false h = stranger sc m h

    by : (o : Option ℕ) → sort_fault_at sc own m o ≡ None → (k : ℕ) × (o ≡ Some k)
    by (Some k) h = (k, refl)
    by None h = absurd (no (bytes_eq m.text own) h)

pub sort_below : (d : Specification) (names : Names) → NamesFit d names → (m : Mark) (k : ℕ) → sort_meant (names m.text) ≡ Some k → nat_lt (sort_number names m) (length d.sorts) ≡ true
sort_below d names fit m k h = subst (λ (o : Option ℕ). nat_lt (unwrap_or o 0) (length d.sorts) ≡ true) (sym h) (test k (length d.sorts) (fit.sorts m.text k h))

-- ---- formulas

module _ (sc : Scope) (fit : NamesFit sc.design sc.names) where
  connected_typed : (c : Connective) (f g : core.Form) → form_typed sc.design (params_of sc.names sc.params) (var_sorts sc.names sc.vars) f ≡ true
      → form_typed sc.design (params_of sc.names sc.params) (var_sorts sc.names sc.vars) g ≡ true → form_typed sc.design (params_of sc.names sc.params) (var_sorts sc.names sc.vars) (connected_of c f g) ≡ true
  connected_typed connectives.And f g h k = and_from _ _ h k
  connected_typed connectives.Or f g h k = and_from _ _ h k
  connected_typed connectives.Implies f g h k = and_from _ _ h k

  atom_typed : (r : Reading) (o : Option ℕ) → relation_meant (sc.names r.name.text) ≡ o → atom_fault_at sc r o ≡ None
      → form_typed sc.design (params_of sc.names sc.params) (var_sorts sc.names sc.vars) (core.has_form (unwrap_or o 0) (elems_of sc r.args)) ≡ true
  atom_typed r None e h = absurd (stranger sc r.name h)
  atom_typed r (Some k) e h =
      and_from (nat_lt k (length sc.design.relations)) (elems_typed sc.design (params_of sc.names sc.params) (var_sorts sc.names sc.vars) (relation_places sc.design k) (elems_of sc r.args))
      (test k (length sc.design.relations) (fit.relations r.name.text k e)) (args_typed sc r (relation_places sc.design k) h)

  same_or_differ : (b : Bool) (x y : Elem) → same_sort (sort_of sc.design (params_of sc.names sc.params) (var_sorts sc.names sc.vars) x) (sort_of sc.design (params_of sc.names sc.params) (var_sorts sc.names sc.vars) y) ≡ true
      → form_typed sc.design (params_of sc.names sc.params) (var_sorts sc.names sc.vars) (if b then core.differ_form x y else core.same_form x y) ≡ true
  same_or_differ true x y h = h
  same_or_differ false x y h = h

  same_sorts : (a b : Mark) → sorts_fault sc a b ≡ None → same_sort (sort_of sc.design (params_of sc.names sc.params) (var_sorts sc.names sc.vars) (elem_of sc a)) (sort_of sc.design (params_of sc.names sc.params) (var_sorts sc.names sc.vars) (elem_of sc b)) ≡ true
  same_sorts a b h =
      let p = same_some (sort_named sc a.text) (sort_named sc b.text) (by (same_sort (sort_named sc a.text) (sort_named sc b.text)) h) in
      some_same (sort_of sc.design (params_of sc.names sc.params) (var_sorts sc.names sc.vars) (elem_of sc a)) (sort_of sc.design (params_of sc.names sc.params) (var_sorts sc.names sc.vars) (elem_of sc b)) p.0
      (named_sort sc a p.0 p.1) (named_sort sc b p.0 p.2)
    where
      by : (c : Bool) → (if c then None else kind_at b) ≡ None → c ≡ true
      by true h = refl
      by false h = absurd cc

  numbers_typed : (s t : Term) → terms_fault sc s t ≡ None
      → (term_typed sc.design (params_of sc.names sc.params) (var_sorts sc.names sc.vars) (term_of sc s) && term_typed sc.design (params_of sc.names sc.params) (var_sorts sc.names sc.vars) (term_of sc t)) ≡ true
  numbers_typed s t h =
      let q = otherwise_none (term_fault sc s) (term_fault sc t) h in
      and_from _ _ (term_is_typed sc fit s q.0) (term_is_typed sc fit t q.1)

  compared_typed : (s : Term) (c : Comparison) (t : Term) (a b : Option Mark) → compared_fault sc s t a b ≡ None
      → form_typed sc.design (params_of sc.names sc.params) (var_sorts sc.names sc.vars) (compared_of sc s c t a b) ≡ true
  compared_typed s c t (Some a) (Some b) h = same_or_differ (is_unequal c) (elem_of sc a) (elem_of sc b) (same_sorts a b h)
  compared_typed s c t (Some a) None h = numbers_typed s t h
  compared_typed s c t None (Some b) h = numbers_typed s t h
  compared_typed s c t None None h = numbers_typed s t h

  parts_typed : (f : Form) → parts_fault sc f ≡ None → form_typed sc.design (params_of sc.names sc.params) (var_sorts sc.names sc.vars) (formula_of sc f) ≡ true
  parts_typed (true_form w) h = refl
  parts_typed (false_form w) h = refl
  parts_typed (not_form w f) h = parts_typed f h
  parts_typed (connect_form w f c g) h =
      let q = otherwise_none (parts_fault sc f) (parts_fault sc g) h in
      connected_typed c (formula_of sc f) (formula_of sc g) (parts_typed f q.0) (parts_typed g q.1)
  parts_typed (has_form w r) h = atom_typed r (relation_meant (sc.names r.name.text)) refl h
  parts_typed (compare_form w s c t) h = compared_typed s c t (side_element sc c s) (side_element sc c t) h

  pub formula_is_typed : (f : Form) → formula_fault sc f ≡ None → is_formula sc.design (params_of sc.names sc.params) (var_sorts sc.names sc.vars) (formula_of sc f) ≡ true
  formula_is_typed f h =
      let q = otherwise_none (nodes_fault f) (parts_fault sc f) h in
      let few : node_count f ≤ 200 = tested_le (node_count f) 200 (few_nodes f q.0) in
      let same = formula_nodes sc f in
      let deep = shallow (formula_of sc f) in
      and_from (nat_le (nodes (formula_of sc f)) 200 && nat_le (depth (formula_of sc f)) 200) (form_typed sc.design (params_of sc.names sc.params) (var_sorts sc.names sc.vars) (formula_of sc f))
      (and_from (nat_le (nodes (formula_of sc f)) 200) (nat_le (depth (formula_of sc f)) 200) (test_le (nodes (formula_of sc f)) 200 (omega arith)) (test_le (depth (formula_of sc f)) 200 (omega arith)))
      (parts_typed f q.1)

  -- ---- formulas with their variables

  variable_few : (vs : List Variable) (n : ℕ) (v : Variable) → variable_fault (with_vars sc (take n vs)) n v ≡ None → n < 3
  variable_few vs n v h =
      let p = otherwise_none (declared_fault (with_vars sc (take n vs)) v.name) (limit_at Variables 3 n v.name.word otherwise sort_fault (with_vars sc (take n vs)) v.name.text v.sort) h in
      limit_none Variables 3 n v.name.word (otherwise_none (limit_at Variables 3 n v.name.word) (sort_fault (with_vars sc (take n vs)) v.name.text v.sort) p.1).0

  variable_sorted : (vs : List Variable) (n : ℕ) (v : Variable) → variable_fault (with_vars sc (take n vs)) n v ≡ None → nat_lt (var_sort sc.names v) (length sc.design.sorts) ≡ true
  variable_sorted vs n v h =
      let p = otherwise_none (declared_fault (with_vars sc (take n vs)) v.name) (limit_at Variables 3 n v.name.word otherwise sort_fault (with_vars sc (take n vs)) v.name.text v.sort) h in
      let q = sort_is (with_vars sc (take n vs)) v.name.text v.sort (otherwise_none (limit_at Variables 3 n v.name.word) (sort_fault (with_vars sc (take n vs)) v.name.text v.sort) p.1).1 in
      sort_below sc.design sc.names fit v.sort q.0 q.1

  variables_typed : (vs : List Variable) → variables_fault sc vs ≡ None → are_sorts sc.design 3 (var_sorts sc.names vs) ≡ true
  variables_typed vs h =
      let few : 0 + length vs ≤ 3 = first_few (λ n v. variable_fault (with_vars sc (take n vs)) n v) 3 (variable_few vs) 0 vs (omega arith) h in
      let long : length (var_sorts sc.names vs) ≡ length vs = length-map vs (var_sort sc.names) in
      and_from (nat_le (length (var_sorts sc.names vs)) 3) (list_all (λ s. nat_lt s (length sc.design.sorts)) (var_sorts sc.names vs))
      (test_le (length (var_sorts sc.names vs)) 3 (omega arith))
      (list_all-map (λ s. nat_lt s (length sc.design.sorts)) (var_sort sc.names) vs
      ∙ first_none (λ n v. variable_fault (with_vars sc (take n vs)) n v) (λ v. nat_lt (var_sort sc.names v) (length sc.design.sorts)) (variable_sorted vs) 0 vs h)

  prefix_typed : (q : Quantifier) (ss : List ℕ) → are_sorts sc.design 3 ss ≡ true → are_sorts sc.design (if is_plain (quantified q) then 0 else 3) ss ≡ true
  prefix_typed quantifiers.Forall ss h = h
  prefix_typed quantifiers.Exists ss h = h

  sentence_sorts : (p : Option Prefix) → variables_fault sc (vars_of p) ≡ None → are_sorts sc.design (if is_plain (prefix_of p) then 0 else 3) (var_sorts sc.names (vars_of p)) ≡ true
  sentence_sorts None h = refl
  sentence_sorts (Some p) h = prefix_typed p.quantifier (var_sorts sc.names p.vars) (variables_typed p.vars h)

-- a formula with its variables, where no other variables are in scope
pub sentence_is_typed : (sc : Scope) → NamesFit sc.design sc.names → (s : Sentence) → sentence_fault sc s ≡ None → is_line sc.design (params_of sc.names sc.params) (sentence_of sc s) ≡ true
sentence_is_typed sc fit s h =
    let q = otherwise_none (variables_fault sc (vars_of s.prefix)) (formula_fault (with_vars sc (vars_of s.prefix)) s.body) h in
    and_from (are_sorts sc.design (if is_plain (prefix_of s.prefix) then 0 else 3) (var_sorts sc.names (vars_of s.prefix))) (is_formula sc.design (params_of sc.names sc.params) (var_sorts sc.names (vars_of s.prefix)) (formula_of (with_vars sc (vars_of s.prefix)) s.body))
    (sentence_sorts sc fit s.prefix q.0) (formula_is_typed (with_vars sc (vars_of s.prefix)) fit s.body q.1)
