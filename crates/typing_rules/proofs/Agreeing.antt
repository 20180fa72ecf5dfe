-- The faults of formulas, variables and lines are the first of what stands in them.
use Rattle.std.proofs.Common.{◌≡◌, ℕ, ◌+◌, ◌==◌, Bool, false, true, ◌||◌, if◌then◌else◌, List, [], ◌∷◌, ◌++◌, length, take, Option, None, Some, Result, Ok, refl, sym, ◌∙◌, ap, append_assoc, arith}
use Rattle.std.proofs.Math.Seq.{take-append_seam}
use Rattle.std.proofs.lemmas.List.{length-append}
use Rattle.std.proofs.lemmas.List.Folds.{list_any-append}
use Rattle.std.proofs.lemmas.Slice.Eq.{bytes_eq-Decides}
use Rattle.std.specs.Prelude.{is_some, option_map}
use Rattle.std.specs.Str.{bytes_eq}
use Rattle.spec_core.specs.declared.operation.Operation.{Operation}
use Rattle.spec_core.specs.Limits.{most_summands, most_variables, most_parameters, most_requires, most_updates, most_takes}
use Rattle.spec_core.specs.Specification.{relation_places, counter_keys, token_places}
use Rattle.spec_trees.specs.declared.tree.Mark.{Mark}
use Rattle.spec_trees.specs.declared.tree.Reading.{Reading}
use Rattle.spec_trees.specs.declared.tree.Product.{Product}
use Rattle.spec_trees.specs.declared.tree.Product.TheVariants as products
use Rattle.spec_trees.specs.declared.tree.Signed.{Signed}
use Rattle.spec_trees.specs.declared.tree.Term.{Term}
use Rattle.spec_trees.specs.declared.tree.Variable.{Variable}
use Rattle.spec_trees.specs.declared.tree.Param.{Param}
use Rattle.spec_trees.specs.declared.tree.ParamKind.{ParamKind}
use Rattle.spec_trees.specs.declared.tree.ParamKind.TheVariants as kinds
use Rattle.spec_trees.specs.declared.tree.Spot.{Spot}
use Rattle.spec_trees.specs.declared.tree.Spot.TheVariants as spots
use Rattle.spec_trees.specs.Form.{Form, true_form, false_form, not_form, connect_form, has_form, compare_form, Sentence, LineForm, requires_form, insert_form, remove_form, add_form, set_form, takes_form, observes_form}
use Rattle.typing_rules.specs.declared.meaning.Meaning.{Meaning}
use Rattle.typing_rules.specs.declared.which.Which.TheVariants as which
use Rattle.typing_rules.specs.Fault.{Fault, ◌otherwise◌, first_fault, kind_at, unknown_at, count_at, limit_at}
use Rattle.typing_rules.specs.Scope.{Scope, is_param, is_var, in_scope, stranger_fault, declared_fault, sort_meant, relation_meant, counter_meant, token_meant, sort_fault_at, sort_fault}
use Rattle.typing_rules.specs.Terms.{elem_fault, elems_fault, places_fault, args_fault, literal_fault, number_named, counter_fault, lone_fault, amount_fault_by, product_fault, signed_fault, term_fault}
use Rattle.typing_rules.specs.Formulas.{atom_fault_at, atom_fault, side_element, terms_fault, compared_fault, sorts_fault, parts_fault, nodes_fault, formula_fault, with_vars, variable_fault, variables_fault, vars_of, sentence_fault}
use Rattle.typing_rules.specs.Lines.{most_observed, spots_fault, target_fault_at, relation_fault_at, counter_fault_at, relation_target_fault, counter_target_fault, guard_fault, taking_fault_at, taking_fault, line_fault, with_line, unless, typed_lines}
use Rattle.typing_rules.specs.Items.{with_params, param_kind_fault, param_fault, params_fault}
use Rattle.typing_rules.proofs.Elements.{places_none}
use Rattle.typing_rules.specs.Sites.{a_sort, a_relation, a_counter, a_number, has_no_keys, Site, used, applied, element_sites, argument_sites, atom_sites, lone_sites, count_sites, amount_sites_by, product_sites, signed_sites, term_sites, compare_sites, part_sites, formula_sites, variable_sites, sentence_sites, spot_sites, target_sites, relation_sites, counter_sites, guard_sites, taking_sites, line_sites, lines_sites, operation_behind, kind_sites, param_sites}
use Rattle.typing_rules.proofs.Deciding.{fault_at}
use Rattle.typing_rules.proofs.Lists.{first_of, none_behind, in_three, behind_none, first_append, parts, three_and_more, unless_both}

pub stranger_first : (sc : Scope) (m : Mark) (o : Option Fault) → (stranger_fault sc m otherwise o) ≡ stranger_fault sc m
stranger_first sc m o = by (in_scope sc m.text)
  where
    by : (b : Bool) → ((if b then kind_at m else unknown_at m) otherwise o) ≡ (if b then kind_at m else unknown_at m)
    by true = refl
    by false = refl

-- ---- elements, amounts and terms

module _ (sc : Scope) where
  elems_agree : (ss : List ℕ) (ms : List Mark) → length ss ≡ length ms → elems_fault sc ss ms ≡ first_of (element_sites sc ss ms)
  elems_agree [] [] e = refl
  elems_agree [] (m ∷ ms) e = absurd (omega arith)
  elems_agree (s ∷ ss) [] e = refl
  elems_agree (s ∷ ss) (m ∷ ms) e = ap (λ o. elem_fault sc s m otherwise o) (elems_agree ss ms (omega arith))

  args_agree : (r : Reading) (places : List ℕ) → args_fault sc r places ≡ first_of (argument_sites sc r (Some places))
  args_agree r places = behind_none (places_fault r.name places (length r.args)) (elems_fault sc places r.args) (first_of (element_sites sc places r.args)) (λ h. elems_agree places r.args (places_none r.name places (length r.args) h))

  atom_agrees : (r : Reading) → atom_fault sc r ≡ first_of (atom_sites sc r)
  atom_agrees r = by (relation_meant (sc.names r.name.text))
    where
      by : (o : Option ℕ) → atom_fault_at sc r o ≡ ((if is_some o then None else stranger_fault sc r.name) otherwise first_of (argument_sites sc r (option_map (relation_places sc.design) o)))
      by (Some k) = args_agree r (relation_places sc.design k)
      by None = sym (stranger_first sc r.name _)

  count_agrees : (r : Reading) → counter_fault sc r (counter_meant (sc.names r.name.text)) ≡ first_of (count_sites sc r)
  count_agrees r = by (counter_meant (sc.names r.name.text))
    where
      by : (o : Option ℕ) → counter_fault sc r o ≡ ((if is_some o then None else stranger_fault sc r.name) otherwise first_of (argument_sites sc r (option_map (counter_keys sc.design) o)))
      by (Some k) = args_agree r (counter_keys sc.design k)
      by None = sym (stranger_first sc r.name _)

  taking_agrees : (r : Reading) → taking_fault sc r ≡ first_of (taking_sites sc r)
  taking_agrees r = by (token_meant (sc.names r.name.text))
    where
      by : (o : Option ℕ) → taking_fault_at sc r o ≡ ((if is_some o then None else stranger_fault sc r.name) otherwise first_of (argument_sites sc r (option_map (token_places sc.design) o)))
      by (Some k) = args_agree r (token_places sc.design k)
      by None = sym (stranger_first sc r.name _)

  -- what stands at a name alone, but for its use
  abbrev lone_rest : Mark → Option ℕ → Option ℕ → List Site
  lone_rest m (Some n) c = []
  lone_rest m None (Some k) = applied (length (counter_keys sc.design k)) 0 m ∷ []
  lone_rest m None None = []

  lone_use : (m : Mark) (n c : Option ℕ) → lone_sites sc m n c ≡ used sc a_number m ∷ lone_rest m n c
  lone_use m (Some n) c = refl
  lone_use m None (Some k) = refl
  lone_use m None None = refl

  counter_in_scope : (m : Mark) → is_some (counter_meant (sc.names m.text)) ≡ true → in_scope sc m.text ≡ true
  counter_in_scope m h = by (sc.names m.text) h
    where
      by : (o : Option Meaning) → is_some (counter_meant o) ≡ true → (is_some o || is_param m.text sc.params || is_var m.text sc.vars) ≡ true
      by None e = absurd cc
      by (Some x) e = refl

  lone_agrees : (m : Mark) → lone_fault sc m (number_named sc m.text) (counter_meant (sc.names m.text)) ≡ first_of (lone_sites sc m (number_named sc m.text) (counter_meant (sc.names m.text)))
  lone_agrees m = by (number_named sc m.text) (counter_meant (sc.names m.text)) (counter_in_scope m) ∙ ap (λ (ss : List Site). first_of ss) (sym (lone_use m (number_named sc m.text) (counter_meant (sc.names m.text))))
    where
      kind_is : in_scope sc m.text ≡ true → kind_at m ≡ stranger_fault sc m
      kind_is h = ap (λ b. if b then kind_at m else unknown_at m) (sym h)

      keyed : (b : Bool) → in_scope sc m.text ≡ true → (if b then None else kind_at m) ≡ ((if b then None else stranger_fault sc m) otherwise ((if b then None else count_at m) otherwise None))
      keyed true h = refl
      keyed false h = kind_is h ∙ sym (stranger_first sc m _)

      by : (n c : Option ℕ) → (is_some c ≡ true → in_scope sc m.text ≡ true)
          → lone_fault sc m n c ≡ ((if is_some n || has_no_keys sc.design c then None else stranger_fault sc m) otherwise first_of (lone_rest m n c))
      by (Some n) c h = refl
      by None (Some k) h = keyed (length (counter_keys sc.design k) == 0) (h refl)
      by None None h = sym (none_behind (stranger_fault sc m))

  amount_agrees : (r : Reading) (ms : List Mark) → amount_fault_by sc r ms ≡ first_of (amount_sites_by sc r ms)
  amount_agrees r [] = lone_agrees r.name
  amount_agrees r (m ∷ ms) = count_agrees r

  product_agrees : (p : Product) → product_fault sc p ≡ first_of (product_sites sc p)
  product_agrees (products.Number f) = sym (none_behind (literal_fault f))
  product_agrees (products.Times f r) = ap (λ o. literal_fault f otherwise o) (amount_agrees r r.args)
  product_agrees (products.Reading r) = amount_agrees r r.args

  signeds_agree : (n : ℕ) (ss : List Signed) → first_fault (signed_fault sc) n ss ≡ first_of (signed_sites sc (n + 1) ss)
  signeds_agree n [] = refl
  signeds_agree n (s ∷ ss) =
      in_three (limit_at which.Summands most_summands (n + 1) s.summand.word) (product_fault sc s.summand.product) (first_fault (signed_fault sc) (n + 1) ss)
      ∙ ap (λ o. limit_at which.Summands most_summands (n + 1) s.summand.word otherwise o)
      (parts (product_fault sc s.summand.product) (first_fault (signed_fault sc) (n + 1) ss) (product_sites sc s.summand.product) (signed_sites sc ((n + 1) + 1) ss) (product_agrees s.summand.product) (λ h. signeds_agree (n + 1) ss))

  term_agrees : (t : Term) → term_fault sc t ≡ first_of (term_sites sc t)
  term_agrees t = parts (product_fault sc t.first.product) (first_fault (signed_fault sc) 0 t.more) (product_sites sc t.first.product) (signed_sites sc 1 t.more) (product_agrees t.first.product) (λ h. signeds_agree 0 t.more)

  -- ---- formulas

  terms_agree : (s t : Term) → terms_fault sc s t ≡ first_of (term_sites sc s ++ term_sites sc t)
  terms_agree s t = parts (term_fault sc s) (term_fault sc t) (term_sites sc s) (term_sites sc t) (term_agrees s) (λ h. term_agrees t)

  compared_agree : (s t : Term) (a b : Option Mark) → compared_fault sc s t a b ≡ first_of (compare_sites sc s t a b)
  compared_agree s t (Some a) (Some b) = sym (none_behind (sorts_fault sc a b))
  compared_agree s t (Some a) None = terms_agree s t
  compared_agree s t None b = terms_agree s t

  parts_agree : (f : Form) → parts_fault sc f ≡ first_of (part_sites sc f)
  parts_agree (true_form w) = refl
  parts_agree (false_form w) = refl
  parts_agree (not_form w f) = parts_agree f
  parts_agree (connect_form w f c g) = parts (parts_fault sc f) (parts_fault sc g) (part_sites sc f) (part_sites sc g) (parts_agree f) (λ h. parts_agree g)
  parts_agree (has_form w r) = atom_agrees r
  parts_agree (compare_form w s c t) = compared_agree s t (side_element sc c s) (side_element sc c t)

  pub formula_agrees : (f : Form) → formula_fault sc f ≡ first_of (formula_sites sc f)
  formula_agrees f = ap (λ o. nodes_fault f otherwise o) (parts_agree f)

-- ---- sorts

same_text : (a b : List ℕ) → bytes_eq a b ≡ bytes_eq b a
same_text a b = by (bytes_eq a b) (bytes_eq b a) refl refl
  where
    by : (x y : Bool) → bytes_eq a b ≡ x → bytes_eq b a ≡ y → x ≡ y
    by true true e f = refl
    by false false e f = refl
    by true false e f = sym (sym f ∙ (bytes_eq-Decides b a).1 (sym ((bytes_eq-Decides a b).0 e)))
    by false true e f = sym e ∙ (bytes_eq-Decides a b).1 (sym ((bytes_eq-Decides b a).0 f))

abbrev as_sort : Mark → Option ℕ → Bool → Option Fault
as_sort m o b = if is_some o then None else (if b then kind_at m else unknown_at m)

-- a sort is asked for where the name that is being declared is in scope
pub sort_agrees : (sc inside : Scope) (own : List ℕ) (m : Mark) → sort_meant (inside.names m.text) ≡ sort_meant (sc.names m.text) → in_scope inside m.text ≡ (bytes_eq m.text own || in_scope sc m.text)
    → sort_fault sc own m ≡ fault_at (used inside a_sort m)
sort_agrees sc inside own m e i =
    at (sort_meant (sc.names m.text)) ∙ by (sort_meant (sc.names m.text)) (bytes_eq m.text own)
    ∙ ap (λ o. as_sort m o (bytes_eq m.text own || in_scope sc m.text)) (sym e)
    ∙ ap (as_sort m (sort_meant (inside.names m.text))) (sym i)
  where
    at : (o : Option ℕ) → sort_fault_at sc own m o ≡ (if is_some o then None else (if bytes_eq m.text own then kind_at m else stranger_fault sc m))
    at (Some k) = refl
    at None = refl

    by : (o : Option ℕ) (b : Bool) → (if is_some o then None else (if b then kind_at m else stranger_fault sc m)) ≡ as_sort m o (b || in_scope sc m.text)
    by (Some k) b = refl
    by None true = refl
    by None false = refl

-- ---- variables and parameters

-- one more name in scope, behind all others
last_var : (a b : Bool) (name own : List ℕ) (vs : List Variable) (v : Variable) → v.name.text ≡ own → (a || b || is_var name (vs ++ v ∷ [])) ≡ (bytes_eq name own || (a || b || is_var name vs))
last_var a b name own vs v e =
    ap (λ c. a || b || c) (list_any-append (λ (x : Variable). bytes_eq x.name.text name) vs (v ∷ []))
    ∙ ap (λ c. a || b || (is_var name vs || (c || false))) (ap (λ t. bytes_eq t name) e ∙ same_text own name)
    ∙ by a b (is_var name vs) (bytes_eq name own)
  where
    by : (x y z o : Bool) → (x || y || (z || (o || false))) ≡ (o || (x || y || z))
    by true y z true = refl
    by true y z false = refl
    by false true z true = refl
    by false true z false = refl
    by false false true true = refl
    by false false true false = refl
    by false false false true = refl
    by false false false false = refl

last_param : (a c : Bool) (name own : List ℕ) (ps : List Param) (p : Param) → p.name.text ≡ own → (a || is_param name (ps ++ p ∷ []) || c) ≡ (bytes_eq name own || (a || is_param name ps || c))
last_param a c name own ps p e =
    ap (λ b. a || b || c) (list_any-append (λ (x : Param). bytes_eq x.name.text name) ps (p ∷ []))
    ∙ ap (λ b. a || (is_param name ps || (b || false)) || c) (ap (λ t. bytes_eq t name) e ∙ same_text own name)
    ∙ by a (is_param name ps) c (bytes_eq name own)
  where
    by : (x y z o : Bool) → (x || (y || (o || false)) || z) ≡ (o || (x || y || z))
    by true y z true = refl
    by true y z false = refl
    by false true z true = refl
    by false true z false = refl
    by false false true true = refl
    by false false true false = refl
    by false false false true = refl
    by false false false false = refl

-- the members of a list before one
front : {X : Type 0} (before : List X) (x : X) (after all : List X) → before ++ x ∷ after ≡ all → take (length before) all ≡ before
front before x after all e = ap (take (length before)) (sym e) ∙ take-append_seam before (x ∷ after)

one_longer : {X : Type 0} (before : List X) (x : X) → length (before ++ x ∷ []) ≡ length before + 1
one_longer before x = length-append before (x ∷ [])

module _ (sc : Scope) where
  variable_sort : (vs : List Variable) (v : Variable) → sort_fault (with_vars sc vs) v.name.text v.sort ≡ fault_at (used (with_vars sc (vs ++ v ∷ [])) a_sort v.sort)
  variable_sort vs v =
      sort_agrees (with_vars sc vs) (with_vars sc (vs ++ v ∷ [])) v.name.text v.sort refl
      (last_var (is_some (sc.names v.sort.text)) (is_param v.sort.text sc.params) v.sort.text v.name.text vs v refl)

  variables_agree : (all before vs : List Variable) → before ++ vs ≡ all → first_fault (λ n v. variable_fault (with_vars sc (take n all)) n v) (length before) vs ≡ first_of (variable_sites sc before vs)
  variables_agree all before [] e = refl
  variables_agree all before (v ∷ vs) e =
      let more : first_fault (λ n x. variable_fault (with_vars sc (take n all)) n x) (length before + 1) vs ≡ first_of (variable_sites sc (before ++ v ∷ []) vs)
      = ap (λ n. first_fault (λ i x. variable_fault (with_vars sc (take i all)) i x) n vs) (sym (one_longer before v)) ∙ variables_agree all (before ++ v ∷ []) vs (append_assoc before (v ∷ []) vs ∙ e) in
      ap (λ bs. variable_fault (with_vars sc bs) (length before) v otherwise first_fault (λ n x. variable_fault (with_vars sc (take n all)) n x) (length before + 1) vs) (front before v vs all e)
      ∙ three_and_more (declared_fault (with_vars sc before) v.name) (limit_at which.Variables most_variables (length before) v.name.word) (sort_fault (with_vars sc before) v.name.text v.sort)
      (fault_at (used (with_vars sc (before ++ v ∷ [])) a_sort v.sort)) (first_fault (λ n x. variable_fault (with_vars sc (take n all)) n x) (length before + 1) vs) (first_of (variable_sites sc (before ++ v ∷ []) vs))
      (λ h. variable_sort before v) more

  pub sentence_agrees : (s : Sentence) → sentence_fault sc s ≡ first_of (sentence_sites sc s)
  sentence_agrees s =
      parts (variables_fault sc (vars_of s.prefix)) (formula_fault (with_vars sc (vars_of s.prefix)) s.body) (variable_sites sc [] (vars_of s.prefix)) (formula_sites (with_vars sc (vars_of s.prefix)) s.body)
      (variables_agree (vars_of s.prefix) [] (vars_of s.prefix) refl) (λ h. formula_agrees (with_vars sc (vars_of s.prefix)) s.body)

  kind_agrees : (ps : List Param) (p : Param) → param_kind_fault (with_params sc ps) p.name.text p.kind ≡ first_of (kind_sites (with_params sc (ps ++ p ∷ [])) p.kind)
  kind_agrees ps p = by p.kind
    where
      by : (k : ParamKind) → param_kind_fault (with_params sc ps) p.name.text k ≡ first_of (kind_sites (with_params sc (ps ++ p ∷ [])) k)
      by kinds.Int = refl
      by (kinds.Sort m) =
          sort_agrees (with_params sc ps) (with_params sc (ps ++ p ∷ [])) p.name.text m refl (last_param (is_some (sc.names m.text)) (is_var m.text sc.vars) m.text p.name.text ps p refl)
          ∙ sym (none_behind (fault_at (used (with_params sc (ps ++ p ∷ [])) a_sort m)))

  params_agree : (all before ps : List Param) → before ++ ps ≡ all → first_fault (λ n p. param_fault (with_params sc (take n all)) n p) (length before) ps ≡ first_of (param_sites sc before ps)
  params_agree all before [] e = refl
  params_agree all before (p ∷ ps) e =
      let more : first_fault (λ n x. param_fault (with_params sc (take n all)) n x) (length before + 1) ps ≡ first_of (param_sites sc (before ++ p ∷ []) ps)
      = ap (λ n. first_fault (λ i x. param_fault (with_params sc (take i all)) i x) n ps) (sym (one_longer before p)) ∙ params_agree all (before ++ p ∷ []) ps (append_assoc before (p ∷ []) ps ∙ e) in
      ap (λ bs. param_fault (with_params sc bs) (length before) p otherwise first_fault (λ n x. param_fault (with_params sc (take n all)) n x) (length before + 1) ps) (front before p ps all e)
      ∙ three_and_more (declared_fault (with_params sc before) p.name) (limit_at which.Parameters most_parameters (length before) p.name.word) (param_kind_fault (with_params sc before) p.name.text p.kind)
      (first_of (kind_sites (with_params sc (before ++ p ∷ [])) p.kind)) (first_fault (λ n x. param_fault (with_params sc (take n all)) n x) (length before + 1) ps) (first_of (param_sites sc (before ++ p ∷ []) ps))
      (λ h. kind_agrees before p) more
      ∙ ap (λ o. declared_fault (with_params sc before) p.name otherwise (limit_at which.Parameters most_parameters (length before) p.name.word otherwise o))
      (sym (first_append (kind_sites (with_params sc (before ++ p ∷ [])) p.kind) (param_sites sc (before ++ p ∷ []) ps)))

  pub all_params_agree : (ps : List Param) → params_fault sc ps ≡ first_of (param_sites sc [] ps)
  all_params_agree ps = params_agree ps [] ps refl

  -- ---- lines

  spots_agree : (ss : List ℕ) (xs : List Spot) → length ss ≡ length xs → spots_fault sc ss xs ≡ first_of (spot_sites sc ss xs)
  spots_agree [] [] e = refl
  spots_agree [] (x ∷ xs) e = absurd (omega arith)
  spots_agree (s ∷ ss) [] e = refl
  spots_agree (s ∷ ss) (spots.Every ∷ xs) e = spots_agree ss xs (omega arith)
  spots_agree (s ∷ ss) (spots.One m ∷ xs) e = ap (λ o. elem_fault sc s m otherwise o) (spots_agree ss xs (omega arith))

  target_agrees : (m : Mark) (xs : List Spot) (places : List ℕ) → target_fault_at sc m xs places ≡ first_of (applied (length places) (length xs) m ∷ spot_sites sc places xs)
  target_agrees m xs places = behind_none (places_fault m places (length xs)) (spots_fault sc places xs) (first_of (spot_sites sc places xs)) (λ h. spots_agree places xs (places_none m places (length xs) h))

  relation_agrees : (m : Mark) (xs : List Spot) → relation_target_fault sc m xs ≡ first_of (relation_sites sc m xs)
  relation_agrees m xs = by (relation_meant (sc.names m.text)) refl
    where
      met : (o : Option ℕ) → relation_meant (sc.names m.text) ≡ o → fault_at (used sc a_relation m) ≡ (if is_some o then None else stranger_fault sc m)
      met o e = ap (λ p. if is_some p then None else stranger_fault sc m) e

      by : (o : Option ℕ) → relation_meant (sc.names m.text) ≡ o → relation_fault_at sc m xs o ≡ first_of (target_sites sc a_relation m xs (option_map (relation_places sc.design) o))
      by (Some k) e = target_agrees m xs (relation_places sc.design k) ∙ ap (λ o. o otherwise first_of (applied (length (relation_places sc.design k)) (length xs) m ∷ spot_sites sc (relation_places sc.design k) xs)) (sym (met (Some k) e))
      by None e = sym (ap (λ o. o otherwise first_of (spot_sites sc [] xs)) (met None e) ∙ stranger_first sc m (first_of (spot_sites sc [] xs)))

  counter_agrees : (m : Mark) (xs : List Spot) → counter_target_fault sc m xs ≡ first_of (counter_sites sc m xs)
  counter_agrees m xs = by (counter_meant (sc.names m.text)) refl
    where
      met : (o : Option ℕ) → counter_meant (sc.names m.text) ≡ o → fault_at (used sc a_counter m) ≡ (if is_some o then None else stranger_fault sc m)
      met o e = ap (λ p. if is_some p then None else stranger_fault sc m) e

      by : (o : Option ℕ) → counter_meant (sc.names m.text) ≡ o → counter_fault_at sc m xs o ≡ first_of (target_sites sc a_counter m xs (option_map (counter_keys sc.design) o))
      by (Some k) e = target_agrees m xs (counter_keys sc.design k) ∙ ap (λ o. o otherwise first_of (applied (length (counter_keys sc.design k)) (length xs) m ∷ spot_sites sc (counter_keys sc.design k) xs)) (sym (met (Some k) e))
      by None e = sym (ap (λ o. o otherwise first_of (spot_sites sc [] xs)) (met None e) ∙ stranger_first sc m (first_of (spot_sites sc [] xs)))

  guard_agrees : (g : Option Form) → guard_fault sc g ≡ first_of (guard_sites sc g)
  guard_agrees None = refl
  guard_agrees (Some f) = formula_agrees sc f

  changing : (m : Mark) (xs : List Spot) (g : Option Form) → (relation_target_fault sc m xs otherwise guard_fault sc g) ≡ first_of (relation_sites sc m xs ++ guard_sites sc g)
  changing m xs g = parts (relation_target_fault sc m xs) (guard_fault sc g) (relation_sites sc m xs) (guard_sites sc g) (relation_agrees m xs) (λ h. guard_agrees g)

  counting : (m : Mark) (xs : List Spot) (t : Term) (g : Option Form) → (counter_target_fault sc m xs otherwise (term_fault sc t otherwise guard_fault sc g)) ≡ first_of (counter_sites sc m xs ++ (term_sites sc t ++ guard_sites sc g))
  counting m xs t g =
      parts (counter_target_fault sc m xs) (term_fault sc t otherwise guard_fault sc g) (counter_sites sc m xs) (term_sites sc t ++ guard_sites sc g) (counter_agrees m xs)
      (λ h. parts (term_fault sc t) (guard_fault sc g) (term_sites sc t) (guard_sites sc g) (term_agrees sc t) (λ i. guard_agrees g))

  line_agrees : (o : Operation) (l : LineForm) → line_fault sc o l ≡ first_of (line_sites sc o l)
  line_agrees o (requires_form w s) = ap (λ x. limit_at which.Requires most_requires (length o.requires_) w otherwise x) (sentence_agrees s)
  line_agrees o (insert_form w m xs g) = ap (λ x. limit_at which.Updates most_updates (length o.updates) w otherwise x) (changing m xs g)
  line_agrees o (remove_form w m xs g) = ap (λ x. limit_at which.Updates most_updates (length o.updates) w otherwise x) (changing m xs g)
  line_agrees o (add_form w m xs t g) = ap (λ x. limit_at which.Updates most_updates (length o.updates) w otherwise x) (counting m xs t g)
  line_agrees o (set_form w m xs t g) = ap (λ x. limit_at which.Updates most_updates (length o.updates) w otherwise x) (counting m xs t g)
  line_agrees o (takes_form w r m) = ap (λ x. limit_at which.Takes most_takes (length o.takes) w otherwise x) (taking_agrees sc r)
  line_agrees o (observes_form w s) = ap (λ x. limit_at which.Observes (most_observed sc.design) (length o.observes) w otherwise x) (sentence_agrees s)

  pub lines_agree : (o : Operation) (ls : List LineForm) → typed_lines sc o ls ≡ unless (first_of (lines_sites sc o ls)) (Ok (operation_behind sc o ls))
  lines_agree o [] = refl
  lines_agree o (l ∷ ls) =
      let end : Result Operation Fault = Ok (operation_behind sc (with_line sc o l) ls) in
      ap (λ x. unless (line_fault sc o l) x) (lines_agree (with_line sc o l) ls)
      ∙ unless_both (line_fault sc o l) (first_of (lines_sites sc (with_line sc o l) ls)) end
      ∙ ap (λ x. unless x end) (parts (line_fault sc o l) (first_of (lines_sites sc (with_line sc o l) ls)) (line_sites sc o l) (lines_sites sc (with_line sc o l) ls) (line_agrees o l) (λ h. refl))
