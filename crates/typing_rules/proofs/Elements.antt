-- Elements and terms without a fault are typed.
use Rattle.std.proofs.Common.{◌≡◌, ℕ, ◌+◌, ◌<◌, ◌≤◌, pos, ◌-ℤ◌, Bool, true, false, ◌&&◌, ◌==◌, nat_lt, nat_le, if◌then◌else◌, List, [], ◌∷◌, length, get_or, map, Option, None, Some, refl, sym, ◌∙◌, ap, subst, arith}
use Rattle.std.proofs.lemmas.Bool.{and_from, and_parts}
use Rattle.std.proofs.lemmas.Bool.Decides.{nat_tests}
use Rattle.std.proofs.lemmas.List.Folds.{list_all-map}
use Rattle.std.proofs.lemmas.List.{length-map}
use Rattle.std.proofs.lemmas.List.Quantifiers.{position-Some}
use Rattle.std.proofs.lemmas.Option.{slice_get-map, slice_get-get_or}
use Rattle.std.specs.Prelude.{slice_get, option_map, unwrap_or, position}
use Rattle.std.specs.List.{list_all}
use Rattle.std.specs.Str.{bytes_eq}
use Rattle.spec_core.specs.declared.formula.Elem.{Elem}
use Rattle.spec_core.specs.declared.formula.Elem.TheVariants as elem
use Rattle.spec_core.specs.declared.formula.Body.TheVariants as body
use Rattle.spec_core.specs.Specification.{Specification, counter_keys}
use Rattle.spec_core.specs.Fits.{in_literal_range}
use Rattle.spec_core.specs.Typed.{sort_of, is_sort, elems_typed, is_number, body_typed, summand_typed, term_typed}
use Rattle.spec_trees.specs.declared.tree.Mark.{Mark}
use Rattle.spec_trees.specs.declared.tree.Figure.{Figure}
use Rattle.spec_trees.specs.declared.tree.Reading.{Reading}
use Rattle.spec_trees.specs.declared.tree.Product.{Product}
use Rattle.spec_trees.specs.declared.tree.Product.TheVariants as products
use Rattle.spec_trees.specs.declared.tree.Signed.{Signed}
use Rattle.spec_trees.specs.declared.tree.Term.{Term}
use Rattle.spec_trees.specs.declared.tree.ParamKind.{ParamKind}
use Rattle.spec_trees.specs.declared.tree.ParamKind.TheVariants as kinds
use Rattle.spec_trees.specs.declared.tree.Param.{Param}
use Rattle.typing_rules.specs.declared.which.Which.TheVariants.{Summands}
use Rattle.typing_rules.specs.Fault.{first_fault, kind_at, unknown_at, count_at, limit_at}
use Rattle.typing_rules.specs.Scope.{Names, Scope, in_scope, stranger_fault, sort_meant, relation_meant, counter_meant, token_meant, param_of, params_of, var_sorts}
use Rattle.typing_rules.specs.Terms.{small, elem_named, sort_of_elem, sort_named, elem_of, elem_fault, elems_fault, elems_of, places_fault, args_fault, literal_fault, literal_of, is_whole, number_named, counter_fault, lone_fault, amount_fault_by, amount_fault, product_fault, signed_fault, term_fault, unit_of, coef_of, lone_body, amount_by, body_of, summand_of, is_minus, signed_of, term_of}
use Rattle.typing_rules.proofs.Basics.{test, test_le, tested_le, same_number, sort_some, some_sort, otherwise_none, limit_none, first_none, first_few}

-- Names mean what a specification has.
pub record NamesFit (d : Specification) (names : Names) : Type 0 where
  pub sorts : (name : List ℕ) (k : ℕ) → sort_meant (names name) ≡ Some k → k < length d.sorts
  pub relations : (name : List ℕ) (k : ℕ) → relation_meant (names name) ≡ Some k → k < length d.relations
  pub counters : (name : List ℕ) (k : ℕ) → counter_meant (names name) ≡ Some k → k < length d.counters
  pub tokens : (name : List ℕ) (k : ℕ) → token_meant (names name) ≡ Some k → k < length d.tokens

-- ---- a place in a list

pub small_is : (o : Option ℕ) (n : ℕ) → small o ≡ Some n → o ≡ Some n
small_is None n h = absurd cc
small_is (Some k) n h = by (nat_lt k 256) h
  where
    by : (b : Bool) → (if b then Some k else None) ≡ Some n → Some k ≡ Some n
    by true h = h
    by false h = absurd cc

pub position_get : {X : Type 0} (p : X → Bool) (xs : List X) (x : X) (n : ℕ) → position p xs ≡ Some n → (slice_get xs n ≡ Some (get_or xs n x)) × (p (get_or xs n x) ≡ true)
position_get p xs x n h = let q = position-Some p xs n x h in (slice_get-get_or xs n x q.0, q.1)

-- ---- faults that are always there

pub stranger : (sc : Scope) (m : Mark) → stranger_fault sc m ≡ None → ⊥
stranger sc m h = by (in_scope sc m.text) h
  where
    by : (b : Bool) → (if b then kind_at m else unknown_at m) ≡ None → ⊥
    by true h = cc
    by false h = cc

pub places_none : (m : Mark) (places : List ℕ) (n : ℕ) → places_fault m places n ≡ None → length places ≡ n
places_none m places n h = same_number (length places) n (by (length places == n) h)
  where
    by : (b : Bool) → (if b then None else count_at m) ≡ None → b ≡ true
    by true h = refl
    by false h = absurd cc

-- ---- literals

minus_range : (n : ℕ) → n ≤ 1000000000 → in_literal_range (pos 0 -ℤ pos n) ≡ true
minus_range n h = grind (arith, nat_tests)

plus_range : (n : ℕ) → n ≤ 1000000000 → in_literal_range (pos n) ≡ true
plus_range n h = test_le n 1000000000 h

pub literal_range : (minus : Bool) (f : Figure) → in_literal_range (literal_of minus f) ≡ true
literal_range minus f = by (nat_le f.value 1000000000) minus refl
  where
    by : (b m : Bool) → nat_le f.value 1000000000 ≡ b → in_literal_range (if b then (if m then pos 0 -ℤ pos f.value else pos f.value) else pos 0) ≡ true
    by true true h = minus_range f.value (tested_le f.value 1000000000 h)
    by true false h = plus_range f.value (tested_le f.value 1000000000 h)
    by false m h = refl

unit_range : (minus : Bool) → in_literal_range (unit_of minus) ≡ true
unit_range true = refl
unit_range false = refl

coef_range : (minus : Bool) (p : Product) → in_literal_range (coef_of minus p) ≡ true
coef_range minus (products.Number f) = literal_range minus f
coef_range minus (products.Times f r) = literal_range minus f
coef_range minus (products.Reading r) = unit_range minus

-- ---- parameters that are whole numbers

no_param : Param
no_param = record { name = record { text = []; word = 0 }; kind = kinds.Int }

whole_number : (names : Names) (p : Param) → is_whole p.kind ≡ true → is_number (Some (param_of names p)) ≡ true
whole_number names p h = by p.kind p.name h
  where
    by : (k : ParamKind) (m : Mark) → is_whole k ≡ true → is_number (Some (param_of names (record { name = m; kind = k }))) ≡ true
    by (kinds.Sort s) m h = absurd cc
    by kinds.Int m h = refl

module _ (sc : Scope) where
  number_typed : (name : List ℕ) (n : ℕ) → number_named sc name ≡ Some n → is_number (slice_get (params_of sc.names sc.params) n) ≡ true
  number_typed name n h =
      let q = position_get (λ p. bytes_eq p.name.text name && is_whole p.kind) sc.params no_param n (small_is (position (λ p. bytes_eq p.name.text name && is_whole p.kind) sc.params) n h) in
      let p = get_or sc.params n no_param in
      let e : slice_get (params_of sc.names sc.params) n ≡ Some (param_of sc.names p) = slice_get-map (param_of sc.names) sc.params n ∙ ap (option_map (param_of sc.names)) q.0 in
      ap is_number e ∙ whole_number sc.names p (and_parts (bytes_eq p.name.text name) (is_whole p.kind) q.1).1

  -- ---- elements

  sort_named_is : (o : Option Elem) (s : ℕ) → sort_of_elem sc o ≡ Some s → sort_of sc.design (params_of sc.names sc.params) (var_sorts sc.names sc.vars) (unwrap_or o (elem.Const 0)) ≡ Some s
  sort_named_is None s h = absurd cc
  sort_named_is (Some e) s h = h

  pub named_sort : (m : Mark) (s : ℕ) → sort_named sc m.text ≡ Some s → sort_of sc.design (params_of sc.names sc.params) (var_sorts sc.names sc.vars) (elem_of sc m) ≡ Some s
  named_sort m s h = sort_named_is (elem_named sc m.text) s h

  pub elem_typed : (s : ℕ) (m : Mark) → elem_fault sc s m ≡ None → is_sort (sort_of sc.design (params_of sc.names sc.params) (var_sorts sc.names sc.vars) (elem_of sc m)) s ≡ true
  elem_typed s m h = some_sort (sort_of sc.design (params_of sc.names sc.params) (var_sorts sc.names sc.vars) (elem_of sc m)) s (named_sort m s (sort_some (sort_named sc m.text) s (by (is_sort (sort_named sc m.text) s) h)))
    where
      by : (b : Bool) → (if b then None else stranger_fault sc m) ≡ None → b ≡ true
      by true h = refl
      by false h = absurd (stranger sc m h)

  elems_typed_at : (ss : List ℕ) (ms : List Mark) → length ss ≡ length ms → elems_fault sc ss ms ≡ None → elems_typed sc.design (params_of sc.names sc.params) (var_sorts sc.names sc.vars) ss (elems_of sc ms) ≡ true
  elems_typed_at [] [] e h = refl
  elems_typed_at [] (m ∷ ms) e h = absurd (omega arith)
  elems_typed_at (s ∷ ss) [] e h = absurd (omega arith)
  elems_typed_at (s ∷ ss) (m ∷ ms) e h =
      let q = otherwise_none (elem_fault sc s m) (elems_fault sc ss ms) h in
      and_from (is_sort (sort_of sc.design (params_of sc.names sc.params) (var_sorts sc.names sc.vars) (elem_of sc m)) s) (elems_typed sc.design (params_of sc.names sc.params) (var_sorts sc.names sc.vars) ss (elems_of sc ms))
      (elem_typed s m q.0) (elems_typed_at ss ms (omega arith) q.1)

  pub args_typed : (r : Reading) (places : List ℕ) → args_fault sc r places ≡ None → elems_typed sc.design (params_of sc.names sc.params) (var_sorts sc.names sc.vars) places (elems_of sc r.args) ≡ true
  args_typed r places h =
      let q = otherwise_none (places_fault r.name places (length r.args)) (elems_fault sc places r.args) h in
      elems_typed_at places r.args (places_none r.name places (length r.args) q.0) q.1

  -- ---- terms

  module _ (fit : NamesFit sc.design sc.names) where
    count_typed : (r : Reading) (o : Option ℕ) → counter_meant (sc.names r.name.text) ≡ o → counter_fault sc r o ≡ None
        → body_typed sc.design (params_of sc.names sc.params) (var_sorts sc.names sc.vars) (body.Count (unwrap_or o 0) (elems_of sc r.args)) ≡ true
    count_typed r None e h = absurd (stranger sc r.name h)
    count_typed r (Some k) e h =
        and_from (nat_lt k (length sc.design.counters)) (elems_typed sc.design (params_of sc.names sc.params) (var_sorts sc.names sc.vars) (counter_keys sc.design k) (elems_of sc r.args))
        (test k (length sc.design.counters) (fit.counters r.name.text k e)) (args_typed r (counter_keys sc.design k) h)

    none_typed : (ss : List ℕ) → (length ss == 0) ≡ true → elems_typed sc.design (params_of sc.names sc.params) (var_sorts sc.names sc.vars) ss [] ≡ true
    none_typed [] h = refl
    none_typed (s ∷ ss) h = absurd (let p = same_number (length (s ∷ ss)) 0 h in omega arith)

    lone_counter : (m : Mark) (k : ℕ) → (if length (counter_keys sc.design k) == 0 then None else kind_at m) ≡ None → (length (counter_keys sc.design k) == 0) ≡ true
    lone_counter m k h = by (length (counter_keys sc.design k) == 0) h
      where
        by : (b : Bool) → (if b then None else kind_at m) ≡ None → b ≡ true
        by true h = refl
        by false h = absurd cc

    lone_typed : (r : Reading) → r.args ≡ [] → (n o : Option ℕ) → number_named sc r.name.text ≡ n → counter_meant (sc.names r.name.text) ≡ o → lone_fault sc r.name n o ≡ None
        → body_typed sc.design (params_of sc.names sc.params) (var_sorts sc.names sc.vars) (lone_body sc r n) ≡ true
    lone_typed r none (Some n) o e f h = number_typed r.name.text n e
    lone_typed r none None (Some k) e f h =
        subst (λ (q : Option ℕ). body_typed sc.design (params_of sc.names sc.params) (var_sorts sc.names sc.vars) (body.Count (unwrap_or q 0) (elems_of sc r.args)) ≡ true) (sym f)
        (subst (λ ms. body_typed sc.design (params_of sc.names sc.params) (var_sorts sc.names sc.vars) (body.Count k (elems_of sc ms)) ≡ true) (sym none)
        (and_from (nat_lt k (length sc.design.counters)) (elems_typed sc.design (params_of sc.names sc.params) (var_sorts sc.names sc.vars) (counter_keys sc.design k) [])
        (test k (length sc.design.counters) (fit.counters r.name.text k f)) (none_typed (counter_keys sc.design k) (lone_counter r.name k h))))
    lone_typed r none None None e f h = absurd (stranger sc r.name h)

    amount_at : (r : Reading) (args : List Mark) → r.args ≡ args → amount_fault_by sc r args ≡ None → body_typed sc.design (params_of sc.names sc.params) (var_sorts sc.names sc.vars) (amount_by sc r args) ≡ true
    amount_at r [] e h = lone_typed r e (number_named sc r.name.text) (counter_meant (sc.names r.name.text)) refl refl h
    amount_at r (m ∷ ms) e h = count_typed r (counter_meant (sc.names r.name.text)) refl h

    product_typed : (p : Product) → product_fault sc p ≡ None → body_typed sc.design (params_of sc.names sc.params) (var_sorts sc.names sc.vars) (body_of sc p) ≡ true
    product_typed (products.Number f) h = refl
    product_typed (products.Times f r) h = amount_at r r.args refl (otherwise_none (literal_fault f) (amount_fault sc r) h).1
    product_typed (products.Reading r) h = amount_at r r.args refl h

    summand_is_typed : (minus : Bool) (p : Product) → product_fault sc p ≡ None → summand_typed sc.design (params_of sc.names sc.params) (var_sorts sc.names sc.vars) (summand_of sc minus p) ≡ true
    summand_is_typed minus p h =
        and_from (in_literal_range (coef_of minus p)) (body_typed sc.design (params_of sc.names sc.params) (var_sorts sc.names sc.vars) (body_of sc p)) (coef_range minus p) (product_typed p h)

    signed_few : (n : ℕ) (s : Signed) → signed_fault sc n s ≡ None → n < 15
    signed_few n s h =
        let q = limit_none Summands 16 (n + 1) s.summand.word (otherwise_none (limit_at Summands 16 (n + 1) s.summand.word) (product_fault sc s.summand.product) h).0 in
        omega arith

    signed_typed : (n : ℕ) (s : Signed) → signed_fault sc n s ≡ None → summand_typed sc.design (params_of sc.names sc.params) (var_sorts sc.names sc.vars) (signed_of sc s) ≡ true
    signed_typed n s h = summand_is_typed (is_minus s.sign) s.summand.product (otherwise_none (limit_at Summands 16 (n + 1) s.summand.word) (product_fault sc s.summand.product) h).1

    pub term_is_typed : (t : Term) → term_fault sc t ≡ None → term_typed sc.design (params_of sc.names sc.params) (var_sorts sc.names sc.vars) (term_of sc t) ≡ true
    term_is_typed t h =
        let q = otherwise_none (product_fault sc t.first.product) (first_fault (signed_fault sc) 0 t.more) h in
        let few : 0 + length t.more ≤ 15 = first_few (signed_fault sc) 15 signed_few 0 t.more (omega arith) q.1 in
        let long : length (map (signed_of sc) t.more) ≡ length t.more = length-map t.more (signed_of sc) in
        and_from (nat_le (length (term_of sc t).summands) 16) (list_all (summand_typed sc.design (params_of sc.names sc.params) (var_sorts sc.names sc.vars)) (term_of sc t).summands)
        (test_le (length (term_of sc t).summands) 16 (omega arith))
        (and_from (summand_typed sc.design (params_of sc.names sc.params) (var_sorts sc.names sc.vars) (summand_of sc t.minus t.first.product)) (list_all (summand_typed sc.design (params_of sc.names sc.params) (var_sorts sc.names sc.vars)) (map (signed_of sc) t.more))
        (summand_is_typed t.minus t.first.product q.0)
        (list_all-map (summand_typed sc.design (params_of sc.names sc.params) (var_sorts sc.names sc.vars)) (signed_of sc) t.more
        ∙ first_none (signed_fault sc) (λ s. summand_typed sc.design (params_of sc.names sc.params) (var_sorts sc.names sc.vars) (signed_of sc s)) signed_typed 0 t.more q.1))
