-- What is typed in a specification is typed in one that has more.
use Rattle.std.proofs.Common.{◌≡◌, ℕ, ◌<◌, ◌≤◌, true, not, ◌&&◌, ◌||◌, ◌==◌, nat_lt, nat_le, if◌then◌else◌, List, [], ◌∷◌, ◌++◌, length, Option, Some, refl, ◌∙◌, ap, subst}
use Rattle.std.proofs.lemmas.Bool.{and_from, and_parts}
use Rattle.std.specs.Prelude.{slice_get, option_map}
use Rattle.std.specs.List.{list_all, zip}
use Rattle.spec_core.specs.declared.formula.Elem.{Elem}
use Rattle.spec_core.specs.declared.formula.Elem.TheVariants.{Const, Param, Var}
use Rattle.spec_core.specs.declared.formula.Body.{Body}
use Rattle.spec_core.specs.declared.formula.Body.TheVariants as body
use Rattle.spec_core.specs.declared.formula.Summand.{Summand}
use Rattle.spec_core.specs.declared.formula.Term.{Term}
use Rattle.spec_core.specs.declared.operation.Kind.{Kind}
use Rattle.spec_core.specs.declared.operation.Kind.TheVariants.{Sort, Int}
use Rattle.spec_core.specs.declared.operation.Param.{Param as Parameter}
use Rattle.spec_core.specs.declared.operation.Take.{Take}
use Rattle.spec_core.specs.declared.operation.Operation.{Operation}
use Rattle.spec_core.specs.declared.update.Thing.{Thing}
use Rattle.spec_core.specs.declared.update.Thing.TheVariants as thing
use Rattle.spec_core.specs.declared.update.Spot.{Spot}
use Rattle.spec_core.specs.declared.update.Spot.TheVariants.{Every, One}
use Rattle.spec_core.specs.declared.update.Change.{Change}
use Rattle.spec_core.specs.declared.update.Change.TheVariants.{Insert, Remove, Add, Set}
use Rattle.spec_core.specs.declared.spec.Const.{Const as Constant}
use Rattle.spec_core.specs.declared.spec.Relation.{Relation}
use Rattle.spec_core.specs.declared.spec.Counter.{Counter}
use Rattle.spec_core.specs.declared.spec.Token.{Token}
use Rattle.spec_core.specs.declared.spec.Pattern.{Pattern}
use Rattle.spec_core.specs.declared.spec.Rule.{Rule}
use Rattle.spec_core.specs.declared.spec.Invariant.{Invariant}
use Rattle.spec_core.specs.Form.{Form, true_form, false_form, not_form, and_form, or_form, implies_form, has_form, same_form, differ_form, compare_form}
use Rattle.spec_core.specs.Line.{Line}
use Rattle.spec_core.specs.UpdateLine.{UpdateLine}
use Rattle.spec_core.specs.Name.{is_word_name}
use Rattle.spec_core.specs.Specification.{Specification, relation_places, counter_keys, token_places, places_of}
use Rattle.spec_core.specs.Truth.{is_exists}
use Rattle.spec_core.specs.Fits.{in_literal_range, is_plain}
use Rattle.spec_core.specs.Typed.{sort_of, is_sort, same_sort, elems_typed, body_typed, summand_typed, term_typed, form_typed, nodes, depth, is_formula, are_sorts, is_line, is_kind, is_parameter, spot_typed, spots_typed, change_typed, is_update, is_take, is_operation, is_relation, is_counter, is_token, is_pattern, agree_on, sorts_of_vars, is_rule, is_invariant}
use Rattle.typing_rules.proofs.Basics.{and_both, list_all-mono, tested, below_more, sort_some, some_sort, same_some, some_same}

-- the sort of a constant
abbrev pub const_sort : Specification → ℕ → Option ℕ
const_sort d n = option_map (λ (c : Constant). c.sort) (slice_get d.consts n)

-- A specification has what another has, at the same places: its version and its sorts, constants of the same sorts, and
-- relations, counters and tokens with the same places.
pub record Extends (d e : Specification) : Type 0 where
  pub version : d.version ≡ e.version
  pub sorts : length d.sorts ≤ length e.sorts
  pub consts : (n s : ℕ) → const_sort d n ≡ Some s → const_sort e n ≡ Some s
  pub few_relations : length d.relations ≤ length e.relations
  pub relations : (k : ℕ) → k < length d.relations → relation_places d k ≡ relation_places e k
  pub few_counters : length d.counters ≤ length e.counters
  pub counters : (k : ℕ) → k < length d.counters → counter_keys d k ≡ counter_keys e k
  pub few_tokens : length d.tokens ≤ length e.tokens
  pub tokens : (k : ℕ) → k < length d.tokens → token_places d k ≡ token_places e k

module _ (d e : Specification) (ext : Extends d e) where
  -- ---- elements

  sort_kept : (params : List Parameter) (vars : List ℕ) (x : Elem) (s : ℕ) → sort_of d params vars x ≡ Some s → sort_of e params vars x ≡ Some s
  sort_kept params vars (Const n) s h = ext.consts n s h
  sort_kept params vars (Param n) s h = h
  sort_kept params vars (Var n) s h = h

  pub elem_extends : (params : List Parameter) (vars : List ℕ) (s : ℕ) (x : Elem) → is_sort (sort_of d params vars x) s ≡ true → is_sort (sort_of e params vars x) s ≡ true
  elem_extends params vars s x h = some_sort (sort_of e params vars x) s (sort_kept params vars x s (sort_some (sort_of d params vars x) s h))

  same_extends : (params : List Parameter) (vars : List ℕ) (a b : Elem) → same_sort (sort_of d params vars a) (sort_of d params vars b) ≡ true → same_sort (sort_of e params vars a) (sort_of e params vars b) ≡ true
  same_extends params vars a b h =
      let p = same_some (sort_of d params vars a) (sort_of d params vars b) h in
      some_same (sort_of e params vars a) (sort_of e params vars b) p.0 (sort_kept params vars a p.0 p.1) (sort_kept params vars b p.0 p.2)

  elems_extend : (params : List Parameter) (vars ss : List ℕ) (xs : List Elem) → elems_typed d params vars ss xs ≡ true → elems_typed e params vars ss xs ≡ true
  elems_extend params vars [] [] h = refl
  elems_extend params vars [] (x ∷ xs) h = absurd cc
  elems_extend params vars (s ∷ ss) [] h = absurd cc
  elems_extend params vars (s ∷ ss) (x ∷ xs) h =
      and_both (is_sort (sort_of d params vars x) s) (elems_typed d params vars ss xs) (is_sort (sort_of e params vars x) s) (elems_typed e params vars ss xs)
      (elem_extends params vars s x) (elems_extend params vars ss xs) h

  -- ---- terms and formulas

  -- what stands at the places of a relation, a counter or a token that exists
  reading_extends : (params : List Parameter) (vars : List ℕ) (n m : ℕ) (ss ts : List ℕ) (k : ℕ) (xs : List Elem) → n ≤ m → (k < n → ss ≡ ts)
      → (nat_lt k n && elems_typed d params vars ss xs) ≡ true → (nat_lt k m && elems_typed e params vars ts xs) ≡ true
  reading_extends params vars n m ss ts k xs le same h =
      let p = and_parts (nat_lt k n) (elems_typed d params vars ss xs) h in
      and_from (nat_lt k m) (elems_typed e params vars ts xs) (below_more k n m le p.0)
      (subst (λ us. elems_typed e params vars us xs ≡ true) (same (tested k n p.0)) (elems_extend params vars ss xs p.1))

  body_extends : (params : List Parameter) (vars : List ℕ) (b : Body) → body_typed d params vars b ≡ true → body_typed e params vars b ≡ true
  body_extends params vars body.One h = refl
  body_extends params vars (body.Param n) h = h
  body_extends params vars (body.Count k xs) h =
      reading_extends params vars (length d.counters) (length e.counters) (counter_keys d k) (counter_keys e k) k xs ext.few_counters (ext.counters k) h

  summand_extends : (params : List Parameter) (vars : List ℕ) (s : Summand) → summand_typed d params vars s ≡ true → summand_typed e params vars s ≡ true
  summand_extends params vars s h = and_both (in_literal_range s.coef) (body_typed d params vars s.body) (in_literal_range s.coef) (body_typed e params vars s.body) (λ k. k) (body_extends params vars s.body) h

  pub term_extends : (params : List Parameter) (vars : List ℕ) (t : Term) → term_typed d params vars t ≡ true → term_typed e params vars t ≡ true
  term_extends params vars t h =
      and_both (nat_le (length t.summands) 16) (list_all (summand_typed d params vars) t.summands) (nat_le (length t.summands) 16) (list_all (summand_typed e params vars) t.summands)
      (λ k. k) (list_all-mono (summand_typed d params vars) (summand_typed e params vars) (summand_extends params vars) t.summands) h

  form_extends : (params : List Parameter) (vars : List ℕ) (f : Form) → form_typed d params vars f ≡ true → form_typed e params vars f ≡ true
  form_extends params vars true_form h = refl
  form_extends params vars false_form h = refl
  form_extends params vars (not_form f) h = form_extends params vars f h
  form_extends params vars (and_form f g) h = and_both (form_typed d params vars f) (form_typed d params vars g) (form_typed e params vars f) (form_typed e params vars g) (form_extends params vars f) (form_extends params vars g) h
  form_extends params vars (or_form f g) h = and_both (form_typed d params vars f) (form_typed d params vars g) (form_typed e params vars f) (form_typed e params vars g) (form_extends params vars f) (form_extends params vars g) h
  form_extends params vars (implies_form f g) h = and_both (form_typed d params vars f) (form_typed d params vars g) (form_typed e params vars f) (form_typed e params vars g) (form_extends params vars f) (form_extends params vars g) h
  form_extends params vars (has_form k xs) h =
      reading_extends params vars (length d.relations) (length e.relations) (relation_places d k) (relation_places e k) k xs ext.few_relations (ext.relations k) h
  form_extends params vars (same_form a b) h = same_extends params vars a b h
  form_extends params vars (differ_form a b) h = same_extends params vars a b h
  form_extends params vars (compare_form t c u) h = and_both (term_typed d params vars t) (term_typed d params vars u) (term_typed e params vars t) (term_typed e params vars u) (term_extends params vars t) (term_extends params vars u) h

  pub formula_extends : (params : List Parameter) (vars : List ℕ) (f : Form) → is_formula d params vars f ≡ true → is_formula e params vars f ≡ true
  formula_extends params vars f h = and_both (nat_le (nodes f) 200 && nat_le (depth f) 200) (form_typed d params vars f) (nat_le (nodes f) 200 && nat_le (depth f) 200) (form_typed e params vars f) (λ k. k) (form_extends params vars f) h

  pub sorts_extend : (most : ℕ) (ss : List ℕ) → are_sorts d most ss ≡ true → are_sorts e most ss ≡ true
  sorts_extend most ss h =
      and_both (nat_le (length ss) most) (list_all (λ s. nat_lt s (length d.sorts)) ss) (nat_le (length ss) most) (list_all (λ s. nat_lt s (length e.sorts)) ss)
      (λ k. k) (list_all-mono (λ s. nat_lt s (length d.sorts)) (λ s. nat_lt s (length e.sorts)) (λ s. below_more s (length d.sorts) (length e.sorts) ext.sorts) ss) h

  pub line_extends : (params : List Parameter) (l : Line) → is_line d params l ≡ true → is_line e params l ≡ true
  line_extends params l h =
      let most = if is_plain l.prefix then 0 else 3 in
      and_both (are_sorts d most l.vars) (is_formula d params l.vars l.body) (are_sorts e most l.vars) (is_formula e params l.vars l.body)
      (sorts_extend most l.vars) (formula_extends params l.vars l.body) h

  -- ---- operations

  kind_extends : (k : Kind) → is_kind d k ≡ true → is_kind e k ≡ true
  kind_extends (Sort s) h = below_more s (length d.sorts) (length e.sorts) ext.sorts h
  kind_extends Int h = refl

  spot_extends : (params : List Parameter) (s : ℕ) (x : Spot) → spot_typed d params s x ≡ true → spot_typed e params s x ≡ true
  spot_extends params s Every h = refl
  spot_extends params s (One x) h = elem_extends params [] s x h

  spots_extend : (params : List Parameter) (ss : List ℕ) (xs : List Spot) → spots_typed d params ss xs ≡ true → spots_typed e params ss xs ≡ true
  spots_extend params [] [] h = refl
  spots_extend params [] (x ∷ xs) h = absurd cc
  spots_extend params (s ∷ ss) [] h = absurd cc
  spots_extend params (s ∷ ss) (x ∷ xs) h =
      and_both (spot_typed d params s x) (spots_typed d params ss xs) (spot_typed e params s x) (spots_typed e params ss xs) (spot_extends params s x) (spots_extend params ss xs) h

  change_extends : (params : List Parameter) (t : Thing) (c : Change) → change_typed d params t c ≡ true → change_typed e params t c ≡ true
  change_extends params (thing.Relation k) Insert h = below_more k (length d.relations) (length e.relations) ext.few_relations h
  change_extends params (thing.Relation k) Remove h = below_more k (length d.relations) (length e.relations) ext.few_relations h
  change_extends params (thing.Relation k) (Add t) h = absurd cc
  change_extends params (thing.Relation k) (Set t) h = absurd cc
  change_extends params (thing.Counter k) Insert h = absurd cc
  change_extends params (thing.Counter k) Remove h = absurd cc
  change_extends params (thing.Counter k) (Add t) h = and_both (nat_lt k (length d.counters)) (term_typed d params [] t) (nat_lt k (length e.counters)) (term_typed e params [] t) (below_more k (length d.counters) (length e.counters) ext.few_counters) (term_extends params [] t) h
  change_extends params (thing.Counter k) (Set t) h = and_both (nat_lt k (length d.counters)) (term_typed d params [] t) (nat_lt k (length e.counters)) (term_typed e params [] t) (below_more k (length d.counters) (length e.counters) ext.few_counters) (term_extends params [] t) h

  -- a thing that is changed has the same places
  places_kept : (params : List Parameter) (t : Thing) (c : Change) → change_typed d params t c ≡ true → places_of d t ≡ places_of e t
  places_kept params (thing.Relation k) Insert h = ext.relations k (tested k (length d.relations) h)
  places_kept params (thing.Relation k) Remove h = ext.relations k (tested k (length d.relations) h)
  places_kept params (thing.Relation k) (Add t) h = absurd cc
  places_kept params (thing.Relation k) (Set t) h = absurd cc
  places_kept params (thing.Counter k) Insert h = absurd cc
  places_kept params (thing.Counter k) Remove h = absurd cc
  places_kept params (thing.Counter k) (Add t) h = ext.counters k (tested k (length d.counters) (and_parts (nat_lt k (length d.counters)) (term_typed d params [] t) h).0)
  places_kept params (thing.Counter k) (Set t) h = ext.counters k (tested k (length d.counters) (and_parts (nat_lt k (length d.counters)) (term_typed d params [] t) h).0)

  update_extends : (params : List Parameter) (u : UpdateLine) → is_update d params u ≡ true → is_update e params u ≡ true
  update_extends params u h =
      let p = and_parts (change_typed d params u.thing u.change && spots_typed d params (places_of d u.thing) u.at) (is_formula d params [] u.guard) h in
      let q = and_parts (change_typed d params u.thing u.change) (spots_typed d params (places_of d u.thing) u.at) p.0 in
      and_from (change_typed e params u.thing u.change && spots_typed e params (places_of e u.thing) u.at) (is_formula e params [] u.guard)
      (and_from (change_typed e params u.thing u.change) (spots_typed e params (places_of e u.thing) u.at)
      (change_extends params u.thing u.change q.0)
      (subst (λ ss. spots_typed e params ss u.at ≡ true) (places_kept params u.thing u.change q.0) (spots_extend params (places_of d u.thing) u.at q.1)))
      (formula_extends params [] u.guard p.1)

  take_extends : (params : List Parameter) (t : Take) → is_take d params t ≡ true → is_take e params t ≡ true
  take_extends params t h =
      and_both (nat_lt t.token (length d.tokens) && elems_typed d params [] (token_places d t.token) t.args) (not t.shared || (d.version == 2))
      (nat_lt t.token (length e.tokens) && elems_typed e params [] (token_places e t.token) t.args) (not t.shared || (e.version == 2))
      (reading_extends params [] (length d.tokens) (length e.tokens) (token_places d t.token) (token_places e t.token) t.token t.args ext.few_tokens (ext.tokens t.token))
      (λ k. subst (λ v. (not t.shared || (v == 2)) ≡ true) ext.version k) h

  parameter_extends : (p : Parameter) → is_parameter d p ≡ true → is_parameter e p ≡ true
  parameter_extends p h = and_both (is_kind d p.kind) (is_word_name p.name) (is_kind e p.kind) (is_word_name p.name) (kind_extends p.kind) (λ k. k) h

  pub operation_extends : (o : Operation) → is_operation d o ≡ true → is_operation e o ≡ true
  operation_extends o h =
      and_both _ _ _ _ (and_both _ _ _ _ (and_both _ _ _ _ (and_both _ _ _ _ (and_both _ _ _ _ (and_both _ _ _ _ (and_both _ _ _ _ (and_both _ _ _ _ (and_both _ _ _ _ (and_both _ _ _ _
      (λ k. k) (list_all-mono (is_parameter d) (is_parameter e) parameter_extends o.params))
      (λ k. k))
      (λ k. k)) (list_all-mono (is_line d o.params) (is_line e o.params) (line_extends o.params) o.requires_))
      (λ k. k)) (list_all-mono (is_update d o.params) (is_update e o.params) (update_extends o.params) o.updates))
      (λ k. k)) (list_all-mono (is_take d o.params) (is_take e o.params) (take_extends o.params) o.takes))
      (λ k. subst (λ v. nat_le (length o.observes) (if v == 2 then 8 else 0) ≡ true) ext.version k)) (list_all-mono (is_line d o.params) (is_line e o.params) (line_extends o.params) o.observes) h

  -- ---- the other parts

  pub relation_extends : (r : Relation) → is_relation d r ≡ true → is_relation e r ≡ true
  relation_extends r h = sorts_extend 3 r.places h

  pub counter_extends : (c : Counter) → is_counter d c ≡ true → is_counter e c ≡ true
  counter_extends c h = and_both (are_sorts d 2 c.keys) (in_literal_range c.initial) (are_sorts e 2 c.keys) (in_literal_range c.initial) (sorts_extend 2 c.keys) (λ k. k) h

  pub token_extends : (t : Token) → is_token d t ≡ true → is_token e t ≡ true
  token_extends t h = sorts_extend 3 t.places h

  pattern_places : (p : Pattern) → is_pattern d p ≡ true → token_places d p.token ≡ token_places e p.token
  pattern_places p h = ext.tokens p.token (tested p.token (length d.tokens) (and_parts (nat_lt p.token (length d.tokens)) (length p.vars == length (token_places d p.token)) h).0)

  pattern_extends : (p : Pattern) → is_pattern d p ≡ true → is_pattern e p ≡ true
  pattern_extends p h =
      and_both (nat_lt p.token (length d.tokens)) (length p.vars == length (token_places d p.token)) (nat_lt p.token (length e.tokens)) (length p.vars == length (token_places e p.token))
      (below_more p.token (length d.tokens) (length e.tokens) ext.few_tokens) (λ k. subst (λ ss. (length p.vars == length ss) ≡ true) (pattern_places p h) k) h

  pub rule_extends : (r : Rule) → is_rule d r ≡ true → is_rule e r ≡ true
  rule_extends r h =
      let p = and_parts (is_pattern d r.left && is_pattern d r.right) (list_all (agree_on (sorts_of_vars d r)) (sorts_of_vars d r)) h in
      let q = and_parts (is_pattern d r.left) (is_pattern d r.right) p.0 in
      let same : sorts_of_vars d r ≡ sorts_of_vars e r =
      ap (λ ss. zip r.left.vars ss ++ zip r.right.vars (token_places d r.right.token)) (pattern_places r.left q.0)
      ∙ ap (λ ss. zip r.left.vars (token_places e r.left.token) ++ zip r.right.vars ss) (pattern_places r.right q.1) in
      and_from (is_pattern e r.left && is_pattern e r.right) (list_all (agree_on (sorts_of_vars e r)) (sorts_of_vars e r))
      (and_from (is_pattern e r.left) (is_pattern e r.right) (pattern_extends r.left q.0) (pattern_extends r.right q.1))
      (subst (λ xs. list_all (agree_on xs) xs ≡ true) same p.1)

  pub invariant_extends : (i : Invariant) → is_invariant d i ≡ true → is_invariant e i ≡ true
  invariant_extends i h = and_both (not (is_exists i.line.prefix)) (is_line d [] i.line) (not (is_exists i.line.prefix)) (is_line e [] i.line) (λ k. k) (line_extends [] i.line) h
