-- Typing doesn't ask for tokens, rules and operations: what is typed in a specification is typed with others of them.
use Rattle.std.proofs.Common.{◌≡◌, ℕ, true, ◌&&◌, not, List, [], ◌∷◌, length, refl, ◌∙◌, ap}
use Rattle.std.specs.Prelude.{Bool, nat_le, nat_lt, if◌then◌else◌}
use Rattle.std.specs.List.{list_all}
use Rattle.spec_core.specs.declared.formula.Elem.{Elem}
use Rattle.spec_core.specs.declared.formula.Elem.TheVariants.{Const, Param, Var}
use Rattle.spec_core.specs.declared.formula.Body.{Body}
use Rattle.spec_core.specs.declared.formula.Body.TheVariants as body
use Rattle.spec_core.specs.declared.formula.Term.{Term}
use Rattle.spec_core.specs.declared.operation.Kind.{Kind}
use Rattle.spec_core.specs.declared.operation.Kind.TheVariants.{Sort, Int}
use Rattle.spec_core.specs.declared.operation.Param.{Param as Parameter}
use Rattle.spec_core.specs.declared.operation.Take.{Take}
use Rattle.spec_core.specs.declared.operation.Operation.{Operation}
use Rattle.spec_core.specs.declared.update.Thing.{Thing}
use Rattle.spec_core.specs.declared.update.Thing.TheVariants as thing
use Rattle.spec_core.specs.declared.update.Spot.{Spot}
use Rattle.spec_core.specs.declared.update.Spot.TheVariants.{Every, One}
use Rattle.spec_core.specs.declared.update.Change.{Change}
use Rattle.spec_core.specs.declared.update.Change.TheVariants.{Insert, Remove, Add, Set}
use Rattle.spec_core.specs.declared.spec.Token.{Token}
use Rattle.spec_core.specs.declared.spec.Rule.{Rule}
use Rattle.spec_core.specs.declared.spec.Invariant.{Invariant}
use Rattle.spec_core.specs.Limits.{most_takes, most_variables, most_summands, most_nodes, most_depth}
use Rattle.spec_core.specs.Name.{is_word_name}
use Rattle.spec_core.specs.Form.{Form, true_form, false_form, not_form, and_form, or_form, implies_form, has_form, same_form, differ_form, compare_form}
use Rattle.spec_core.specs.Line.{Line}
use Rattle.spec_core.specs.UpdateLine.{UpdateLine}
use Rattle.spec_core.specs.Specification.{Specification, relation_places, counter_keys, places_of}
use Rattle.spec_core.specs.Truth.{is_exists}
use Rattle.spec_core.specs.Fits.{in_literal_range, is_plain}
use Rattle.spec_core.specs.Typed.{sort_of, is_sort, same_sort, elems_typed, body_typed, summand_typed, term_typed, form_typed, nodes, depth, are_sorts, is_line, is_kind, is_parameter, spot_typed, spots_typed, change_typed, is_update, is_take, is_operation, is_invariant}
use Rattle.spec_core.proofs.Parts.{operation_parts}
use Rattle.conflict_variants.specs.Takes.{with_takes}
use Rattle.conflict_variants.specs.Bare.{with_tokens}

-- two tests that agree
pub list_all-same : {X : Type 0} (p q : X → Bool) → ((x : X) → p x ≡ q x) → (xs : List X) → list_all p xs ≡ list_all q xs
list_all-same p q h [] = refl
list_all-same p q h (x ∷ xs) = λ i. h x i && list_all-same p q h xs i

module _ (d : Specification) (ts : List Token) (rs : List Rule) (os : List Operation) where
  abbrev other : Specification
  other = with_tokens d ts rs os

  sort_same : (ps : List Parameter) (vs : List ℕ) (x : Elem) → sort_of other ps vs x ≡ sort_of d ps vs x
  sort_same ps vs (Const n) = refl
  sort_same ps vs (Param n) = refl
  sort_same ps vs (Var n) = refl

  elems_same : (ps : List Parameter) (vs ss : List ℕ) (xs : List Elem) → elems_typed other ps vs ss xs ≡ elems_typed d ps vs ss xs
  elems_same ps vs [] [] = refl
  elems_same ps vs [] (x ∷ xs) = refl
  elems_same ps vs (s ∷ ss) [] = refl
  elems_same ps vs (s ∷ ss) (x ∷ xs) = λ i. is_sort (sort_same ps vs x i) s && elems_same ps vs ss xs i

  body_same : (ps : List Parameter) (vs : List ℕ) (x : Body) → body_typed other ps vs x ≡ body_typed d ps vs x
  body_same ps vs body.One = refl
  body_same ps vs (body.Param n) = refl
  body_same ps vs (body.Count k es) = λ i. nat_lt k (length d.counters) && elems_same ps vs (counter_keys d k) es i

  term_same : (ps : List Parameter) (vs : List ℕ) (t : Term) → term_typed other ps vs t ≡ term_typed d ps vs t
  term_same ps vs t =
      let same = list_all-same (summand_typed other ps vs) (summand_typed d ps vs) (λ s. λ i. in_literal_range s.coef && body_same ps vs s.body i) t.summands in
      λ i. nat_le (length t.summands) most_summands && same i

  form_same : (ps : List Parameter) (vs : List ℕ) (f : Form) → form_typed other ps vs f ≡ form_typed d ps vs f
  form_same ps vs true_form = refl
  form_same ps vs false_form = refl
  form_same ps vs (not_form f) = form_same ps vs f
  form_same ps vs (and_form f g) = λ i. form_same ps vs f i && form_same ps vs g i
  form_same ps vs (or_form f g) = λ i. form_same ps vs f i && form_same ps vs g i
  form_same ps vs (implies_form f g) = λ i. form_same ps vs f i && form_same ps vs g i
  form_same ps vs (has_form k es) = λ i. nat_lt k (length d.relations) && elems_same ps vs (relation_places d k) es i
  form_same ps vs (same_form a b) = λ i. same_sort (sort_same ps vs a i) (sort_same ps vs b i)
  form_same ps vs (differ_form a b) = λ i. same_sort (sort_same ps vs a i) (sort_same ps vs b i)
  form_same ps vs (compare_form t c u) = λ i. term_same ps vs t i && term_same ps vs u i

  line_same : (ps : List Parameter) (l : Line) → is_line other ps l ≡ is_line d ps l
  line_same ps l =
      λ i. are_sorts d (if is_plain l.prefix then 0 else most_variables) l.vars && (nat_le (nodes l.body) most_nodes && nat_le (depth l.body) most_depth && form_same ps l.vars l.body i)

  kind_same : (k : Kind) → is_kind other k ≡ is_kind d k
  kind_same (Sort s) = refl
  kind_same Int = refl

  spots_same : (ps : List Parameter) (ss : List ℕ) (xs : List Spot) → spots_typed other ps ss xs ≡ spots_typed d ps ss xs
  spots_same ps [] [] = refl
  spots_same ps [] (x ∷ xs) = refl
  spots_same ps (s ∷ ss) [] = refl
  spots_same ps (s ∷ ss) (x ∷ xs) = λ i. one x i && spots_same ps ss xs i
    where
      one : (x : Spot) → spot_typed other ps s x ≡ spot_typed d ps s x
      one Every = refl
      one (One e) = λ i. is_sort (sort_same ps [] e i) s

  change_same : (ps : List Parameter) (x : Thing) (c : Change) → change_typed other ps x c ≡ change_typed d ps x c
  change_same ps (thing.Relation k) Insert = refl
  change_same ps (thing.Relation k) Remove = refl
  change_same ps (thing.Relation k) (Add t) = refl
  change_same ps (thing.Relation k) (Set t) = refl
  change_same ps (thing.Counter k) Insert = refl
  change_same ps (thing.Counter k) Remove = refl
  change_same ps (thing.Counter k) (Add t) = λ i. nat_lt k (length d.counters) && term_same ps [] t i
  change_same ps (thing.Counter k) (Set t) = λ i. nat_lt k (length d.counters) && term_same ps [] t i

  places_same : (x : Thing) → places_of other x ≡ places_of d x
  places_same (thing.Relation k) = refl
  places_same (thing.Counter k) = refl

  update_same : (ps : List Parameter) (u : UpdateLine) → is_update other ps u ≡ is_update d ps u
  update_same ps u =
      let spots = spots_same ps (places_of other u.thing) u.at ∙ ap (λ (ss : List ℕ). spots_typed d ps ss u.at) (places_same u.thing) in
      λ i. change_same ps u.thing u.change i && spots i && (nat_le (nodes u.guard) most_nodes && nat_le (depth u.guard) most_depth && form_same ps [] u.guard i)

  -- an invariant stays one
  pub invariants_kept : (is : List Invariant) → list_all (is_invariant d) is ≡ true → list_all (is_invariant other) is ≡ true
  invariants_kept is h = list_all-same (is_invariant other) (is_invariant d) (λ v. λ i. not (is_exists v.line.prefix) && line_same [] v.line i) is ∙ h

  -- an operation with other takes lines stays one, where these are typed
  pub operation_kept : (o : Operation) (takes : List Take) → is_operation d o ≡ true → nat_le (length takes) most_takes ≡ true → list_all (is_take other o.params) takes ≡ true
      → is_operation other (with_takes o takes) ≡ true
  operation_kept o takes h few typed =
      let p = operation_parts d o h in
      let params = list_all-same (is_parameter other) (is_parameter d) (λ x. λ i. kind_same x.kind i && is_word_name x.name) o.params ∙ p.params in
      let requires_ = list_all-same (is_line other o.params) (is_line d o.params) (line_same o.params) o.requires_ ∙ p.requires_ in
      let updates = list_all-same (is_update other o.params) (is_update d o.params) (update_same o.params) o.updates ∙ p.updates in
      let observes = list_all-same (is_line other o.params) (is_line d o.params) (line_same o.params) o.observes ∙ p.observes in
      λ i. p.few_params i && params i && p.distinct i && p.few_requires i && requires_ i && p.few_updates i && updates i && few i && typed i && p.few_observes i && observes i
