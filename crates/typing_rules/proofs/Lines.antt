-- Lines without a fault are typed, and so is the operation that they are.
use Rattle.std.proofs.Common.{◌≡◌, ℕ, ◌<◌, Bool, true, false, not, ◌&&◌, ◌||◌, ◌==◌, nat_lt, nat_le, if◌then◌else◌, List, [], ◌∷◌, ◌++◌, length, Option, None, Some, Ok, refl, sym, ◌∙◌, ap, subst, arith}
use Rattle.std.proofs.lemmas.Bool.{and_from, and_parts}
use Rattle.std.specs.Prelude.{unwrap_or}
use Rattle.std.specs.List.{list_all}
use Rattle.spec_core.specs.declared.operation.Param.{Param as Parameter}
use Rattle.spec_core.specs.declared.operation.Operation.{Operation}
use Rattle.spec_core.specs.declared.update.Change.TheVariants as change
use Rattle.spec_core.specs.UpdateLine.{UpdateLine}
use Rattle.spec_core.specs.Specification.{Specification, relation_places, counter_keys, token_places}
use Rattle.spec_core.specs.Typed.{elems_typed, is_formula, is_line, is_parameter, parameter_names, all_distinct, spot_typed, spots_typed, is_update, is_take, is_operation}
use Rattle.spec_trees.specs.declared.tree.Mark.{Mark}
use Rattle.spec_trees.specs.declared.tree.Reading.{Reading}
use Rattle.spec_trees.specs.declared.tree.Term.{Term}
use Rattle.spec_trees.specs.declared.tree.Spot.{Spot}
use Rattle.spec_trees.specs.declared.tree.Spot.TheVariants as spots
use Rattle.spec_trees.specs.declared.tree.Mode.{Mode}
use Rattle.spec_trees.specs.declared.tree.Param.{Param}
use Rattle.spec_trees.specs.Form.{Form, Sentence, LineForm, requires_form, insert_form, remove_form, add_form, set_form, takes_form, observes_form}
use Rattle.typing_rules.specs.declared.which.Which.TheVariants.{Requires, Updates, Takes, Observes}
use Rattle.typing_rules.specs.Fault.{◌otherwise◌, limit_at}
use Rattle.typing_rules.specs.Scope.{Names, Scope, relation_meant, counter_meant, token_meant, params_of}
use Rattle.typing_rules.specs.Terms.{elems_of, places_fault, term_fault, term_of}
use Rattle.typing_rules.specs.Formulas.{sentence_fault, sentence_of}
use Rattle.typing_rules.specs.Lines.{spot_fault, spots_fault, spot_of, spots_of, target_fault_at, relation_fault_at, counter_fault_at, relation_target_fault, counter_target_fault, guard_fault, guard_formula, relation_target, counter_target, update_of, taking_fault_at, taking_fault, is_shared, take_of, most_observed, line_fault, with_line, typed_lines}
use Rattle.typing_rules.proofs.Basics.{test, otherwise_none, unless_ok, limit_none, list_all-more, few_more}
use Rattle.typing_rules.proofs.Elements.{NamesFit, stranger, places_none, elem_typed, args_typed, term_is_typed}
use Rattle.typing_rules.proofs.Formulas.{formula_is_typed, sentence_is_typed}

-- the scope of an operation's lines
abbrev pub lines_scope : Specification → Names → List Param → Scope
lines_scope d names ps = record { design = d; names = names; params = ps; vars = [] }

-- what a typed operation keeps
pub record OperationParts (d : Specification) (params : List Parameter) (o : Operation) : Type 0 where
  pub same : o.params ≡ params
  pub few_params : nat_le (length params) 6 ≡ true
  pub kinds : list_all (is_parameter d) params ≡ true
  pub apart : all_distinct (parameter_names params) ≡ true
  pub few_requires : nat_le (length o.requires_) 8 ≡ true
  pub requires_typed : list_all (is_line d params) o.requires_ ≡ true
  pub few_updates : nat_le (length o.updates) 16 ≡ true
  pub updates_typed : list_all (is_update d params) o.updates ≡ true
  pub few_takes : nat_le (length o.takes) 4 ≡ true
  pub takes_typed : list_all (is_take d params) o.takes ≡ true
  pub few_observes : nat_le (length o.observes) (if d.version == 2 then 8 else 0) ≡ true
  pub observes_typed : list_all (is_line d params) o.observes ≡ true

whole_operation : (d : Specification) (o : Operation) → OperationParts d o.params o → is_operation d o ≡ true
whole_operation d o p =
    and_from _ _ (and_from _ _ (and_from _ _ (and_from _ _ (and_from _ _ (and_from _ _ (and_from _ _ (and_from _ _ (and_from _ _ (and_from _ _
    p.few_params p.kinds) p.apart) p.few_requires) p.requires_typed) p.few_updates) p.updates_typed) p.few_takes) p.takes_typed) p.few_observes) p.observes_typed

pub operation_is_typed : (d : Specification) (params : List Parameter) (o : Operation) → OperationParts d params o → is_operation d o ≡ true
operation_is_typed d params o p = whole_operation d o (subst (λ ps. OperationParts d ps o) (sym p.same) p)

module _ (d : Specification) (names : Names) (fit : NamesFit d names) (ps : List Param) where
  -- ---- updates

  spot_is_typed : (s : ℕ) (x : Spot) → spot_fault (lines_scope d names ps) s x ≡ None → spot_typed d (params_of names ps) s (spot_of (lines_scope d names ps) x) ≡ true
  spot_is_typed s (spots.One m) h = elem_typed (lines_scope d names ps) s m h
  spot_is_typed s spots.Every h = refl

  spots_are_typed : (ss : List ℕ) (xs : List Spot) → length ss ≡ length xs → spots_fault (lines_scope d names ps) ss xs ≡ None → spots_typed d (params_of names ps) ss (spots_of (lines_scope d names ps) xs) ≡ true
  spots_are_typed [] [] e h = refl
  spots_are_typed [] (x ∷ xs) e h = absurd (omega arith)
  spots_are_typed (s ∷ ss) [] e h = absurd (omega arith)
  spots_are_typed (s ∷ ss) (x ∷ xs) e h =
      let q = otherwise_none (spot_fault (lines_scope d names ps) s x) (spots_fault (lines_scope d names ps) ss xs) h in
      and_from (spot_typed d (params_of names ps) s (spot_of (lines_scope d names ps) x)) (spots_typed d (params_of names ps) ss (spots_of (lines_scope d names ps) xs))
      (spot_is_typed s x q.0) (spots_are_typed ss xs (omega arith) q.1)

  target_typed : (m : Mark) (xs : List Spot) (places : List ℕ) → target_fault_at (lines_scope d names ps) m xs places ≡ None → spots_typed d (params_of names ps) places (spots_of (lines_scope d names ps) xs) ≡ true
  target_typed m xs places h =
      let q = otherwise_none (places_fault m places (length xs)) (spots_fault (lines_scope d names ps) places xs) h in
      spots_are_typed places xs (places_none m places (length xs) q.0) q.1

  relation_typed : (m : Mark) (xs : List Spot) (o : Option ℕ) → relation_meant (names m.text) ≡ o → relation_fault_at (lines_scope d names ps) m xs o ≡ None
      → (nat_lt (unwrap_or o 0) (length d.relations) && spots_typed d (params_of names ps) (relation_places d (unwrap_or o 0)) (spots_of (lines_scope d names ps) xs)) ≡ true
  relation_typed m xs None e h = absurd (stranger (lines_scope d names ps) m h)
  relation_typed m xs (Some k) e h = and_from _ _ (test k (length d.relations) (fit.relations m.text k e)) (target_typed m xs (relation_places d k) h)

  counter_typed : (m : Mark) (xs : List Spot) (o : Option ℕ) → counter_meant (names m.text) ≡ o → counter_fault_at (lines_scope d names ps) m xs o ≡ None
      → (nat_lt (unwrap_or o 0) (length d.counters) && spots_typed d (params_of names ps) (counter_keys d (unwrap_or o 0)) (spots_of (lines_scope d names ps) xs)) ≡ true
  counter_typed m xs None e h = absurd (stranger (lines_scope d names ps) m h)
  counter_typed m xs (Some k) e h = and_from _ _ (test k (length d.counters) (fit.counters m.text k e)) (target_typed m xs (counter_keys d k) h)

  guard_typed : (g : Option Form) → guard_fault (lines_scope d names ps) g ≡ None → is_formula d (params_of names ps) [] (guard_formula (lines_scope d names ps) g) ≡ true
  guard_typed None h = refl
  guard_typed (Some f) h = formula_is_typed (lines_scope d names ps) fit f h

  insert_typed : (m : Mark) (xs : List Spot) (g : Option Form) → relation_target_fault (lines_scope d names ps) m xs ≡ None → guard_fault (lines_scope d names ps) g ≡ None
      → is_update d (params_of names ps) (update_of (lines_scope d names ps) (relation_target (lines_scope d names ps) m) xs change.Insert g) ≡ true
  insert_typed m xs g h k = and_from _ _ (relation_typed m xs (relation_meant (names m.text)) refl h) (guard_typed g k)

  remove_typed : (m : Mark) (xs : List Spot) (g : Option Form) → relation_target_fault (lines_scope d names ps) m xs ≡ None → guard_fault (lines_scope d names ps) g ≡ None
      → is_update d (params_of names ps) (update_of (lines_scope d names ps) (relation_target (lines_scope d names ps) m) xs change.Remove g) ≡ true
  remove_typed m xs g h k = and_from _ _ (relation_typed m xs (relation_meant (names m.text)) refl h) (guard_typed g k)

  between : (a b c : Bool) → (a && b) ≡ true → c ≡ true → ((a && c) && b) ≡ true
  between a b c h k = let p = and_parts a b h in and_from (a && c) b (and_from a c p.0 k) p.1

  add_typed : (m : Mark) (xs : List Spot) (t : Term) (g : Option Form) → counter_target_fault (lines_scope d names ps) m xs ≡ None → term_fault (lines_scope d names ps) t ≡ None → guard_fault (lines_scope d names ps) g ≡ None
      → is_update d (params_of names ps) (update_of (lines_scope d names ps) (counter_target (lines_scope d names ps) m) xs (change.Add (term_of (lines_scope d names ps) t)) g) ≡ true
  add_typed m xs t g h i k = and_from _ _ (between _ _ _ (counter_typed m xs (counter_meant (names m.text)) refl h) (term_is_typed (lines_scope d names ps) fit t i)) (guard_typed g k)

  set_typed : (m : Mark) (xs : List Spot) (t : Term) (g : Option Form) → counter_target_fault (lines_scope d names ps) m xs ≡ None → term_fault (lines_scope d names ps) t ≡ None → guard_fault (lines_scope d names ps) g ≡ None
      → is_update d (params_of names ps) (update_of (lines_scope d names ps) (counter_target (lines_scope d names ps) m) xs (change.Set (term_of (lines_scope d names ps) t)) g) ≡ true
  set_typed m xs t g h i k = and_from _ _ (between _ _ _ (counter_typed m xs (counter_meant (names m.text)) refl h) (term_is_typed (lines_scope d names ps) fit t i)) (guard_typed g k)

  -- ---- takings

  shared_typed : (a b : Bool) → (not (a && b) || b) ≡ true
  shared_typed true true = refl
  shared_typed true false = refl
  shared_typed false b = refl

  taken_typed : (r : Reading) (o : Option ℕ) → token_meant (names r.name.text) ≡ o → taking_fault_at (lines_scope d names ps) r o ≡ None
      → (nat_lt (unwrap_or o 0) (length d.tokens) && elems_typed d (params_of names ps) [] (token_places d (unwrap_or o 0)) (elems_of (lines_scope d names ps) r.args)) ≡ true
  taken_typed r None e h = absurd (stranger (lines_scope d names ps) r.name h)
  taken_typed r (Some k) e h = and_from _ _ (test k (length d.tokens) (fit.tokens r.name.text k e)) (args_typed (lines_scope d names ps) r (token_places d k) h)

  take_typed : (r : Reading) (m : Mode) → taking_fault (lines_scope d names ps) r ≡ None → is_take d (params_of names ps) (take_of (lines_scope d names ps) r m) ≡ true
  take_typed r m h = and_from _ _ (taken_typed r (token_meant (names r.name.text)) refl h) (shared_typed (is_shared m) (d.version == 2))

  -- ---- lines

  with_requires : (o : Operation) (s : Sentence) (w : ℕ) → OperationParts d (params_of names ps) o → line_fault (lines_scope d names ps) o (requires_form w s) ≡ None
      → OperationParts d (params_of names ps) (with_line (lines_scope d names ps) o (requires_form w s))
  with_requires o s w p h =
      let q = otherwise_none (limit_at Requires 8 (length o.requires_) w) (sentence_fault (lines_scope d names ps) s) h in
      record {
        same = p.same;
        few_params = p.few_params;
        kinds = p.kinds;
        apart = p.apart;
        few_requires = few_more o.requires_ (sentence_of (lines_scope d names ps) s) 8 (limit_none Requires 8 (length o.requires_) w q.0);
        requires_typed = list_all-more (is_line d (params_of names ps)) o.requires_ (sentence_of (lines_scope d names ps) s) p.requires_typed (sentence_is_typed (lines_scope d names ps) fit s q.1);
        few_updates = p.few_updates;
        updates_typed = p.updates_typed;
        few_takes = p.few_takes;
        takes_typed = p.takes_typed;
        few_observes = p.few_observes;
        observes_typed = p.observes_typed;
      }

  with_observes : (o : Operation) (s : Sentence) (w : ℕ) → OperationParts d (params_of names ps) o → line_fault (lines_scope d names ps) o (observes_form w s) ≡ None
      → OperationParts d (params_of names ps) (with_line (lines_scope d names ps) o (observes_form w s))
  with_observes o s w p h =
      let q = otherwise_none (limit_at Observes (most_observed d) (length o.observes) w) (sentence_fault (lines_scope d names ps) s) h in
      record {
        same = p.same;
        few_params = p.few_params;
        kinds = p.kinds;
        apart = p.apart;
        few_requires = p.few_requires;
        requires_typed = p.requires_typed;
        few_updates = p.few_updates;
        updates_typed = p.updates_typed;
        few_takes = p.few_takes;
        takes_typed = p.takes_typed;
        few_observes = few_more o.observes (sentence_of (lines_scope d names ps) s) (most_observed d) (limit_none Observes (most_observed d) (length o.observes) w q.0);
        observes_typed = list_all-more (is_line d (params_of names ps)) o.observes (sentence_of (lines_scope d names ps) s) p.observes_typed (sentence_is_typed (lines_scope d names ps) fit s q.1);
      }

  with_take : (o : Operation) (r : Reading) (m : Mode) (w : ℕ) → OperationParts d (params_of names ps) o → line_fault (lines_scope d names ps) o (takes_form w r m) ≡ None
      → OperationParts d (params_of names ps) (with_line (lines_scope d names ps) o (takes_form w r m))
  with_take o r m w p h =
      let q = otherwise_none (limit_at Takes 4 (length o.takes) w) (taking_fault (lines_scope d names ps) r) h in
      record {
        same = p.same;
        few_params = p.few_params;
        kinds = p.kinds;
        apart = p.apart;
        few_requires = p.few_requires;
        requires_typed = p.requires_typed;
        few_updates = p.few_updates;
        updates_typed = p.updates_typed;
        few_takes = few_more o.takes (take_of (lines_scope d names ps) r m) 4 (limit_none Takes 4 (length o.takes) w q.0);
        takes_typed = list_all-more (is_take d (params_of names ps)) o.takes (take_of (lines_scope d names ps) r m) p.takes_typed (take_typed r m q.1);
        few_observes = p.few_observes;
        observes_typed = p.observes_typed;
      }

  more_updates : (o : Operation) (u : UpdateLine) → OperationParts d (params_of names ps) o → length o.updates < 16 → is_update d (params_of names ps) u ≡ true
      → OperationParts d (params_of names ps) (record o { updates = o.updates ++ u ∷ [] })
  more_updates o u p lt h =
      record {
        same = p.same;
        few_params = p.few_params;
        kinds = p.kinds;
        apart = p.apart;
        few_requires = p.few_requires;
        requires_typed = p.requires_typed;
        few_updates = few_more o.updates u 16 lt;
        updates_typed = list_all-more (is_update d (params_of names ps)) o.updates u p.updates_typed h;
        few_takes = p.few_takes;
        takes_typed = p.takes_typed;
        few_observes = p.few_observes;
        observes_typed = p.observes_typed;
      }

  line_is_typed : (o : Operation) (l : LineForm) → OperationParts d (params_of names ps) o → line_fault (lines_scope d names ps) o l ≡ None
      → OperationParts d (params_of names ps) (with_line (lines_scope d names ps) o l)
  line_is_typed o (requires_form w s) p h = with_requires o s w p h
  line_is_typed o (insert_form w m xs g) p h =
      let q = otherwise_none (limit_at Updates 16 (length o.updates) w) (relation_target_fault (lines_scope d names ps) m xs otherwise guard_fault (lines_scope d names ps) g) h in
      let r = otherwise_none (relation_target_fault (lines_scope d names ps) m xs) (guard_fault (lines_scope d names ps) g) q.1 in
      more_updates o (update_of (lines_scope d names ps) (relation_target (lines_scope d names ps) m) xs change.Insert g) p (limit_none Updates 16 (length o.updates) w q.0) (insert_typed m xs g r.0 r.1)
  line_is_typed o (remove_form w m xs g) p h =
      let q = otherwise_none (limit_at Updates 16 (length o.updates) w) (relation_target_fault (lines_scope d names ps) m xs otherwise guard_fault (lines_scope d names ps) g) h in
      let r = otherwise_none (relation_target_fault (lines_scope d names ps) m xs) (guard_fault (lines_scope d names ps) g) q.1 in
      more_updates o (update_of (lines_scope d names ps) (relation_target (lines_scope d names ps) m) xs change.Remove g) p (limit_none Updates 16 (length o.updates) w q.0) (remove_typed m xs g r.0 r.1)
  line_is_typed o (add_form w m xs t g) p h =
      let q = otherwise_none (limit_at Updates 16 (length o.updates) w) (counter_target_fault (lines_scope d names ps) m xs otherwise term_fault (lines_scope d names ps) t otherwise guard_fault (lines_scope d names ps) g) h in
      let r = otherwise_none (counter_target_fault (lines_scope d names ps) m xs) (term_fault (lines_scope d names ps) t otherwise guard_fault (lines_scope d names ps) g) q.1 in
      let s = otherwise_none (term_fault (lines_scope d names ps) t) (guard_fault (lines_scope d names ps) g) r.1 in
      more_updates o (update_of (lines_scope d names ps) (counter_target (lines_scope d names ps) m) xs (change.Add (term_of (lines_scope d names ps) t)) g) p (limit_none Updates 16 (length o.updates) w q.0) (add_typed m xs t g r.0 s.0 s.1)
  line_is_typed o (set_form w m xs t g) p h =
      let q = otherwise_none (limit_at Updates 16 (length o.updates) w) (counter_target_fault (lines_scope d names ps) m xs otherwise term_fault (lines_scope d names ps) t otherwise guard_fault (lines_scope d names ps) g) h in
      let r = otherwise_none (counter_target_fault (lines_scope d names ps) m xs) (term_fault (lines_scope d names ps) t otherwise guard_fault (lines_scope d names ps) g) q.1 in
      let s = otherwise_none (term_fault (lines_scope d names ps) t) (guard_fault (lines_scope d names ps) g) r.1 in
      more_updates o (update_of (lines_scope d names ps) (counter_target (lines_scope d names ps) m) xs (change.Set (term_of (lines_scope d names ps) t)) g) p (limit_none Updates 16 (length o.updates) w q.0) (set_typed m xs t g r.0 s.0 s.1)
  line_is_typed o (takes_form w r m) p h = with_take o r m w p h
  line_is_typed o (observes_form w s) p h = with_observes o s w p h

  same_name : (o : Operation) (l : LineForm) → (with_line (lines_scope d names ps) o l).name ≡ o.name
  same_name o (requires_form w s) = refl
  same_name o (insert_form w m xs g) = refl
  same_name o (remove_form w m xs g) = refl
  same_name o (add_form w m xs t g) = refl
  same_name o (set_form w m xs t g) = refl
  same_name o (takes_form w r m) = refl
  same_name o (observes_form w s) = refl

  pub lines_are_typed : (o : Operation) (ls : List LineForm) (all : Operation) → OperationParts d (params_of names ps) o → typed_lines (lines_scope d names ps) o ls ≡ Ok all
      → OperationParts d (params_of names ps) all × (all.name ≡ o.name)
  lines_are_typed o [] all p h = let e : o ≡ all = cc in (subst (λ x. OperationParts d (params_of names ps) x) e p, ap (λ (x : Operation). x.name) (sym e))
  lines_are_typed o (l ∷ ls) all p h =
      let q = unless_ok (line_fault (lines_scope d names ps) o l) (typed_lines (lines_scope d names ps) (with_line (lines_scope d names ps) o l) ls) all h in
      let r = lines_are_typed (with_line (lines_scope d names ps) o l) ls all (line_is_typed o l p q.0) q.1 in
      (r.0, r.1 ∙ same_name o l)
