-- What a tree without faults declares is well formed.
use Rattle.std.proofs.Common.{◌≡◌, ℕ, ◌+◌, ◌<◌, ◌≤◌, Bool, true, false, not, ◌||◌, ◌==◌, if◌then◌else◌, List, [], ◌∷◌, ◌++◌, length, map, take, Option, None, Some, Result, Ok, Err, refl, sym, ◌∙◌, ap, subst, append_assoc, arith}
use Rattle.std.proofs.lemmas.Bool.{and_from, or_parts, or_from}
use Rattle.std.proofs.lemmas.List.{length-append, length-map, map-append}
use Rattle.std.proofs.lemmas.Simd.{map-map}
use Rattle.std.proofs.Math.Seq.{take-append_seam}
use Rattle.std.proofs.lemmas.List.Folds.{list_all-map}
use Rattle.std.specs.Prelude.{is_some}
use Rattle.std.specs.List.{AllByRecursion, list_all}
use Rattle.std.specs.Str.{bytes_eq}
use Rattle.parser_combinators.specs.declared.token.Version.{Version}
use Rattle.parser_combinators.specs.declared.token.Version.TheVariants as version
use Rattle.spec_core.specs.declared.spec.Const.{Const as Constant}
use Rattle.spec_core.specs.declared.spec.Relation.{Relation}
use Rattle.spec_core.specs.declared.spec.Counter.{Counter}
use Rattle.spec_core.specs.declared.spec.Token.{Token}
use Rattle.spec_core.specs.declared.spec.Rule.{Rule}
use Rattle.spec_core.specs.declared.spec.Invariant.{Invariant}
use Rattle.spec_core.specs.declared.operation.Param.{Param as Parameter}
use Rattle.spec_core.specs.declared.operation.Operation.{Operation}
use Rattle.spec_core.specs.Name.{is_word_name}
use Rattle.spec_core.specs.Specification.{Specification}
use Rattle.spec_core.specs.State.{is_in}
use Rattle.spec_core.specs.Truth.{is_exists}
use Rattle.spec_core.specs.Typed.{is_line, is_kind, is_parameter, is_operation, parameter_names, all_distinct, is_rule, is_invariant, global_names, is_specification}
use Rattle.spec_trees.specs.declared.tree.Mark.{Mark}
use Rattle.spec_trees.specs.declared.tree.Reading.{Reading}
use Rattle.spec_trees.specs.declared.tree.Param.{Param}
use Rattle.spec_trees.specs.declared.tree.ParamKind.{ParamKind}
use Rattle.spec_trees.specs.declared.tree.ParamKind.TheVariants as kinds
use Rattle.spec_trees.specs.declared.tree.Quantifier.{Quantifier}
use Rattle.spec_trees.specs.declared.tree.Quantifier.TheVariants as quantifiers
use Rattle.spec_trees.specs.declared.tree.Prefix.{Prefix}
use Rattle.spec_trees.specs.Trees.{IsTree}
use Rattle.spec_trees.specs.Form.{Sentence, LineForm, ItemForm, sort_form, const_form, relation_form, counter_form, initially_form, token_form, conflict_form, invariant_form, operation_form, TreeForm}
use Rattle.typing_rules.specs.declared.meaning.Meaning.TheVariants as meaning
use Rattle.typing_rules.specs.declared.which.Which.TheVariants as which
use Rattle.typing_rules.specs.Fault.{Fault, ◌otherwise◌, first_fault, twice_at, limit_at}
use Rattle.typing_rules.specs.Scope.{Names, Scope, with_name, is_param, is_var, declared_fault, kind_of, param_of, params_of}
use Rattle.typing_rules.specs.Formulas.{prefix_of, quantified, sentence_fault, sentence_of}
use Rattle.typing_rules.specs.Lines.{unless, typed_lines}
use Rattle.typing_rules.specs.Items.{Known, scope_in, heading_fault, sort_item_fault, with_sort, const_fault, with_const, relation_fault, with_relation, counter_fault, with_counter, token_fault, with_token, initially_fault, with_initial, pattern_fault, conflict_fault, rule_of, with_rule, with_heading, some_fault, exists_fault, claim_fault, invariant_of, with_invariant, typed_invariant, with_params, param_kind_fault, param_fault, params_fault, without_lines, with_operation, typed_operation, typed_item, going_on, typed_items, nothing_known, typing}
use Rattle.typing_rules.proofs.Basics.{test_le, otherwise_none, unless_ok, limit_none, first_none, first_few, list_all-more, all_both, few_more}
use Rattle.typing_rules.proofs.Extending.{Extends}
use Rattle.typing_rules.proofs.Elements.{NamesFit}
use Rattle.typing_rules.proofs.Formulas.{sort_is, sort_below, sentence_is_typed}
use Rattle.typing_rules.proofs.Lines.{OperationParts, operation_is_typed, lines_are_typed}
use Rattle.typing_rules.proofs.Distinct.{Inserted, put_in_front, one_more_named, last_named, other_way, AreNew, new_distinct}
use Rattle.typing_rules.proofs.Naming.{ParamsNamed, IsNamed, tree_named}
use Rattle.typing_rules.proofs.Conflicts.{rule_is_typed}
use Rattle.typing_rules.proofs.Knowing.{Well, whole_of, few_places_of, kept, fit_named, listed_named, words_more, distinct_more, heading_parts}
use Rattle.typing_rules.proofs.Declaring.{sort_well, const_well, relation_well, counter_well, token_well}
use Rattle.typing_rules.proofs.Starting.{initial_well}

-- ---- conflict rules, invariants and operations take nothing from what is typed

with_rest : Specification → List Rule → List Invariant → List Operation → Specification
with_rest d rs is os = record d { rules = rs; invariants = is; operations = os }

rest_extends : (d : Specification) (rs : List Rule) (is : List Invariant) (os : List Operation) → Extends d (with_rest d rs is os)
unfolding with_rest
rest_extends d rs is os = record {
  version = refl;
  sorts = omega arith;
  consts = λ n s h. h;
  few_relations = omega arith;
  relations = λ n lt. refl;
  few_counters = omega arith;
  counters = λ n lt. refl;
  few_tokens = omega arith;
  tokens = λ n lt. refl;
}

few_rules : (k : Known) (w : ℕ) (p q : Reading) → conflict_fault k w p q ≡ None → length k.design.rules < 32
few_rules k w p q h = limit_none which.Conflicts 32 (length k.design.rules) w (otherwise_none (limit_at which.Conflicts 32 (length k.design.rules) w) (pattern_fault k p q p otherwise pattern_fault k p q q) h).0

rule_well : (k : Known) (w : ℕ) (p q : Reading) → Well k → conflict_fault k w p q ≡ None → Well (with_rule k p q)
unfolding with_rest
rule_well k w p q well h =
    let old = kept k.design (with_rule k p q).design (rest_extends k.design (k.design.rules ++ rule_of k p q ∷ []) k.design.invariants k.design.operations) well.parts in
    let new : is_rule (with_rule k p q).design (rule_of k p q) ≡ true = rule_is_typed k p q well.fit (few_places_of k.design well.parts) w h in
    let o = well.parts in
    record {
      parts = record {
        version = o.version;
        sorts = o.sorts;
        consts = o.consts;
        few_relations = o.few_relations;
        relations = old.relations;
        few_counters = o.few_counters;
        counters = old.counters;
        few_tokens = o.few_tokens;
        tokens = old.tokens;
        few_rules = few_more k.design.rules (rule_of k p q) 32 (few_rules k w p q h);
        rules = list_all-more (is_rule (with_rule k p q).design) k.design.rules (rule_of k p q) old.rules new;
        few_invariants = o.few_invariants;
        invariants = old.invariants;
        few_operations = o.few_operations;
        operations = old.operations;
        words = o.words;
        distinct = o.distinct;
      };
      fit = record { sorts = well.fit.sorts; relations = well.fit.relations; counters = well.fit.counters; tokens = well.fit.tokens };
      listed = well.listed;
    }

-- ---- invariants

not_exists : (p : Option Prefix) → exists_fault p ≡ None → not (is_exists (prefix_of p)) ≡ true
not_exists None h = refl
not_exists (Some p) h = by p.quantifier h
  where
    by : (q : Quantifier) → some_fault p.word q ≡ None → not (is_exists (quantified q)) ≡ true
    by quantifiers.Forall h = refl
    by quantifiers.Exists h = absurd cc

-- the heading's name means nothing that has a place
heading_fit : (k : Known) (m : Mark) → Well k → NamesFit k.design (with_name k.names m.text meaning.Invariant)
heading_fit k m w = fit_named k.design k.names m.text meaning.Invariant w.fit (record { sort = λ j e. absurd cc; relation = λ j e. absurd cc; counter = λ j e. absurd cc; token = λ j e. absurd cc })

operation_fit : (k : Known) (m : Mark) → Well k → NamesFit k.design (with_name k.names m.text meaning.Operation)
operation_fit k m w = fit_named k.design k.names m.text meaning.Operation w.fit (record { sort = λ j e. absurd cc; relation = λ j e. absurd cc; counter = λ j e. absurd cc; token = λ j e. absurd cc })

claim_typed : (k : Known) (m : Mark) (s : Sentence) → NamesFit k.design k.names → claim_fault k s ≡ None → is_invariant k.design (invariant_of k m s) ≡ true
claim_typed k m s fit h =
    let q = otherwise_none (exists_fault s.prefix) (sentence_fault (scope_in k) s) h in
    and_from (not (is_exists (prefix_of s.prefix))) (is_line k.design [] (sentence_of (scope_in k) s)) (not_exists s.prefix q.0) (sentence_is_typed (scope_in k) fit s q.1)

invariant_well : (k : Known) (m : Mark) (s : Sentence) → Well k → is_word_name m.text ≡ true → heading_fault k which.Invariants 16 (length k.design.invariants) m ≡ None → claim_fault (with_heading k m meaning.Invariant) s ≡ None
    → Well (with_invariant (with_heading k m meaning.Invariant) m s)
unfolding with_rest
invariant_well k m s w word h c =
    let q = heading_parts k which.Invariants 16 (length k.design.invariants) m h in
    let fit = heading_fit k m w in
    let i = invariant_of (with_heading k m meaning.Invariant) m s in
    let e = (with_invariant (with_heading k m meaning.Invariant) m s).design in
    let old = kept k.design e (rest_extends k.design k.design.rules (k.design.invariants ++ i ∷ []) k.design.operations) w.parts in
    let new : is_invariant e i ≡ true = claim_typed (with_heading k m meaning.Invariant) m s fit c in
    let put : Inserted m.text (global_names k.design) (global_names e) = put_in_front k.design.sorts (put_in_front (map (λ (c : Constant). c.name) k.design.consts) (put_in_front (map (λ (r : Relation). r.name) k.design.relations)
    (put_in_front (map (λ (c : Counter). c.name) k.design.counters) (put_in_front (map (λ (t : Token). t.name) k.design.tokens)
    (one_more_named (λ (j : Invariant). j.name) k.design.invariants i (map (λ (o : Operation). o.name) k.design.operations)))))) in
    let p = w.parts in
    record {
      parts = record {
        version = p.version;
        sorts = p.sorts;
        consts = p.consts;
        few_relations = p.few_relations;
        relations = old.relations;
        few_counters = p.few_counters;
        counters = old.counters;
        few_tokens = p.few_tokens;
        tokens = old.tokens;
        few_rules = p.few_rules;
        rules = old.rules;
        few_invariants = few_more k.design.invariants i 16 q.1;
        invariants = list_all-more (is_invariant e) k.design.invariants i old.invariants new;
        few_operations = p.few_operations;
        operations = old.operations;
        words = words_more k m e w word put;
        distinct = distinct_more k m e w q.0 put;
      };
      fit = record { sorts = fit.sorts; relations = fit.relations; counters = fit.counters; tokens = fit.tokens };
      listed = listed_named k.design e k.names m.text meaning.Invariant put w.listed;
    }

-- ---- operations

-- an operation with a name of the specification's own, which is typed
operation_well : (k : Known) (m : Mark) (o : Operation) → Well k → is_word_name m.text ≡ true → heading_fault k which.Operations 24 (length k.design.operations) m ≡ None → o.name ≡ m.text → is_operation k.design o ≡ true
    → Well (record { design = record k.design { operations = k.design.operations ++ o ∷ [] }; names = with_name k.names m.text meaning.Operation; stated = k.stated })
unfolding with_rest
operation_well k m o w word h named typed =
    let q = heading_parts k which.Operations 24 (length k.design.operations) m h in
    let fit = operation_fit k m w in
    let e : Specification = record k.design { operations = k.design.operations ++ o ∷ [] } in
    let old = kept k.design e (rest_extends k.design k.design.rules k.design.invariants (k.design.operations ++ o ∷ [])) w.parts in
    let new : is_operation e o ≡ true = typed in
    let put : Inserted o.name (global_names k.design) (global_names e) = put_in_front k.design.sorts (put_in_front (map (λ (c : Constant). c.name) k.design.consts) (put_in_front (map (λ (r : Relation). r.name) k.design.relations)
    (put_in_front (map (λ (c : Counter). c.name) k.design.counters) (put_in_front (map (λ (t : Token). t.name) k.design.tokens) (put_in_front (map (λ (i : Invariant). i.name) k.design.invariants)
    (last_named (λ (x : Operation). x.name) k.design.operations o)))))) in
    let put_text : Inserted m.text (global_names k.design) (global_names e) = subst (λ n. Inserted n (global_names k.design) (global_names e)) named put in
    let p = w.parts in
    record {
      parts = record {
        version = p.version;
        sorts = p.sorts;
        consts = p.consts;
        few_relations = p.few_relations;
        relations = old.relations;
        few_counters = p.few_counters;
        counters = old.counters;
        few_tokens = p.few_tokens;
        tokens = old.tokens;
        few_rules = p.few_rules;
        rules = old.rules;
        few_invariants = p.few_invariants;
        invariants = old.invariants;
        few_operations = few_more k.design.operations o 24 q.1;
        operations = list_all-more (is_operation e) k.design.operations o old.operations new;
        words = words_more k m e w word put_text;
        distinct = distinct_more k m e w q.0 put_text;
      };
      fit = record { sorts = fit.sorts; relations = fit.relations; counters = fit.counters; tokens = fit.tokens };
      listed = listed_named k.design e k.names m.text meaning.Operation put_text w.listed;
    }

-- a parameter has no name of those before it
param_new : (sc : Scope) (ps : List Param) (m : Mark) → declared_fault (with_params sc ps) m ≡ None → is_param m.text ps ≡ false
param_new sc ps m h = by (is_some (sc.names m.text)) (is_param m.text ps) h
  where
    by : (a b : Bool) → (if a || b || is_var m.text sc.vars then twice_at m else None) ≡ None → b ≡ false
    by true b h = absurd cc
    by false true h = absurd cc
    by false false h = refl

abbrev names_before : List Param → List (List ℕ)
names_before ps = map (λ (p : Param). p.name.text) ps

param_among : (name : List ℕ) (ps : List Param) → is_param name ps ≡ false → is_in name (names_before ps) ≡ false
param_among name [] h = refl
param_among name (p ∷ ps) h =
    let q = or_parts (bytes_eq p.name.text name) (is_param name ps) h in
    or_from (bytes_eq name p.name.text) (is_in name (names_before ps)) (other_way p.name.text name q.0) (param_among name ps q.1)

params_new : (sc : Scope) (before ps all : List Param) → before ++ ps ≡ all
    → first_fault (λ n p. param_fault (with_params sc (take n all)) n p) (length before) ps ≡ None → AreNew (names_before before) (names_before ps)
params_new sc before [] all e h = tt
params_new sc before (p ∷ ps) all e h =
    let front : take (length before) all ≡ before = ap (take (length before)) (sym e) ∙ take-append_seam before (p ∷ ps) in
    let q = otherwise_none (param_fault (with_params sc (take (length before) all)) (length before) p) (first_fault (λ n p. param_fault (with_params sc (take n all)) n p) (length before + 1) ps) h in
    let r = otherwise_none (declared_fault (with_params sc (take (length before) all)) p.name) (limit_at which.Parameters 6 (length before) p.name.word otherwise param_kind_fault (with_params sc (take (length before) all)) p.name.text p.kind) q.0 in
    let new : is_param p.name.text before ≡ false = subst (λ xs. is_param p.name.text xs ≡ false) front (param_new sc (take (length before) all) p.name r.0) in
    let long : length before + 1 ≡ length (before ++ p ∷ []) = (let l = length-append before (p ∷ []) in omega arith) in
    let next = params_new sc (before ++ p ∷ []) ps all (append_assoc before (p ∷ []) ps ∙ e) (subst (λ n. first_fault (λ n p. param_fault (with_params sc (take n all)) n p) n ps ≡ None) long q.1) in
    let names : names_before (before ++ p ∷ []) ≡ names_before before ++ p.name.text ∷ [] = map-append (λ (p : Param). p.name.text) before (p ∷ []) in
    (param_among p.name.text before new, subst (λ xs. AreNew xs (names_before ps)) names next)

params_apart : (sc : Scope) (names : Names) (ps : List Param) → params_fault sc ps ≡ None → all_distinct (parameter_names (params_of names ps)) ≡ true
params_apart sc names ps h = ap all_distinct (map-map (λ (p : Parameter). p.name) (param_of names) ps) ∙ new_distinct (names_before []) (names_before ps) (params_new sc [] ps ps refl h)

module _ (k : Known) (fit : NamesFit k.design k.names) (ps : List Param) where
  param_few : (n : ℕ) (p : Param) → param_fault (with_params (scope_in k) (take n ps)) n p ≡ None → n < 6
  param_few n p h =
      let q = otherwise_none (declared_fault (with_params (scope_in k) (take n ps)) p.name) (limit_at which.Parameters 6 n p.name.word otherwise param_kind_fault (with_params (scope_in k) (take n ps)) p.name.text p.kind) h in
      limit_none which.Parameters 6 n p.name.word (otherwise_none (limit_at which.Parameters 6 n p.name.word) (param_kind_fault (with_params (scope_in k) (take n ps)) p.name.text p.kind) q.1).0

  kind_typed : (n : ℕ) (own : List ℕ) (x : ParamKind) → param_kind_fault (with_params (scope_in k) (take n ps)) own x ≡ None → is_kind k.design (kind_of k.names x) ≡ true
  kind_typed n own (kinds.Sort m) h = let q = sort_is (with_params (scope_in k) (take n ps)) own m h in sort_below k.design k.names fit m q.0 q.1
  kind_typed n own kinds.Int h = refl

  param_kind : (n : ℕ) (p : Param) → param_fault (with_params (scope_in k) (take n ps)) n p ≡ None → is_kind k.design (kind_of k.names p.kind) ≡ true
  param_kind n p h =
      let q = otherwise_none (declared_fault (with_params (scope_in k) (take n ps)) p.name) (limit_at which.Parameters 6 n p.name.word otherwise param_kind_fault (with_params (scope_in k) (take n ps)) p.name.text p.kind) h in
      kind_typed n p.name.text p.kind (otherwise_none (limit_at which.Parameters 6 n p.name.word) (param_kind_fault (with_params (scope_in k) (take n ps)) p.name.text p.kind) q.1).1

  params_typed : ParamsNamed ps → params_fault (scope_in k) ps ≡ None → list_all (is_parameter k.design) (params_of k.names ps) ≡ true
  params_typed named h =
      list_all-map (is_parameter k.design) (param_of k.names) ps
      ∙ all_both (λ (p : Param). is_kind k.design (kind_of k.names p.kind)) (λ (p : Param). is_word_name p.name.text) ps
      (first_none (λ n p. param_fault (with_params (scope_in k) (take n ps)) n p) (λ p. is_kind k.design (kind_of k.names p.kind)) param_kind 0 ps h) named

  without_typed : (m : Mark) → ParamsNamed ps → params_fault (scope_in k) ps ≡ None → OperationParts k.design (params_of k.names ps) (without_lines k m ps)
  without_typed m named h =
      let few : 0 + length ps ≤ 6 = first_few (λ n p. param_fault (with_params (scope_in k) (take n ps)) n p) 6 param_few 0 ps (omega arith) h in
      let long : length (params_of k.names ps) ≡ length ps = length-map ps (param_of k.names) in
      record {
        same = refl;
        few_params = test_le (length (params_of k.names ps)) 6 (omega arith);
        kinds = params_typed named h;
        apart = params_apart (scope_in k) k.names ps h;
        few_requires = refl;
        requires_typed = refl;
        few_updates = refl;
        updates_typed = refl;
        few_takes = refl;
        takes_typed = refl;
        few_observes = test_le 0 (if k.design.version == 2 then 8 else 0) (omega arith);
        observes_typed = refl;
      }

-- what an operation without faults leaves
typed_operation_well : (k : Known) (m : Mark) (ps : List Param) (ls : List LineForm) (j : Known) → Well k → (is_word_name m.text ≡ true) × ParamsNamed ps → heading_fault k which.Operations 24 (length k.design.operations) m ≡ None
    → typed_operation (with_heading k m meaning.Operation) m ps ls ≡ Ok j → Well j
typed_operation_well k m ps ls j w named h t =
    let q = unless_ok (params_fault (scope_in (with_heading k m meaning.Operation)) ps) (with_operation (with_heading k m meaning.Operation) lines) j t in
    by lines refl (without_typed (with_heading k m meaning.Operation) (operation_fit k m w) ps m named.1 q.0) q.1
  where
    lines : Result Operation Fault
    lines = typed_lines (with_params (scope_in (with_heading k m meaning.Operation)) ps) (without_lines (with_heading k m meaning.Operation) m ps) ls

    by : (r : Result Operation Fault) → typed_lines (with_params (scope_in (with_heading k m meaning.Operation)) ps) (without_lines (with_heading k m meaning.Operation) m ps) ls ≡ r
        → OperationParts k.design (params_of (with_name k.names m.text meaning.Operation) ps) (without_lines (with_heading k m meaning.Operation) m ps)
        → with_operation (with_heading k m meaning.Operation) r ≡ Ok j → Well j
    by (Err f) e start g = absurd cc
    by (Ok o) e start g =
        let all = lines_are_typed k.design (with_name k.names m.text meaning.Operation) (operation_fit k m w) ps (without_lines (with_heading k m meaning.Operation) m ps) ls o start e in
        let after : Known = record { design = record k.design { operations = k.design.operations ++ o ∷ [] }; names = with_name k.names m.text meaning.Operation; stated = k.stated } in
        let same : after ≡ j = cc in
        subst Well same (operation_well k m o w named.0 h all.1 (operation_is_typed k.design (params_of (with_name k.names m.text meaning.Operation) ps) o all.0))

typed_invariant_well : (k : Known) (m : Mark) (s : Sentence) (j : Known) → Well k → is_word_name m.text ≡ true → heading_fault k which.Invariants 16 (length k.design.invariants) m ≡ None
    → typed_invariant (with_heading k m meaning.Invariant) m s ≡ Ok j → Well j
typed_invariant_well k m s j w word h t =
    let q = unless_ok (claim_fault (with_heading k m meaning.Invariant) s) (Ok (with_invariant (with_heading k m meaning.Invariant) m s)) j t in
    let same : with_invariant (with_heading k m meaning.Invariant) m s ≡ j = cc in
    subst Well same (invariant_well k m s w word h q.0)

-- ---- the whole

known_well : (fault : Option Fault) (k j : Known) → unless fault (Ok k) ≡ Ok j → (fault ≡ None → Well k) → Well j
known_well fault k j h well =
    let q = unless_ok fault (Ok k) j h in
    let same : k ≡ j = cc in
    subst Well same (well q.0)

typed_item_well : (k : Known) (i : ItemForm) (j : Known) → Well k → IsNamed i → typed_item k i ≡ Ok j → Well j
typed_item_well k (sort_form w m) j well named h = known_well (sort_item_fault k m) (with_sort k m) j h (sort_well k m well named)
typed_item_well k (const_form w m s) j well named h = known_well (const_fault k m s) (with_const k m s) j h (const_well k m s well named)
typed_item_well k (relation_form w m ps) j well named h = known_well (relation_fault k m ps) (with_relation k m ps) j h (relation_well k m ps well named)
typed_item_well k (counter_form w m ps) j well named h = known_well (counter_fault k m ps) (with_counter k m ps) j h (counter_well k m ps well named)
typed_item_well k (initially_form w m v) j well named h = known_well (initially_fault k m v) (with_initial k m v) j h (λ none. initial_well k m v well)
typed_item_well k (token_form w m ps) j well named h = known_well (token_fault k m ps) (with_token k m ps) j h (token_well k m ps well named)
typed_item_well k (conflict_form w p q) j well named h = known_well (conflict_fault k w p q) (with_rule k p q) j h (rule_well k w p q well)
typed_item_well k (invariant_form w m s) j well named h =
    let q = unless_ok (heading_fault k which.Invariants 16 (length k.design.invariants) m) (typed_invariant (with_heading k m meaning.Invariant) m s) j h in
    typed_invariant_well k m s j well named q.0 q.1
typed_item_well k (operation_form w m ps ls) j well named h =
    let q = unless_ok (heading_fault k which.Operations 24 (length k.design.operations) m) (typed_operation (with_heading k m meaning.Operation) m ps ls) j h in
    typed_operation_well k m ps ls j well named q.0 q.1

typed_items_well : (is : List ItemForm) (k : Known) (d : Specification) → Well k → AllByRecursion IsNamed is → typed_items k is ≡ Ok d → is_specification d ≡ true
typed_items_well [] k d w named h = let same : k.design ≡ d = cc in subst (λ x. is_specification x ≡ true) same (whole_of k.design w.parts)
typed_items_well (i ∷ is) k d w named h = by (typed_item k i) refl h (λ j well. typed_items_well is j d well named.1)
  where
    by : (r : Result Known Fault) → typed_item k i ≡ r → going_on r (λ j. typed_items j is) ≡ Ok d → ((j : Known) → Well j → typed_items j is ≡ Ok d → is_specification d ≡ true) → is_specification d ≡ true
    by (Err f) e g rest = absurd cc
    by (Ok j) e g rest = rest j (typed_item_well k i j w named.0 e) g

nothing_well : (v : Version) → Well (nothing_known v)
nothing_well v = record {
  parts = record {
    version = by v;
    sorts = refl;
    consts = refl;
    few_relations = refl;
    relations = refl;
    few_counters = refl;
    counters = refl;
    few_tokens = refl;
    tokens = refl;
    few_rules = refl;
    rules = refl;
    few_invariants = refl;
    invariants = refl;
    few_operations = refl;
    operations = refl;
    words = refl;
    distinct = refl;
  };
  fit = record { sorts = λ name j e. absurd cc; relations = λ name j e. absurd cc; counters = λ name j e. absurd cc; tokens = λ name j e. absurd cc };
  listed = λ name e. absurd cc;
}
  where
    by : (v : Version) → (((nothing_known v).design.version == 1) || ((nothing_known v).design.version == 2)) ≡ true
    by version.First = refl
    by version.Second = refl

-- What a tree of the grammar without faults declares is a well-formed specification.
pub typing_well : (t : TreeForm) (d : Specification) → IsTree t → typing t ≡ Ok d → is_specification d ≡ true
typing_well t d tree h = typed_items_well t.items (nothing_known t.version) d (nothing_well t.version) (tree_named t tree) h
