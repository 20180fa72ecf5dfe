-- What is answered of a tree is the first fault of what stands in it, and else what it declares.
use Rattle.std.proofs.Common.{◌≡◌, ℕ, ◌+◌, Bool, false, true, ◌&&◌, ◌||◌, if◌then◌else◌, List, [], ◌∷◌, ◌++◌, length, Option, None, Some, Result, Ok, refl, sym, ◌∙◌, ap, arith, ◌⊎◌, inl, inr}
use Rattle.std.proofs.lemmas.Slice.Eq.{bytes_eq-Decides}
use Rattle.std.specs.Prelude.{is_some, is_none, option_map, unwrap_or}
use Rattle.std.specs.Option.{option_or}
use Rattle.std.specs.Str.{bytes_eq}
use Rattle.spec_core.specs.declared.operation.Operation.{Operation}
use Rattle.spec_core.specs.Limits.{most_sorts, most_relations, most_places, most_counters, most_keys, most_tokens, most_rules, most_invariants, most_operations}
use Rattle.spec_core.specs.Specification.{Specification, token_places}
use Rattle.spec_core.specs.Typed.{is_sort}
use Rattle.spec_trees.specs.declared.tree.Mark.{Mark}
use Rattle.spec_trees.specs.declared.tree.Reading.{Reading}
use Rattle.spec_trees.specs.declared.tree.Param.{Param}
use Rattle.spec_trees.specs.declared.tree.Quantifier.{Quantifier}
use Rattle.spec_trees.specs.declared.tree.Quantifier.TheVariants as quantifiers
use Rattle.spec_trees.specs.declared.tree.Prefix.{Prefix}
use Rattle.spec_trees.specs.declared.tree.Value.{Value}
use Rattle.spec_trees.specs.declared.tree.Value.TheVariants as values
use Rattle.spec_trees.specs.Form.{Sentence, LineForm, ItemForm, sort_form, const_form, relation_form, counter_form, initially_form, token_form, conflict_form, invariant_form, operation_form, TreeForm}
use Rattle.typing_rules.specs.declared.meaning.Meaning.{Meaning}
use Rattle.typing_rules.specs.declared.meaning.Meaning.TheVariants as meaning
use Rattle.typing_rules.specs.declared.which.Which.{Which}
use Rattle.typing_rules.specs.declared.which.Which.TheVariants as which
use Rattle.typing_rules.specs.Fault.{Fault, ◌otherwise◌, first_fault, twice_at, kind_at, unknown_at, limit_at}
use Rattle.typing_rules.specs.Scope.{Names, with_name, Scope, in_scope, stranger_fault, declared_fault, sort_meant, relation_meant, counter_meant, token_meant, sort_fault}
use Rattle.typing_rules.specs.Terms.{places_fault, literal_fault}
use Rattle.typing_rules.specs.Formulas.{sentence_fault}
use Rattle.typing_rules.specs.Lines.{unless}
use Rattle.typing_rules.specs.Items.{Known, scope_in, heading_fault, place_fault, sorts_fault, with_sort, few_consts_fault, const_fault, with_const, with_relation, with_counter, with_token, value_fault, initially_fault, with_initial, rule_sort, rule_variable_fault, rule_variables_fault, pattern_fault_at, pattern_fault, with_rule, with_heading, some_fault, exists_fault, claim_fault, with_invariant, with_params, params_fault, without_lines, with_operation as with_typed_operation, typed_operation, typed_item, going_on, typed_items, nothing_known, typing, first_sort, pattern_places}
use Rattle.typing_rules.proofs.Elements.{places_none, stranger}
use Rattle.typing_rules.specs.Sites.{Need, a_sort, meets, Site, used, stated, sentence_sites, lines_sites, operation_behind, param_sites, heading_sites, place_sites, few_const_sites, need_of_value, value_sites, pattern_variable_sites, pattern_sites_at, pattern_sites, some_sites, exists_sites, operation_sites, item_sites, with_operation, with_lines, known_behind, items_sites, known_behind_all, sites_of, specification_of, sorts_at, first_place_sort}
use Rattle.typing_rules.proofs.Deciding.{met_in_scope, fault_at}
use Rattle.typing_rules.proofs.Lists.{first_of, none_behind, in_three, behind_none, first_append, parts, unless_both}
use Rattle.typing_rules.proofs.Agreeing.{stranger_first, sort_agrees, sentence_agrees, all_params_agree, lines_agree}

-- ---- names

-- a name that isn't declared yet
new_name : (k : Known) (m : Mark) → declared_fault (scope_in k) m ≡ None → is_some (k.names m.text) ≡ false
new_name k m h = by (is_some (k.names m.text)) h
  where
    by : (b : Bool) → (if b || false || false then twice_at m else None) ≡ None → b ≡ false
    by true h = absurd cc
    by false h = refl

no_sort : (o : Option Meaning) → is_some o ≡ false → sort_meant o ≡ None
no_sort None h = refl
no_sort (Some x) h = absurd cc

-- the scope behind one more name
abbrev behind_name : Specification → Names → List ℕ → Meaning → Scope
behind_name d names own x = record { design = d; names = with_name names own x; params = []; vars = [] }

global_sort : (k : Known) (d : Specification) (own : List ℕ) (x : Meaning) (m : Mark) → sort_meant (Some x) ≡ None → is_some (k.names own) ≡ false
    → sort_fault (scope_in k) own m ≡ fault_at (used (behind_name d k.names own x) a_sort m)
global_sort k d own x m none new =
    sort_agrees (scope_in k) (behind_name d k.names own x) own m (meant (bytes_eq m.text own) refl) (there (bytes_eq m.text own))
  where
    meant : (b : Bool) → bytes_eq m.text own ≡ b → sort_meant (if b then Some x else k.names m.text) ≡ sort_meant (k.names m.text)
    meant true e = none ∙ sym (no_sort (k.names m.text) (ap (λ t. is_some (k.names t)) ((bytes_eq-Decides m.text own).0 e) ∙ new))
    meant false e = refl

    there : (b : Bool) → (is_some (if b then Some x else k.names m.text) || false || false) ≡ (b || (is_some (k.names m.text) || false || false))
    there true = refl
    there false = refl

places_agree : (sc inside : Scope) (own : List ℕ) (most : ℕ) → ((m : Mark) → sort_fault sc own m ≡ fault_at (used inside a_sort m)) → (n : ℕ) (ms : List Mark)
    → first_fault (place_fault sc own most) n ms ≡ first_of (place_sites inside most n ms)
places_agree sc inside own most f n [] = refl
places_agree sc inside own most f n (m ∷ ms) =
    in_three (sort_fault sc own m) (limit_at which.Places most n m.word) (first_fault (place_fault sc own most) (n + 1) ms)
    ∙ ap (λ o. o otherwise (limit_at which.Places most n m.word otherwise first_fault (place_fault sc own most) (n + 1) ms)) (f m)
    ∙ ap (λ o. fault_at (used inside a_sort m) otherwise (limit_at which.Places most n m.word otherwise o)) (places_agree sc inside own most f (n + 1) ms)

heading_agrees : (k : Known) (what : Which) (most n : ℕ) (m : Mark) → heading_fault k what most n m ≡ first_of (heading_sites k what most n m)
heading_agrees k what most n m = ap (λ o. declared_fault (scope_in k) m otherwise o) (sym (none_behind (limit_at what most n m.word)))

none_before : (a b : Option Fault) → (a otherwise b) ≡ None → a ≡ None
none_before None b h = refl
none_before (Some f) b h = h

-- a name with the sorts of its places
placed_agree : (k : Known) (d : Specification) (what : Which) (most n room : ℕ) (m : Mark) (x : Meaning) (ps : List Mark) → sort_meant (Some x) ≡ None
    → (heading_fault k what most n m otherwise sorts_fault (scope_in k) m.text room ps) ≡ first_of (heading_sites k what most n m ++ place_sites (behind_name d k.names m.text x) room 0 ps)
placed_agree k d what most n room m x ps none =
    parts (heading_fault k what most n m) (sorts_fault (scope_in k) m.text room ps) (heading_sites k what most n m) (place_sites (behind_name d k.names m.text x) room 0 ps) (heading_agrees k what most n m)
    (λ h. places_agree (scope_in k) (behind_name d k.names m.text x) m.text room (λ s. global_sort k d m.text x s none (new_name k m (none_before (declared_fault (scope_in k) m) (limit_at what most n m.word) h))) 0 ps)

-- ---- constants

consts_agree : (d : Specification) (m : Mark) (o : Option ℕ) → few_consts_fault d m o ≡ first_of (few_const_sites d m o)
consts_agree d m None = refl
consts_agree d m (Some s) = sym (none_behind (few_consts_fault d m (Some s)))

const_agrees : (k : Known) (w : ℕ) (m s : Mark) → const_fault k m s ≡ first_of (item_sites k (const_form w m s))
const_agrees k w m s =
    behind_none (declared_fault (scope_in k) m) (few_consts_fault k.design m (sort_meant (k.names s.text)) otherwise sort_fault (scope_in k) m.text s)
    (first_of (few_const_sites k.design m (sort_meant (k.names s.text)) ++ used (scope_in (with_const k m s)) a_sort s ∷ []))
    (λ h. parts (few_consts_fault k.design m (sort_meant (k.names s.text))) (sort_fault (scope_in k) m.text s) (few_const_sites k.design m (sort_meant (k.names s.text))) (used (scope_in (with_const k m s)) a_sort s ∷ [])
    (consts_agree k.design m (sort_meant (k.names s.text)))
    (λ i. global_sort k (with_const k m s).design m.text _ s refl (new_name k m h) ∙ sym (none_behind (fault_at (used (scope_in (with_const k m s)) a_sort s)))))

-- ---- initial values

-- the names whose value is stated are known
abbrev pub IsSound : Known → Type 0
IsSound k = (name : List ℕ) → is_some (k.stated name) ≡ true → is_some (k.names name) ≡ true

abbrev is_needed : Value → Option Meaning → Bool
is_needed values.True o = is_some (relation_meant o)
is_needed values.False o = is_some (relation_meant o)
is_needed (values.Number s f) o = is_some (counter_meant o)

needed : (k : Known) (m : Mark) (v : Value) → meets (scope_in k) (need_of_value v) m.text ≡ is_needed v (k.names m.text)
needed k m values.True = refl
needed k m values.False = refl
needed k m (values.Number s f) = refl

initial_agrees : (k : Known) (w : ℕ) (m : Mark) (v : Value) → IsSound k → initially_fault k m v ≡ first_of (item_sites k (initially_form w m v))
initial_agrees k w m v sound =
    by v (k.names m.text) (is_some (k.stated m.text)) (sound m.text)
    ∙ ap (λ b. fault_at (stated k m) otherwise ((if b then None else stranger_fault (scope_in k) m) otherwise first_of (value_sites v))) (sym (needed k m v))
  where
    by : (x : Value) (o : Option Meaning) (b : Bool) → (b ≡ true → is_some o ≡ true)
        → (if b then twice_at m else value_fault m o x)
        ≡ ((if is_some o && b then twice_at m else None) otherwise ((if is_needed x o then None else (if is_some o || false || false then kind_at m else unknown_at m)) otherwise first_of (value_sites x)))
    by values.True None true h = absurd (let e : false ≡ true = h refl in cc)
    by values.False None true h = absurd (let e : false ≡ true = h refl in cc)
    by (values.Number s f) None true h = absurd (let e : false ≡ true = h refl in cc)
    by values.True None false h = refl
    by values.False None false h = refl
    by (values.Number s f) None false h = refl
    by values.True (Some x) true h = refl
    by values.False (Some x) true h = refl
    by (values.Number s f) (Some x) true h = refl
    by values.True (Some (meaning.Relation n)) false h = refl
    by values.True (Some _) false h = refl
    by values.False (Some (meaning.Relation n)) false h = refl
    by values.False (Some _) false h = refl
    by (values.Number s f) (Some (meaning.Counter n)) false h = sym (none_behind (literal_fault f))
    by (values.Number s f) (Some _) false h = refl

-- ---- conflict rules

-- a variable stands at one of the places
abbrev Among : List ℕ → List Mark → Mark → Type 0
Among [] ms m = ⊥
Among (s ∷ ss) [] m = ⊥
Among (s ∷ ss) (n ∷ ms) m = (n ≡ m) ⊎ Among ss ms m

-- so it has a first place
placed : (ss : List ℕ) (ms : List Mark) (m : Mark) → Among ss ms m → is_some (first_sort m.text ss ms) ≡ true
placed [] ms m h = absurd h
placed (s ∷ ss) [] m h = absurd h
placed (s ∷ ss) (n ∷ ms) m (inl e) = ap (λ b. is_some (if b then Some s else first_sort m.text ss ms)) ((bytes_eq-Decides n.text m.text).1 (ap (λ (x : Mark). x.text) e))
placed (s ∷ ss) (n ∷ ms) m (inr h) = by (bytes_eq n.text m.text) (placed ss ms m h)
  where
    by : (b : Bool) → is_some (first_sort m.text ss ms) ≡ true → is_some (if b then Some s else first_sort m.text ss ms) ≡ true
    by true e = refl
    by false e = e

first_counts : (a b c : Option ℕ) → is_some a ≡ true → option_or a b ≡ option_or a c
first_counts None b c h = absurd cc
first_counts (Some n) b c h = refl

module _ (k : Known) (p q : Reading) where
  abbrev IsSame : Mark → Type 0
  IsSame m = rule_sort k p q m.text ≡ first_place_sort k p q m.text

  sorts_are : (r : Reading) (t : ℕ) → token_meant (k.names r.name.text) ≡ Some t → pattern_places k r ≡ sorts_at k.design (token_meant (k.names r.name.text))
  sorts_are r t e = ap (λ o. token_places k.design (unwrap_or o 0)) e ∙ ap (sorts_at k.design) (sym e)

  left_same : (t : ℕ) → token_meant (k.names p.name.text) ≡ Some t → (m : Mark) → Among (token_places k.design t) p.args m → IsSame m
  left_same t e m h =
      let right = first_sort m.text (pattern_places k q) q.args in
      let other = first_sort m.text (sorts_at k.design (token_meant (k.names q.name.text))) q.args in
      ap (λ ss. option_or (first_sort m.text ss p.args) right) (sorts_are p t e)
      ∙ first_counts (first_sort m.text (sorts_at k.design (token_meant (k.names p.name.text))) p.args) right other
      (ap (λ o. is_some (first_sort m.text (sorts_at k.design o) p.args)) e ∙ placed (token_places k.design t) p.args m h)

  right_same : (s t : ℕ) → token_meant (k.names p.name.text) ≡ Some s → token_meant (k.names q.name.text) ≡ Some t → (m : Mark) → IsSame m
  right_same s t e f m =
      ap (λ ss. option_or (first_sort m.text ss p.args) (first_sort m.text (pattern_places k q) q.args)) (sorts_are p s e)
      ∙ ap (λ ss. option_or (first_sort m.text (sorts_at k.design (token_meant (k.names p.name.text))) p.args) (first_sort m.text ss q.args)) (sorts_are q t f)

  variables_agree : (ss : List ℕ) (ms : List Mark) → ((m : Mark) → Among ss ms m → IsSame m) → length ss ≡ length ms → rule_variables_fault k p q ss ms ≡ first_of (pattern_variable_sites k p q ss ms)
  variables_agree [] [] same e = refl
  variables_agree [] (m ∷ ms) same e = absurd (omega arith)
  variables_agree (s ∷ ss) [] same e = refl
  variables_agree (s ∷ ss) (m ∷ ms) same e =
      ap (λ o. rule_variable_fault k p q s m otherwise o) (variables_agree ss ms (λ n h. same n (inr h)) (omega arith))
      ∙ ap (λ r. (if is_none (k.names m.text) && is_sort r s then None else kind_at m) otherwise first_of (pattern_variable_sites k p q ss ms)) (same m (inl refl))
      ∙ by (is_none (k.names m.text)) (is_sort (first_place_sort k p q m.text) s) (first_of (pattern_variable_sites k p q ss ms))
    where
      by : (a b : Bool) (o : Option Fault) → ((if a && b then None else kind_at m) otherwise o) ≡ ((if a then None else kind_at m) otherwise ((if b then None else kind_at m) otherwise o))
      by true true o = refl
      by true false o = refl
      by false b o = refl

  pattern_agrees : (r : Reading) → ((t : ℕ) → token_meant (k.names r.name.text) ≡ Some t → (m : Mark) → Among (token_places k.design t) r.args m → IsSame m) → pattern_fault k p q r ≡ first_of (pattern_sites k p q r)
  pattern_agrees r same = by (token_meant (k.names r.name.text)) refl ∙ sym (met (token_meant (k.names r.name.text)) refl)
    where
      met : (o : Option ℕ) → token_meant (k.names r.name.text) ≡ o → first_of (pattern_sites k p q r) ≡ ((if is_some o then None else stranger_fault (scope_in k) r.name) otherwise first_of (pattern_sites_at k p q r (option_map (token_places k.design) o)))
      met o e = ap (λ x. (if is_some x then None else stranger_fault (scope_in k) r.name) otherwise first_of (pattern_sites_at k p q r (option_map (token_places k.design) x))) e

      by : (o : Option ℕ) → token_meant (k.names r.name.text) ≡ o → pattern_fault_at k p q r o ≡ ((if is_some o then None else stranger_fault (scope_in k) r.name) otherwise first_of (pattern_sites_at k p q r (option_map (token_places k.design) o)))
      by (Some t) e =
          behind_none (places_fault r.name (token_places k.design t) (length r.args)) (rule_variables_fault k p q (token_places k.design t) r.args) (first_of (pattern_variable_sites k p q (token_places k.design t) r.args))
          (λ h. variables_agree (token_places k.design t) r.args (same t e) (places_none r.name (token_places k.design t) (length r.args) h))
      by None e = sym (stranger_first (scope_in k) r.name _)

  -- the left pattern is a token with its names where nothing is wrong with it
  left_token : pattern_fault k p q p ≡ None → (t : ℕ) × (token_meant (k.names p.name.text) ≡ Some t)
  left_token h = by (token_meant (k.names p.name.text)) refl h
    where
      by : (o : Option ℕ) → token_meant (k.names p.name.text) ≡ o → pattern_fault_at k p q p o ≡ None → (t : ℕ) × (token_meant (k.names p.name.text) ≡ Some t)
      by (Some t) e f = (t, e)
      by None e f = absurd (stranger (scope_in k) p.name f)

  rule_agrees : (pattern_fault k p q p otherwise pattern_fault k p q q) ≡ first_of (pattern_sites k p q p ++ pattern_sites k p q q)
  rule_agrees =
      parts (pattern_fault k p q p) (pattern_fault k p q q) (pattern_sites k p q p) (pattern_sites k p q q) (pattern_agrees p left_same)
      (λ h. (let l = left_token h in pattern_agrees q (λ t e m i. right_same l.0 t l.1 e m)))

-- ---- invariants

exists_agrees : (p : Option Prefix) → exists_fault p ≡ first_of (exists_sites p)
exists_agrees None = refl
exists_agrees (Some p) = by p.quantifier
  where
    by : (x : Quantifier) → some_fault p.word x ≡ first_of (some_sites p.word x)
    by quantifiers.Forall = refl
    by quantifiers.Exists = refl

claim_agrees : (k : Known) (s : Sentence) → claim_fault k s ≡ first_of (exists_sites s.prefix ++ sentence_sites (scope_in k) s)
claim_agrees k s = parts (exists_fault s.prefix) (sentence_fault (scope_in k) s) (exists_sites s.prefix) (sentence_sites (scope_in k) s) (exists_agrees s.prefix) (λ h. sentence_agrees (scope_in k) s)

-- ---- operations

with_one : (k : Known) (a : Option Fault) (o : Operation) → with_typed_operation k (unless a (Ok o)) ≡ unless a (Ok (with_operation k o))
with_one k None o = refl
with_one k (Some f) o = refl

operation_agrees : (k : Known) (m : Mark) (ps : List Param) (ls : List LineForm) → typed_operation k m ps ls ≡ unless (first_of (operation_sites k m ps ls)) (Ok (with_lines k m ps ls))
operation_agrees k m ps ls =
    let sc = with_params (scope_in k) ps in
    let o = without_lines k m ps in
    let end : Result Known Fault = Ok (with_lines k m ps ls) in
    ap (λ r. unless (params_fault (scope_in k) ps) (with_typed_operation k r)) (lines_agree sc o ls)
    ∙ ap (λ r. unless (params_fault (scope_in k) ps) r) (with_one k (first_of (lines_sites sc o ls)) (operation_behind sc o ls))
    ∙ unless_both (params_fault (scope_in k) ps) (first_of (lines_sites sc o ls)) end
    ∙ ap (λ x. unless x end) (parts (params_fault (scope_in k) ps) (first_of (lines_sites sc o ls)) (param_sites (scope_in k) [] ps) (lines_sites sc o ls) (all_params_agree (scope_in k) ps) (λ h. refl))

-- ---- items

-- a part behind a heading
headed : (k : Known) (what : Which) (most n : ℕ) (m : Mark) (ss : List Site) (end : Result Known Fault) → unless (heading_fault k what most n m) (unless (first_of ss) end) ≡ unless (first_of (heading_sites k what most n m ++ ss)) end
headed k what most n m ss end =
    unless_both (heading_fault k what most n m) (first_of ss) end
    ∙ ap (λ x. unless x end) (parts (heading_fault k what most n m) (first_of ss) (heading_sites k what most n m) ss (heading_agrees k what most n m) (λ h. refl))

item_agrees : (k : Known) (i : ItemForm) → IsSound k → typed_item k i ≡ unless (first_of (item_sites k i)) (Ok (known_behind k i))
item_agrees k (sort_form w m) sound = ap (λ x. unless x (Ok (with_sort k m))) (heading_agrees k which.Sorts most_sorts (length k.design.sorts) m)
item_agrees k (const_form w m s) sound = ap (λ x. unless x (Ok (with_const k m s))) (const_agrees k w m s)
item_agrees k (relation_form w m ps) sound = ap (λ x. unless x (Ok (with_relation k m ps))) (placed_agree k (with_relation k m ps).design which.Relations most_relations (length k.design.relations) most_places m (meaning.Relation (length k.design.relations)) ps refl)
item_agrees k (counter_form w m ps) sound = ap (λ x. unless x (Ok (with_counter k m ps))) (placed_agree k (with_counter k m ps).design which.Counters most_counters (length k.design.counters) most_keys m (meaning.Counter (length k.design.counters)) ps refl)
item_agrees k (initially_form w m v) sound = ap (λ x. unless x (Ok (with_initial k m v))) (initial_agrees k w m v sound)
item_agrees k (token_form w m ps) sound = ap (λ x. unless x (Ok (with_token k m ps))) (placed_agree k (with_token k m ps).design which.Tokens most_tokens (length k.design.tokens) most_places m (meaning.Token (length k.design.tokens)) ps refl)
item_agrees k (conflict_form w p q) sound =
    ap (λ x. unless (limit_at which.Conflicts most_rules (length k.design.rules) w otherwise x) (Ok (with_rule k p q)))
    (rule_agrees k p q)
item_agrees k (invariant_form w m s) sound =
    let j = with_heading k m meaning.Invariant in
    let end : Result Known Fault = Ok (with_invariant j m s) in
    ap (λ x. unless (heading_fault k which.Invariants most_invariants (length k.design.invariants) m) (unless x end)) (claim_agrees j s)
    ∙ headed k which.Invariants most_invariants (length k.design.invariants) m (exists_sites s.prefix ++ sentence_sites (scope_in j) s) end
item_agrees k (operation_form w m ps ls) sound =
    let j = with_heading k m meaning.Operation in
    ap (λ x. unless (heading_fault k which.Operations most_operations (length k.design.operations) m) x) (operation_agrees j m ps ls)
    ∙ headed k which.Operations most_operations (length k.design.operations) m (operation_sites j m ps ls) (Ok (with_lines j m ps ls))

-- ---- the whole

more_names : (k : Known) (own : List ℕ) (x : Meaning) → IsSound k → (name : List ℕ) → is_some (k.stated name) ≡ true → is_some (with_name k.names own x name) ≡ true
more_names k own x sound name h = by (bytes_eq name own) (sound name h)
  where
    by : (b : Bool) → is_some (k.names name) ≡ true → is_some (if b then Some x else k.names name) ≡ true
    by true e = refl
    by false e = e

met : (sc : Scope) (need : Need) (m : Mark) → fault_at (used sc need m) ≡ None → meets sc need m.text ≡ true
met sc need m h = by (meets sc need m.text) (in_scope sc m.text) h
  where
    by : (a b : Bool) → (if a then None else (if b then kind_at m else unknown_at m)) ≡ None → a ≡ true
    by true b e = refl
    by false true e = absurd cc
    by false false e = absurd cc

none_behind_none : (a b : Option Fault) → (a otherwise b) ≡ None → b ≡ None
none_behind_none None b h = h
none_behind_none (Some f) b h = absurd cc

one_stated : (k : Known) (m : Mark) (v : Value) → IsSound k → is_some (k.names m.text) ≡ true → IsSound (with_initial k m v)
one_stated k m v sound there name h = by (bytes_eq name m.text) refl h
  where
    by : (b : Bool) → bytes_eq name m.text ≡ b → is_some (if b then Some meaning.Invariant else k.stated name) ≡ true → is_some (k.names name) ≡ true
    by true e f = ap (λ t. is_some (k.names t)) ((bytes_eq-Decides name m.text).0 e) ∙ there
    by false e f = sound name f

named_in_scope : (k : Known) (name : List ℕ) → in_scope (scope_in k) name ≡ true → is_some (k.names name) ≡ true
named_in_scope k name h = by (is_some (k.names name)) h
  where
    by : (b : Bool) → (b || false || false) ≡ true → b ≡ true
    by true e = refl
    by false e = absurd cc

stays_sound : (k : Known) (i : ItemForm) → IsSound k → first_of (item_sites k i) ≡ None → IsSound (known_behind k i)
stays_sound k (sort_form w m) sound h = more_names k m.text _ sound
stays_sound k (const_form w m s) sound h = more_names k m.text _ sound
stays_sound k (relation_form w m ps) sound h = more_names k m.text _ sound
stays_sound k (counter_form w m ps) sound h = more_names k m.text _ sound
stays_sound k (initially_form w m v) sound h =
    one_stated k m v sound (named_in_scope k m.text (met_in_scope (scope_in k) m.text (need_of_value v) (met (scope_in k) (need_of_value v) m
    (none_before (fault_at (used (scope_in k) (need_of_value v) m)) (first_of (value_sites v)) (none_behind_none (fault_at (stated k m)) (first_of (used (scope_in k) (need_of_value v) m ∷ value_sites v)) h)))))
stays_sound k (token_form w m ps) sound h = more_names k m.text _ sound
stays_sound k (conflict_form w p q) sound h = sound
stays_sound k (invariant_form w m s) sound h = more_names k m.text _ sound
stays_sound k (operation_form w m ps ls) sound h = more_names k m.text _ sound

goes_on : (a b : Option Fault) (j : Known) (end : Result Specification Fault) (more : Known → Result Specification Fault) → (a ≡ None → more j ≡ unless b end) → going_on (unless a (Ok j)) more ≡ unless (a otherwise b) end
goes_on None b j end more h = h refl
goes_on (Some f) b j end more h = refl

items_agree : (k : Known) (is : List ItemForm) → IsSound k → typed_items k is ≡ unless (first_of (items_sites k is)) (Ok (known_behind_all k is).design)
items_agree k [] sound = refl
items_agree k (i ∷ is) sound =
    let j = known_behind k i in
    let end : Result Specification Fault = Ok (known_behind_all j is).design in
    ap (λ r. going_on r (λ x. typed_items x is)) (item_agrees k i sound)
    ∙ goes_on (first_of (item_sites k i)) (first_of (items_sites j is)) j end (λ x. typed_items x is) (λ h. items_agree j is (stays_sound k i sound h))
    ∙ ap (λ x. unless x end) (sym (first_append (item_sites k i) (items_sites j is)))

pub typing_agrees : (t : TreeForm) → typing t ≡ unless (first_of (sites_of t)) (Ok (specification_of t))
typing_agrees t = items_agree (nothing_known t.version) t.items (λ name h. absurd cc)
