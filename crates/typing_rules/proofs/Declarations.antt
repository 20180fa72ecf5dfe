-- What stands in an item, and in a whole tree, is spelled by its words.
use Rattle.std.proofs.Common.{◌≡◌, ℕ, ◌+◌, Bool, false, true, ◌||◌, inl, inr, List, [], ◌∷◌, ◌++◌, length, Option, None, Some, refl, subst, append_assoc, arith}
use Rattle.std.specs.Prelude.{is_some}
use Rattle.parser_combinators.specs.declared.token.Key.TheVariants as keys
use Rattle.parser_combinators.specs.Words.{Spelt, key, sign, each, listed, group}
use Rattle.spec_core.specs.Limits.{most_constants, most_parameters}
use Rattle.spec_trees.specs.declared.tree.Mark.{Mark}
use Rattle.spec_trees.specs.declared.tree.Reading.{Reading}
use Rattle.spec_trees.specs.declared.tree.Quantifier.{Quantifier}
use Rattle.spec_trees.specs.declared.tree.Quantifier.TheVariants as quantifiers
use Rattle.spec_trees.specs.declared.tree.Prefix.{Prefix}
use Rattle.spec_trees.specs.declared.tree.Param.{Param}
use Rattle.spec_trees.specs.declared.tree.ParamKind.{ParamKind}
use Rattle.spec_trees.specs.declared.tree.ParamKind.TheVariants as kinds
use Rattle.spec_trees.specs.declared.tree.Value.{Value}
use Rattle.spec_trees.specs.declared.tree.Value.TheVariants as values
use Rattle.spec_trees.specs.Form.{Sentence, LineForm, ItemForm, sort_form, const_form, relation_form, counter_form, initially_form, token_form, conflict_form, invariant_form, operation_form, TreeForm}
use Rattle.spec_trees.specs.Spelling.{mark, figure, one, reading, minus, form, variable, quantifier_key, prefix, sentence, value, param_kind, param, line, item, tree}
use Rattle.typing_rules.specs.declared.which.Which.{Which}
use Rattle.typing_rules.specs.declared.which.Which.TheVariants as which
use Rattle.typing_rules.specs.declared.meaning.Meaning.TheVariants as meaning
use Rattle.typing_rules.specs.Scope.{Scope, in_scope, sort_meant}
use Rattle.typing_rules.specs.Formulas.{with_vars, vars_of}
use Rattle.typing_rules.specs.Items.{Known, scope_in, with_heading, with_params, without_lines, with_const, nothing_known}
use Rattle.typing_rules.specs.Sites.{Need, a_sort, a_token, Site, declared, used, applied, one_more, literal, stated, claimed_exists, rule_variable, rule_place, formula_sites, variable_sites, sentence_sites, lines_sites, kind_sites, param_sites, heading_sites, place_sites, few_const_sites, need_of_value, value_sites, pattern_variable_sites, pattern_sites_at, pattern_sites, some_sites, exists_sites, operation_sites, item_sites, known_behind, items_sites, sites_of}
use Rattle.typing_rules.specs.FaultRules.{not_in_scope, stated_already, not_as_needed, global_in_rule, at_two_sorts}
use Rattle.typing_rules.proofs.Order.{Precedes, Spelled, joint, quiet, before, behind, headed, on_top}
use Rattle.typing_rules.proofs.Standing.{one_use, use_applied, use_limit, twice_limited, one_listed, in_group, formula_spelled, variables_spelled, vars_spelled, led, lines_spelled}

-- ---- sorts of places

module _ (sc : Scope) (most : ℕ) where
  places_more : (n : ℕ) (ms : List Mark) → Spelled (place_sites sc most n ms) (each (λ y. sign keys.Comma ∷ one y) ms)
  places_more n [] = quiet []
  places_more n (m ∷ ms) = one_listed one m ms (used sc a_sort m ∷ one_more which.Places most n m.word ∷ []) (place_sites sc most (n + 1) ms) (use_limit sc a_sort m which.Places most n) (places_more (n + 1) ms)

  places_spelled : (n : ℕ) (ms : List Mark) → Spelled (place_sites sc most n ms) (group one ms)
  places_spelled n [] = quiet []
  places_spelled n (m ∷ ms) = in_group one m ms (used sc a_sort m ∷ one_more which.Places most n m.word ∷ []) (place_sites sc most (n + 1) ms) (use_limit sc a_sort m which.Places most n) (places_more (n + 1) ms)

-- ---- initial values

global_in_scope : (k : Known) (name : List ℕ) → is_some (k.names name) ≡ true → in_scope (scope_in k) name ≡ false → ⊥
global_in_scope k name h i = by (is_some (k.names name)) h i
  where
    by : (b : Bool) → b ≡ true → (b || false || false) ≡ false → ⊥
    by true e f = absurd cc
    by false e f = absurd cc

stated_used : (k : Known) (need : Need) (m : Mark) → Precedes (stated k m) (used (scope_in k) need m)
stated_used k need m f g (stated_already _ _ h i) (not_in_scope _ _ _ j) = absurd (global_in_scope k m.text h j)
stated_used k need m f g (stated_already _ _ h i) (not_as_needed _ _ _ j l) = inr (inr (refl, omega arith))

value_spelled : (v : Value) → Spelled (value_sites v) (value v)
value_spelled values.True = quiet _
value_spelled values.False = quiet _
value_spelled (values.Number b f) = before (literal f ∷ []) (minus b) (figure f ∷ []) (headed (literal f) [] (figure f) [] (inl refl) (omega arith) (quiet []))

-- ---- conflict rules

module _ (k : Known) (p q : Reading) where
  variable_place : (s : ℕ) (m : Mark) → Precedes (rule_variable k m) (rule_place k p q s m)
  variable_place s m f g (global_in_rule _ _ h) (at_two_sorts _ _ _ _ _ i) = inl refl

  one_free : (m : Mark) → Spelled (rule_variable k m ∷ []) (one m)
  one_free m = headed (rule_variable k m) [] (mark m) [] (inl refl) (omega arith) (quiet [])

  one_placed : (s : ℕ) (m : Mark) → Spelled (rule_variable k m ∷ rule_place k p q s m ∷ []) (one m)
  one_placed s m =
      on_top (rule_variable k m) (rule_place k p q s m ∷ []) (one m) (inl (inl refl), omega arith) (variable_place s m, tt)
      (headed (rule_place k p q s m) [] (mark m) [] (inl refl) (omega arith) (quiet []))

  pattern_more : (ss : List ℕ) (ms : List Mark) → Spelled (pattern_variable_sites k p q ss ms) (each (λ y. sign keys.Comma ∷ one y) ms)
  pattern_more ss [] = quiet []
  pattern_more [] (m ∷ ms) = one_listed one m ms (rule_variable k m ∷ []) (pattern_variable_sites k p q [] ms) (one_free m) (pattern_more [] ms)
  pattern_more (s ∷ ss) (m ∷ ms) = one_listed one m ms (rule_variable k m ∷ rule_place k p q s m ∷ []) (pattern_variable_sites k p q ss ms) (one_placed s m) (pattern_more ss ms)

  pattern_names : (ss : List ℕ) (ms : List Mark) → Spelled (pattern_variable_sites k p q ss ms) (group one ms)
  pattern_names ss [] = quiet []
  pattern_names [] (m ∷ ms) = in_group one m ms (rule_variable k m ∷ []) (pattern_variable_sites k p q [] ms) (one_free m) (pattern_more [] ms)
  pattern_names (s ∷ ss) (m ∷ ms) = in_group one m ms (rule_variable k m ∷ rule_place k p q s m ∷ []) (pattern_variable_sites k p q ss ms) (one_placed s m) (pattern_more ss ms)

  pattern_by : (r : Reading) (o : Option (List ℕ)) → Spelled (used (scope_in k) a_token r.name ∷ pattern_sites_at k p q r o) (reading r)
  pattern_by r None = joint (used (scope_in k) a_token r.name ∷ []) (pattern_variable_sites k p q [] r.args) (one r.name) (group one r.args) (one_use (scope_in k) a_token r.name) (pattern_names [] r.args)
  pattern_by r (Some places) =
      joint (used (scope_in k) a_token r.name ∷ applied (length places) (length r.args) r.name ∷ []) (pattern_variable_sites k p q places r.args) (one r.name) (group one r.args)
      (use_applied (scope_in k) a_token r.name (length places) (length r.args)) (pattern_names places r.args)

-- ---- invariants

exists_spelled : (sc : Scope) (p : Option Prefix) → Spelled (exists_sites p ++ variable_sites sc [] (vars_of p)) (prefix p)
exists_spelled sc None = quiet []
exists_spelled sc (Some p) = by p.quantifier (vars_spelled sc (Some p))
  where
    by : (q : Quantifier) → Spelled (variable_sites sc [] p.vars) (prefix (Some p)) → Spelled (some_sites p.word q ++ variable_sites sc [] p.vars) (prefix (Some p))
    by quantifiers.Forall a = a
    by quantifiers.Exists a =
        headed (claimed_exists p.word) (variable_sites sc [] p.vars) (key (quantifier_key p.quantifier) p.word) (listed variable p.vars ++ sign keys.Dot ∷ []) (inl refl) (omega arith)
        (behind (variable_sites sc [] p.vars) (listed variable p.vars) (sign keys.Dot ∷ []) (variables_spelled sc p.vars))

claim_spelled : (sc : Scope) (s : Sentence) → Spelled (exists_sites s.prefix ++ sentence_sites sc s) (sentence s)
claim_spelled sc s =
    subst (λ (ss : List Site). Spelled ss (sentence s)) (append_assoc (exists_sites s.prefix) (variable_sites sc [] (vars_of s.prefix)) (formula_sites (with_vars sc (vars_of s.prefix)) s.body))
    (joint (exists_sites s.prefix ++ variable_sites sc [] (vars_of s.prefix)) (formula_sites (with_vars sc (vars_of s.prefix)) s.body) (prefix s.prefix) (form s.body) (exists_spelled sc s.prefix) (formula_spelled (with_vars sc (vars_of s.prefix)) s.body))

-- ---- operations

module _ (sc : Scope) where
  kind_spelled : (inside : Scope) (x : ParamKind) → Spelled (kind_sites inside x) (param_kind x)
  kind_spelled inside (kinds.Sort m) = one_use inside a_sort m
  kind_spelled inside kinds.Int = quiet _

  abbrev one_param_sites : List Param → Param → List Site
  one_param_sites ps p = declared (with_params sc ps) p.name ∷ one_more which.Parameters most_parameters (length ps) p.name.word ∷ kind_sites (with_params sc (ps ++ p ∷ [])) p.kind

  one_param : (ps : List Param) (p : Param) → Spelled (one_param_sites ps p) (param p)
  one_param ps p =
      joint (declared (with_params sc ps) p.name ∷ one_more which.Parameters most_parameters (length ps) p.name.word ∷ []) (kind_sites (with_params sc (ps ++ p ∷ [])) p.kind) (one p.name) (sign keys.Colon ∷ param_kind p.kind)
      (twice_limited (with_params sc ps) p.name which.Parameters most_parameters (length ps))
      (before (kind_sites (with_params sc (ps ++ p ∷ [])) p.kind) (sign keys.Colon ∷ []) (param_kind p.kind) (kind_spelled (with_params sc (ps ++ p ∷ [])) p.kind))

  params_more : (ps qs : List Param) → Spelled (param_sites sc ps qs) (each (λ y. sign keys.Comma ∷ param y) qs)
  params_more ps [] = quiet []
  params_more ps (q ∷ qs) = one_listed param q qs (one_param_sites ps q) (param_sites sc (ps ++ q ∷ []) qs) (one_param ps q) (params_more (ps ++ q ∷ []) qs)

  params_spelled : (qs : List Param) → Spelled (param_sites sc [] qs) (group param qs)
  params_spelled [] = quiet []
  params_spelled (q ∷ qs) = in_group param q qs (one_param_sites [] q) (param_sites sc (q ∷ []) qs) (one_param [] q) (params_more (q ∷ []) qs)

operation_spelled : (k : Known) (m : Mark) (ps : List Param) (ls : List LineForm) → Spelled (operation_sites k m ps ls) (group param ps ++ (each line ls ++ sign keys.End ∷ []))
operation_spelled k m ps ls =
    let sc = with_params (scope_in k) ps in
    let ts = lines_sites sc (without_lines k m ps) ls in
    joint (param_sites (scope_in k) [] ps) ts (group param ps) (each line ls ++ sign keys.End ∷ []) (params_spelled (scope_in k) ps)
    (behind ts (each line ls) (sign keys.End ∷ []) (lines_spelled sc (without_lines k m ps) ls))

-- ---- items

module _ (k : Known) where
  -- a name, with what follows it
  named : (what : Which) (most n : ℕ) (m : Mark) (ss : List Site) (x : Spelt) (xs : List Spelt) → Spelled ss xs → Spelled (heading_sites k what most n m ++ ss) (x ∷ mark m ∷ xs)
  named what most n m ss x xs a =
      before (heading_sites k what most n m ++ ss) (x ∷ []) (mark m ∷ xs) (joint (heading_sites k what most n m) ss (one m) xs (twice_limited (scope_in k) m what most n) a)

  const_spelled : (m s : Mark) (sc : Scope) (o : Option ℕ) → Spelled (declared (scope_in k) m ∷ (few_const_sites k.design m o ++ used sc a_sort s ∷ [])) (mark m ∷ sign keys.Colon ∷ mark s ∷ [])
  const_spelled m s sc None =
      joint (declared (scope_in k) m ∷ []) (used sc a_sort s ∷ []) (one m) (sign keys.Colon ∷ one s)
      (headed (declared (scope_in k) m) [] (mark m) [] (inl refl) (omega arith) (quiet [])) (before (used sc a_sort s ∷ []) (sign keys.Colon ∷ []) (one s) (one_use sc a_sort s))
  const_spelled m s sc (Some n) =
      joint (declared (scope_in k) m ∷ few_const_sites k.design m (Some n)) (used sc a_sort s ∷ []) (one m) (sign keys.Colon ∷ one s)
      (twice_limited (scope_in k) m which.Constants most_constants _) (before (used sc a_sort s ∷ []) (sign keys.Colon ∷ []) (one s) (one_use sc a_sort s))

  initial_spelled : (m : Mark) (v : Value) → Spelled (stated k m ∷ used (scope_in k) (need_of_value v) m ∷ value_sites v) (mark m ∷ value v)
  initial_spelled m v =
      joint (stated k m ∷ used (scope_in k) (need_of_value v) m ∷ []) (value_sites v) (one m) (value v)
      (on_top (stated k m) (used (scope_in k) (need_of_value v) m ∷ []) (one m) (inl (inl refl), omega arith) (stated_used k (need_of_value v) m, tt) (one_use (scope_in k) (need_of_value v) m))
      (value_spelled v)

  pub item_spelled : (i : ItemForm) → Spelled (item_sites k i) (item i)
  item_spelled (sort_form w m) = named which.Sorts _ _ m [] (key keys.Sort w) [] (quiet [])
  item_spelled (const_form w m s) = before _ (key keys.Const w ∷ []) _ (const_spelled m s (scope_in (with_const k m s)) (sort_meant (k.names s.text)))
  item_spelled (relation_form w m ps) = named which.Relations _ _ m _ (key keys.Relation w) (group one ps) (places_spelled _ _ 0 ps)
  item_spelled (counter_form w m ps) = named which.Counters _ _ m _ (key keys.Counter w) (group one ps) (places_spelled _ _ 0 ps)
  item_spelled (initially_form w m v) = before _ (key keys.Initially w ∷ []) _ (initial_spelled m v)
  item_spelled (token_form w m ps) = named which.Tokens _ _ m _ (key keys.Token w) (group one ps) (places_spelled _ _ 0 ps)
  item_spelled (conflict_form w p q) =
      led (scope_in k) which.Conflicts _ _ w (pattern_sites k p q p ++ pattern_sites k p q q) (key keys.Conflict w) (reading p ++ reading q) (inl refl)
      (joint (pattern_sites k p q p) (pattern_sites k p q q) (reading p) (reading q) (pattern_by k p q p _) (pattern_by k p q q _))
  item_spelled (invariant_form w m s) = named which.Invariants _ _ m _ (key keys.Invariant w) (sentence s) (claim_spelled (scope_in (with_heading k m meaning.Invariant)) s)
  item_spelled (operation_form w m ps ls) = named which.Operations _ _ m _ (key keys.Operation w) (group param ps ++ (each line ls ++ sign keys.End ∷ [])) (operation_spelled (with_heading k m meaning.Operation) m ps ls)

items_spelled : (k : Known) (is : List ItemForm) → Spelled (items_sites k is) (each item is)
items_spelled k [] = quiet []
items_spelled k (i ∷ is) = joint (item_sites k i) (items_sites (known_behind k i) is) (item i) (each item is) (item_spelled k i) (items_spelled (known_behind k i) is)

-- what stands in a tree is spelled by the words of the tree
pub tree_spelled : (t : TreeForm) → Spelled (sites_of t) (tree t)
tree_spelled t = before (sites_of t) (sign keys.Cise ∷ _ ∷ []) (each item t.items) (items_spelled (nothing_known t.version) t.items)
