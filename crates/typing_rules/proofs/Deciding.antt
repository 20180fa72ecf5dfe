-- Whether something is wrong with what stands at a word can be told.
use Rattle.std.proofs.Common.{◌≡◌, ℕ, ◌+◌, ◌<◌, ◌≤◌, ◌==◌, nat_lt, nat_le, Bool, false, true, ◌&&◌, ◌||◌, if◌then◌else◌, List, [], ◌∷◌, Option, None, Some, refl, sym, ◌∙◌, ap, subst, arith}
use Rattle.std.proofs.lemmas.Bool.Decides.{nat_tests}
use Rattle.std.proofs.lemmas.List.Quantifiers.{position-Some}
use Rattle.std.proofs.lemmas.List.Folds.{list_any_at}
use Rattle.std.specs.Prelude.{is_some, is_none, position, codes, min}
use Rattle.std.specs.List.{list_any}
use Rattle.std.specs.Str.{bytes_eq}
use Rattle.spec_core.specs.declared.formula.Elem.{Elem}
use Rattle.spec_core.specs.Limits.{most_nodes, greatest_literal}
use Rattle.spec_core.specs.Typed.{is_sort, same_sort}
use Rattle.spec_trees.specs.declared.tree.Mark.{Mark}
use Rattle.spec_trees.specs.declared.tree.Figure.{Figure}
use Rattle.spec_trees.specs.declared.tree.Reading.{Reading}
use Rattle.spec_trees.specs.declared.tree.Param.{Param}
use Rattle.spec_trees.specs.declared.tree.Variable.{Variable}
use Rattle.spec_trees.specs.Form.{Form}
use Rattle.typing_rules.specs.declared.meaning.Meaning.{Meaning}
use Rattle.typing_rules.specs.declared.which.Which.{Which}
use Rattle.typing_rules.specs.declared.which.Which.TheVariants as which
use Rattle.typing_rules.specs.Fault.{Fault, unknown_fault, twice_fault, kind_fault, count_fault, limit_fault, twice_at, kind_at, unknown_at, count_at, limit_at}
use Rattle.typing_rules.specs.Scope.{Scope, is_param, is_var, in_scope, stranger_fault, declared_fault, sort_meant, const_meant, relation_meant, counter_meant, token_meant}
use Rattle.typing_rules.specs.Terms.{small, elem_by, elem_named, sort_of_elem, sort_named, is_whole, number_named, literal_fault}
use Rattle.typing_rules.specs.Formulas.{sorts_fault, node_count, first_word, nodes_fault}
use Rattle.typing_rules.specs.Items.{Known}
use Rattle.typing_rules.proofs.Elements.{small_is}
use Rattle.typing_rules.specs.Sites.{Need, a_sort, an_element_of, an_element, a_relation, a_counter, a_token, a_number, has_no_keys, meets, Site, declared, used, applied, one_more, formula, literal, stated, compared, claimed_exists, rule_variable, rule_place, first_place_sort}
use Rattle.typing_rules.specs.FaultRules.{IsWrong, not_in_scope, in_scope_already, stated_already, not_as_needed, of_two_sorts, not_for_all, global_in_rule, at_two_sorts, wrong_number, one_too_many, too_many_nodes, too_large}
use Rattle.typing_rules.proofs.Order.{weight}

-- ---- what is as it has to be is in scope

any_found : {X : Type 0} (p : X → Bool) (xs : List X) (n : ℕ) → small (position p xs) ≡ Some n → list_any p xs ≡ true
any_found p [] n h = absurd cc
any_found p (x ∷ xs) n h = let q = position-Some p (x ∷ xs) n x (small_is (position p (x ∷ xs)) n h) in list_any_at p (x ∷ xs) n x q.0 q.1

whole_param : (name : List ℕ) (ps : List Param) → list_any (λ (p : Param). bytes_eq p.name.text name && is_whole p.kind) ps ≡ true → is_param name ps ≡ true
whole_param name [] h = absurd cc
whole_param name (p ∷ ps) h = by (bytes_eq p.name.text name) (is_whole p.kind) (whole_param name ps) h
  where
    by : (a b : Bool) → (list_any (λ (q : Param). bytes_eq q.name.text name && is_whole q.kind) ps ≡ true → is_param name ps ≡ true)
        → ((a && b) || list_any (λ (q : Param). bytes_eq q.name.text name && is_whole q.kind) ps) ≡ true → (a || is_param name ps) ≡ true
    by true b more e = refl
    by false b more e = more e

module _ (sc : Scope) (name : List ℕ) where
  global : (test : Option Meaning → Bool) → test None ≡ false → test (sc.names name) ≡ true → in_scope sc name ≡ true
  global test none h = by (sc.names name) h
    where
      by : (o : Option Meaning) → test o ≡ true → (is_some o || is_param name sc.params || is_var name sc.vars) ≡ true
      by None e = absurd cc
      by (Some x) e = refl

  of_param : is_param name sc.params ≡ true → in_scope sc name ≡ true
  of_param h = by (is_some (sc.names name)) (is_param name sc.params) (is_var name sc.vars) h
    where
      by : (a b c : Bool) → b ≡ true → (a || b || c) ≡ true
      by true b c e = refl
      by false true c e = refl
      by false false c e = absurd cc

  of_var : is_var name sc.vars ≡ true → in_scope sc name ≡ true
  of_var h = by (is_some (sc.names name)) (is_param name sc.params) (is_var name sc.vars) h
    where
      by : (a b c : Bool) → c ≡ true → (a || b || c) ≡ true
      by true b c e = refl
      by false true c e = refl
      by false false true e = refl
      by false false false e = absurd cc

  element : is_some (elem_named sc name) ≡ true → in_scope sc name ≡ true
  element h = by (small (position (λ v. bytes_eq v.name.text name) sc.vars)) (small (position (λ p. bytes_eq p.name.text name) sc.params)) refl refl h
    where
      by : (v p : Option ℕ) → small (position (λ (x : Variable). bytes_eq x.name.text name) sc.vars) ≡ v → small (position (λ (x : Param). bytes_eq x.name.text name) sc.params) ≡ p
          → is_some (elem_by v p (const_meant (sc.names name))) ≡ true → in_scope sc name ≡ true
      by (Some n) p e f g = of_var (any_found (λ (x : Variable). bytes_eq x.name.text name) sc.vars n e)
      by None (Some n) e f g = of_param (any_found (λ (x : Param). bytes_eq x.name.text name) sc.params n f)
      by None None e f g = global (λ o. is_some (elem_by None None (const_meant o))) refl g

  sorted : is_some (sort_named sc name) ≡ true → in_scope sc name ≡ true
  sorted h = element (by (elem_named sc name) h)
    where
      by : (o : Option Elem) → is_some (sort_of_elem sc o) ≡ true → is_some o ≡ true
      by None e = absurd cc
      by (Some x) e = refl

  of_sort : (o : Option ℕ) (s : ℕ) → is_sort o s ≡ true → is_some o ≡ true
  of_sort None s e = absurd cc
  of_sort (Some t) s e = refl

  whole : is_some (number_named sc name) ≡ true → in_scope sc name ≡ true
  whole h = by (number_named sc name) refl h
    where
      by : (o : Option ℕ) → number_named sc name ≡ o → is_some o ≡ true → in_scope sc name ≡ true
      by None e f = absurd cc
      by (Some n) e f = of_param (whole_param name sc.params (any_found (λ (p : Param). bytes_eq p.name.text name && is_whole p.kind) sc.params n e))

  keyless : (o : Option Meaning) → has_no_keys sc.design (counter_meant o) ≡ true → is_some (counter_meant o) ≡ true
  keyless o h = by (counter_meant o) h
    where
      by : (c : Option ℕ) → has_no_keys sc.design c ≡ true → is_some c ≡ true
      by None e = absurd cc
      by (Some n) e = refl

  pub met_in_scope : (need : Need) → meets sc need name ≡ true → in_scope sc name ≡ true
  met_in_scope a_sort h = global (λ o. is_some (sort_meant o)) refl h
  met_in_scope (an_element_of s) h = sorted (of_sort (sort_named sc name) s h)
  met_in_scope an_element h = sorted h
  met_in_scope a_relation h = global (λ o. is_some (relation_meant o)) refl h
  met_in_scope a_counter h = global (λ o. is_some (counter_meant o)) refl h
  met_in_scope a_token h = global (λ o. is_some (token_meant o)) refl h
  met_in_scope a_number h = by (is_some (number_named sc name)) refl h
    where
      by : (b : Bool) → is_some (number_named sc name) ≡ b → (b || has_no_keys sc.design (counter_meant (sc.names name))) ≡ true → in_scope sc name ≡ true
      by true e f = whole e
      by false e f = global (λ o. is_some (counter_meant o)) refl (keyless (sc.names name) f)

-- ---- what is wrong with what stands at a word

abbrev pub fault_at : Site → Option Fault
fault_at (declared sc m) = declared_fault sc m
fault_at (used sc need m) = if meets sc need m.text then None else stranger_fault sc m
fault_at (applied places n m) = if places == n then None else count_at m
fault_at (one_more what most n word) = limit_at what most n word
fault_at (formula f) = nodes_fault f
fault_at (literal f) = literal_fault f
fault_at (stated k m) = if is_some (k.names m.text) && is_some (k.stated m.text) then twice_at m else None
fault_at (compared sc a b) = sorts_fault sc a b
fault_at (claimed_exists word) = Some (kind_fault (codes "exists") word)
fault_at (rule_variable k m) = if is_none (k.names m.text) then None else kind_at m
fault_at (rule_place k p q s m) = if is_sort (first_place_sort k p q m.text) s then None else kind_at m

-- it is wrong, in one way alone
abbrev pub Decides : Site → Option Fault → Type 0
Decides s None = (f : Fault) → IsWrong s f → ⊥
Decides s (Some f) = IsWrong s f × ((g : Fault) → IsWrong s g → f ≡ g)

true_false : (b : Bool) → b ≡ true → b ≡ false → ⊥
true_false b h k = let e : true ≡ false = sym h ∙ k in absurd cc

declared_decided : (sc : Scope) (m : Mark) → Decides (declared sc m) (declared_fault sc m)
declared_decided sc m = by (in_scope sc m.text) refl
  where
    least : (g : Fault) → IsWrong (declared sc m) g → (twice_fault m.text m.word) ≡ g
    least g (in_scope_already _ _ h) = refl

    none : in_scope sc m.text ≡ false → (g : Fault) → IsWrong (declared sc m) g → ⊥
    none e g (in_scope_already _ _ h) = true_false _ h e

    by : (b : Bool) → in_scope sc m.text ≡ b → Decides (declared sc m) (if b then twice_at m else None)
    by true e = (in_scope_already sc m e, least)
    by false e = none e

used_decided : (sc : Scope) (need : Need) (m : Mark) → Decides (used sc need m) (if meets sc need m.text then None else stranger_fault sc m)
used_decided sc need m = by (meets sc need m.text) (in_scope sc m.text) refl refl
  where
    unknown_least : in_scope sc m.text ≡ false → (g : Fault) → IsWrong (used sc need m) g → (unknown_fault m.text m.word) ≡ g
    unknown_least e g (not_in_scope _ _ _ h) = refl
    unknown_least e g (not_as_needed _ _ _ h i) = absurd (true_false _ h e)

    kind_least : in_scope sc m.text ≡ true → (g : Fault) → IsWrong (used sc need m) g → (kind_fault m.text m.word) ≡ g
    kind_least e g (not_in_scope _ _ _ h) = absurd (true_false _ e h)
    kind_least e g (not_as_needed _ _ _ h i) = refl

    none : meets sc need m.text ≡ true → (g : Fault) → IsWrong (used sc need m) g → ⊥
    none e g (not_in_scope _ _ _ h) = true_false _ (met_in_scope sc m.text need e) h
    none e g (not_as_needed _ _ _ h i) = true_false _ e i

    by : (a b : Bool) → meets sc need m.text ≡ a → in_scope sc m.text ≡ b → Decides (used sc need m) (if a then None else (if b then kind_at m else unknown_at m))
    by true b e f = none e
    by false true e f = (not_as_needed sc need m f e, kind_least f)
    by false false e f = (not_in_scope sc need m f, unknown_least f)

applied_decided : (places n : ℕ) (m : Mark) → Decides (applied places n m) (if places == n then None else count_at m)
applied_decided places n m = by (places == n) refl
  where
    least : (g : Fault) → IsWrong (applied places n m) g → (count_fault m.text m.word) ≡ g
    least g (wrong_number _ _ _ h) = refl

    none : (places == n) ≡ true → (g : Fault) → IsWrong (applied places n m) g → ⊥
    none e g (wrong_number _ _ _ h) = true_false _ e h

    by : (b : Bool) → (places == n) ≡ b → Decides (applied places n m) (if b then None else count_at m)
    by true e = none e
    by false e = (wrong_number places n m e, least)

pub test_is : (a n : ℕ) → nat_lt a n ≡ true → a < n
test_is a n h = grind (arith, nat_tests)

test_not : (a n : ℕ) → nat_lt a n ≡ false → n ≤ a
test_not a n h = grind (arith, nat_tests)

test_le_is : (a n : ℕ) → nat_le a n ≡ true → a ≤ n
test_le_is a n h = grind (arith, nat_tests)

test_le_not : (a n : ℕ) → nat_le a n ≡ false → n < a
test_le_not a n h = grind (arith, nat_tests)

limit_decided : (what : Which) (most n word : ℕ) → Decides (one_more what most n word) (limit_at what most n word)
limit_decided what most n word = by (nat_lt n most) refl
  where
    least : (g : Fault) → IsWrong (one_more what most n word) g → (limit_fault what (most + 1) word) ≡ g
    least g (one_too_many _ _ _ _ h) = refl

    none : n < most → (g : Fault) → IsWrong (one_more what most n word) g → ⊥
    none lt g (one_too_many _ _ _ _ h) = omega arith

    by : (b : Bool) → nat_lt n most ≡ b → Decides (one_more what most n word) (if b then None else Some (limit_fault what (most + 1) word))
    by true e = none (test_is n most e)
    by false e = (one_too_many what most n word (test_not n most e), least)

min_left : (a b : ℕ) → a ≤ b → min a b ≡ a
min_left a b h = grind (arith, nat_tests)

formula_decided : (f : Form) → node_count f ≤ 4294967296 → Decides (formula f) (nodes_fault f)
formula_decided f few = by (nat_le (node_count f) most_nodes) refl
  where
    least : (g : Fault) → IsWrong (formula f) g → (limit_fault which.Nodes (min (node_count f) 4294967296) (first_word f)) ≡ g
    least g (too_many_nodes _ h) = ap (λ n. limit_fault which.Nodes n (first_word f)) (min_left (node_count f) 4294967296 few)

    none : node_count f ≤ most_nodes → (g : Fault) → IsWrong (formula f) g → ⊥
    none le g (too_many_nodes _ h) = omega arith

    by : (b : Bool) → nat_le (node_count f) most_nodes ≡ b → Decides (formula f) (if b then None else Some (limit_fault which.Nodes (min (node_count f) 4294967296) (first_word f)))
    by true e = none (test_le_is (node_count f) most_nodes e)
    by false e = (subst (λ n. IsWrong (formula f) (limit_fault which.Nodes n (first_word f))) (sym (min_left (node_count f) 4294967296 few)) (too_many_nodes f (test_le_not (node_count f) most_nodes e)), least)

literal_decided : (f : Figure) → Decides (literal f) (literal_fault f)
literal_decided f = by (nat_le f.value greatest_literal) refl
  where
    least : (g : Fault) → IsWrong (literal f) g → (limit_fault which.Literal f.value f.word) ≡ g
    least g (too_large _ h) = refl

    none : f.value ≤ greatest_literal → (g : Fault) → IsWrong (literal f) g → ⊥
    none le g (too_large _ h) = omega arith

    by : (b : Bool) → nat_le f.value greatest_literal ≡ b → Decides (literal f) (if b then None else Some (limit_fault which.Literal f.value f.word))
    by true e = none (test_le_is f.value greatest_literal e)
    by false e = (too_large f (test_le_not f.value greatest_literal e), least)

stated_decided : (k : Known) (m : Mark) → Decides (stated k m) (if is_some (k.names m.text) && is_some (k.stated m.text) then twice_at m else None)
stated_decided k m = by (is_some (k.names m.text)) (is_some (k.stated m.text)) refl refl
  where
    least : (g : Fault) → IsWrong (stated k m) g → (twice_fault m.text m.word) ≡ g
    least g (stated_already _ _ h i) = refl

    unnamed : is_some (k.names m.text) ≡ false → (g : Fault) → IsWrong (stated k m) g → ⊥
    unnamed e g (stated_already _ _ h i) = true_false _ h e

    unstated : is_some (k.stated m.text) ≡ false → (g : Fault) → IsWrong (stated k m) g → ⊥
    unstated e g (stated_already _ _ h i) = true_false _ i e

    by : (a b : Bool) → is_some (k.names m.text) ≡ a → is_some (k.stated m.text) ≡ b → Decides (stated k m) (if a && b then twice_at m else None)
    by true true e f = (stated_already k m e f, least)
    by true false e f = unstated f
    by false b e f = unnamed e

compared_decided : (sc : Scope) (a b : Mark) → Decides (compared sc a b) (sorts_fault sc a b)
compared_decided sc a b = by (same_sort (sort_named sc a.text) (sort_named sc b.text)) refl
  where
    least : (g : Fault) → IsWrong (compared sc a b) g → (kind_fault b.text b.word) ≡ g
    least g (of_two_sorts _ _ _ h) = refl

    none : same_sort (sort_named sc a.text) (sort_named sc b.text) ≡ true → (g : Fault) → IsWrong (compared sc a b) g → ⊥
    none e g (of_two_sorts _ _ _ h) = true_false _ e h

    by : (x : Bool) → same_sort (sort_named sc a.text) (sort_named sc b.text) ≡ x → Decides (compared sc a b) (if x then None else kind_at b)
    by true e = none e
    by false e = (of_two_sorts sc a b e, least)

exists_decided : (word : ℕ) → Decides (claimed_exists word) (Some (kind_fault (codes "exists") word))
exists_decided word = (not_for_all word, least)
  where
    least : (g : Fault) → IsWrong (claimed_exists word) g → (kind_fault (codes "exists") word) ≡ g
    least g (not_for_all _) = refl

variable_decided : (k : Known) (m : Mark) → Decides (rule_variable k m) (if is_none (k.names m.text) then None else kind_at m)
variable_decided k m = by (k.names m.text) refl
  where
    least : (g : Fault) → IsWrong (rule_variable k m) g → (kind_fault m.text m.word) ≡ g
    least g (global_in_rule _ _ h) = refl

    none : is_some (k.names m.text) ≡ false → (g : Fault) → IsWrong (rule_variable k m) g → ⊥
    none e g (global_in_rule _ _ h) = true_false _ h e

    by : (o : Option Meaning) → k.names m.text ≡ o → Decides (rule_variable k m) (if is_none o then None else kind_at m)
    by None e = none (ap (λ (p : Option Meaning). is_some p) e)
    by (Some x) e = (global_in_rule k m (ap (λ (p : Option Meaning). is_some p) e), least)

place_decided : (k : Known) (p q : Reading) (s : ℕ) (m : Mark) → Decides (rule_place k p q s m) (if is_sort (first_place_sort k p q m.text) s then None else kind_at m)
place_decided k p q s m = by (is_sort (first_place_sort k p q m.text) s) refl
  where
    least : (g : Fault) → IsWrong (rule_place k p q s m) g → (kind_fault m.text m.word) ≡ g
    least g (at_two_sorts _ _ _ _ _ h) = refl

    none : is_sort (first_place_sort k p q m.text) s ≡ true → (g : Fault) → IsWrong (rule_place k p q s m) g → ⊥
    none e g (at_two_sorts _ _ _ _ _ h) = true_false _ e h

    by : (b : Bool) → is_sort (first_place_sort k p q m.text) s ≡ b → Decides (rule_place k p q s m) (if b then None else kind_at m)
    by true e = none e
    by false e = (at_two_sorts k p q s m e, least)

pub decided : (s : Site) → weight s ≤ 4294967296 → Decides s (fault_at s)
decided (declared sc m) few = declared_decided sc m
decided (used sc need m) few = used_decided sc need m
decided (applied places n m) few = applied_decided places n m
decided (one_more what most n word) few = limit_decided what most n word
decided (formula f) few = formula_decided f few
decided (literal f) few = literal_decided f
decided (stated k m) few = stated_decided k m
decided (compared sc a b) few = compared_decided sc a b
decided (claimed_exists word) few = exists_decided word
decided (rule_variable k m) few = variable_decided k m
decided (rule_place k p q s m) few = place_decided k p q s m
