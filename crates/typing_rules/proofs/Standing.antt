-- What stands in a formula, a sentence or a line is spelled by its words.
use Rattle.std.proofs.Common.{◌≡◌, ℕ, suc, ◌+◌, ◌≤◌, Bool, false, true, if◌then◌else◌, inl, inr, List, [], ◌∷◌, ◌++◌, length, Option, None, Some, refl, ◌∙◌, ap, arith}
use Rattle.std.proofs.lemmas.List.{length-append}
use Rattle.std.specs.Prelude.{option_map}
use Rattle.std.specs.List.{AllByRecursion}
use Rattle.parser_combinators.specs.declared.token.Key.TheVariants as keys
use Rattle.parser_combinators.specs.Words.{Spelt, key, sign, each, listed, group, with_place}
use Rattle.spec_core.specs.declared.operation.Operation.{Operation}
use Rattle.spec_core.specs.Specification.{counter_keys}
use Rattle.spec_trees.specs.declared.tree.Mark.{Mark}
use Rattle.spec_trees.specs.declared.tree.Reading.{Reading}
use Rattle.spec_trees.specs.declared.tree.Product.{Product}
use Rattle.spec_trees.specs.declared.tree.Product.TheVariants as products
use Rattle.spec_trees.specs.declared.tree.Signed.{Signed}
use Rattle.spec_trees.specs.declared.tree.Term.{Term}
use Rattle.spec_trees.specs.declared.tree.Comparison.{Comparison}
use Rattle.spec_trees.specs.declared.tree.Variable.{Variable}
use Rattle.spec_trees.specs.declared.tree.Prefix.{Prefix}
use Rattle.spec_trees.specs.declared.tree.Spot.{Spot}
use Rattle.spec_trees.specs.declared.tree.Spot.TheVariants as spots
use Rattle.spec_trees.specs.Form.{Form, true_form, false_form, not_form, connect_form, has_form, compare_form, Sentence, LineForm, requires_form, insert_form, remove_form, add_form, set_form, takes_form, observes_form}
use Rattle.spec_trees.specs.Spelling.{mark, one, reading, product, summand, sign_key, signed, minus, term, comparison_key, connective_key, form, variable, quantifier_key, prefix, sentence, spot, mode, guard, line}
use Rattle.typing_rules.specs.declared.which.Which.{Which}
use Rattle.typing_rules.specs.Fault.{Fault}
use Rattle.typing_rules.specs.Scope.{Scope, counter_meant}
use Rattle.typing_rules.specs.Terms.{number_named, sort_named}
use Rattle.typing_rules.specs.Formulas.{lone_of_reading, lone_of_more, lone_name, sorted_only, element_by, element_alone, is_equality, side_element, node_count, first_word, with_vars, vars_of}
use Rattle.typing_rules.specs.Lines.{with_line}
use Rattle.typing_rules.specs.Sites.{Need, a_number, a_counter, an_element, an_element_of, a_sort, Site, declared, used, applied, one_more, formula, literal, element_sites, argument_sites, lone_sites, amount_sites_by, amount_sites, product_sites, signed_sites, term_sites, compare_sites, part_sites, formula_sites, variable_sites, sentence_sites, spot_sites, target_sites, guard_sites, line_sites, lines_sites}
use Rattle.typing_rules.specs.FaultRules.{IsWrong, not_in_scope, in_scope_already, not_as_needed, wrong_number, one_too_many, too_many_nodes}
use Rattle.typing_rules.proofs.Order.{all_mono, site_word, Member, Claims, claims_right, IsAmong, Precedes, Spelled, joint, quiet, before, behind, headed, on_top}

-- ---- two faults at one word

pub used_applied : (sc : Scope) (need : Need) (m : Mark) (places n : ℕ) → Precedes (used sc need m) (applied places n m)
used_applied sc need m places n f g (not_in_scope _ _ _ h) (wrong_number _ _ _ i) = inr (inr (refl, omega arith))
used_applied sc need m places n f g (not_as_needed _ _ _ h j) (wrong_number _ _ _ i) = inr (inr (refl, omega arith))

pub used_limit : (sc : Scope) (need : Need) (m : Mark) (what : Which) (most n : ℕ) → Precedes (used sc need m) (one_more what most n m.word)
used_limit sc need m what most n f g (not_in_scope _ _ _ h) (one_too_many _ _ _ _ i) = inr (inr (refl, omega arith))
used_limit sc need m what most n f g (not_as_needed _ _ _ h j) (one_too_many _ _ _ _ i) = inr (inr (refl, omega arith))

pub twice_limit : (sc : Scope) (m : Mark) (what : Which) (most n : ℕ) → Precedes (declared sc m) (one_more what most n m.word)
twice_limit sc m what most n f g (in_scope_already _ _ h) (one_too_many _ _ _ _ i) = inr (inr (refl, omega arith))

pub one_use : (sc : Scope) (need : Need) (m : Mark) → Spelled (used sc need m ∷ []) (one m)
one_use sc need m = headed (used sc need m) [] (mark m) [] (inl refl) (omega arith) (quiet [])

pub use_applied : (sc : Scope) (need : Need) (m : Mark) (places n : ℕ) → Spelled (used sc need m ∷ applied places n m ∷ []) (one m)
use_applied sc need m places n =
    on_top (used sc need m) (applied places n m ∷ []) (one m) (inl (inl refl), omega arith) (used_applied sc need m places n, tt)
    (headed (applied places n m) [] (mark m) [] (inl refl) (omega arith) (quiet []))

pub use_limit : (sc : Scope) (need : Need) (m : Mark) (what : Which) (most n : ℕ) → Spelled (used sc need m ∷ one_more what most n m.word ∷ []) (one m)
use_limit sc need m what most n =
    on_top (used sc need m) (one_more what most n m.word ∷ []) (one m) (inl (inl refl), omega arith) (used_limit sc need m what most n, tt)
    (headed (one_more what most n m.word) [] (mark m) [] (inl refl) (omega arith) (quiet []))

pub twice_limited : (sc : Scope) (m : Mark) (what : Which) (most n : ℕ) → Spelled (declared sc m ∷ one_more what most n m.word ∷ []) (one m)
twice_limited sc m what most n =
    on_top (declared sc m) (one_more what most n m.word ∷ []) (one m) (inl (inl refl), omega arith) (twice_limit sc m what most n, tt)
    (headed (one_more what most n m.word) [] (mark m) [] (inl refl) (omega arith) (quiet []))

-- ---- lists with commas

comma : {X : Type 0} → (X → List Spelt) → X → List Spelt
comma f x = sign keys.Comma ∷ f x

pub one_listed : {X : Type 0} (f : X → List Spelt) (x : X) (xs : List X) (ss ts : List Site) → Spelled ss (f x) → Spelled ts (each (λ y. sign keys.Comma ∷ f y) xs) → Spelled (ss ++ ts) (each (λ y. sign keys.Comma ∷ f y) (x ∷ xs))
one_listed f x xs ss ts a b = joint ss ts (sign keys.Comma ∷ f x) (each (λ y. sign keys.Comma ∷ f y) xs) (before ss (sign keys.Comma ∷ []) (f x) a) b

pub in_group : {X : Type 0} (f : X → List Spelt) (x : X) (xs : List X) (ss ts : List Site) → Spelled ss (f x) → Spelled ts (each (λ y. sign keys.Comma ∷ f y) xs) → Spelled (ss ++ ts) (group f (x ∷ xs))
in_group f x xs ss ts a b =
    before (ss ++ ts) (sign keys.Open ∷ []) (listed f (x ∷ xs) ++ sign keys.Close ∷ [])
    (behind (ss ++ ts) (listed f (x ∷ xs)) (sign keys.Close ∷ []) (joint ss ts (f x) (each (λ y. sign keys.Comma ∷ f y) xs) a b))

-- ---- elements, amounts and terms

module _ (sc : Scope) where
  elements_more : (ss : List ℕ) (ms : List Mark) → Spelled (element_sites sc ss ms) (each (λ y. sign keys.Comma ∷ one y) ms)
  elements_more ss [] = quiet []
  elements_more [] (m ∷ ms) = one_listed one m ms (used sc an_element m ∷ []) (element_sites sc [] ms) (one_use sc an_element m) (elements_more [] ms)
  elements_more (s ∷ ss) (m ∷ ms) = one_listed one m ms (used sc (an_element_of s) m ∷ []) (element_sites sc ss ms) (one_use sc (an_element_of s) m) (elements_more ss ms)

  elements_spelled : (ss : List ℕ) (ms : List Mark) → Spelled (element_sites sc ss ms) (group one ms)
  elements_spelled ss [] = quiet []
  elements_spelled [] (m ∷ ms) = in_group one m ms (used sc an_element m ∷ []) (element_sites sc [] ms) (one_use sc an_element m) (elements_more [] ms)
  elements_spelled (s ∷ ss) (m ∷ ms) = in_group one m ms (used sc (an_element_of s) m ∷ []) (element_sites sc ss ms) (one_use sc (an_element_of s) m) (elements_more ss ms)

  pub reading_spelled : (need : Need) (r : Reading) (o : Option (List ℕ)) → Spelled (used sc need r.name ∷ argument_sites sc r o) (reading r)
  reading_spelled need r None = joint (used sc need r.name ∷ []) (element_sites sc [] r.args) (one r.name) (group one r.args) (one_use sc need r.name) (elements_spelled [] r.args)
  reading_spelled need r (Some places) =
      joint (used sc need r.name ∷ applied (length places) (length r.args) r.name ∷ []) (element_sites sc places r.args) (one r.name) (group one r.args)
      (use_applied sc need r.name (length places) (length r.args)) (elements_spelled places r.args)

  lone_spelled : (r : Reading) (number counter : Option ℕ) → Spelled (lone_sites sc r.name number counter) (reading r)
  lone_spelled r (Some n) counter = behind (used sc a_number r.name ∷ []) (one r.name) (group one r.args) (one_use sc a_number r.name)
  lone_spelled r None None = behind (used sc a_number r.name ∷ []) (one r.name) (group one r.args) (one_use sc a_number r.name)
  lone_spelled r None (Some k) =
      behind (used sc a_number r.name ∷ applied (length (counter_keys sc.design k)) 0 r.name ∷ []) (one r.name) (group one r.args) (use_applied sc a_number r.name (length (counter_keys sc.design k)) 0)

  amount_spelled_by : (r : Reading) (ms : List Mark) → Spelled (amount_sites_by sc r ms) (reading r)
  amount_spelled_by r [] = lone_spelled r (number_named sc r.name.text) (counter_meant (sc.names r.name.text))
  amount_spelled_by r (m ∷ ms) = reading_spelled a_counter r (option_map (counter_keys sc.design) (counter_meant (sc.names r.name.text)))

  pub product_spelled : (p : Product) → Spelled (product_sites sc p) (product p)
  product_spelled (products.Number f) = headed (literal f) [] _ [] (inl refl) (omega arith) (quiet [])
  product_spelled (products.Times f r) = headed (literal f) (amount_sites sc r) _ (sign keys.Star ∷ reading r) (inl refl) (omega arith) (before (amount_sites sc r) (sign keys.Star ∷ []) (reading r) (amount_spelled_by r r.args))
  product_spelled (products.Reading r) = amount_spelled_by r r.args

  signed_spelled : (n : ℕ) (ss : List Signed) → Spelled (signed_sites sc n ss) (each signed ss)
  signed_spelled n [] = quiet []
  signed_spelled n (s ∷ ss) =
      headed (one_more _ _ n s.summand.word) (product_sites sc s.summand.product ++ signed_sites sc (n + 1) ss) (key (sign_key s.sign) s.summand.word) (product s.summand.product ++ each signed ss) (inl refl) (omega arith)
      (joint (product_sites sc s.summand.product) (signed_sites sc (n + 1) ss) (product s.summand.product) (each signed ss) (product_spelled s.summand.product) (signed_spelled (n + 1) ss))

  -- a summand has one more number for its first word
  with_more : (ss : List Site) (w : ℕ) (xs : List Spelt) → Spelled ss xs → Spelled ss (with_place w xs)
  with_more ss w [] a = a
  with_more ss w (x ∷ xs) a = record {
    among = all_mono (IsAmong (x ∷ xs)) (IsAmong (with_place w (x ∷ xs))) (λ s h. (claim (site_word s) h.0, h.1)) ss a.among;
    rising = λ n h. a.rising n (h.0.1, h.1);
  }
    where
      claim : (v : ℕ) → Claims (x ∷ xs) v → Claims (with_place w (x ∷ xs)) v
      claim v (inl m) = inl (inr m)
      claim v (inr c) = inr c

  pub term_spelled : (t : Term) → Spelled (term_sites sc t) (term t)
  term_spelled t =
      before (term_sites sc t) (minus t.minus) (summand t.first ++ each signed t.more)
      (joint (product_sites sc t.first.product) (signed_sites sc 1 t.more) (summand t.first) (each signed t.more)
      (with_more (product_sites sc t.first.product) t.first.word (product t.first.product) (product_spelled t.first.product)) (signed_spelled 1 t.more))

-- ---- comparisons

some_word : (m n : Mark) → Some m ≡ Some n → m.word ≡ n.word
some_word m n e = ap word_in e
  where
    word_in : Option Mark → ℕ
    word_in None = 0
    word_in (Some o) = o.word

-- a term that is one name alone is spelled by the name
lone_claims : (t : Term) (m : Mark) → lone_name t ≡ Some m → Claims (term t) m.word
lone_claims t m h = by t.minus t.first.product t.more h
  where
    reading_by : (r : Reading) (ms : List Mark) → lone_of_reading r ms ≡ Some m → Claims (with_place t.first.word (reading r) ++ []) m.word
    reading_by r [] e = inl (inr (inl (some_word r.name m e)))
    reading_by r (n ∷ ms) e = absurd cc

    by : (b : Bool) (p : Product) (more : List Signed) → (if b then None else lone_of_more p more) ≡ Some m → Claims (minus b ++ (with_place t.first.word (product p) ++ each signed more)) m.word
    by true p more e = absurd cc
    by false p (s ∷ ss) e = absurd cc
    by false (products.Number f) [] e = absurd cc
    by false (products.Times f r) [] e = absurd cc
    by false (products.Reading r) [] e = reading_by r r.args e

module _ (sc : Scope) where
  element_claims : (t : Term) (m : Mark) → element_alone sc t ≡ Some m → Claims (term t) m.word
  element_claims t m h = by (lone_name t) refl h
    where
      sorted : (o : Option ℕ) (n : Mark) → sorted_only o n ≡ Some m → Some n ≡ Some m
      sorted None n e = absurd cc
      sorted (Some s) n e = e

      by : (o : Option Mark) → lone_name t ≡ o → element_by sc o ≡ Some m → Claims (term t) m.word
      by None e f = absurd cc
      by (Some n) e f = lone_claims t m (e ∙ sorted (sort_named sc n.text) n f)

  side_claims : (c : Comparison) (t : Term) (m : Mark) → side_element sc c t ≡ Some m → Claims (term t) m.word
  side_claims c t m h = by (is_equality c) h
    where
      by : (b : Bool) → (if b then element_alone sc t else None) ≡ Some m → Claims (term t) m.word
      by true e = element_claims t m e
      by false e = absurd cc

  compare_spelled : (s t : Term) (x : Spelt) (a b : Option Mark) → ((m : Mark) → b ≡ Some m → Claims (term t) m.word) → Spelled (compare_sites sc s t a b) (term s ++ (x ∷ term t))
  compare_spelled s t x (Some a) (Some b) h = record {
    among = ((claims_right (term s) (x ∷ term t) b.word (inr (h b refl)), (let le : 0 ≤ length (term s ++ (x ∷ term t)) = omega arith in le)), tt);
    rising = λ n k. (tt, tt);
  }
  compare_spelled s t x (Some a) None h = joint (term_sites sc s) (term_sites sc t) (term s) (x ∷ term t) (term_spelled sc s) (before (term_sites sc t) (x ∷ []) (term t) (term_spelled sc t))
  compare_spelled s t x None b h = joint (term_sites sc s) (term_sites sc t) (term s) (x ∷ term t) (term_spelled sc s) (before (term_sites sc t) (x ∷ []) (term t) (term_spelled sc t))

-- ---- formulas

pub nodes_fit : (f : Form) → node_count f ≤ length (form f)
nodes_fit (true_form w) = omega arith
nodes_fit (false_form w) = omega arith
nodes_fit (not_form w f) = let a = nodes_fit f in omega arith
nodes_fit (connect_form w f c g) =
    let a = nodes_fit f in
    let b = nodes_fit g in
    let d = length-append (form f) (sign (connective_key c) ∷ form g) in
    let e = length-append (form f ++ (sign (connective_key c) ∷ form g)) (sign keys.Close ∷ []) in
    omega arith
nodes_fit (has_form w r) = omega arith
nodes_fit (compare_form w s c t) = omega arith

all_always : (P : Site → Type 0) → ((s : Site) → P s) → (ss : List Site) → AllByRecursion P ss
all_always P f [] = tt
all_always P f (s ∷ ss) = (f s, all_always P f ss)

module _ (sc : Scope) where
  parts_spelled : (f : Form) → Spelled (part_sites sc f) (form f)
  parts_spelled (true_form w) = quiet _
  parts_spelled (false_form w) = quiet _
  parts_spelled (not_form w f) = before (part_sites sc f) (key keys.Not w ∷ []) (form f) (parts_spelled f)
  parts_spelled (connect_form w f c g) =
      before (part_sites sc f ++ part_sites sc g) (key keys.Open w ∷ []) ((form f ++ (sign (connective_key c) ∷ form g)) ++ sign keys.Close ∷ [])
      (behind (part_sites sc f ++ part_sites sc g) (form f ++ (sign (connective_key c) ∷ form g)) (sign keys.Close ∷ [])
      (joint (part_sites sc f) (part_sites sc g) (form f) (sign (connective_key c) ∷ form g) (parts_spelled f) (before (part_sites sc g) (sign (connective_key c) ∷ []) (form g) (parts_spelled g))))
  parts_spelled (has_form w r) = with_more sc (part_sites sc (has_form w r)) w (reading r) (reading_spelled sc _ r _)
  parts_spelled (compare_form w s c t) =
      before (part_sites sc (compare_form w s c t)) (key keys.Open w ∷ []) ((term s ++ (sign (comparison_key c) ∷ term t)) ++ sign keys.Close ∷ [])
      (behind (part_sites sc (compare_form w s c t)) (term s ++ (sign (comparison_key c) ∷ term t)) (sign keys.Close ∷ [])
      (compare_spelled sc s t (sign (comparison_key c)) (side_element sc c s) (side_element sc c t) (λ m e. side_claims sc c t m e)))

  -- a formula whose first word is a word of its own
  parts_behind : (f : Form) (x : Spelt) (xs : List Spelt) → Member x.claims (first_word f) → node_count f ≤ suc (length xs) → Spelled (part_sites sc f) xs → Spelled (formula_sites sc f) (x ∷ xs)
  parts_behind f x xs m le a = headed (formula f) (part_sites sc f) x xs m le a

  pub formula_spelled : (f : Form) → Spelled (formula_sites sc f) (form f)
  formula_spelled (true_form w) = parts_behind (true_form w) _ [] (inl refl) (omega arith) (quiet [])
  formula_spelled (false_form w) = parts_behind (false_form w) _ [] (inl refl) (omega arith) (quiet [])
  formula_spelled (not_form w f) = parts_behind (not_form w f) (key keys.Not w) (form f) (inl refl) (nodes_fit (not_form w f)) (parts_spelled f)
  formula_spelled (connect_form w f c g) =
      parts_behind (connect_form w f c g) (key keys.Open w) ((form f ++ (sign (connective_key c) ∷ form g)) ++ sign keys.Close ∷ []) (inl refl) (nodes_fit (connect_form w f c g))
      (behind (part_sites sc f ++ part_sites sc g) (form f ++ (sign (connective_key c) ∷ form g)) (sign keys.Close ∷ [])
      (joint (part_sites sc f) (part_sites sc g) (form f) (sign (connective_key c) ∷ form g) (parts_spelled f) (before (part_sites sc g) (sign (connective_key c) ∷ []) (form g) (parts_spelled g))))
  formula_spelled (has_form w r) =
      on_top (formula (has_form w r)) (part_sites sc (has_form w r)) (form (has_form w r)) (inl (inl refl), (let le : 1 ≤ length (form (has_form w r)) = omega arith in le))
      (all_always (Precedes (formula (has_form w r))) (λ s f g h k. absurd (one_node f h)) (part_sites sc (has_form w r))) (parts_spelled (has_form w r))
    where
      one_node : (f : Fault) → IsWrong (formula (has_form w r)) f → ⊥
      one_node f (too_many_nodes _ h) = omega arith
  formula_spelled (compare_form w s c t) =
      parts_behind (compare_form w s c t) (key keys.Open w) ((term s ++ (sign (comparison_key c) ∷ term t)) ++ sign keys.Close ∷ []) (inl refl) (nodes_fit (compare_form w s c t))
      (behind (part_sites sc (compare_form w s c t)) (term s ++ (sign (comparison_key c) ∷ term t)) (sign keys.Close ∷ [])
      (compare_spelled sc s t (sign (comparison_key c)) (side_element sc c s) (side_element sc c t) (λ m e. side_claims sc c t m e)))

  -- ---- variables

  one_variable : (vs : List Variable) (v : Variable) → Spelled (variable_sites sc vs (v ∷ [])) (variable v)
  one_variable vs v =
      joint (declared (with_vars sc vs) v.name ∷ one_more _ _ (length vs) v.name.word ∷ []) (used (with_vars sc (vs ++ v ∷ [])) a_sort v.sort ∷ []) (one v.name) (sign keys.Colon ∷ one v.sort)
      (twice_limited (with_vars sc vs) v.name _ _ (length vs)) (before (used (with_vars sc (vs ++ v ∷ [])) a_sort v.sort ∷ []) (sign keys.Colon ∷ []) (one v.sort) (one_use (with_vars sc (vs ++ v ∷ [])) a_sort v.sort))

  variables_more : (vs us : List Variable) → Spelled (variable_sites sc vs us) (each (λ y. sign keys.Comma ∷ variable y) us)
  variables_more vs [] = quiet []
  variables_more vs (v ∷ us) = one_listed variable v us (variable_sites sc vs (v ∷ [])) (variable_sites sc (vs ++ v ∷ []) us) (one_variable vs v) (variables_more (vs ++ v ∷ []) us)

  pub variables_spelled : (us : List Variable) → Spelled (variable_sites sc [] us) (listed variable us)
  variables_spelled [] = quiet []
  variables_spelled (v ∷ us) = joint (variable_sites sc [] (v ∷ [])) (variable_sites sc (v ∷ []) us) (variable v) (each (λ y. sign keys.Comma ∷ variable y) us) (one_variable [] v) (variables_more (v ∷ []) us)

  pub vars_spelled : (p : Option Prefix) → Spelled (variable_sites sc [] (vars_of p)) (prefix p)
  vars_spelled None = quiet []
  vars_spelled (Some p) =
      before (variable_sites sc [] p.vars) (key (quantifier_key p.quantifier) p.word ∷ []) (listed variable p.vars ++ sign keys.Dot ∷ [])
      (behind (variable_sites sc [] p.vars) (listed variable p.vars) (sign keys.Dot ∷ []) (variables_spelled p.vars))

pub sentence_spelled : (sc : Scope) (s : Sentence) → Spelled (sentence_sites sc s) (sentence s)
sentence_spelled sc s = joint (variable_sites sc [] (vars_of s.prefix)) (formula_sites (with_vars sc (vars_of s.prefix)) s.body) (prefix s.prefix) (form s.body) (vars_spelled sc s.prefix) (formula_spelled (with_vars sc (vars_of s.prefix)) s.body)

-- ---- lines

module _ (sc : Scope) where
  spots_more : (ss : List ℕ) (xs : List Spot) → Spelled (spot_sites sc ss xs) (each (λ y. sign keys.Comma ∷ spot y) xs)
  spots_more ss [] = quiet []
  spots_more [] (spots.Every ∷ xs) = one_listed spot spots.Every xs [] (spot_sites sc [] xs) (quiet _) (spots_more [] xs)
  spots_more (s ∷ ss) (spots.Every ∷ xs) = one_listed spot spots.Every xs [] (spot_sites sc ss xs) (quiet _) (spots_more ss xs)
  spots_more [] (spots.One m ∷ xs) = one_listed spot (spots.One m) xs (used sc an_element m ∷ []) (spot_sites sc [] xs) (one_use sc an_element m) (spots_more [] xs)
  spots_more (s ∷ ss) (spots.One m ∷ xs) = one_listed spot (spots.One m) xs (used sc (an_element_of s) m ∷ []) (spot_sites sc ss xs) (one_use sc (an_element_of s) m) (spots_more ss xs)

  spots_spelled : (ss : List ℕ) (xs : List Spot) → Spelled (spot_sites sc ss xs) (group spot xs)
  spots_spelled ss [] = quiet []
  spots_spelled [] (spots.Every ∷ xs) = in_group spot spots.Every xs [] (spot_sites sc [] xs) (quiet _) (spots_more [] xs)
  spots_spelled (s ∷ ss) (spots.Every ∷ xs) = in_group spot spots.Every xs [] (spot_sites sc ss xs) (quiet _) (spots_more ss xs)
  spots_spelled [] (spots.One m ∷ xs) = in_group spot (spots.One m) xs (used sc an_element m ∷ []) (spot_sites sc [] xs) (one_use sc an_element m) (spots_more [] xs)
  spots_spelled (s ∷ ss) (spots.One m ∷ xs) = in_group spot (spots.One m) xs (used sc (an_element_of s) m ∷ []) (spot_sites sc ss xs) (one_use sc (an_element_of s) m) (spots_more ss xs)

  target_spelled : (need : Need) (m : Mark) (xs : List Spot) (o : Option (List ℕ)) → Spelled (target_sites sc need m xs o) (mark m ∷ group spot xs)
  target_spelled need m xs None = joint (used sc need m ∷ []) (spot_sites sc [] xs) (one m) (group spot xs) (one_use sc need m) (spots_spelled [] xs)
  target_spelled need m xs (Some places) =
      joint (used sc need m ∷ applied (length places) (length xs) m ∷ []) (spot_sites sc places xs) (one m) (group spot xs) (use_applied sc need m (length places) (length xs)) (spots_spelled places xs)

  guard_spelled : (g : Option Form) → Spelled (guard_sites sc g) (guard g)
  guard_spelled None = quiet []
  guard_spelled (Some f) = before (formula_sites sc f) (sign keys.When ∷ []) (form f) (formula_spelled sc f)

  -- what stands behind a first word
  pub led : (what : Which) (most n w : ℕ) (ss : List Site) (x : Spelt) (xs : List Spelt) → Member x.claims w → Spelled ss xs → Spelled (one_more what most n w ∷ ss) (x ∷ xs)
  led what most n w ss x xs m a = headed (one_more what most n w) ss x xs m (let le : 0 ≤ suc (length xs) = omega arith in le) a

  changed : (need : Need) (m : Mark) (xs : List Spot) (o : Option (List ℕ)) (g : Option Form) → Spelled (target_sites sc need m xs o ++ guard_sites sc g) (mark m ∷ (group spot xs ++ guard g))
  changed need m xs o g = joint (target_sites sc need m xs o) (guard_sites sc g) (mark m ∷ group spot xs) (guard g) (target_spelled need m xs o) (guard_spelled g)

  counted : (need : Need) (m : Mark) (xs : List Spot) (o : Option (List ℕ)) (t : Term) (g : Option Form) → Spelled (target_sites sc need m xs o ++ (term_sites sc t ++ guard_sites sc g)) (mark m ∷ (group spot xs ++ (term t ++ guard g)))
  counted need m xs o t g =
      joint (target_sites sc need m xs o) (term_sites sc t ++ guard_sites sc g) (mark m ∷ group spot xs) (term t ++ guard g) (target_spelled need m xs o)
      (joint (term_sites sc t) (guard_sites sc g) (term t) (guard g) (term_spelled sc t) (guard_spelled g))

  line_spelled : (o : Operation) (l : LineForm) → Spelled (line_sites sc o l) (line l)
  line_spelled o (requires_form w s) = led _ _ _ w (sentence_sites sc s) (key keys.Requires w) (sentence s) (inl refl) (sentence_spelled sc s)
  line_spelled o (insert_form w m xs g) = led _ _ _ w _ (key keys.Insert w) (mark m ∷ (group spot xs ++ guard g)) (inl refl) (changed _ m xs _ g)
  line_spelled o (remove_form w m xs g) = led _ _ _ w _ (key keys.Remove w) (mark m ∷ (group spot xs ++ guard g)) (inl refl) (changed _ m xs _ g)
  line_spelled o (add_form w m xs t g) = led _ _ _ w _ (key keys.Add w) (mark m ∷ (group spot xs ++ (term t ++ guard g))) (inl refl) (counted _ m xs _ t g)
  line_spelled o (set_form w m xs t g) = led _ _ _ w _ (key keys.Set w) (mark m ∷ (group spot xs ++ (term t ++ guard g))) (inl refl) (counted _ m xs _ t g)
  line_spelled o (takes_form w r m) = led _ _ _ w _ (key keys.Takes w) (reading r ++ mode m) (inl refl) (behind _ (reading r) (mode m) (reading_spelled sc _ r _))
  line_spelled o (observes_form w s) = led _ _ _ w (sentence_sites sc s) _ (sentence s) (inl refl) (sentence_spelled sc s)

  pub lines_spelled : (o : Operation) (ls : List LineForm) → Spelled (lines_sites sc o ls) (each line ls)
  lines_spelled o [] = quiet []
  lines_spelled o (l ∷ ls) = joint (line_sites sc o l) (lines_sites sc (with_line sc o l) ls) (line l) (each line ls) (line_spelled o l) (lines_spelled (with_line sc o l) ls)
