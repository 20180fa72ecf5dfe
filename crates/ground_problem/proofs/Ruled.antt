-- Two interpretations that agree on equalities within a sort agree on the formulas of two calls without conflict.
use Rattle.std.proofs.Common.{◌≡◌, ℕ, ◌==◌, Bool, true, false, not, cond, ◌&&◌, ◌||◌, List, [], ◌∷◌, ◌++◌, length, flat_map, refl, sym, ◌∙◌, ap, subst, arith}
use Rattle.std.specs.List.{list_all, list_any, zip}
use Rattle.std.proofs.lemmas.List.Folds.{list_all-append}
use Rattle.std.proofs.lemmas.Bool.{eqb-true, and_parts}
use Rattle.spec_core.specs.declared.formula.Elem.{Elem}
use Rattle.spec_core.specs.declared.operation.Param.{Param as Parameter}
use Rattle.spec_core.specs.declared.operation.Take.{Take}
use Rattle.spec_core.specs.declared.spec.Rule.{Rule}
use Rattle.spec_core.specs.Specification.{Specification, token_places}
use Rattle.spec_core.specs.Typed.{sort_of, is_sort, is_take, is_pattern, agree_on, sorts_of_vars, is_rule}
use Rattle.spec_core.proofs.Lists.{list_all-mono}
use Rattle.ground_problem.specs.Symbols.{Symbolic, negated, Interpretation, is_true, all_true, all_parts, same_const}
use Rattle.ground_problem.specs.Formulas.{Caller, const_of, consts_of}
use Rattle.ground_problem.specs.Entry.{same_later, one_element_each, are_ruled, unmatched, rule_unmatched}
use Rattle.ground_problem.proofs.Means.{eq_swap}
use Rattle.ground_problem.proofs.Updated.{parts_mean}
use Rattle.ground_problem.proofs.Worlds.{HasSort}
use Rattle.ground_problem.proofs.Rows.{HaveSorts}
use Rattle.ground_problem.proofs.Deciding.{Pairs}
use Rattle.ground_problem.proofs.Places.{elems_sorted}

have_append : (sorts a b t u : List ℕ) → HaveSorts sorts a t → HaveSorts sorts b u → HaveSorts sorts (a ++ b) (t ++ u)
have_append sorts [] b [] u h k = k
have_append sorts [] b (x ∷ t) u h k = absurd h
have_append sorts (s ∷ a) b [] u h k = absurd h
have_append sorts (s ∷ a) b (x ∷ t) u h k = (h.0, have_append sorts a b t u h.1 k)

zip_append : (a b c e : List ℕ) → length a ≡ length b → zip (a ++ c) (b ++ e) ≡ zip a b ++ zip c e
zip_append [] [] c e l = refl
zip_append [] (y ∷ b) c e l = absurd (omega arith)
zip_append (x ∷ a) [] c e l = absurd (omega arith)
zip_append (x ∷ a) (y ∷ b) c e l = ap (λ (r : List (ℕ × ℕ)). (x, y) ∷ r) (zip_append a b c e (omega arith))

-- where what one list gives agrees, so does what all give
flat_agrees : {X : Type 0} (m o : Interpretation) (g : X → List Symbolic) (p : X → Bool) (xs : List X) → list_all p xs ≡ true → ((x : X) → p x ≡ true → all_true m (g x) ≡ all_true o (g x)) → all_true m (flat_map g xs) ≡ all_true o (flat_map g xs)
flat_agrees m o g p [] h f = refl
flat_agrees m o g p (x ∷ xs) h f =
    let h2 = and_parts (p x) (list_all p xs) h in
    let a = f x h2.0 in
    let b = flat_agrees m o g p xs h2.1 f in
    list_all-append (is_true m) (g x) (flat_map g xs) ∙ (λ i. a i && b i) ∙ sym (list_all-append (is_true o) (g x) (flat_map g xs))

-- the caller of a call, and that what it names has the sorts that it is typed with
pub record Speaker (d : Specification) (sorts : List ℕ) : Type 0 where
  pub caller : Caller
  pub params : List Parameter
  pub sorted : (s : ℕ) (e : Elem) → is_sort (sort_of d params [] e) s ≡ true → HasSort sorts s (const_of caller [] e)

module _ (d : Specification) (sorts : List ℕ) (m o : Interpretation) (pair : Pairs sorts m o) where
  later_agrees : (v s a : ℕ) (vs ss cs : List ℕ) → HasSort sorts s a → HaveSorts sorts ss cs → list_all (λ (y : ℕ × ℕ). not (v == y.0) || (s == y.1)) (zip vs ss) ≡ true → all_true m (same_later v a vs cs) ≡ all_true o (same_later v a vs cs)
  later_agrees v s a [] ss cs ha so h = refl
  later_agrees v s a (u ∷ us) [] [] ha so h = refl
  later_agrees v s a (u ∷ us) [] (c ∷ cs) ha so h = absurd so
  later_agrees v s a (u ∷ us) (x ∷ ss) [] ha so h = refl
  later_agrees v s a (u ∷ us) (x ∷ ss) (c ∷ cs) ha so h =
      let h2 = and_parts (not (v == u) || (s == x)) (list_all (λ (y : ℕ × ℕ). not (v == y.0) || (s == y.1)) (zip us ss)) h in
      by_test (u == v) refl h2.0 (later_agrees v s a us ss cs ha so.1 h2.1)
    where
      given : (a b : Bool) → a ≡ true → (not a || b) ≡ true → b ≡ true
      given a b p q = grind arith

      by_test : (b : Bool) → (u == v) ≡ b → (not (v == u) || (s == x)) ≡ true → all_true m (same_later v a us cs) ≡ all_true o (same_later v a us cs)
          → all_true m (cond b (same_const a c ∷ same_later v a us cs) (same_later v a us cs)) ≡ all_true o (cond b (same_const a c ∷ same_later v a us cs) (same_later v a us cs))
      by_test true e k p =
          let same : s ≡ x = eqb-true s x (given (v == u) (s == x) (eq_swap v u ∙ e) k) in
          let q = pair a c s ha (subst (λ (y : ℕ). HasSort sorts y c) (sym same) so.0) in
          λ i. q i && p i
      by_test false e k p = p

  each_agrees : (met vs ss cs : List ℕ) → HaveSorts sorts ss cs → list_all (agree_on (zip vs ss)) (zip vs ss) ≡ true → all_true m (one_element_each met vs cs) ≡ all_true o (one_element_each met vs cs)
  each_agrees met [] ss cs so h = refl
  each_agrees met (v ∷ vs) [] [] so h = refl
  each_agrees met (v ∷ vs) [] (c ∷ cs) so h = absurd so
  each_agrees met (v ∷ vs) (s ∷ ss) [] so h = refl
  each_agrees met (v ∷ vs) (s ∷ ss) (c ∷ cs) so h =
      let more = zip vs ss in
      let h2 = and_parts (agree_on ((v, s) ∷ more) (v, s)) (list_all (agree_on ((v, s) ∷ more)) more) h in
      let rest = list_all-mono (agree_on ((v, s) ∷ more)) (agree_on more) (λ x k. (and_parts (not (x.0 == v) || (x.1 == s)) (agree_on more x) k).1) more h2.1 in
      by_test (list_any (λ u. v == u) met) (later_agrees v s c vs ss cs so.0 so.1 (and_parts (not (v == v) || (s == s)) (agree_on more (v, s)) h2.0).1) (each_agrees met vs ss cs so.1 rest) (each_agrees (v ∷ met) vs ss cs so.1 rest)
    where
      by_test : (b : Bool) → all_true m (same_later v c vs cs) ≡ all_true o (same_later v c vs cs) → all_true m (one_element_each met vs cs) ≡ all_true o (one_element_each met vs cs) → all_true m (one_element_each (v ∷ met) vs cs) ≡ all_true o (one_element_each (v ∷ met) vs cs)
          → all_true m (cond b (one_element_each met vs cs) (same_later v c vs cs ++ one_element_each (v ∷ met) vs cs)) ≡ all_true o (cond b (one_element_each met vs cs) (same_later v c vs cs ++ one_element_each (v ∷ met) vs cs))
      by_test true a p q = p
      by_test false a p q = list_all-append (is_true m) (same_later v c vs cs) (one_element_each (v ∷ met) vs cs) ∙ (λ i. a i && q i) ∙ sym (list_all-append (is_true o) (same_later v c vs cs) (one_element_each (v ∷ met) vs cs))

  take_sorted : (a : Speaker d sorts) (t : Take) → is_take d a.params t ≡ true → (k : ℕ) → (k == t.token) ≡ true → HaveSorts sorts (token_places d k) (consts_of a.caller [] t.args)
  take_sorted a t h k e =
      let typed = (and_parts _ _ (and_parts _ _ h).0).1 in
      subst (λ (y : ℕ). HaveSorts sorts (token_places d y) (consts_of a.caller [] t.args)) (sym (eqb-true k t.token e)) (elems_sorted d sorts [] a.params a.caller [] [] a.sorted (token_places d t.token) t.args typed)

  unmatched_agrees : (a b : Speaker d sorts) (rule : Rule) (t u : Take) → is_rule d rule ≡ true → is_take d a.params t ≡ true → is_take d b.params u ≡ true → all_true m (unmatched rule a.caller t b.caller u) ≡ all_true o (unmatched rule a.caller t b.caller u)
  unmatched_agrees a b rule t u h k l = by_test (are_ruled rule t u) refl
    where
      fs : List Symbolic
      fs = one_element_each [] (rule.left.vars ++ rule.right.vars) (consts_of a.caller [] t.args ++ consts_of b.caller [] u.args)

      by_test : (x : Bool) → are_ruled rule t u ≡ x → all_true m (cond x (negated (all_parts fs) ∷ []) []) ≡ all_true o (cond x (negated (all_parts fs) ∷ []) [])
      by_test true e =
          let e2 = and_parts (not (t.shared && u.shared) && (rule.left.token == t.token)) (rule.right.token == u.token) e in
          let e3 = and_parts (not (t.shared && u.shared)) (rule.left.token == t.token) e2.0 in
          let h2 = and_parts (is_pattern d rule.left && is_pattern d rule.right) (list_all (agree_on (sorts_of_vars d rule)) (sorts_of_vars d rule)) h in
          let left = and_parts _ _ (and_parts (is_pattern d rule.left) (is_pattern d rule.right) h2.0).0 in
          let many = zip_append rule.left.vars (token_places d rule.left.token) rule.right.vars (token_places d rule.right.token) (eqb-true (length rule.left.vars) (length (token_places d rule.left.token)) left.1) in
          let so = have_append sorts (token_places d rule.left.token) (token_places d rule.right.token) (consts_of a.caller [] t.args) (consts_of b.caller [] u.args) (take_sorted a t k rule.left.token e3.1) (take_sorted b u l rule.right.token e2.1) in
          let agreed = each_agrees [] (rule.left.vars ++ rule.right.vars) (token_places d rule.left.token ++ token_places d rule.right.token) (consts_of a.caller [] t.args ++ consts_of b.caller [] u.args) so
          (subst (λ (xs : List (ℕ × ℕ)). list_all (agree_on xs) xs ≡ true) (sym many) h2.1) in
          ap (λ (x : Bool). not x && true) (parts_mean m fs ∙ agreed ∙ sym (parts_mean o fs))
      by_test false e = refl

  pub rules_agree : (a b : Speaker d sorts) (rules : List Rule) (ts us : List Take) → list_all (is_rule d) rules ≡ true → list_all (is_take d a.params) ts ≡ true → list_all (is_take d b.params) us ≡ true
      → all_true m (flat_map (rule_unmatched a.caller ts b.caller us) rules) ≡ all_true o (flat_map (rule_unmatched a.caller ts b.caller us) rules)
  rules_agree a b rules ts us h k l = flat_agrees m o (rule_unmatched a.caller ts b.caller us) (is_rule d) rules h (λ rule p.
      let one = flat_agrees m o (λ t. flat_map (λ u. unmatched rule a.caller t b.caller u) us) (is_take d a.params) ts k (λ t q. flat_agrees m o (λ u. unmatched rule a.caller t b.caller u) (is_take d b.params) us l (λ u x. unmatched_agrees a b rule t u p q x)) in
      let other = flat_agrees m o (λ t. flat_map (λ u. unmatched rule b.caller u a.caller t) us) (is_take d a.params) ts k (λ t q. flat_agrees m o (λ u. unmatched rule b.caller u a.caller t) (is_take d b.params) us l (λ u x. unmatched_agrees b a rule u t p x q)) in
      list_all-append (is_true m) (flat_map (λ t. flat_map (λ u. unmatched rule a.caller t b.caller u) us) ts) (flat_map (λ t. flat_map (λ u. unmatched rule b.caller u a.caller t) us) ts) ∙ (λ i. one i && other i)
      ∙ sym (list_all-append (is_true o) (flat_map (λ t. flat_map (λ u. unmatched rule a.caller t b.caller u) us) ts) (flat_map (λ t. flat_map (λ u. unmatched rule b.caller u a.caller t) us) ts)))
