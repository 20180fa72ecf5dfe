-- The formulas of two calls without conflict mean that the calls don't conflict.
use Rattle.std.proofs.Common.{◌≡◌, ℕ, suc, ◌+◌, ◌==◌, ℤ, Bool, true, false, not, cond, ◌&&◌, ◌||◌, List, [], ◌∷◌, ◌++◌, map, length, flat_map, refl, sym, ◌∙◌, ap, ap₂, subst, arith, length-append}
use Rattle.std.specs.List.{list_all, list_any}
use Rattle.std.proofs.lemmas.List.{map-append, length-map}
use Rattle.std.proofs.lemmas.List.Folds.{list_all-append}
use Rattle.std.proofs.lemmas.Bool.{eqb-true, and_parts, and_from}
use Rattle.std.proofs.lemmas.Bool.Decides.{nat_tests}
use Rattle.spec_core.specs.declared.formula.Elem.{Elem}
use Rattle.spec_core.specs.declared.operation.Param.{Param as Parameter}
use Rattle.spec_core.specs.declared.operation.Take.{Take}
use Rattle.spec_core.specs.declared.spec.Rule.{Rule}
use Rattle.spec_core.specs.declared.world.World.{World}
use Rattle.spec_core.specs.Specification.{Specification, token_places}
use Rattle.spec_core.specs.Truth.{elems_of}
use Rattle.spec_core.specs.Typed.{sort_of, is_sort, elems_typed, is_take, is_pattern, is_rule}
use Rattle.token_rules.specs.Assignment.{stands_for, assigned, one_assignment}
use Rattle.token_rules.specs.Conflict.{lines_match}
use Rattle.ground_problem.specs.Symbols.{Symbolic, negated, Interpretation, is_true, all_true, all_parts, same_const}
use Rattle.ground_problem.specs.Formulas.{Caller, consts_of}
use Rattle.ground_problem.specs.Entry.{same_later, one_element_each, are_ruled, unmatched, rule_unmatched}
use Rattle.ground_problem.proofs.Means.{eq_swap, StandsFor, Values, same_means, elems_mean}
use Rattle.ground_problem.proofs.Updated.{parts_mean}

-- ---- what is known of the variables that were met

abbrev Known : List ℕ → (ℕ → ℕ) → List ℕ → List ℕ → Type 0
Known met f [] [] = Unit {0}
Known met f [] (e ∷ es) = ⊥
Known met f (v ∷ vs) [] = ⊥
Known met f (v ∷ vs) (e ∷ es) = (list_any (λ u. v == u) met ≡ true → e ≡ f v) × Known met f vs es

known_none : (f : ℕ → ℕ) (vs es : List ℕ) → length vs ≡ length es → Known [] f vs es
known_none f [] [] h = tt
known_none f [] (e ∷ es) h = absurd (omega arith)
known_none f (v ∷ vs) [] h = absurd (omega arith)
known_none f (v ∷ vs) (e ∷ es) h = (λ k. absurd cc, known_none f vs es (omega arith))

place_stands : (u v e g : ℕ) → ((u == v) ≡ true → e ≡ g) → (not (u == v) || (e == g)) ≡ true
place_stands u v e g h = by_test (u == v) refl
  where
    by_test : (b : Bool) → (u == v) ≡ b → (not b || (e == g)) ≡ true
    by_test true q = (let p = h q in grind (arith, nat_tests))
    by_test false q = refl

stands_known : (met : List ℕ) (f : ℕ → ℕ) (v : ℕ) (vs es : List ℕ) → list_any (λ u. v == u) met ≡ true → Known met f vs es → stands_for v (f v) vs es ≡ true
stands_known met f v [] [] h k = refl
stands_known met f v [] (e ∷ es) h k = absurd k
stands_known met f v (u ∷ us) [] h k = absurd k
stands_known met f v (u ∷ us) (e ∷ es) h k = and_from (not (u == v) || (e == f v)) (stands_for v (f v) us es)
    (place_stands u v e (f v) (λ q. (let p : u ≡ v = eqb-true u v q in k.0 (ap (λ (x : ℕ). list_any (λ y. x == y) met) p ∙ h) ∙ ap f p)))
    (stands_known met f v us es h k.1)

-- what is known once one more variable was met
changed : (ℕ → ℕ) → ℕ → ℕ → ℕ → ℕ
changed f v e u = cond (u == v) e (f u)

known_more : (met : List ℕ) (f : ℕ → ℕ) (v e : ℕ) (vs es : List ℕ) → stands_for v e vs es ≡ true → Known met f vs es → Known (v ∷ met) (changed f v e) vs es
unfolding changed
known_more met f v e [] [] h k = tt
known_more met f v e [] (x ∷ es) h k = absurd k
known_more met f v e (u ∷ us) [] h k = absurd k
known_more met f v e (u ∷ us) (x ∷ es) h k = (let h2 = and_parts (not (u == v) || (x == e)) (stands_for v e us es) h in (λ q. at_test (u == v) (list_any (λ y. u == y) met) h2.0 q k.0, known_more met f v e us es h2.1 k.1))
  where
    at_test : (b c : Bool) → (not b || (x == e)) ≡ true → (b || c) ≡ true → (c ≡ true → x ≡ f u) → x ≡ cond b e (f u)
    at_test true c p q l = eqb-true x e p
    at_test false c p q l = l q

module _ (d : Specification) (m : Interpretation) (val : ℕ → ℕ) (w : World) (v : Values d m val w) where
  later_means : (u c : ℕ) (vs cs : List ℕ) → length vs ≡ length cs → all_true m (same_later u c vs cs) ≡ stands_for u (val c) vs (map val cs)
  later_means u c [] [] h = refl
  later_means u c [] (x ∷ cs) h = absurd (omega arith)
  later_means u c (y ∷ vs) [] h = absurd (omega arith)
  later_means u c (y ∷ vs) (x ∷ cs) h = by_test (y == u) (later_means u c vs cs (omega arith))
    where
      by_test : (b : Bool) → all_true m (same_later u c vs cs) ≡ stands_for u (val c) vs (map val cs)
          → all_true m (cond b (same_const c x ∷ same_later u c vs cs) (same_later u c vs cs)) ≡ ((not b || (val x == val c)) && stands_for u (val c) vs (map val cs))
      by_test true q = (let p = same_means d m val w v c x ∙ eq_swap (val c) (val x) in cc)
      by_test false q = q

  pub each_means : (met : List ℕ) (f : ℕ → ℕ) (vs cs : List ℕ) → Known met f vs (map val cs) → all_true m (one_element_each met vs cs) ≡ assigned vs (map val cs)
  each_means met f [] [] k = refl
  each_means met f [] (c ∷ cs) k = absurd k
  each_means met f (u ∷ vs) [] k = absurd k
  each_means met f (u ∷ vs) (c ∷ cs) k = by_test (λ met f l. each_means met f vs cs l) (list_any (λ y. u == y) met) refl
    where
      same_length : (vs cs : List ℕ) → Known met f vs (map val cs) → length vs ≡ length cs
      same_length [] [] k = refl
      same_length [] (c ∷ cs) k = absurd k
      same_length (u ∷ vs) [] k = absurd k
      same_length (u ∷ vs) (c ∷ cs) k = ap suc (same_length vs cs k.1)

      both_false : (a b x y : Bool) → a ≡ false → x ≡ false → (a && b) ≡ (x && y)
      both_false a b x y p q = grind arith

      front : (a b : Bool) → a ≡ true → b ≡ (a && b)
      front a b h = grind arith

      by_stands : ((met : List ℕ) (f : ℕ → ℕ) → Known met f vs (map val cs) → all_true m (one_element_each met vs cs) ≡ assigned vs (map val cs)) → (b : Bool) → stands_for u (val c) vs (map val cs) ≡ b → all_true m (same_later u c vs cs ++ one_element_each (u ∷ met) vs cs) ≡ (stands_for u (val c) vs (map val cs) && assigned vs (map val cs))
      by_stands more true e = list_all-append (is_true m) (same_later u c vs cs) (one_element_each (u ∷ met) vs cs)
          ∙ (let p = later_means u c vs cs (same_length vs cs k.1) in let q = more (u ∷ met) (changed f u (val c)) (known_more met f u (val c) vs (map val cs) e k.1) in cc)
      by_stands more false e = list_all-append (is_true m) (same_later u c vs cs) (one_element_each (u ∷ met) vs cs)
          ∙ (let p = later_means u c vs cs (same_length vs cs k.1) in both_false _ _ _ _ (p ∙ e) e)

      by_test : ((met : List ℕ) (f : ℕ → ℕ) → Known met f vs (map val cs) → all_true m (one_element_each met vs cs) ≡ assigned vs (map val cs)) → (b : Bool) → list_any (λ y. u == y) met ≡ b → all_true m (cond b (one_element_each met vs cs) (same_later u c vs cs ++ one_element_each (u ∷ met) vs cs)) ≡ (stands_for u (val c) vs (map val cs) && assigned vs (map val cs))
      by_test more true e = more met f k.1 ∙ (let q = ap (λ (x : ℕ). stands_for u x vs (map val cs)) (k.0 e) ∙ stands_known met f u vs (map val cs) e k.1 in front _ _ q)
      by_test more false e = by_stands more (stands_for u (val c) vs (map val cs)) refl

-- ---- both lists of a rule's variables in one

stands_for-append : (v e : ℕ) (vs es us fs : List ℕ) → length vs ≡ length es → stands_for v e (vs ++ us) (es ++ fs) ≡ (stands_for v e vs es && stands_for v e us fs)
stands_for-append v e [] [] us fs h = refl
stands_for-append v e [] (x ∷ es) us fs h = absurd (omega arith)
stands_for-append v e (y ∷ vs) [] us fs h = absurd (omega arith)
stands_for-append v e (y ∷ vs) (x ∷ es) us fs h = ap (λ (b : Bool). (not (y == v) || (x == e)) && b) (stands_for-append v e vs es us fs (omega arith)) ∙ and_assoc (not (y == v) || (x == e)) (stands_for v e vs es) (stands_for v e us fs)
  where
    and_assoc : (a b c : Bool) → (a && (b && c)) ≡ ((a && b) && c)
    and_assoc a b c = grind arith

one_assignment-append : (vs es us fs : List ℕ) → length vs ≡ length es → one_assignment vs es us fs ≡ assigned (vs ++ us) (es ++ fs)
one_assignment-append [] [] us fs h = refl
one_assignment-append [] (e ∷ es) us fs h = absurd (omega arith)
one_assignment-append (v ∷ vs) [] us fs h = absurd (omega arith)
one_assignment-append (v ∷ vs) (e ∷ es) us fs h = (let p = stands_for-append v e vs es us fs (omega arith) in let q = one_assignment-append vs es us fs (omega arith) in cc)

-- ---- all of a list of lists, and some of some

pub all_flat_map : {X : Type 0} (m : Interpretation) (f : X → List Symbolic) (xs : List X) → all_true m (flat_map f xs) ≡ list_all (λ x. all_true m (f x)) xs
all_flat_map m f [] = refl
all_flat_map m f (x ∷ xs) = list_all-append (is_true m) (f x) (flat_map f xs) ∙ ap (λ (b : Bool). all_true m (f x) && b) (all_flat_map m f xs)

-- what passes each test fails none
pub none_of : {X : Type 0} (p q : X → Bool) (xs : List X) → (ok : X → Bool) → list_all ok xs ≡ true → ((x : X) → ok x ≡ true → p x ≡ not (q x)) → list_all p xs ≡ not (list_any q xs)
none_of p q [] ok a h = refl
none_of p q (x ∷ xs) ok a h = (let a2 = and_parts (ok x) (list_all ok xs) a in let e = h x a2.0 in let f = none_of p q xs ok a2.1 h in at (p x) (list_all p xs) (q x) (list_any q xs) e f)
  where
    at : (a b c e : Bool) → a ≡ not c → b ≡ not e → (a && b) ≡ not (c || e)
    at a b c e p q = grind arith

list_any-or : {X : Type 0} (p q : X → Bool) (xs : List X) → list_any (λ x. p x || q x) xs ≡ (list_any p xs || list_any q xs)
list_any-or p q [] = refl
list_any-or p q (x ∷ xs) = ap (λ (b : Bool). (p x || q x) || b) (list_any-or p q xs) ∙ swap (p x) (q x) (list_any p xs) (list_any q xs)
  where
    swap : (a b c e : Bool) → ((a || b) || (c || e)) ≡ ((a || c) || (b || e))
    swap a b c e = grind arith

list_any-none : {X : Type 0} (xs : List X) → list_any (λ x. false) xs ≡ false
list_any-none [] = refl
list_any-none (x ∷ xs) = list_any-none xs

list_any-swap : {X Y : Type 0} (p : X → Y → Bool) (xs : List X) (ys : List Y) → list_any (λ x. list_any (λ y. p x y) ys) xs ≡ list_any (λ y. list_any (λ x. p x y) xs) ys
list_any-swap p [] ys = sym (list_any-none ys)
list_any-swap p (x ∷ xs) ys = ap (λ (b : Bool). list_any (λ y. p x y) ys || b) (list_any-swap p xs ys) ∙ sym (list_any-or (λ y. p x y) (λ y. list_any (λ x. p x y) xs) ys)

-- ---- rules and takes lines

elems_length : (d : Specification) (ps : List Parameter) (ss : List ℕ) (es : List Elem) → elems_typed d ps [] ss es ≡ true → length es ≡ length ss
elems_length d ps [] [] h = refl
elems_length d ps [] (e ∷ es) h = absurd cc
elems_length d ps (s ∷ ss) [] h = absurd cc
elems_length d ps (s ∷ ss) (e ∷ es) h = ap suc (elems_length d ps ss es (and_parts (is_sort (sort_of d ps [] e) s) (elems_typed d ps [] ss es) h).1)

-- one of two calls that may conflict: its caller, its parameters and its arguments
pub record Side (d : Specification) (m : Interpretation) (val : ℕ → ℕ) : Type 0 where
  pub caller : Caller
  pub params : List Parameter
  pub args : List ℤ
  pub stands : StandsFor m val params caller args

module _ (d : Specification) (m : Interpretation) (val : ℕ → ℕ) (w : World) (v : Values d m val w) where
  take_means : (a : Side d m val) (t : Take) → is_take d a.params t ≡ true → (map val (consts_of a.caller [] t.args) ≡ elems_of w a.args [] t.args) × (length t.args ≡ length (token_places d t.token))
  take_means a t h =
      let p = and_parts _ _ (and_parts _ _ h).0 in
      (elems_mean d m val w v a.params a.caller a.args a.stands [] [] refl (token_places d t.token) t.args p.1, elems_length d a.params (token_places d t.token) t.args p.1)

  ruled_length : (rule : Rule) (t u : Take) → is_rule d rule ≡ true → are_ruled rule t u ≡ true → (length rule.left.vars ≡ length (token_places d t.token)) × (length rule.right.vars ≡ length (token_places d u.token))
  ruled_length rule t u h k =
      let p = and_parts (is_pattern d rule.left && is_pattern d rule.right) _ h in
      let q = and_parts (is_pattern d rule.left) (is_pattern d rule.right) p.0 in
      let l = and_parts _ _ q.0 in
      let r = and_parts _ _ q.1 in
      let o = and_parts _ (rule.right.token == u.token) k in
      let i = and_parts _ (rule.left.token == t.token) o.0 in (
        eqb-true _ _ l.1 ∙ ap (λ (x : ℕ). length (token_places d x)) (eqb-true rule.left.token t.token i.1),
        eqb-true _ _ r.1 ∙ ap (λ (x : ℕ). length (token_places d x)) (eqb-true rule.right.token u.token o.1),
      )

  unmatched_means : (a b : Side d m val) (rule : Rule) (t u : Take) → is_rule d rule ≡ true → is_take d a.params t ≡ true → is_take d b.params u ≡ true
      → all_true m (unmatched rule a.caller t b.caller u) ≡ not (lines_match w a.args b.args rule t u)
  unmatched_means a b rule t u h k l = by_test (are_ruled rule t u) refl
    where
      by_test : (o : Bool) → are_ruled rule t u ≡ o → all_true m (cond o (negated (all_parts (one_element_each [] (rule.left.vars ++ rule.right.vars) (consts_of a.caller [] t.args ++ consts_of b.caller [] u.args))) ∷ []) [])
          ≡ not (o && one_assignment rule.left.vars (elems_of w a.args [] t.args) rule.right.vars (elems_of w b.args [] u.args))
      by_test false e = refl
      by_test true e =
          let lengths = ruled_length rule t u h e in
          let one = take_means a t k in
          let two = take_means b u l in
          let many = parts_mean m (one_element_each [] (rule.left.vars ++ rule.right.vars) (consts_of a.caller [] t.args ++ consts_of b.caller [] u.args)) in
          let values : map val (consts_of a.caller [] t.args ++ consts_of b.caller [] u.args) ≡ elems_of w a.args [] t.args ++ elems_of w b.args [] u.args = map-append val (consts_of a.caller [] t.args) (consts_of b.caller [] u.args) ∙ cc in
          let few : length rule.left.vars ≡ length (elems_of w a.args [] t.args) = lengths.0 ∙ sym one.1 ∙ sym (length-map t.args _) in
          let few2 : length rule.right.vars ≡ length (elems_of w b.args [] u.args) = lengths.1 ∙ sym two.1 ∙ sym (length-map u.args _) in
          let known = subst (λ (xs : List ℕ). Known [] (λ x. x) (rule.left.vars ++ rule.right.vars) xs) (sym values) (known_none (λ x. x) (rule.left.vars ++ rule.right.vars) (elems_of w a.args [] t.args ++ elems_of w b.args [] u.args) (length-append rule.left.vars rule.right.vars ∙ ap₂ (λ (x y : ℕ). x + y) few few2 ∙ sym (length-append (elems_of w a.args [] t.args) (elems_of w b.args [] u.args)))) in
          let means = each_means d m val w v [] (λ x. x) (rule.left.vars ++ rule.right.vars) (consts_of a.caller [] t.args ++ consts_of b.caller [] u.args) known in
          let whole = one_assignment-append rule.left.vars (elems_of w a.args [] t.args) rule.right.vars (elems_of w b.args [] u.args) few in
          finish (is_true m (all_parts (one_element_each [] (rule.left.vars ++ rule.right.vars) (consts_of a.caller [] t.args ++ consts_of b.caller [] u.args)))) (one_assignment rule.left.vars (elems_of w a.args [] t.args) rule.right.vars (elems_of w b.args [] u.args)) (many ∙ means ∙ ap (assigned (rule.left.vars ++ rule.right.vars)) values ∙ sym whole)
        where
          finish : (x y : Bool) → x ≡ y → (not x && true) ≡ not (true && y)
          finish x y h = grind arith

  all_means : (a b : Side d m val) (rule : Rule) (ts us : List Take) → is_rule d rule ≡ true → list_all (is_take d a.params) ts ≡ true → list_all (is_take d b.params) us ≡ true
      → all_true m (flat_map (λ t. flat_map (λ u. unmatched rule a.caller t b.caller u) us) ts) ≡ not (list_any (λ t. list_any (λ u. lines_match w a.args b.args rule t u) us) ts)
  all_means a b rule ts us h k l =
      all_flat_map m (λ t. flat_map (λ u. unmatched rule a.caller t b.caller u) us) ts
      ∙ none_of (λ t. all_true m (flat_map (λ u. unmatched rule a.caller t b.caller u) us)) (λ t. list_any (λ u. lines_match w a.args b.args rule t u) us) ts (is_take d a.params) k
      (λ t p. all_flat_map m (λ u. unmatched rule a.caller t b.caller u) us ∙ none_of (λ u. all_true m (unmatched rule a.caller t b.caller u)) (λ u. lines_match w a.args b.args rule t u) us (is_take d b.params) l (λ u q. unmatched_means a b rule t u h p q))

  swapped_means : (a b : Side d m val) (rule : Rule) (ts us : List Take) → is_rule d rule ≡ true → list_all (is_take d a.params) ts ≡ true → list_all (is_take d b.params) us ≡ true
      → all_true m (flat_map (λ t. flat_map (λ u. unmatched rule b.caller u a.caller t) us) ts) ≡ not (list_any (λ u. list_any (λ t. lines_match w b.args a.args rule u t) ts) us)
  swapped_means a b rule ts us h k l =
      all_flat_map m (λ t. flat_map (λ u. unmatched rule b.caller u a.caller t) us) ts
      ∙ none_of (λ t. all_true m (flat_map (λ u. unmatched rule b.caller u a.caller t) us)) (λ t. list_any (λ u. lines_match w b.args a.args rule u t) us) ts (is_take d a.params) k
      (λ t p. all_flat_map m (λ u. unmatched rule b.caller u a.caller t) us ∙ none_of (λ u. all_true m (unmatched rule b.caller u a.caller t)) (λ u. lines_match w b.args a.args rule u t) us (is_take d b.params) l (λ u q. unmatched_means b a rule u t h q p))
      ∙ ap not (list_any-swap (λ t u. lines_match w b.args a.args rule u t) ts us)

  pub rules_mean : (a b : Side d m val) (rules : List Rule) (ts us : List Take) → list_all (is_rule d) rules ≡ true → list_all (is_take d a.params) ts ≡ true → list_all (is_take d b.params) us ≡ true
      → all_true m (flat_map (rule_unmatched a.caller ts b.caller us) rules)
      ≡ not (list_any (λ rule. list_any (λ t. list_any (λ u. lines_match w a.args b.args rule t u) us) ts) rules || list_any (λ rule. list_any (λ u. list_any (λ t. lines_match w b.args a.args rule u t) ts) us) rules)
  rules_mean a b rules ts us h k l =
      all_flat_map m (rule_unmatched a.caller ts b.caller us) rules
      ∙ none_of (λ rule. all_true m (rule_unmatched a.caller ts b.caller us rule)) (λ rule. list_any (λ t. list_any (λ u. lines_match w a.args b.args rule t u) us) ts || list_any (λ u. list_any (λ t. lines_match w b.args a.args rule u t) ts) us) rules (is_rule d) h
      (λ rule p. list_all-append (is_true m) (flat_map (λ t. flat_map (λ u. unmatched rule a.caller t b.caller u) us) ts) (flat_map (λ t. flat_map (λ u. unmatched rule b.caller u a.caller t) us) ts)
      ∙ neither (all_true m (flat_map (λ t. flat_map (λ u. unmatched rule a.caller t b.caller u) us) ts)) (all_true m (flat_map (λ t. flat_map (λ u. unmatched rule b.caller u a.caller t) us) ts)) (list_any (λ t. list_any (λ u. lines_match w a.args b.args rule t u) us) ts) (list_any (λ u. list_any (λ t. lines_match w b.args a.args rule u t) ts) us) (all_means a b rule ts us p k l) (swapped_means a b rule ts us p k l))
      ∙ ap not (list_any-or (λ rule. list_any (λ t. list_any (λ u. lines_match w a.args b.args rule t u) us) ts) (λ rule. list_any (λ u. list_any (λ t. lines_match w b.args a.args rule u t) ts) us) rules)
    where
      neither : (a b x y : Bool) → a ≡ not x → b ≡ not y → (a && b) ≡ not (x || y)
      neither a b x y p q = grind arith
