-- A sort has at most a hundred elements, since an obligation has few constants of it.
use Rattle.std.proofs.Common.{◌≡◌, ℕ, zero, suc, ◌+◌, ◌*◌, ◌<◌, ◌≤◌, ◌==◌, nat_le, Bool, true, false, cond, ◌&&◌, ◌⊎◌, inl, inr, Option, None, Some, List, [], ◌∷◌, ◌++◌, map, length, flat_map, refl, sym, ◌∙◌, ap, subst, arith, length-append}
use Rattle.std.specs.List.{list_all, cons_option, count_by, fold, range_with_len}
use Rattle.std.proofs.lemmas.Bool.{and_parts, and_from}
use Rattle.std.proofs.lemmas.List.Folds.{list_all-append}
use Rattle.std.proofs.lemmas.Bool.Decides.{nat_tests}
use Rattle.spec_core.specs.declared.operation.Param.{Param as Parameter}
use Rattle.spec_core.specs.declared.spec.Const.{Const}
use Rattle.spec_core.specs.declared.update.Thing.{Thing}
use Rattle.spec_core.specs.declared.update.Thing.TheVariants as thing
use Rattle.spec_core.specs.Line.{Line}
use Rattle.spec_core.specs.Specification.{Specification, op_of, no_line, places_of}
use Rattle.spec_core.specs.World.{below}
use Rattle.spec_core.specs.Truth.{is_exists}
use Rattle.spec_core.specs.Meaning.{invariant_line}
use Rattle.spec_core.specs.Fits.{is_plain}
use Rattle.spec_core.specs.Typed.{is_line, is_operation, sort_of_kind, is_specification}
use Rattle.spec_core.proofs.Lists.{list_all-get_or}
use Rattle.spec_core.proofs.Parts.{parts_of, operation_parts, few_places, few_keys}
use Rattle.obligation_list.specs.declared.obligation.Obligation.{Obligation}
use Rattle.obligation_list.specs.declared.obligation.Obligation.TheVariants.{Init, Safety, Commute, Stable}
use Rattle.obligation_list.specs.Obligations.{IsObligation}
use Rattle.obligation_list.specs.Breaking.{operations_of, elements_of, requires_line}
use Rattle.ground_problem.specs.Symbols.{Interpretation}
use Rattle.ground_problem.specs.Constants.{constants_of, of_sort, sorts_of_params, chosen_vars, concatenated, params_of, chosen_of}
use Rattle.ground_problem.specs.Classes.{any_like, firsts, alike, classes}
use Rattle.ground_problem.specs.Readback.{world_of}
use Rattle.ground_problem.proofs.Existing.{operation_typed}
use Rattle.ground_problem.proofs.Interpret.{invariant_typed}

at_most : (a b : ℕ) → nat_le a b ≡ true → a ≤ b
at_most a b h = grind (arith, nat_tests)

firsts_few : (like : ℕ → ℕ → Bool) (seen xs : List ℕ) → length (firsts like seen xs) ≤ length xs
firsts_few like seen [] = omega arith
firsts_few like seen (x ∷ xs) = by_test (any_like like x seen) (firsts_few like seen xs) (firsts_few like (seen ++ x ∷ []) xs)
  where
    by_test : (b : Bool) → length (firsts like seen xs) ≤ length xs → length (firsts like (seen ++ x ∷ []) xs) ≤ length xs → length (cond b (firsts like seen xs) (x ∷ firsts like (seen ++ x ∷ []) xs)) ≤ suc (length xs)
    by_test true p q = omega arith
    by_test false p q = omega arith

-- ---- the constants of a sort

of_sort_few : (n : ℕ) (ss : List ℕ) (s : ℕ) → length (of_sort n ss s) ≤ length ss
of_sort_few n [] s = omega arith
of_sort_few n (x ∷ ss) s = by_test (x == s) (of_sort_few (suc n) ss s)
  where
    by_test : (b : Bool) → length (of_sort (suc n) ss s) ≤ length ss → length (cond b (n ∷ of_sort (suc n) ss s) (of_sort (suc n) ss s)) ≤ suc (length ss)
    by_test true p = omega arith
    by_test false p = omega arith

count_from : {X : Type 0} (p : X → Bool) (n k : ℕ) (xs : List X) → fold (λ a x. a + cond (p x) 1 0) (n + k) xs ≡ n + fold (λ a x. a + cond (p x) 1 0) k xs
count_from p n k [] = refl
count_from p n k (x ∷ xs) = (let e : n + k + cond (p x) 1 0 ≡ n + (k + cond (p x) 1 0) = omega arith in ap (λ m. fold (λ a x. a + cond (p x) 1 0) m xs) e ∙ count_from p n (k + cond (p x) 1 0) xs)

count_step : {X : Type 0} (p : X → Bool) (x : X) (xs : List X) → count_by p (x ∷ xs) ≡ cond (p x) 1 0 + count_by p xs
count_step p x xs = (let e : 0 + cond (p x) 1 0 ≡ cond (p x) 1 0 + 0 = omega arith in ap (λ m. fold (λ a x. a + cond (p x) 1 0) m xs) e ∙ count_from p (cond (p x) 1 0) 0 xs)

of_sort_both : (n : ℕ) (cs : List Const) (ss : List ℕ) (s : ℕ) → length (of_sort n (map (λ (c : Const). c.sort) cs ++ ss) s) ≤ count_by (λ (c : Const). c.sort == s) cs + length ss
of_sort_both n [] ss s = (let p = of_sort_few n ss s in omega arith)
of_sort_both n (c ∷ cs) ss s = (let q = count_step (λ (c : Const). c.sort == s) c cs in let r = by_test (c.sort == s) (of_sort_both (suc n) cs ss s) in omega arith)
  where
    by_test : (b : Bool) → length (of_sort (suc n) (map (λ (c : Const). c.sort) cs ++ ss) s) ≤ count_by (λ (c : Const). c.sort == s) cs + length ss → length (cond b (n ∷ of_sort (suc n) (map (λ (c : Const). c.sort) cs ++ ss) s) (of_sort (suc n) (map (λ (c : Const). c.sort) cs ++ ss) s)) ≤ cond b 1 0 + count_by (λ (c : Const). c.sort == s) cs + length ss
    by_test true p = omega arith
    by_test false p = omega arith

-- ---- how many constants there are beside the declared ones

append_few : {X : Type 0} (xs ys : List X) (m n : ℕ) → length xs ≤ m → length ys ≤ n → length (xs ++ ys) ≤ m + n
append_few xs ys m n h k = (let e = length-append xs ys in omega arith)

params_few : (ps : List Parameter) → length (sorts_of_params ps) ≤ length ps
params_few [] = omega arith
params_few (p ∷ ps) = by_sort (sort_of_kind p.kind) (params_few ps)
  where
    by_sort : (o : Option ℕ) → length (sorts_of_params ps) ≤ length ps → length (cons_option o (sorts_of_params ps)) ≤ suc (length ps)
    by_sort None h = omega arith
    by_sort (Some x) h = omega arith

-- a line has at most three variables
vars_few : (d : Specification) (ps : List Parameter) (l : Line) → is_line d ps l ≡ true → length l.vars ≤ 3
vars_few d ps l h = by_prefix (is_plain l.prefix) (at_most _ _ (and_parts _ _ (and_parts _ _ h).0).0)
  where
    by_prefix : (b : Bool) → length l.vars ≤ cond b 0 3 → length l.vars ≤ 3
    by_prefix true h = omega arith
    by_prefix false h = h

none_or : (b : Bool) (vs : List ℕ) → length vs ≤ 3 → length (cond b vs []) ≤ 3
none_or true vs h = h
none_or false vs h = omega arith

none_and : (b : Bool) (vs : List ℕ) → length vs ≤ 3 → length (cond b [] vs) ≤ 3
none_and true vs h = omega arith
none_and false vs h = h

lines_few : (d : Specification) (ps : List Parameter) (ls : List Line) → list_all (is_line d ps) ls ≡ true → length (concatenated (map chosen_vars ls)) ≤ length ls * 3
lines_few d ps [] h = omega arith
lines_few d ps (l ∷ ls) h =
    let p = and_parts (is_line d ps l) (list_all (is_line d ps) ls) h in
    let q = append_few (chosen_vars l) (concatenated (map chosen_vars ls)) 3 (length ls * 3) (none_or (is_exists l.prefix) l.vars (vars_few d ps l p.0)) (lines_few d ps ls p.1) in
    omega arith

all_operations : (d : Specification) (ob : Obligation) → is_specification d ≡ true → IsObligation d ob → list_all (λ o. is_operation d (op_of d o)) (operations_of ob) ≡ true
all_operations d (Init i) t io = refl
all_operations d (Safety o i) t io = and_from _ _ (operation_typed d (Safety o i) t io 0 (omega arith)) refl
all_operations d (Commute o p x) t io = and_from _ _ (operation_typed d (Commute o p x) t io 0 (omega arith)) (and_from _ _ (operation_typed d (Commute o p x) t io 1 (omega arith)) refl)
all_operations d (Stable o l p) t io = and_from _ _ (operation_typed d (Stable o l p) t io 0 (omega arith)) (and_from _ _ (operation_typed d (Stable o l p) t io 1 (omega arith)) refl)

all_params_few : (d : Specification) (os : List ℕ) → list_all (λ o. is_operation d (op_of d o)) os ≡ true → length (flat_map sorts_of_params (map (λ o. (op_of d o).params) os)) ≤ length os * 6
all_params_few d [] h = omega arith
all_params_few d (o ∷ os) h =
    let p = and_parts (is_operation d (op_of d o)) (list_all (λ o. is_operation d (op_of d o)) os) h in
    let own = (op_of d o).params in
    let few : length own ≤ 6 = at_most _ _ (operation_parts d (op_of d o) p.0).few_params in
    let mine : length (sorts_of_params own) ≤ 6 = (let a = params_few own in omega arith) in
    let q = append_few (sorts_of_params own) (flat_map sorts_of_params (map (λ o. (op_of d o).params) os)) 6 (length os * 6) mine (all_params_few d os p.1) in
    omega arith

all_chosen_few : (d : Specification) (os : List ℕ) → list_all (λ o. is_operation d (op_of d o)) os ≡ true → length (flat_map concatenated (map (λ o. map chosen_vars (op_of d o).requires_) os)) ≤ length os * 24
all_chosen_few d [] h = omega arith
all_chosen_few d (o ∷ os) h =
    let p = and_parts (is_operation d (op_of d o)) (list_all (λ o. is_operation d (op_of d o)) os) h in
    let lines = (op_of d o).requires_ in
    let parts = operation_parts d (op_of d o) p.0 in
    let few : length lines ≤ 8 = at_most _ _ parts.few_requires in
    let mine : length (concatenated (map chosen_vars lines)) ≤ 24 = (let a = lines_few d (op_of d o).params lines parts.requires_ in omega arith) in
    let q = append_few (concatenated (map chosen_vars lines)) (flat_map concatenated (map (λ o. map chosen_vars (op_of d o).requires_) os)) 24 (length os * 24) mine (all_chosen_few d os p.1) in
    omega arith

places_few : (d : Specification) → is_specification d ≡ true → (x : Thing) → length (places_of d x) ≤ 3
places_few d t (thing.Relation k) = few_places d t k
places_few d t (thing.Counter k) = (let a = few_keys d t k in omega arith)

elements_few : (d : Specification) (ob : Obligation) → is_specification d ≡ true → IsObligation d ob → length (elements_of d ob) ≤ 3
elements_few d (Init i) t io = none_and (is_exists (invariant_line d i).prefix) (invariant_line d i).vars (vars_few d [] (invariant_line d i) (invariant_typed d t i))
elements_few d (Safety o i) t io = none_and (is_exists (invariant_line d i).prefix) (invariant_line d i).vars (vars_few d [] (invariant_line d i) (invariant_typed d t i))
elements_few d (Commute o p x) t io = places_few d t x
elements_few d (Stable o l p) t io =
    let line = requires_line d o l in
    none_and (is_exists line.prefix) line.vars (vars_few d (op_of d o).params line (list_all-get_or (is_line d (op_of d o).params) (op_of d o).requires_ (operation_parts d (op_of d o) (operation_typed d (Stable o l p) t io 0 (omega arith))).requires_ l no_line refl))

two_calls : (ob : Obligation) → length (operations_of ob) ≤ 2
two_calls (Init i) = omega arith
two_calls (Safety o i) = omega arith
two_calls (Commute o p x) = omega arith
two_calls (Stable o l p) = omega arith

-- ---- the sizes of the world

in_below_all : (p : ℕ → Bool) (n s : ℕ) → list_all p (below n) ≡ true → s < n → p s ≡ true
in_below_all p zero s h l = absurd (omega arith)
in_below_all p (suc n) s h l =
    let q = sym (list_all-append p (below n) (n ∷ [])) ∙ h in
    let r = and_parts (list_all p (below n)) (p n && true) q in
    elim (compare s n l) [ inl k ↦ in_below_all p n s r.0 k | inr e ↦ subst (λ (x : ℕ). p x ≡ true) (sym e) (and_parts (p n) true r.1).0 ]
  where
    compare : (s n : ℕ) → s < suc n → (s < n) ⊎ (s ≡ n)
    compare s n h = grind arith

size_small : (d : Specification) (ob : Obligation) (m : Interpretation) → is_specification d ≡ true → IsObligation d ob → (s : ℕ) → s < length d.sorts → length (classes m (constants_of d ob).sorts s) ≤ 100
size_small d ob m t io s l =
    let os = operations_of ob in
    let all = all_operations d ob t io in
    let params = flat_map sorts_of_params (params_of d ob) in
    let chosen = flat_map concatenated (chosen_of d ob) in
    let rest = append_few params (chosen ++ elements_of d ob) (length os * 6) (length os * 24 + 3) (all_params_few d os all) (append_few chosen (elements_of d ob) (length os * 24) 3 (all_chosen_few d os all) (elements_few d ob t io)) in
    let own : count_by (λ (c : Const). c.sort == s) d.consts ≤ 4 = at_most _ _ (in_below_all (λ s. nat_le (count_by (λ c. c.sort == s) d.consts) 4) (length d.sorts) s (and_parts _ _ (parts_of d t).consts).1 l) in
    let few = firsts_few (alike m) [] (of_sort 0 (constants_of d ob).sorts s) in
    let both = of_sort_both 0 d.consts (params ++ (chosen ++ elements_of d ob)) s in
    let two = two_calls ob in
    omega arith

sizes_small : (f : ℕ → ℕ) (from n : ℕ) → ((s : ℕ) → s < from + n → f s ≤ 100) → list_all (λ k. nat_le k 100) (map f (range_with_len from n)) ≡ true
sizes_small f from zero h = refl
sizes_small f from (suc n) h = and_from (nat_le (f from) 100) _ (leb (f from) 100 (h from (omega arith))) (sizes_small f (from + 1) n (λ s l. h s (omega arith)))
  where
    leb : (a b : ℕ) → a ≤ b → nat_le a b ≡ true
    leb a b h = grind (arith, nat_tests)

-- No sort of the world that an interpretation gives has more than a hundred elements.
pub world_small : (d : Specification) (ob : Obligation) (m : Interpretation) → is_specification d ≡ true → IsObligation d ob → list_all (λ k. nat_le k 100) (world_of d ob m).sizes ≡ true
world_small d ob m t io = sizes_small (λ s. length (classes m (constants_of d ob).sorts s)) 0 (length d.sorts) (λ s l. size_small d ob m t io s (omega arith))
