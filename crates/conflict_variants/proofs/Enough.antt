-- A specification has at most 248 names in use, so at least two of the first 250 are unused.
use Rattle.std.proofs.Common.{◌≡◌, ℕ, zero, suc, ◌+◌, ◌*◌, ◌≤◌, true, false, not, ◌||◌, ◌==◌, List, [], ◌∷◌, ◌++◌, map, length, get_or, refl, sym, ◌∙◌, subst, arith}
use Rattle.std.specs.Prelude.{nat_lt, nat_le, count_by}
use Rattle.std.specs.List.{list_all, flat_map}
use Rattle.std.specs.Fmt.{digits}
use Rattle.std.specs.Str.{bytes_eq}
use Rattle.std.proofs.lemmas.Bool.{and_parts, and_from}
use Rattle.std.proofs.lemmas.Bool.Decides.{nat_tests}
use Rattle.std.proofs.lemmas.List.{length-append, length-map}
use Rattle.std.proofs.lemmas.List.Folds.{list_all-append}
use Rattle.std.proofs.lemmas.List.Sums.{length-filter}
use Rattle.std.proofs.lemmas.List.Filters.{length-filter_both}
use Rattle.spec_core.specs.declared.spec.Const.{Const}
use Rattle.spec_core.specs.declared.spec.Relation.{Relation}
use Rattle.spec_core.specs.declared.spec.Counter.{Counter}
use Rattle.spec_core.specs.declared.spec.Invariant.{Invariant}
use Rattle.spec_core.specs.declared.operation.Param.{Param}
use Rattle.spec_core.specs.declared.operation.Operation.{Operation}
use Rattle.spec_core.specs.Limits.{most_constants}
use Rattle.spec_core.specs.Name.{is_word_name}
use Rattle.spec_core.specs.Specification.{Specification}
use Rattle.spec_core.specs.State.{is_in}
use Rattle.spec_core.specs.World.{below}
use Rattle.spec_core.specs.Typed.{parameter_names, all_distinct, is_operation, is_specification}
use Rattle.spec_core.proofs.Parts.{parts_of, operation_parts}
use Rattle.conflict_variants.specs.Takes.{with_takes}
use Rattle.conflict_variants.specs.Keyed.{names_in_use, token_name, unused_below, first_name, second_name}
use Rattle.conflict_variants.proofs.TokenNames.{all_unused}
use Rattle.conflict_variants.proofs.Distinct.{passing, passing-none, passing-all, passing-or, few_in, passed, passed_too, distinct_fewer, neither, not_false}

pub at_most : (a b : ℕ) → nat_le a b ≡ true → a ≤ b
at_most a b h = grind (arith, nat_tests)

-- ---- constants: few of each sort

few_of_sorts : (cs : List Const) (n : ℕ) → list_all (λ s. nat_le (count_by (λ (c : Const). c.sort == s) cs) most_constants) (below n) ≡ true → passing (λ (c : Const). nat_lt c.sort n) cs ≤ n * 4
few_of_sorts cs zero h = let e = passing-none (λ (c : Const). nat_lt c.sort 0) cs (none cs) in omega arith
  where
    below_none : (k : ℕ) → not (nat_lt k 0) ≡ true
    below_none k = grind (arith, nat_tests)

    none : (cs : List Const) → list_all (λ (c : Const). not (nat_lt c.sort 0)) cs ≡ true
    none [] = refl
    none (c ∷ cs) = and_from (not (nat_lt c.sort 0)) (list_all (λ (c : Const). not (nat_lt c.sort 0)) cs) (below_none c.sort) (none cs)
few_of_sorts cs (suc n) h =
    let t = λ (s : ℕ). nat_le (count_by (λ (c : Const). c.sort == s) cs) most_constants in
    let a = and_parts (list_all t (below n)) (list_all t (n ∷ [])) (sym (list_all-append t (below n) (n ∷ [])) ∙ h) in
    let b = and_parts (t n) true a.1 in
    let m = at_most (count_by (λ (c : Const). c.sort == n) cs) most_constants b.0 in
    let e = length-filter (λ (c : Const). c.sort == n) cs in
    let f = few_of_sorts cs n a.0 in
    let g = passing-or (λ (c : Const). nat_lt c.sort (suc n)) (λ (c : Const). nat_lt c.sort n) (λ (c : Const). c.sort == n) (λ c. next c.sort n) cs in
    omega arith
  where
    next : (k n : ℕ) → nat_lt k (suc n) ≡ (nat_lt k n || (k == n))
    next k n = grind (arith, nat_tests)

few_consts : (d : Specification) → is_specification d ≡ true → length d.consts ≤ 32
few_consts d h =
    let p = parts_of d h in
    let c = and_parts (list_all (λ (c : Const). nat_lt c.sort (length d.sorts)) d.consts) (list_all (λ s. nat_le (count_by (λ (c : Const). c.sort == s) d.consts) most_constants) (below (length d.sorts))) p.consts in
    let e = passing-all (λ (c : Const). nat_lt c.sort (length d.sorts)) d.consts c.0 in
    let f = few_of_sorts d.consts (length d.sorts) c.1 in
    let s = at_most (length d.sorts) 8 p.sorts in
    omega arith

-- ---- parameters

few_params : (d : Specification) (os : List Operation) → list_all (is_operation d) os ≡ true → length (flat_map (λ (o : Operation). parameter_names o.params) os) ≤ 6 * length os
few_params d [] h = omega arith
few_params d (o ∷ os) h =
    let a = and_parts (is_operation d o) (list_all (is_operation d) os) h in
    let b = at_most (length o.params) 6 (operation_parts d o a.0).few_params in
    let c = length-map o.params (λ (p : Param). p.name) in
    let e = length-append (parameter_names o.params) (flat_map (λ (o : Operation). parameter_names o.params) os) in
    let f = few_params d os a.1 in
    omega arith

-- ---- all names

lengths : (a b c e f g h : List (List ℕ)) → length ((a ++ (b ++ (c ++ (e ++ (f ++ g))))) ++ h) ≡ length a + length b + length c + length e + length f + length g + length h
lengths a b c e f g h =
    let k = length-append (a ++ (b ++ (c ++ (e ++ (f ++ g))))) h in
    let l = length-append a (b ++ (c ++ (e ++ (f ++ g)))) in
    let m = length-append b (c ++ (e ++ (f ++ g))) in
    let n = length-append c (e ++ (f ++ g)) in
    let o = length-append e (f ++ g) in
    let p = length-append f g in
    omega arith

few_names : (d : Specification) → is_specification d ≡ true → length (names_in_use d) ≤ 248
few_names d h =
    let p = parts_of d h in
    let ps = flat_map (λ (o : Operation). parameter_names o.params) d.operations in
    let bares = map (λ (o : Operation). with_takes o []) d.operations in
    let l = lengths d.sorts (map (λ (c : Const). c.name) d.consts) (map (λ (r : Relation). r.name) d.relations) (map (λ (c : Counter). c.name) d.counters) (map (λ (i : Invariant). i.name) d.invariants) (map (λ (o : Operation). o.name) bares) ps in
    let s = at_most (length d.sorts) 8 p.sorts in
    let c = few_consts d h in
    let c' = length-map d.consts (λ (c : Const). c.name) in
    let r = at_most (length d.relations) 16 p.few_relations in
    let r' = length-map d.relations (λ (r : Relation). r.name) in
    let k = at_most (length d.counters) 8 p.few_counters in
    let k' = length-map d.counters (λ (c : Counter). c.name) in
    let i = at_most (length d.invariants) 16 p.few_invariants in
    let i' = length-map d.invariants (λ (i : Invariant). i.name) in
    let o = at_most (length d.operations) 24 p.few_operations in
    let o' = length-map bares (λ (o : Operation). o.name) in
    let o'' = length-map d.operations (λ (o : Operation). with_takes o []) in
    let q = few_params d d.operations p.operations in
    omega arith

-- ---- the candidates

abbrev candidates : List (List ℕ)
candidates = map token_name (below 250)

candidates_distinct : all_distinct candidates ≡ true
unfolding digits
candidates_distinct = refl

candidates_words : list_all is_word_name candidates ≡ true
unfolding digits
candidates_words = refl

candidate_count : length candidates ≡ 250
candidate_count = length-map (below 250) token_name

-- ---- two unused names

-- what two names keep that aren't in use
pub record AreNew (d : Specification) (one two : List ℕ) : Type 0 where
  pub word_one : is_word_name one ≡ true
  pub word_two : is_word_name two ≡ true
  pub new_one : is_in one (names_in_use d) ≡ false
  pub new_two : is_in two (names_in_use d) ≡ false
  pub differ : bytes_eq one two ≡ false

first_two : (d : Specification) (ns : List (List ℕ)) → 2 ≤ length ns → all_distinct ns ≡ true → list_all is_word_name ns ≡ true → list_all (λ n. not (is_in n (names_in_use d))) ns ≡ true
    → AreNew d (get_or ns 0 []) (get_or ns 1 [])
first_two d [] l h w u = absurd (omega (arith, l))
first_two d (a ∷ []) l h w u = absurd (omega (arith, l))
first_two d (a ∷ b ∷ ns) l h w u =
    let p = and_parts (not (is_in a (b ∷ ns))) (all_distinct (b ∷ ns)) h in
    let q = neither (bytes_eq a b) (is_in a ns) (not_false (is_in a (b ∷ ns)) p.0) in
    let w1 = and_parts (is_word_name a) (list_all is_word_name (b ∷ ns)) w in
    let w2 = and_parts (is_word_name b) (list_all is_word_name ns) w1.1 in
    let u1 = and_parts (not (is_in a (names_in_use d))) (list_all (λ n. not (is_in n (names_in_use d))) (b ∷ ns)) u in
    let u2 = and_parts (not (is_in b (names_in_use d))) (list_all (λ n. not (is_in n (names_in_use d))) ns) u1.1 in
    record {
      word_one = w1.0;
      word_two = w2.0;
      new_one = not_false (is_in a (names_in_use d)) u1.0;
      new_two = not_false (is_in b (names_in_use d)) u2.0;
      differ = q.0;
    }

two_unused : (d : Specification) → is_specification d ≡ true → 2 ≤ length (unused_below d 250)
two_unused d h =
    let a = length-filter_both (λ n. is_in n (names_in_use d)) (λ n. not (is_in n (names_in_use d))) (λ n. refl) candidates in
    let b = few_in (names_in_use d) candidates candidates_distinct in
    let c = few_names d h in
    let e = candidate_count in
    omega arith

pub names_are_new : (d : Specification) → is_specification d ≡ true → AreNew d (first_name d) (second_name d)
names_are_new d h =
    subst (λ (ns : List (List ℕ)). AreNew d (get_or ns 0 []) (get_or ns 1 [])) (all_unused d 250 refl)
    (first_two d (unused_below d 250) (two_unused d h) (distinct_fewer (λ n. not (is_in n (names_in_use d))) candidates candidates_distinct)
    (passed_too is_word_name (λ n. not (is_in n (names_in_use d))) candidates candidates_words) (passed (λ n. not (is_in n (names_in_use d))) candidates))
