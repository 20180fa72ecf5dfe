-- The bare specification and the keyed ones are well formed.
use Rattle.std.proofs.Common.{◌≡◌, ℕ, zero, suc, ◌+◌, ◌<◌, Bool, true, false, ◌&&◌, ◌==◌, List, [], ◌∷◌, ◌++◌, map, length, get_or, refl, sym, ◌∙◌, ap, subst, arith}
use Rattle.std.specs.Prelude.{nat_lt, nat_le, if◌then◌else◌, unwrap_or, slice_get, Option, Some, None}
use Rattle.std.specs.List.{list_all, flat_map}
use Rattle.std.specs.Str.{bytes_eq}
use Rattle.std.proofs.lemmas.Bool.{and_parts, and_from}
use Rattle.std.proofs.lemmas.Bool.Decides.{nat_tests}
use Rattle.std.proofs.lemmas.List.{length-map}
use Rattle.spec_core.specs.declared.operation.Kind.{Kind}
use Rattle.spec_core.specs.declared.operation.Kind.TheVariants.{Sort, Int}
use Rattle.spec_core.specs.declared.operation.Param.{Param}
use Rattle.spec_core.specs.declared.operation.Operation.{Operation}
use Rattle.spec_core.specs.declared.spec.Const.{Const}
use Rattle.spec_core.specs.declared.spec.Relation.{Relation}
use Rattle.spec_core.specs.declared.spec.Counter.{Counter}
use Rattle.spec_core.specs.declared.spec.Token.{Token}
use Rattle.spec_core.specs.declared.spec.Rule.{Rule}
use Rattle.spec_core.specs.declared.spec.Invariant.{Invariant}
use Rattle.spec_core.specs.Name.{is_word_name}
use Rattle.spec_core.specs.Specification.{Specification, no_operation, op_of}
use Rattle.spec_core.specs.State.{is_in}
use Rattle.spec_core.specs.Typed.{parameter_names, sort_of_kind, sort_of_param, is_sort, same_sort, is_kind, is_parameter, is_take, is_operation, global_names, names_from_invariants, all_distinct, is_specification}
use Rattle.spec_core.proofs.Lists.{list_all-within}
use Rattle.spec_core.proofs.Parts.{parts_of, operation_parts}
use Rattle.conflict_variants.specs.Takes.{with_takes}
use Rattle.conflict_variants.specs.Bare.{with_tokens, bare}
use Rattle.conflict_variants.specs.Keyed.{names_in_use, first_name, second_name, sort_of_parameter, CanBeKeyed, keyed_token, keyed_rule, keyed_take, keyed_takes, keyed_from, key_sort, keyed}
use Rattle.conflict_variants.proofs.TokenNames.{bare_names}
use Rattle.conflict_variants.proofs.Retyping.{invariants_kept, operation_kept}
use Rattle.conflict_variants.proofs.Distinct.{distinct_without, distinct_with, passed_without, passed_with, in_parts, in_neither, both_false}
use Rattle.conflict_variants.proofs.Enough.{AreNew, names_are_new}

-- ---- names

appended : (a b c : List (List ℕ)) → (a ++ b) ++ c ≡ a ++ (b ++ c)
appended [] b c = refl
appended (x ∷ a) b c = ap (λ l. x ∷ l) (appended a b c)

regrouped : (a b c e x : List (List ℕ)) → a ++ (b ++ (c ++ (e ++ x))) ≡ (a ++ (b ++ (c ++ e))) ++ x
regrouped a b c e x =
    ap (λ l. a ++ (b ++ l)) (sym (appended c e x)) ∙ ap (λ l. a ++ l) (sym (appended b (c ++ e) x)) ∙ sym (appended a (b ++ (c ++ e)) x)

-- the names before those of the tokens
abbrev before : Specification → List (List ℕ)
before d = d.sorts ++ (map (λ (c : Const). c.name) d.consts ++ (map (λ (r : Relation). r.name) d.relations ++ map (λ (c : Counter). c.name) d.counters))

names_are : (d : Specification) (ts : List Token) (rs : List Rule) (os : List Operation) → map (λ (o : Operation). o.name) os ≡ map (λ (o : Operation). o.name) d.operations
    → global_names (with_tokens d ts rs os) ≡ before d ++ (map (λ (t : Token). t.name) ts ++ names_from_invariants d)
names_are d ts rs os e =
    regrouped d.sorts (map (λ (c : Const). c.name) d.consts) (map (λ (r : Relation). r.name) d.relations) (map (λ (c : Counter). c.name) d.counters) (map (λ (t : Token). t.name) ts ++ (map (λ (i : Invariant). i.name) d.invariants ++ map (λ (o : Operation). o.name) os))
    ∙ ap (λ ns. before d ++ (map (λ (t : Token). t.name) ts ++ (map (λ (i : Invariant). i.name) d.invariants ++ ns))) e

module _ (d : Specification) (h : is_specification d ≡ true) where
  words_besides : list_all is_word_name (before d ++ names_from_invariants d) ≡ true
  words_besides =
      passed_without is_word_name (before d) (map (λ (t : Token). t.name) d.tokens) (names_from_invariants d)
      (sym (ap (list_all is_word_name) (names_are d d.tokens d.rules d.operations refl)) ∙ (parts_of d h).words)

  distinct_besides : all_distinct (before d ++ names_from_invariants d) ≡ true
  distinct_besides =
      distinct_without (before d) (map (λ (t : Token). t.name) d.tokens) (names_from_invariants d)
      (sym (ap all_distinct (names_are d d.tokens d.rules d.operations refl)) ∙ (parts_of d h).distinct)

  -- ---- the bare specification

  abbrev bares : List Operation
  bares = map (λ (o : Operation). with_takes o []) d.operations

  bares_kept : (os : List Operation) → list_all (is_operation d) os ≡ true → list_all (is_operation (bare d)) (map (λ (o : Operation). with_takes o []) os) ≡ true
  bares_kept [] k = refl
  bares_kept (o ∷ os) k =
      let a = and_parts (is_operation d o) (list_all (is_operation d) os) k in
      and_from (is_operation (bare d) (with_takes o [])) (list_all (is_operation (bare d)) (map (λ (o : Operation). with_takes o []) os))
      (operation_kept d [] [] bares o [] a.0 refl refl) (bares_kept os a.1)

  pub bare_well_formed : is_specification (bare d) ≡ true
  bare_well_formed =
      let p = parts_of d h in
      let count = ap (λ n. nat_le n 24) (length-map d.operations (λ (o : Operation). with_takes o [])) ∙ p.few_operations in
      let names = names_are d [] [] bares (bare_names d.operations) in
      let invariants = invariants_kept d [] [] bares d.invariants p.invariants in
      let operations = bares_kept d.operations p.operations in
      let words = ap (list_all is_word_name) names ∙ words_besides in
      let distinct = ap all_distinct names ∙ distinct_besides in
      λ i. p.version i && p.sorts i && p.consts i && p.few_relations i && p.relations i && p.few_counters i && p.counters i && true && true && true && true && p.few_invariants i && invariants i && count i && operations i && words i && distinct i

  -- ---- the keyed ones

  new_besides : (n : List ℕ) → is_in n (names_in_use d) ≡ false → is_in n (before d ++ names_from_invariants d) ≡ false
  new_besides n k = ap (is_in n) (sym (names_are d [] [] bares (bare_names d.operations))) ∙ (in_parts n (global_names (bare d)) (flat_map (λ (o : Operation). parameter_names o.params) d.operations) k).0

-- names of operations with keyed takes lines stay
keyed_names : (a p b q n : ℕ) (os : List Operation) → map (λ (o : Operation). o.name) (keyed_from a p b q n os) ≡ map (λ (o : Operation). o.name) os
keyed_names a p b q n [] = refl
keyed_names a p b q n (o ∷ os) = ap (λ ns. o.name ∷ ns) (keyed_names a p b q (suc n) os)

keyed_count : (a p b q n : ℕ) (os : List Operation) → length (keyed_from a p b q n os) ≡ length os
keyed_count a p b q n [] = refl
keyed_count a p b q n (o ∷ os) = ap suc (keyed_count a p b q (suc n) os)

same_number : (m n : ℕ) → (m == n) ≡ true → m ≡ n
same_number m n h = grind (arith, nat_tests)

number_itself : (n : ℕ) → (n == n) ≡ true
number_itself n = grind (arith, nat_tests)

below_is : (m n : ℕ) → m < n → nat_lt m n ≡ true
below_is m n h = grind (arith, nat_tests)

-- operations at their places, of which those with two numbers have a parameter of a sort
record AreKeyable (a p b q s n : ℕ) (os : List Operation) : Type 0 where
  first : (i : ℕ) → i < length os → n + i ≡ a → is_sort (sort_of_param (slice_get (get_or os i no_operation).params p)) s ≡ true
  second : (i : ℕ) → i < length os → n + i ≡ b → is_sort (sort_of_param (slice_get (get_or os i no_operation).params q)) s ≡ true

next_keyable : (a p b q s n : ℕ) (o : Operation) (os : List Operation) → AreKeyable a p b q s n (o ∷ os) → AreKeyable a p b q s (suc n) os
next_keyable a p b q s n o os k = record {
  first = λ i l e. k.first (suc i) (omega arith) (omega arith);
  second = λ i l e. k.second (suc i) (omega arith) (omega arith);
}

module _ (d : Specification) (s : ℕ) (one two : List ℕ) (os : List Operation) where
  abbrev tokens : List Token
  tokens = keyed_token one s ∷ keyed_token two s ∷ []

  abbrev made : Specification
  made = with_tokens d tokens (keyed_rule ∷ []) os

  take_typed : (ps : List Param) (t p : ℕ) → t < 2 → is_sort (sort_of_param (slice_get ps p)) s ≡ true → is_take made ps (keyed_take t p) ≡ true
  take_typed ps zero p l k = λ i. true && (k i && true) && true
  take_typed ps (suc zero) p l k = λ i. true && (k i && true) && true
  take_typed ps (suc (suc t)) p l k = absurd (omega (arith, l))

  -- the takes lines of an operation are few and typed
  takes_kept : (a p b q n : ℕ) (o : Operation) → is_operation d o ≡ true → (n ≡ a → is_sort (sort_of_param (slice_get o.params p)) s ≡ true)
      → (n ≡ b → is_sort (sort_of_param (slice_get o.params q)) s ≡ true) → is_operation made (with_takes o (keyed_takes a p b q n)) ≡ true
  takes_kept a p b q n o h f g = at (n == a) (n == b) refl refl
    where
      at : (x y : Bool) → (n == a) ≡ x → (n == b) ≡ y
          → is_operation made (with_takes o ((if x then keyed_take 0 p ∷ [] else []) ++ (if y then keyed_take 1 q ∷ [] else []))) ≡ true
      at true true e k =
          operation_kept d tokens (keyed_rule ∷ []) os o (keyed_take 0 p ∷ keyed_take 1 q ∷ []) h refl
          (λ i. take_typed o.params 0 p (omega arith) (f (same_number n a e)) i && (take_typed o.params 1 q (omega arith) (g (same_number n b k)) i && true))
      at true false e k = operation_kept d tokens (keyed_rule ∷ []) os o (keyed_take 0 p ∷ []) h refl (λ i. take_typed o.params 0 p (omega arith) (f (same_number n a e)) i && true)
      at false true e k = operation_kept d tokens (keyed_rule ∷ []) os o (keyed_take 1 q ∷ []) h refl (λ i. take_typed o.params 1 q (omega arith) (g (same_number n b k)) i && true)
      at false false e k = operation_kept d tokens (keyed_rule ∷ []) os o [] h refl refl

  operations_kept : (a p b q n : ℕ) (ls : List Operation) → list_all (is_operation d) ls ≡ true → AreKeyable a p b q s n ls → list_all (is_operation made) (keyed_from a p b q n ls) ≡ true
  operations_kept a p b q n [] h k = refl
  operations_kept a p b q n (o ∷ ls) h k =
      let c = and_parts (is_operation d o) (list_all (is_operation d) ls) h in
      and_from (is_operation made (with_takes o (keyed_takes a p b q n))) (list_all (is_operation made) (keyed_from a p b q (suc n) ls))
      (takes_kept a p b q n o c.0 (λ e. k.first 0 (omega arith) (omega (arith, e))) (λ e. k.second 0 (omega arith) (omega (arith, e))))
      (operations_kept a p b q (suc n) ls c.1 (next_keyable a p b q s n o ls k))

-- the two parameters have the sort of the key, which exists
record HaveSort (d : Specification) (a p b q : ℕ) : Type 0 where
  first : is_sort (sort_of_parameter d a p) (key_sort d a p) ≡ true
  second : is_sort (sort_of_parameter d b q) (key_sort d a p) ≡ true

have_sort : (d : Specification) (a p b q : ℕ) → CanBeKeyed d a p b q → HaveSort d a p b q
have_sort d a p b q can = at (sort_of_parameter d a p) (sort_of_parameter d b q) refl refl can.one_sort
  where
    at : (x y : Option ℕ) → sort_of_parameter d a p ≡ x → sort_of_parameter d b q ≡ y → same_sort x y ≡ true → HaveSort d a p b q
    at None y e f h = absurd cc
    at (Some s) y e f h = record {
      first = ap (λ o. is_sort o (unwrap_or o 0)) e ∙ number_itself s;
      second = (λ i. is_sort (f i) (unwrap_or (e i) 0)) ∙ h;
    }

sort_exists : (d : Specification) (ps : List Param) (p s : ℕ) → list_all (is_parameter d) ps ≡ true → is_sort (sort_of_param (slice_get ps p)) s ≡ true → nat_lt s (length d.sorts) ≡ true
sort_exists d [] p s h k = absurd cc
sort_exists d (x ∷ ps) zero s h k = at x.kind (and_parts (is_kind d x.kind) (is_word_name x.name) (and_parts (is_parameter d x) (list_all (is_parameter d) ps) h).0).0 k
  where
    at : (kind : Kind) → is_kind d kind ≡ true → is_sort (sort_of_kind kind) s ≡ true → nat_lt s (length d.sorts) ≡ true
    at (Sort t) h k = ap (λ n. nat_lt n (length d.sorts)) (sym (same_number t s k)) ∙ h
    at Int h k = absurd cc
sort_exists d (x ∷ ps) (suc p) s h k = sort_exists d ps p s (and_parts (is_parameter d x) (list_all (is_parameter d) ps) h).1 k

module _ (d : Specification) (a p b q : ℕ) (h : is_specification d ≡ true) (can : CanBeKeyed d a p b q) where
  abbrev sort : ℕ
  sort = key_sort d a p

  sorts : HaveSort d a p b q
  sorts = have_sort d a p b q can

  sort_is : nat_lt sort (length d.sorts) ≡ true
  sort_is =
      sort_exists d (op_of d a).params p sort
      (operation_parts d (op_of d a) (list_all-within (is_operation d) d.operations (parts_of d h).operations a no_operation (omega (arith, can.ordered, can.operation)))).params sorts.first

  keyable : AreKeyable a p b q sort 0 d.operations
  keyable = record {
    first = λ i l e. let k : a ≡ i = omega (arith, e) in subst (λ (n : ℕ). is_sort (sort_of_param (slice_get (get_or d.operations n no_operation).params p)) sort ≡ true) k sorts.first;
    second = λ i l e. let k : b ≡ i = omega (arith, e) in subst (λ (n : ℕ). is_sort (sort_of_param (slice_get (get_or d.operations n no_operation).params q)) sort ≡ true) k sorts.second;
  }

  abbrev ops : List Operation
  ops = keyed_from a p b q 0 d.operations

  abbrev two_tokens : List Token
  two_tokens = keyed_token (first_name d) sort ∷ keyed_token (second_name d) sort ∷ []

  names : global_names (keyed d a p b q) ≡ before d ++ (first_name d ∷ second_name d ∷ names_from_invariants d)
  names = names_are d two_tokens (keyed_rule ∷ []) ops (keyed_names a p b q 0 d.operations)

  new : AreNew d (first_name d) (second_name d)
  new = names_are_new d h

  words_kept : list_all is_word_name (before d ++ (first_name d ∷ second_name d ∷ names_from_invariants d)) ≡ true
  words_kept =
      passed_with is_word_name (before d) (first_name d ∷ second_name d ∷ []) (names_from_invariants d) (words_besides d h)
      (and_from (is_word_name (first_name d)) (is_word_name (second_name d) && true) new.word_one (and_from (is_word_name (second_name d)) true new.word_two refl))

  distinct_kept : all_distinct (before d ++ (first_name d ∷ second_name d ∷ names_from_invariants d)) ≡ true
  distinct_kept =
      let r = in_parts (first_name d) (before d) (names_from_invariants d) (new_besides d h (first_name d) new.new_one) in
      distinct_with (first_name d) (before d) (second_name d ∷ names_from_invariants d)
      (distinct_with (second_name d) (before d) (names_from_invariants d) (distinct_besides d h) (new_besides d h (second_name d) new.new_two))
      (in_neither (first_name d) (before d) (second_name d ∷ names_from_invariants d) r.0
      (both_false (bytes_eq (first_name d) (second_name d)) (is_in (first_name d) (names_from_invariants d)) new.differ r.1))

  pub keyed_well_formed : is_specification (keyed d a p b q) ≡ true
  keyed_well_formed =
      let w = parts_of d h in
      let count = ap (λ n. nat_le n 24) (keyed_count a p b q 0 d.operations) ∙ w.few_operations in
      let invariants = invariants_kept d two_tokens (keyed_rule ∷ []) ops d.invariants w.invariants in
      let operations = operations_kept d sort (first_name d) (second_name d) ops a p b q 0 d.operations w.operations keyable in
      let words = ap (list_all is_word_name) names ∙ words_kept in
      let distinct = ap all_distinct names ∙ distinct_kept in
      let is = sort_is in
      let same = number_itself sort in
      λ i. w.version i && w.sorts i && w.consts i && w.few_relations i && w.relations i && w.few_counters i && w.counters i
      && true && ((is i && true) && ((is i && true) && true))
      && true && (((same i && (same i && true)) && ((same i && (same i && true)) && true)) && true)
      && w.few_invariants i && invariants i && count i && operations i && words i && distinct i

-- ---- of their parts

pub bare_made_well_formed : (d : Specification) (ts : List Token) (rs : List Rule) (os : List Operation) → is_specification d ≡ true → ts ≡ [] → rs ≡ [] → os ≡ map (λ o. with_takes o []) d.operations
    → is_specification (with_tokens d ts rs os) ≡ true
bare_made_well_formed d ts rs os h e f g = ap is_specification (λ i. with_tokens d (e i) (f i) (g i)) ∙ bare_well_formed d h
