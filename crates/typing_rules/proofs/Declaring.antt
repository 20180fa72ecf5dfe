-- Sorts, constants, relations, counters and tokens without a fault leave what is known well formed.
use Rattle.std.proofs.Common.{◌≡◌, ℕ, zero, suc, ◌+◌, ◌<◌, ◌≤◌, Bool, true, false, ◌&&◌, ◌==◌, nat_lt, nat_le, if◌then◌else◌, List, [], ◌∷◌, ◌++◌, length, map, Option, None, Some, refl, sym, ◌∙◌, ap, subst, arith}
use Rattle.std.proofs.lemmas.Bool.{and_from, and_parts}
use Rattle.std.proofs.lemmas.Bool.Decides.{nat_tests}
use Rattle.std.proofs.lemmas.List.{length-append, length-map, get_or_append_left}
use Rattle.std.proofs.lemmas.List.Folds.{list_all-map}
use Rattle.std.proofs.lemmas.List.Sums.{sum_by-append}
use Rattle.std.specs.Prelude.{slice_get, option_map, count_by, unwrap_or}
use Rattle.std.specs.List.{list_all}
use Rattle.spec_core.specs.declared.spec.Const.{Const as Constant}
use Rattle.spec_core.specs.declared.spec.Relation.{Relation}
use Rattle.spec_core.specs.declared.spec.Counter.{Counter}
use Rattle.spec_core.specs.declared.spec.Token.{Token}
use Rattle.spec_core.specs.Name.{is_word_name}
use Rattle.spec_core.specs.Specification.{Specification, no_relation, no_counter, no_token}
use Rattle.spec_core.specs.World.{below}
use Rattle.spec_core.specs.Typed.{are_sorts, is_relation, is_counter, is_token, consts_typed, names_from_consts, names_from_relations, names_from_counters, names_from_tokens, names_from_invariants, global_names}
use Rattle.spec_trees.specs.declared.tree.Mark.{Mark}
use Rattle.typing_rules.specs.declared.meaning.Meaning.TheVariants as meaning
use Rattle.typing_rules.specs.declared.which.Which.TheVariants as which
use Rattle.typing_rules.specs.Fault.{◌otherwise◌, limit_at}
use Rattle.typing_rules.specs.Scope.{Scope, declared_fault, sort_meant, sort_fault, sort_number}
use Rattle.typing_rules.specs.Items.{place_number, Known, scope_in, heading_fault, place_fault, sorts_fault, sort_numbers, sort_item_fault, with_sort, few_consts_fault, const_fault, const_of, with_const, relation_fault, relation_of, with_relation, counter_fault, counter_of, with_counter, token_fault, token_of, with_token}
use Rattle.typing_rules.proofs.Basics.{list_all-mono, test_le, tested_le, below_more, same_number, otherwise_none, limit_none, first_none, first_few, list_all-more, few_more}
use Rattle.typing_rules.proofs.Extending.{Extends}
use Rattle.typing_rules.proofs.Formulas.{sort_is, sort_below}
use Rattle.typing_rules.proofs.Distinct.{Inserted, put_in_front, one_more_name, one_more_named}
use Rattle.typing_rules.proofs.Knowing.{Well, kept, fit_more, fit_named, listed_named, words_more, distinct_more, heading_parts}

longer : {X : Type 0} (xs : List X) (x : X) → length (xs ++ x ∷ []) ≡ suc (length xs)
longer xs x = let e = length-append xs (x ∷ []) in omega arith

no_shorter : {X : Type 0} (xs : List X) (x : X) → length xs ≤ length (xs ++ x ∷ [])
no_shorter xs x = let e = length-append xs (x ∷ []) in omega arith

last_below : {X : Type 0} (xs : List X) (x : X) (k : ℕ) → Some (length xs) ≡ Some k → k < length (xs ++ x ∷ [])
last_below xs x k h = let e : length xs ≡ k = cc in let f = length-append xs (x ∷ []) in omega arith

-- ---- sorts

not_last : (a n : ℕ) → nat_lt a n ≡ true → ◌≡◌ {A = ℕ} (if a == n then 1 else 0) 0
not_last a n h = grind (arith, nat_tests)

-- no constant has a sort that is new
count_none : (n : ℕ) (cs : List Constant) → list_all (λ (c : Constant). nat_lt c.sort n) cs ≡ true → count_by (λ (c : Constant). c.sort == n) cs ≡ 0
count_none n [] h = refl
count_none n (c ∷ cs) h =
    let q = and_parts (nat_lt c.sort n) (list_all (λ (c : Constant). nat_lt c.sort n) cs) h in
    let one = not_last c.sort n q.0 in
    let rest = count_none n cs q.1 in
    let e = sum_by-append (λ (c : Constant). if c.sort == n then 1 else 0) (c ∷ []) cs in
    omega arith

sorts_more : (cs : List Constant) (sorts : List (List ℕ)) (m : List ℕ)
    → (list_all (λ (c : Constant). nat_lt c.sort (length sorts)) cs && list_all (λ s. nat_le (count_by (λ (c : Constant). c.sort == s) cs) 4) (below (length sorts))) ≡ true
    → (list_all (λ (c : Constant). nat_lt c.sort (length (sorts ++ m ∷ []))) cs && list_all (λ s. nat_le (count_by (λ (c : Constant). c.sort == s) cs) 4) (below (length (sorts ++ m ∷ [])))) ≡ true
sorts_more cs sorts m h =
    let q = and_parts (list_all (λ (c : Constant). nat_lt c.sort (length sorts)) cs) (list_all (λ s. nat_le (count_by (λ (c : Constant). c.sort == s) cs) 4) (below (length sorts))) h in
    and_from (list_all (λ (c : Constant). nat_lt c.sort (length (sorts ++ m ∷ []))) cs) (list_all (λ s. nat_le (count_by (λ (c : Constant). c.sort == s) cs) 4) (below (length (sorts ++ m ∷ []))))
    (list_all-mono (λ (c : Constant). nat_lt c.sort (length sorts)) (λ (c : Constant). nat_lt c.sort (length (sorts ++ m ∷ []))) (λ c. below_more c.sort (length sorts) (length (sorts ++ m ∷ [])) (no_shorter sorts m)) cs q.0)
    (subst (λ n. list_all (λ s. nat_le (count_by (λ (c : Constant). c.sort == s) cs) 4) (below n) ≡ true) (sym (longer sorts m))
    (list_all-more (λ s. nat_le (count_by (λ (c : Constant). c.sort == s) cs) 4) (below (length sorts)) (length sorts) q.1
    (ap (λ n. nat_le n 4) (count_none (length sorts) cs q.0))))

module _ (k : Known) (m : Mark) where
  sort_extends : Extends k.design (with_sort k m).design
  sort_extends = record {
    version = refl;
    sorts = no_shorter k.design.sorts m.text;
    consts = λ n s h. h;
    few_relations = omega arith;
    relations = λ n lt. refl;
    few_counters = omega arith;
    counters = λ n lt. refl;
    few_tokens = omega arith;
    tokens = λ n lt. refl;
  }

  pub sort_well : Well k → is_word_name m.text ≡ true → sort_item_fault k m ≡ None → Well (with_sort k m)
  sort_well w word h =
      let q = heading_parts k which.Sorts 8 (length k.design.sorts) m h in
      let p = w.parts in
      let old = kept k.design (with_sort k m).design sort_extends p in
      let i : Inserted m.text (global_names k.design) (global_names (with_sort k m).design) = one_more_name k.design.sorts m.text (names_from_consts k.design) in
      record {
        parts = record {
          version = p.version;
          sorts = few_more k.design.sorts m.text 8 q.1;
          consts = sorts_more k.design.consts k.design.sorts m.text p.consts;
          few_relations = p.few_relations;
          relations = old.relations;
          few_counters = p.few_counters;
          counters = old.counters;
          few_tokens = p.few_tokens;
          tokens = old.tokens;
          few_rules = p.few_rules;
          rules = old.rules;
          few_invariants = p.few_invariants;
          invariants = old.invariants;
          few_operations = p.few_operations;
          operations = old.operations;
          words = words_more k m (with_sort k m).design w word i;
          distinct = distinct_more k m (with_sort k m).design w q.0 i;
        };
        fit = fit_named (with_sort k m).design k.names m.text (meaning.Sort (length k.design.sorts)) (fit_more k.design (with_sort k m).design sort_extends k.names w.fit)
            (record { sort = λ j e. last_below k.design.sorts m.text j e; relation = λ j e. absurd cc; counter = λ j e. absurd cc; token = λ j e. absurd cc });
        listed = listed_named k.design (with_sort k m).design k.names m.text (meaning.Sort (length k.design.sorts)) i w.listed;
      }

-- ---- constants

consts_more : (cs : List Constant) (c : Constant) (n s : ℕ) → option_map (λ (c : Constant). c.sort) (slice_get cs n) ≡ Some s → option_map (λ (c : Constant). c.sort) (slice_get (cs ++ c ∷ []) n) ≡ Some s
consts_more [] c n s h = absurd cc
consts_more (x ∷ cs) c zero s h = h
consts_more (x ∷ cs) c (suc n) s h = consts_more cs c n s h

count_more : (cs : List Constant) (c : Constant) (s : ℕ) → count_by (λ (x : Constant). x.sort == c.sort) cs < 4 → nat_le (count_by (λ (x : Constant). x.sort == s) cs) 4 ≡ true
    → nat_le (count_by (λ (x : Constant). x.sort == s) (cs ++ c ∷ [])) 4 ≡ true
count_more cs c s lt h = test_le (count_by (λ (x : Constant). x.sort == s) (cs ++ c ∷ [])) 4 (let e = sum_by-append (λ (x : Constant). if x.sort == s then 1 else 0) cs (c ∷ []) in let f = by (c.sort == s) refl in omega arith)
  where
    by : (b : Bool) → (c.sort == s) ≡ b → count_by (λ (x : Constant). x.sort == s) cs + (if b then 1 else 0) ≤ 4
    by true e = let f : count_by (λ (x : Constant). x.sort == s) cs < 4 = subst (λ n. count_by (λ (x : Constant). x.sort == n) cs < 4) (same_number c.sort s e) lt in omega arith
    by false e = let f = tested_le (count_by (λ (x : Constant). x.sort == s) cs) 4 h in omega arith

consts_typed_more : (d : Specification) (c : Constant) → consts_typed d ≡ true → nat_lt c.sort (length d.sorts) ≡ true → count_by (λ (x : Constant). x.sort == c.sort) d.consts < 4
    → consts_typed (record d { consts = d.consts ++ c ∷ [] }) ≡ true
consts_typed_more d c h there lt =
    let q = and_parts (list_all (λ (c : Constant). nat_lt c.sort (length d.sorts)) d.consts) (list_all (λ s. nat_le (count_by (λ (c : Constant). c.sort == s) d.consts) 4) (below (length d.sorts))) h in
    and_from (list_all (λ (c : Constant). nat_lt c.sort (length d.sorts)) (d.consts ++ c ∷ [])) (list_all (λ s. nat_le (count_by (λ (x : Constant). x.sort == s) (d.consts ++ c ∷ [])) 4) (below (length d.sorts)))
    (list_all-more (λ (c : Constant). nat_lt c.sort (length d.sorts)) d.consts c q.0 there)
    (list_all-mono (λ s. nat_le (count_by (λ (x : Constant). x.sort == s) d.consts) 4) (λ s. nat_le (count_by (λ (x : Constant). x.sort == s) (d.consts ++ c ∷ [])) 4) (λ s. count_more d.consts c s lt) (below (length d.sorts)) q.1)

few_consts : (d : Specification) (m : Mark) (o : Option ℕ) (j : ℕ) → o ≡ Some j → few_consts_fault d m o ≡ None → count_by (λ (x : Constant). x.sort == unwrap_or o 0) d.consts < 4
few_consts d m None j e h = absurd cc
few_consts d m (Some s) j e h = limit_none which.Constants 4 (count_by (λ (x : Constant). x.sort == s) d.consts) m.word h

module _ (k : Known) (m s : Mark) where
  const_extends : Extends k.design (with_const k m s).design
  const_extends = record {
    version = refl;
    sorts = omega arith;
    consts = λ n j h. consts_more k.design.consts (const_of k m s) n j h;
    few_relations = omega arith;
    relations = λ n lt. refl;
    few_counters = omega arith;
    counters = λ n lt. refl;
    few_tokens = omega arith;
    tokens = λ n lt. refl;
  }

  pub const_well : Well k → is_word_name m.text ≡ true → const_fault k m s ≡ None → Well (with_const k m s)
  const_well w word h =
      let q = otherwise_none (declared_fault (scope_in k) m) (few_consts_fault k.design m (sort_meant (k.names s.text)) otherwise sort_fault (scope_in k) m.text s) h in
      let r = otherwise_none (few_consts_fault k.design m (sort_meant (k.names s.text))) (sort_fault (scope_in k) m.text s) q.1 in
      let sort = sort_is (scope_in k) m.text s r.1 in
      let p = w.parts in
      let old = kept k.design (with_const k m s).design const_extends p in
      let i : Inserted m.text (global_names k.design) (global_names (with_const k m s).design) = put_in_front k.design.sorts (one_more_named (λ (c : Constant). c.name) k.design.consts (const_of k m s) (names_from_relations k.design)) in
      record {
        parts = record {
          version = p.version;
          sorts = p.sorts;
          consts = consts_typed_more k.design (const_of k m s) p.consts (sort_below k.design k.names w.fit s sort.0 sort.1) (few_consts k.design m (sort_meant (k.names s.text)) sort.0 sort.1 r.0);
          few_relations = p.few_relations;
          relations = old.relations;
          few_counters = p.few_counters;
          counters = old.counters;
          few_tokens = p.few_tokens;
          tokens = old.tokens;
          few_rules = p.few_rules;
          rules = old.rules;
          few_invariants = p.few_invariants;
          invariants = old.invariants;
          few_operations = p.few_operations;
          operations = old.operations;
          words = words_more k m (with_const k m s).design w word i;
          distinct = distinct_more k m (with_const k m s).design w q.0 i;
        };
        fit = fit_named (with_const k m s).design k.names m.text (meaning.Const (place_number (length k.design.consts))) (fit_more k.design (with_const k m s).design const_extends k.names w.fit)
            (record { sort = λ j e. absurd cc; relation = λ j e. absurd cc; counter = λ j e. absurd cc; token = λ j e. absurd cc });
        listed = listed_named k.design (with_const k m s).design k.names m.text (meaning.Const (place_number (length k.design.consts))) i w.listed;
      }

-- ---- relations, counters and tokens

place_few : (sc : Scope) (own : List ℕ) (most n : ℕ) (m : Mark) → place_fault sc own most n m ≡ None → n < most
place_few sc own most n m h = limit_none which.Places most n m.word (otherwise_none (sort_fault sc own m) (limit_at which.Places most n m.word) h).1

place_sorted : (k : Known) → Well k → (own : List ℕ) (most n : ℕ) (m : Mark) → place_fault (scope_in k) own most n m ≡ None → nat_lt (sort_number k.names m) (length k.design.sorts) ≡ true
place_sorted k w own most n m h =
    let q = sort_is (scope_in k) own m (otherwise_none (sort_fault (scope_in k) own m) (limit_at which.Places most n m.word) h).0 in
    sort_below k.design k.names w.fit m q.0 q.1

places_typed : (k : Known) → Well k → (own : List ℕ) (most : ℕ) (ms : List Mark) → sorts_fault (scope_in k) own most ms ≡ None → are_sorts k.design most (sort_numbers k.names ms) ≡ true
places_typed k w own most ms h =
    let few : 0 + length ms ≤ most = first_few (place_fault (scope_in k) own most) most (place_few (scope_in k) own most) 0 ms (omega arith) h in
    let long : length (sort_numbers k.names ms) ≡ length ms = length-map ms (sort_number k.names) in
    and_from (nat_le (length (sort_numbers k.names ms)) most) (list_all (λ s. nat_lt s (length k.design.sorts)) (sort_numbers k.names ms))
    (test_le (length (sort_numbers k.names ms)) most (omega arith))
    (list_all-map (λ s. nat_lt s (length k.design.sorts)) (sort_number k.names) ms
    ∙ first_none (place_fault (scope_in k) own most) (λ m. nat_lt (sort_number k.names m) (length k.design.sorts)) (place_sorted k w own most) 0 ms h)

module _ (k : Known) (m : Mark) (ps : List Mark) where
  relation_extends : Extends k.design (with_relation k m ps).design
  relation_extends = record {
    version = refl;
    sorts = omega arith;
    consts = λ n s h. h;
    few_relations = no_shorter k.design.relations (relation_of k m ps);
    relations = λ n lt. ap (λ (r : Relation). r.places) (sym (get_or_append_left k.design.relations (relation_of k m ps ∷ []) no_relation n lt));
    few_counters = omega arith;
    counters = λ n lt. refl;
    few_tokens = omega arith;
    tokens = λ n lt. refl;
  }

  pub relation_well : Well k → is_word_name m.text ≡ true → relation_fault k m ps ≡ None → Well (with_relation k m ps)
  relation_well w word h =
      let a = otherwise_none (heading_fault k which.Relations 16 (length k.design.relations) m) (sorts_fault (scope_in k) m.text 3 ps) h in
      let q = heading_parts k which.Relations 16 (length k.design.relations) m a.0 in
      let p = w.parts in
      let e = (with_relation k m ps).design in
      let old = kept k.design e relation_extends p in
      let i : Inserted m.text (global_names k.design) (global_names e) = put_in_front k.design.sorts (put_in_front (map (λ (c : Constant). c.name) k.design.consts) (one_more_named (λ (r : Relation). r.name) k.design.relations (relation_of k m ps) (names_from_counters k.design))) in
      record {
        parts = record {
          version = p.version;
          sorts = p.sorts;
          consts = p.consts;
          few_relations = few_more k.design.relations (relation_of k m ps) 16 q.1;
          relations = list_all-more (is_relation e) k.design.relations (relation_of k m ps) old.relations (places_typed k w m.text 3 ps a.1);
          few_counters = p.few_counters;
          counters = old.counters;
          few_tokens = p.few_tokens;
          tokens = old.tokens;
          few_rules = p.few_rules;
          rules = old.rules;
          few_invariants = p.few_invariants;
          invariants = old.invariants;
          few_operations = p.few_operations;
          operations = old.operations;
          words = words_more k m e w word i;
          distinct = distinct_more k m e w q.0 i;
        };
        fit = fit_named e k.names m.text (meaning.Relation (length k.design.relations)) (fit_more k.design e relation_extends k.names w.fit)
            (record { sort = λ j f. absurd cc; relation = λ j f. last_below k.design.relations (relation_of k m ps) j f; counter = λ j f. absurd cc; token = λ j f. absurd cc });
        listed = listed_named k.design e k.names m.text (meaning.Relation (length k.design.relations)) i w.listed;
      }

  counter_extends : Extends k.design (with_counter k m ps).design
  counter_extends = record {
    version = refl;
    sorts = omega arith;
    consts = λ n s h. h;
    few_relations = omega arith;
    relations = λ n lt. refl;
    few_counters = no_shorter k.design.counters (counter_of k m ps);
    counters = λ n lt. ap (λ (c : Counter). c.keys) (sym (get_or_append_left k.design.counters (counter_of k m ps ∷ []) no_counter n lt));
    few_tokens = omega arith;
    tokens = λ n lt. refl;
  }

  pub counter_well : Well k → is_word_name m.text ≡ true → counter_fault k m ps ≡ None → Well (with_counter k m ps)
  counter_well w word h =
      let a = otherwise_none (heading_fault k which.Counters 8 (length k.design.counters) m) (sorts_fault (scope_in k) m.text 2 ps) h in
      let q = heading_parts k which.Counters 8 (length k.design.counters) m a.0 in
      let p = w.parts in
      let e = (with_counter k m ps).design in
      let old = kept k.design e counter_extends p in
      let i : Inserted m.text (global_names k.design) (global_names e) = put_in_front k.design.sorts (put_in_front (map (λ (c : Constant). c.name) k.design.consts) (put_in_front (map (λ (r : Relation). r.name) k.design.relations)
      (one_more_named (λ (c : Counter). c.name) k.design.counters (counter_of k m ps) (names_from_tokens k.design)))) in
      record {
        parts = record {
          version = p.version;
          sorts = p.sorts;
          consts = p.consts;
          few_relations = p.few_relations;
          relations = old.relations;
          few_counters = few_more k.design.counters (counter_of k m ps) 8 q.1;
          counters = list_all-more (is_counter e) k.design.counters (counter_of k m ps) old.counters (and_from (are_sorts k.design 2 (sort_numbers k.names ps)) true (places_typed k w m.text 2 ps a.1) refl);
          few_tokens = p.few_tokens;
          tokens = old.tokens;
          few_rules = p.few_rules;
          rules = old.rules;
          few_invariants = p.few_invariants;
          invariants = old.invariants;
          few_operations = p.few_operations;
          operations = old.operations;
          words = words_more k m e w word i;
          distinct = distinct_more k m e w q.0 i;
        };
        fit = fit_named e k.names m.text (meaning.Counter (length k.design.counters)) (fit_more k.design e counter_extends k.names w.fit)
            (record { sort = λ j f. absurd cc; relation = λ j f. absurd cc; counter = λ j f. last_below k.design.counters (counter_of k m ps) j f; token = λ j f. absurd cc });
        listed = listed_named k.design e k.names m.text (meaning.Counter (length k.design.counters)) i w.listed;
      }

  token_extends : Extends k.design (with_token k m ps).design
  token_extends = record {
    version = refl;
    sorts = omega arith;
    consts = λ n s h. h;
    few_relations = omega arith;
    relations = λ n lt. refl;
    few_counters = omega arith;
    counters = λ n lt. refl;
    few_tokens = no_shorter k.design.tokens (token_of k m ps);
    tokens = λ n lt. ap (λ (t : Token). t.places) (sym (get_or_append_left k.design.tokens (token_of k m ps ∷ []) no_token n lt));
  }

  pub token_well : Well k → is_word_name m.text ≡ true → token_fault k m ps ≡ None → Well (with_token k m ps)
  token_well w word h =
      let a = otherwise_none (heading_fault k which.Tokens 16 (length k.design.tokens) m) (sorts_fault (scope_in k) m.text 3 ps) h in
      let q = heading_parts k which.Tokens 16 (length k.design.tokens) m a.0 in
      let p = w.parts in
      let e = (with_token k m ps).design in
      let old = kept k.design e token_extends p in
      let i : Inserted m.text (global_names k.design) (global_names e) = put_in_front k.design.sorts (put_in_front (map (λ (c : Constant). c.name) k.design.consts) (put_in_front (map (λ (r : Relation). r.name) k.design.relations)
      (put_in_front (map (λ (c : Counter). c.name) k.design.counters) (one_more_named (λ (t : Token). t.name) k.design.tokens (token_of k m ps) (names_from_invariants k.design))))) in
      record {
        parts = record {
          version = p.version;
          sorts = p.sorts;
          consts = p.consts;
          few_relations = p.few_relations;
          relations = old.relations;
          few_counters = p.few_counters;
          counters = old.counters;
          few_tokens = few_more k.design.tokens (token_of k m ps) 16 q.1;
          tokens = list_all-more (is_token e) k.design.tokens (token_of k m ps) old.tokens (places_typed k w m.text 3 ps a.1);
          few_rules = p.few_rules;
          rules = old.rules;
          few_invariants = p.few_invariants;
          invariants = old.invariants;
          few_operations = p.few_operations;
          operations = old.operations;
          words = words_more k m e w word i;
          distinct = distinct_more k m e w q.0 i;
        };
        fit = fit_named e k.names m.text (meaning.Token (length k.design.tokens)) (fit_more k.design e token_extends k.names w.fit)
            (record { sort = λ j f. absurd cc; relation = λ j f. absurd cc; counter = λ j f. absurd cc; token = λ j f. last_below k.design.tokens (token_of k m ps) j f });
        listed = listed_named k.design e k.names m.text (meaning.Token (length k.design.tokens)) i w.listed;
      }
