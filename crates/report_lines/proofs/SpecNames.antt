-- The names of a specification are distinct words without spaces and line feeds.
use Rattle.std.proofs.Common.{◌≡◌, ℕ, zero, suc, ◌≤◌, length, lit≤, Bool, true, false, not, ◌||◌, List, [], ◌∷◌, ◌++◌, map, get_or, refl, subst}
use Rattle.std.specs.Prelude.{◌==◌, nat_le}
use Rattle.spec_core.specs.Limits.{most_relations, most_counters, most_operations}
use Rattle.std.specs.List.{list_all}
use Rattle.std.proofs.lemmas.Bool.{and_parts, and_from}
use Rattle.std.proofs.lemmas.Bool.Decides.{nat_tests}
use Rattle.std.proofs.Common.{arith}
use Rattle.std.proofs.lemmas.List.Folds.{list_all-append, list_any-append}
use Rattle.spec_core.specs.Name.{is_name_byte, is_letter, is_word, is_name, is_word_name}
use Rattle.spec_core.specs.Specification.{Specification}
use Rattle.spec_core.specs.State.{is_in}
use Rattle.spec_core.specs.Typed.{all_distinct, names_from_invariants, names_from_tokens, names_from_counters, names_from_relations, names_from_consts, global_names, is_specification}
use Rattle.spec_core.proofs.Parts.{parts_of}
use Rattle.std.specs.Str.{bytes_eq}
use Rattle.report_lines.specs.Words.{is_part}
use Rattle.report_lines.specs.Witnesses.{relation_names, counter_names, operation_names}

-- ---- distinct names

not_either : (a b : Bool) → not (a || b) ≡ true → not a ≡ true
not_either true b h = h
not_either false b h = refl

front_distinct : (xs bs : List (List ℕ)) → all_distinct (xs ++ bs) ≡ true → all_distinct xs ≡ true
front_distinct [] bs h = refl
front_distinct (a ∷ xs) bs h =
    let p = and_parts (not (is_in a (xs ++ bs))) (all_distinct (xs ++ bs)) h in
    let s : is_in a (xs ++ bs) ≡ (is_in a xs || is_in a bs) = list_any-append (bytes_eq a) xs bs in
    let n : not (is_in a xs || is_in a bs) ≡ true = subst (λ (b : Bool). not b ≡ true) s p.0 in
    and_from _ _ (not_either (is_in a xs) (is_in a bs) n) (front_distinct xs bs p.1)

back_distinct : (xs bs : List (List ℕ)) → all_distinct (xs ++ bs) ≡ true → all_distinct bs ≡ true
back_distinct [] bs h = h
back_distinct (a ∷ xs) bs h = back_distinct xs bs (and_parts (not (is_in a (xs ++ bs))) (all_distinct (xs ++ bs)) h).1

-- ---- words without spaces

name_byte_plain : (b : ℕ) → is_name_byte b ≡ true → not ((b == 32) || (b == 10)) ≡ true
name_byte_plain b h = grind (arith, nat_tests)

letter_plain : (b : ℕ) → is_letter b ≡ true → not ((b == 32) || (b == 10)) ≡ true
letter_plain b h = grind (arith, nat_tests)

bytes_plain : (bs : List ℕ) → list_all is_name_byte bs ≡ true → is_part bs ≡ true
bytes_plain [] h = refl
bytes_plain (b ∷ bs) h = let p = and_parts (is_name_byte b) (list_all is_name_byte bs) h in and_from _ _ (name_byte_plain b p.0) (bytes_plain bs p.1)

word_part : (w : List ℕ) → is_word w ≡ true → is_part w ≡ true
word_part [] h = refl
word_part (b ∷ bs) h = let p = and_parts (is_letter b) (list_all is_name_byte bs) h in and_from _ _ (letter_plain b p.0) (bytes_plain bs p.1)

names_part : (ns : List (List ℕ)) → list_all is_word_name ns ≡ true → list_all is_part ns ≡ true
names_part [] h = refl
names_part (n ∷ ns) h = let p = and_parts (is_word_name n) (list_all is_word_name ns) h in and_from _ _ (word_part n (and_parts (is_name n) (is_word n) p.0).1) (names_part ns p.1)

parts_front : (xs bs : List (List ℕ)) → list_all is_part (xs ++ bs) ≡ true → list_all is_part xs ≡ true
parts_front xs bs h = let s = list_all-append is_part xs bs in (and_parts (list_all is_part xs) (list_all is_part bs) (subst (λ (b : Bool). b ≡ true) s h)).0

parts_back : (xs bs : List (List ℕ)) → list_all is_part (xs ++ bs) ≡ true → list_all is_part bs ≡ true
parts_back xs bs h = let s = list_all-append is_part xs bs in (and_parts (list_all is_part xs) (list_all is_part bs) (subst (λ (b : Bool). b ≡ true) s h)).1

-- ---- the names of a specification, kind by kind

pub record Names (d : Specification) : Type 0 where
  pub relations : all_distinct (relation_names d) ≡ true
  pub counters : all_distinct (counter_names d) ≡ true
  pub operations : all_distinct (operation_names d) ≡ true
  pub sort_parts : list_all is_part d.sorts ≡ true
  pub const_parts : list_all is_part (map (λ c. c.name) d.consts) ≡ true
  pub relation_parts : list_all is_part (relation_names d) ≡ true
  pub counter_parts : list_all is_part (counter_names d) ≡ true
  pub invariant_parts : list_all is_part (map (λ i. i.name) d.invariants) ≡ true
  pub operation_parts : list_all is_part (operation_names d) ≡ true

pub names_of : (d : Specification) → is_specification d ≡ true → Names d
names_of d h =
    let p = parts_of d h in
    let consts = back_distinct d.sorts (names_from_consts d) p.distinct in
    let relations = back_distinct (map (λ c. c.name) d.consts) (names_from_relations d) consts in
    let counters = back_distinct (relation_names d) (names_from_counters d) relations in
    let tokens = back_distinct (counter_names d) (names_from_tokens d) counters in
    let invariants = back_distinct (map (λ t. t.name) d.tokens) (names_from_invariants d) tokens in
    let all = names_part (global_names d) p.words in
    let from_consts = parts_back d.sorts (names_from_consts d) all in
    let from_relations = parts_back (map (λ c. c.name) d.consts) (names_from_relations d) from_consts in
    let from_counters = parts_back (relation_names d) (names_from_counters d) from_relations in
    let from_tokens = parts_back (counter_names d) (names_from_tokens d) from_counters in
    let from_invariants = parts_back (map (λ t. t.name) d.tokens) (names_from_invariants d) from_tokens in
    record {
      relations = front_distinct (relation_names d) (names_from_counters d) relations;
      counters = front_distinct (counter_names d) (names_from_tokens d) counters;
      operations = back_distinct (map (λ i. i.name) d.invariants) (operation_names d) invariants;
      sort_parts = parts_front d.sorts (names_from_consts d) all;
      const_parts = parts_front (map (λ c. c.name) d.consts) (names_from_relations d) from_consts;
      relation_parts = parts_front (relation_names d) (names_from_counters d) from_relations;
      counter_parts = parts_front (counter_names d) (names_from_tokens d) from_counters;
      invariant_parts = parts_front (map (λ i. i.name) d.invariants) (operation_names d) from_invariants;
      operation_parts = parts_back (map (λ i. i.name) d.invariants) (operation_names d) from_invariants;
    }

-- ---- how many there are

small : (n most : ℕ) → nat_le n most ≡ true → most ≤ 255 → n ≤ 255
small n most h le = grind (arith, nat_tests)

pub few_relations : (d : Specification) → is_specification d ≡ true → length d.relations ≤ 255
few_relations d h = small (length d.relations) most_relations (parts_of d h).few_relations (lit≤ tt)

pub few_counters : (d : Specification) → is_specification d ≡ true → length d.counters ≤ 255
few_counters d h = small (length d.counters) most_counters (parts_of d h).few_counters (lit≤ tt)

pub few_operations : (d : Specification) → is_specification d ≡ true → length d.operations ≤ 255
few_operations d h = small (length d.operations) most_operations (parts_of d h).few_operations (lit≤ tt)

-- ---- one name

part_at : (ns : List (List ℕ)) (k : ℕ) → list_all is_part ns ≡ true → is_part (get_or ns k []) ≡ true
part_at [] k h = refl
part_at (n ∷ ns) zero h = (and_parts (is_part n) (list_all is_part ns) h).0
part_at (n ∷ ns) (suc k) h = part_at ns k (and_parts (is_part n) (list_all is_part ns) h).1

pub name_part : (ns : List (List ℕ)) (k : ℕ) → list_all is_part ns ≡ true → is_part (get_or ns k []) ≡ true
name_part ns k h = part_at ns k h
