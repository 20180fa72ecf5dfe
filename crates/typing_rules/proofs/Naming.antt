-- The names that a tree of the grammar declares are words.
use Rattle.std.proofs.Common.{◌≡◌, ℕ, true, not, ◌&&◌, nat_le, List, [], ◌∷◌, ◌++◌, length, refl, subst, arith}
use Rattle.std.proofs.lemmas.Bool.{and_parts, and_from}
use Rattle.std.proofs.lemmas.Bool.Decides.{nat_tests}
use Rattle.std.specs.List.{AllByRecursion, list_all}
use Rattle.word_cut.specs.Texts.{is_name, is_reserved, is_long_name}
use Rattle.parser_combinators.specs.declared.token.Key.TheVariants as keys
use Rattle.parser_combinators.specs.declared.token.Symbol.{Symbol}
use Rattle.parser_combinators.specs.declared.token.Symbol.TheVariants as symbol
use Rattle.parser_combinators.specs.Texts.{is_word, AreWords}
use Rattle.parser_combinators.specs.Words.{Spelt, plain, sign, each, listed, group}
use Rattle.parser_combinators.proofs.Part.{plain-append}
use Rattle.spec_core.specs.Name.{is_word_name}
use Rattle.spec_core.specs.Name as core
use Rattle.spec_trees.specs.declared.tree.Param.{Param}
use Rattle.spec_trees.specs.Form.{ItemForm, sort_form, const_form, relation_form, counter_form, initially_form, token_form, conflict_form, invariant_form, operation_form, TreeForm}
use Rattle.spec_trees.specs.Spelling.{param, line, item}
use Rattle.spec_trees.specs.Trees.{IsTree}
use Rattle.typing_rules.proofs.Basics.{test_le}

-- ---- words

few : (n : ℕ) → not (nat_le 33 n) ≡ true → nat_le n 32 ≡ true
few n h = grind (arith, nat_tests)

pub word_named : (text : List ℕ) → is_word (symbol.Name text) ≡ true → is_word_name text ≡ true
word_named [] h = absurd cc
word_named (b ∷ bs) h =
    let p = and_parts (is_name (b ∷ bs)) (not (is_reserved (b ∷ bs)) && not (is_long_name (b ∷ bs))) h in
    let q = and_parts (not (is_reserved (b ∷ bs))) (not (is_long_name (b ∷ bs))) p.1 in
    let short : not (nat_le 33 (length (b ∷ bs))) ≡ true = subst (λ named. not (named && nat_le 33 (length (b ∷ bs))) ≡ true) p.0 q.1 in
    and_from (core.is_name (b ∷ bs)) (core.is_word (b ∷ bs)) (and_from (nat_le 1 (length (b ∷ bs))) (nat_le (length (b ∷ bs)) 32) (test_le 1 (length (b ∷ bs)) (omega arith)) (few (length (b ∷ bs)) short)) p.0

-- ---- words one behind the other

words_parts : (xs ys : List Symbol) → AreWords (xs ++ ys) → AreWords xs × AreWords ys
words_parts [] ys h = (tt, h)
words_parts (x ∷ xs) ys h = let p = words_parts xs ys h.1 in ((h.0, p.0), p.1)

spelt_parts : (xs ys : List Spelt) → AreWords (plain (xs ++ ys)) → AreWords (plain xs) × AreWords (plain ys)
spelt_parts xs ys h = words_parts (plain xs) (plain ys) (subst AreWords (plain-append xs ys) h)

-- ---- the names of parameters, of an item and of a tree

abbrev pub ParamsNamed : List Param → Type 0
ParamsNamed ps = list_all (λ (p : Param). is_word_name p.name.text) ps ≡ true

more_named : (ps : List Param) → AreWords (plain (each (λ (p : Param). sign keys.Comma ∷ param p) ps)) → ParamsNamed ps
more_named [] h = refl
more_named (p ∷ ps) h =
    let q = spelt_parts (sign keys.Comma ∷ param p) (each (λ (p : Param). sign keys.Comma ∷ param p) ps) h in
    and_from (is_word_name p.name.text) (list_all (λ (p : Param). is_word_name p.name.text) ps) (word_named p.name.text q.0.1.0) (more_named ps q.1)

group_named : (ps : List Param) → AreWords (plain (group param ps)) → ParamsNamed ps
group_named [] h = refl
group_named (p ∷ ps) h =
    let inner = (spelt_parts (listed param (p ∷ ps)) (sign keys.Close ∷ []) h.1).0 in
    let q = spelt_parts (param p) (each (λ (p : Param). sign keys.Comma ∷ param p) ps) inner in
    and_from (is_word_name p.name.text) (list_all (λ (p : Param). is_word_name p.name.text) ps) (word_named p.name.text q.0.0) (more_named ps q.1)

-- the names that an item declares are words
abbrev pub IsNamed : ItemForm → Type 0
IsNamed (sort_form w m) = is_word_name m.text ≡ true
IsNamed (const_form w m s) = is_word_name m.text ≡ true
IsNamed (relation_form w m ps) = is_word_name m.text ≡ true
IsNamed (counter_form w m ps) = is_word_name m.text ≡ true
IsNamed (initially_form w m v) = Unit {0}
IsNamed (token_form w m ps) = is_word_name m.text ≡ true
IsNamed (conflict_form w p q) = Unit {0}
IsNamed (invariant_form w m s) = is_word_name m.text ≡ true
IsNamed (operation_form w m ps ls) = (is_word_name m.text ≡ true) × ParamsNamed ps

item_named : (i : ItemForm) → AreWords (plain (item i)) → IsNamed i
item_named (sort_form w m) h = word_named m.text h.1.0
item_named (const_form w m s) h = word_named m.text h.1.0
item_named (relation_form w m ps) h = word_named m.text h.1.0
item_named (counter_form w m ps) h = word_named m.text h.1.0
item_named (initially_form w m v) h = tt
item_named (token_form w m ps) h = word_named m.text h.1.0
item_named (conflict_form w p q) h = tt
item_named (invariant_form w m s) h = word_named m.text h.1.0
item_named (operation_form w m ps ls) h = (word_named m.text h.1.0, group_named ps (spelt_parts (group param ps) (each line ls ++ sign keys.End ∷ []) h.1.1).0)

items_named : (is : List ItemForm) → AreWords (plain (each item is)) → AllByRecursion IsNamed is
items_named [] h = tt
items_named (i ∷ is) h = let q = spelt_parts (item i) (each item is) h in (item_named i q.0, items_named is q.1)

pub tree_named : (t : TreeForm) → IsTree t → AllByRecursion IsNamed t.items
tree_named t h = items_named t.items h.1.1.1
