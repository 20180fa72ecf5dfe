-- What is known behind some items is well formed, and how it stays so where it grows.
use Rattle.std.proofs.Common.{◌≡◌, ℕ, ◌<◌, ◌≤◌, Bool, true, false, ◌||◌, if◌then◌else◌, List, length, Option, None, Some, refl, sym, ◌∙◌, arith}
use Rattle.std.proofs.lemmas.Bool.{and_from}
use Rattle.std.specs.Prelude.{is_some}
use Rattle.std.specs.List.{list_all}
use Rattle.std.specs.Str.{bytes_eq}
use Rattle.spec_core.specs.Name.{is_word_name}
use Rattle.spec_core.specs.Specification.{Specification, token_places}
use Rattle.spec_core.specs.State.{is_in}
use Rattle.spec_core.specs.Typed.{is_relation, is_counter, is_token, is_rule, is_invariant, is_operation, all_distinct, global_names, is_specification}
use Rattle.spec_core.proofs.Parts.{Parts, few_token_places}
use Rattle.spec_trees.specs.declared.tree.Mark.{Mark}
use Rattle.typing_rules.specs.declared.meaning.Meaning.{Meaning}
use Rattle.typing_rules.specs.declared.which.Which.{Which}
use Rattle.typing_rules.specs.Fault.{twice_at, limit_at}
use Rattle.typing_rules.specs.Scope.{Names, with_name, declared_fault, sort_meant, relation_meant, counter_meant, token_meant}
use Rattle.typing_rules.specs.Items.{Known, scope_in, heading_fault}
use Rattle.typing_rules.proofs.Basics.{list_all-mono, otherwise_none, limit_none}
use Rattle.typing_rules.proofs.Extending.{Extends, relation_extends, counter_extends, token_extends, rule_extends, invariant_extends, operation_extends}
use Rattle.typing_rules.proofs.Elements.{NamesFit}
use Rattle.typing_rules.proofs.Distinct.{Inserted, in_inserted, distinct_inserted, all_inserted}

-- What is known is a well-formed specification; names mean what it has, and each name that it has means something.
pub record Well (k : Known) : Type 0 where
  pub parts : Parts k.design
  pub fit : NamesFit k.design k.names
  pub listed : (name : List ℕ) → is_in name (global_names k.design) ≡ true → is_some (k.names name) ≡ true

pub whole_of : (d : Specification) → Parts d → is_specification d ≡ true
whole_of d p =
    and_from _ _ (and_from _ _ (and_from _ _ (and_from _ _ (and_from _ _ (and_from _ _ (and_from _ _ (and_from _ _ (and_from _ _ (and_from _ _ (and_from _ _ (and_from _ _ (and_from _ _ (and_from _ _ (and_from _ _ (and_from _ _
    p.version p.sorts) p.consts) p.few_relations) p.relations) p.few_counters) p.counters) p.few_tokens) p.tokens) p.few_rules) p.rules) p.few_invariants) p.invariants) p.few_operations) p.operations) p.words) p.distinct

pub few_places_of : (d : Specification) → Parts d → (t : ℕ) → length (token_places d t) ≤ 3
few_places_of d p t = few_token_places d (whole_of d p) t

-- what a specification has stays typed in one that has more
pub record Kept (d e : Specification) : Type 0 where
  pub relations : list_all (is_relation e) d.relations ≡ true
  pub counters : list_all (is_counter e) d.counters ≡ true
  pub tokens : list_all (is_token e) d.tokens ≡ true
  pub rules : list_all (is_rule e) d.rules ≡ true
  pub invariants : list_all (is_invariant e) d.invariants ≡ true
  pub operations : list_all (is_operation e) d.operations ≡ true

pub kept : (d e : Specification) → Extends d e → Parts d → Kept d e
kept d e ext p = record {
  relations = list_all-mono (is_relation d) (is_relation e) (relation_extends d e ext) d.relations p.relations;
  counters = list_all-mono (is_counter d) (is_counter e) (counter_extends d e ext) d.counters p.counters;
  tokens = list_all-mono (is_token d) (is_token e) (token_extends d e ext) d.tokens p.tokens;
  rules = list_all-mono (is_rule d) (is_rule e) (rule_extends d e ext) d.rules p.rules;
  invariants = list_all-mono (is_invariant d) (is_invariant e) (invariant_extends d e ext) d.invariants p.invariants;
  operations = list_all-mono (is_operation d) (is_operation e) (operation_extends d e ext) d.operations p.operations;
}

-- ---- one more name

pub by_name : {A : Type 0} (f : Option Meaning → A) (P : A → Type 0) (names : Names) (m : List ℕ) (x : Meaning) (name : List ℕ) → P (f (Some x)) → P (f (names name)) → P (f (with_name names m x name))
by_name f P names m x name there other = by (bytes_eq name m)
  where
    by : (b : Bool) → P (f (if b then Some x else names name))
    by true = there
    by false = other

pub fit_more : (d e : Specification) → Extends d e → (names : Names) → NamesFit d names → NamesFit e names
fit_more d e ext names fit = record {
  sorts = λ name k h. (let p = fit.sorts name k h in let q = ext.sorts in omega arith);
  relations = λ name k h. (let p = fit.relations name k h in let q = ext.few_relations in omega arith);
  counters = λ name k h. (let p = fit.counters name k h in let q = ext.few_counters in omega arith);
  tokens = λ name k h. (let p = fit.tokens name k h in let q = ext.few_tokens in omega arith);
}

-- what one more name means is there
pub record MeaningFits (e : Specification) (x : Meaning) : Type 0 where
  pub sort : (k : ℕ) → sort_meant (Some x) ≡ Some k → k < length e.sorts
  pub relation : (k : ℕ) → relation_meant (Some x) ≡ Some k → k < length e.relations
  pub counter : (k : ℕ) → counter_meant (Some x) ≡ Some k → k < length e.counters
  pub token : (k : ℕ) → token_meant (Some x) ≡ Some k → k < length e.tokens

pub fit_named : (e : Specification) (names : Names) (m : List ℕ) (x : Meaning) → NamesFit e names → MeaningFits e x → NamesFit e (with_name names m x)
fit_named e names m x fit there = record {
  sorts = λ name k. by_name sort_meant (λ (o : Option ℕ). o ≡ Some k → k < length e.sorts) names m x name (there.sort k) (fit.sorts name k);
  relations = λ name k. by_name relation_meant (λ (o : Option ℕ). o ≡ Some k → k < length e.relations) names m x name (there.relation k) (fit.relations name k);
  counters = λ name k. by_name counter_meant (λ (o : Option ℕ). o ≡ Some k → k < length e.counters) names m x name (there.counter k) (fit.counters name k);
  tokens = λ name k. by_name token_meant (λ (o : Option ℕ). o ≡ Some k → k < length e.tokens) names m x name (there.token k) (fit.tokens name k);
}

-- names that are listed are known, where one more is
pub listed_named : (d e : Specification) (names : Names) (m : List ℕ) (x : Meaning) → Inserted m (global_names d) (global_names e)
    → ((name : List ℕ) → is_in name (global_names d) ≡ true → is_some (names name) ≡ true)
    → (name : List ℕ) → is_in name (global_names e) ≡ true → is_some (with_name names m x name) ≡ true
listed_named d e names m x i listed name h = by (bytes_eq name m) (sym (in_inserted i name) ∙ h)
  where
    by : (b : Bool) → (b || is_in name (global_names d)) ≡ true → is_some (if b then Some x else names name) ≡ true
    by true h = refl
    by false h = listed name h

-- ---- a name that isn't known yet

undeclared : (k : Known) (m : Mark) → declared_fault (scope_in k) m ≡ None → is_some (k.names m.text) ≡ false
undeclared k m h = by (is_some (k.names m.text)) h
  where
    by : (b : Bool) → (if b || false || false then twice_at m else None) ≡ None → b ≡ false
    by true h = absurd cc
    by false h = refl

pub fresh : (k : Known) (m : Mark) → Well k → declared_fault (scope_in k) m ≡ None → is_in m.text (global_names k.design) ≡ false
fresh k m w h = by (is_in m.text (global_names k.design)) refl
  where
    by : (b : Bool) → is_in m.text (global_names k.design) ≡ b → b ≡ false
    by false e = refl
    by true e = absurd (let p = w.listed m.text e in let q = undeclared k m h in cc)

pub distinct_more : (k : Known) (m : Mark) (e : Specification) → Well k → declared_fault (scope_in k) m ≡ None → Inserted m.text (global_names k.design) (global_names e) → all_distinct (global_names e) ≡ true
distinct_more k m e w h i = distinct_inserted i w.parts.distinct (fresh k m w h)

pub words_more : (k : Known) (m : Mark) (e : Specification) → Well k → is_word_name m.text ≡ true → Inserted m.text (global_names k.design) (global_names e) → list_all is_word_name (global_names e) ≡ true
words_more k m e w h i = all_inserted is_word_name i w.parts.words h

pub heading_parts : (k : Known) (which : Which) (most count : ℕ) (m : Mark) → heading_fault k which most count m ≡ None → (declared_fault (scope_in k) m ≡ None) × (count < most)
heading_parts k which most count m h =
    let q = otherwise_none (declared_fault (scope_in k) m) (limit_at which most count m.word) h in
    (q.0, limit_none which most count m.word q.1)
