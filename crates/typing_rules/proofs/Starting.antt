-- Initial values without a fault leave what is known well formed.
use Rattle.std.proofs.Common.{◌≡◌, ℕ, ◌-◌, ℤ, Bool, true, false, ◌==◌, if◌then◌else◌, List, [], ◌∷◌, ◌++◌, length, get_or, map, Option, None, Some, refl, sym, ◌∙◌, ap, arith}
use Rattle.std.proofs.lemmas.Bool.{and_from, and_parts}
use Rattle.std.proofs.lemmas.List.{length-map}
use Rattle.std.proofs.Math.ListN.{get_or-map}
use Rattle.std.specs.Prelude.{is_some}
use Rattle.std.specs.List.{list_all}
use Rattle.spec_core.specs.declared.spec.Const.{Const as Constant}
use Rattle.spec_core.specs.declared.spec.Relation.{Relation}
use Rattle.spec_core.specs.declared.spec.Counter.{Counter}
use Rattle.spec_core.specs.Name.{is_word_name}
use Rattle.spec_core.specs.Specification.{Specification, no_relation, no_counter}
use Rattle.spec_core.specs.State.{is_in}
use Rattle.spec_core.specs.Fits.{in_literal_range}
use Rattle.spec_core.specs.Typed.{are_sorts, is_relation, is_counter, all_distinct, names_from_counters, names_from_tokens, global_names}
use Rattle.spec_trees.specs.declared.tree.Mark.{Mark}
use Rattle.spec_trees.specs.declared.tree.Value.{Value}
use Rattle.spec_trees.specs.declared.tree.Value.TheVariants as values
use Rattle.typing_rules.specs.declared.meaning.Meaning.{Meaning}
use Rattle.typing_rules.specs.declared.meaning.Meaning.TheVariants as meaning
use Rattle.typing_rules.specs.Scope.{Names}
use Rattle.typing_rules.specs.Items.{Known, truth_of, number_of, initial_truth, initial_number, initial_design, with_initial}
use Rattle.typing_rules.proofs.Basics.{test_le, tested_le}
use Rattle.typing_rules.proofs.Extending.{Extends}
use Rattle.typing_rules.proofs.Elements.{literal_range}
use Rattle.typing_rules.proofs.Knowing.{Well, kept, fit_more}

-- ---- relations

truth_same : {A : Type 0} (g : Relation → A) → ((r : Relation) (b : Bool) → g (record r { initial = b }) ≡ g r) → (rs : List Relation) (n : ℕ) (b : Bool) → map g (initial_truth rs n b) ≡ map g rs
truth_same g same [] n b = refl
truth_same g same (r ∷ rs) n b = by (n == 0) (truth_same g same rs (n - 1) b)
  where
    by : (c : Bool) → map g (initial_truth rs (n - 1) b) ≡ map g rs → map g (if c then record r { initial = b } ∷ rs else r ∷ initial_truth rs (n - 1) b) ≡ g r ∷ map g rs
    by true rest = ap (λ x. x ∷ map g rs) (same r b)
    by false rest = ap (λ xs. g r ∷ xs) rest

truth_all : (p : Relation → Bool) → ((r : Relation) (b : Bool) → p r ≡ true → p (record r { initial = b }) ≡ true) → (rs : List Relation) (n : ℕ) (b : Bool) → list_all p rs ≡ true → list_all p (initial_truth rs n b) ≡ true
truth_all p still [] n b h = refl
truth_all p still (r ∷ rs) n b h = by (n == 0) (truth_all p still rs (n - 1) b q.1)
  where
    q : (p r ≡ true) × (list_all p rs ≡ true)
    q = and_parts (p r) (list_all p rs) h

    by : (c : Bool) → list_all p (initial_truth rs (n - 1) b) ≡ true → list_all p (if c then record r { initial = b } ∷ rs else r ∷ initial_truth rs (n - 1) b) ≡ true
    by true rest = and_from (p (record r { initial = b })) (list_all p rs) (still r b q.0) q.1
    by false rest = and_from (p r) (list_all p (initial_truth rs (n - 1) b)) q.0 rest

truth_length : (rs : List Relation) (n : ℕ) (b : Bool) → length (initial_truth rs n b) ≡ length rs
truth_length rs n b =
    sym (length-map (initial_truth rs n b) (λ (r : Relation). r.name)) ∙ ap length (truth_same (λ (r : Relation). r.name) (λ r b. refl) rs n b) ∙ length-map rs (λ (r : Relation). r.name)

truth_places : (rs : List Relation) (n : ℕ) (b : Bool) (i : ℕ) → (get_or rs i no_relation).places ≡ (get_or (initial_truth rs n b) i no_relation).places
truth_places rs n b i =
    sym (get_or-map (λ (r : Relation). r.places) rs i no_relation)
    ∙ ap (λ xs. get_or xs i []) (sym (truth_same (λ (r : Relation). r.places) (λ r b. refl) rs n b))
    ∙ get_or-map (λ (r : Relation). r.places) (initial_truth rs n b) i no_relation

-- ---- counters

number_same : {A : Type 0} (g : Counter → A) → ((c : Counter) (v : ℤ) → g (record c { initial = v }) ≡ g c) → (cs : List Counter) (n : ℕ) (v : ℤ) → map g (initial_number cs n v) ≡ map g cs
number_same g same [] n v = refl
number_same g same (c ∷ cs) n v = by (n == 0) (number_same g same cs (n - 1) v)
  where
    by : (b : Bool) → map g (initial_number cs (n - 1) v) ≡ map g cs → map g (if b then record c { initial = v } ∷ cs else c ∷ initial_number cs (n - 1) v) ≡ g c ∷ map g cs
    by true rest = ap (λ x. x ∷ map g cs) (same c v)
    by false rest = ap (λ xs. g c ∷ xs) rest

number_all : (p : Counter → Bool) (v : ℤ) → ((c : Counter) → p c ≡ true → p (record c { initial = v }) ≡ true) → (cs : List Counter) (n : ℕ) → list_all p cs ≡ true → list_all p (initial_number cs n v) ≡ true
number_all p v still [] n h = refl
number_all p v still (c ∷ cs) n h = by (n == 0) (number_all p v still cs (n - 1) q.1)
  where
    q : (p c ≡ true) × (list_all p cs ≡ true)
    q = and_parts (p c) (list_all p cs) h

    by : (b : Bool) → list_all p (initial_number cs (n - 1) v) ≡ true → list_all p (if b then record c { initial = v } ∷ cs else c ∷ initial_number cs (n - 1) v) ≡ true
    by true rest = and_from (p (record c { initial = v })) (list_all p cs) (still c q.0) q.1
    by false rest = and_from (p c) (list_all p (initial_number cs (n - 1) v)) q.0 rest

number_length : (cs : List Counter) (n : ℕ) (v : ℤ) → length (initial_number cs n v) ≡ length cs
number_length cs n v =
    sym (length-map (initial_number cs n v) (λ (c : Counter). c.name)) ∙ ap length (number_same (λ (c : Counter). c.name) (λ c v. refl) cs n v) ∙ length-map cs (λ (c : Counter). c.name)

number_keys : (cs : List Counter) (n : ℕ) (v : ℤ) (i : ℕ) → (get_or cs i no_counter).keys ≡ (get_or (initial_number cs n v) i no_counter).keys
number_keys cs n v i =
    sym (get_or-map (λ (c : Counter). c.keys) cs i no_counter)
    ∙ ap (λ xs. get_or xs i []) (sym (number_same (λ (c : Counter). c.keys) (λ c v. refl) cs n v))
    ∙ get_or-map (λ (c : Counter). c.keys) (initial_number cs n v) i no_counter

number_range : (v : Value) → in_literal_range (number_of v) ≡ true
number_range values.True = refl
number_range values.False = refl
number_range (values.Number minus f) = literal_range minus f

-- ---- what is known

-- the same names are listed
same_listed : (d e : Specification) (names : Names) → global_names e ≡ global_names d → ((name : List ℕ) → is_in name (global_names d) ≡ true → is_some (names name) ≡ true)
    → (name : List ℕ) → is_in name (global_names e) ≡ true → is_some (names name) ≡ true
same_listed d e names same listed name h = listed name (ap (λ xs. is_in name xs) (sym same) ∙ h)

module _ (k : Known) (stated : Names) (n : ℕ) where
  truth_known : Bool → Known
  truth_known b = record { design = record k.design { relations = initial_truth k.design.relations n b }; names = k.names; stated = stated }

  truth_extends : (b : Bool) → Extends k.design (truth_known b).design
  unfolding truth_known
  truth_extends b = record {
    version = refl;
    sorts = omega arith;
    consts = λ n s h. h;
    few_relations = (let e = truth_length k.design.relations n b in omega arith);
    relations = λ i lt. truth_places k.design.relations n b i;
    few_counters = omega arith;
    counters = λ n lt. refl;
    few_tokens = omega arith;
    tokens = λ n lt. refl;
  }

  truth_names : (b : Bool) → global_names (truth_known b).design ≡ global_names k.design
  unfolding truth_known
  truth_names b = ap (λ xs. k.design.sorts ++ (map (λ (c : Constant). c.name) k.design.consts ++ (xs ++ names_from_counters k.design))) (truth_same (λ (r : Relation). r.name) (λ r b. refl) k.design.relations n b)

  truth_well : (b : Bool) → Well k → Well (truth_known b)
  unfolding truth_known
  truth_well b w =
      let p = w.parts in
      let e = (truth_known b).design in
      let old = kept k.design e (truth_extends b) p in
      let same = truth_length k.design.relations n b in
      record {
        parts = record {
          version = p.version;
          sorts = p.sorts;
          consts = p.consts;
          few_relations = (let few = tested_le (length k.design.relations) 16 p.few_relations in test_le (length (initial_truth k.design.relations n b)) 16 (omega arith));
          relations = truth_all (is_relation e) (λ r b h. h) k.design.relations n b old.relations;
          few_counters = p.few_counters;
          counters = old.counters;
          few_tokens = p.few_tokens;
          tokens = old.tokens;
          few_rules = p.few_rules;
          rules = old.rules;
          few_invariants = p.few_invariants;
          invariants = old.invariants;
          few_operations = p.few_operations;
          operations = old.operations;
          words = ap (list_all is_word_name) (truth_names b) ∙ p.words;
          distinct = ap all_distinct (truth_names b) ∙ p.distinct;
        };
        fit = fit_more k.design e (truth_extends b) k.names w.fit;
        listed = same_listed k.design e k.names (truth_names b) w.listed;
      }

  number_known : ℤ → Known
  number_known v = record { design = record k.design { counters = initial_number k.design.counters n v }; names = k.names; stated = stated }

  number_extends : (v : ℤ) → Extends k.design (number_known v).design
  unfolding number_known
  number_extends v = record {
    version = refl;
    sorts = omega arith;
    consts = λ n s h. h;
    few_relations = omega arith;
    relations = λ n lt. refl;
    few_counters = (let e = number_length k.design.counters n v in omega arith);
    counters = λ i lt. number_keys k.design.counters n v i;
    few_tokens = omega arith;
    tokens = λ n lt. refl;
  }

  number_names : (v : ℤ) → global_names (number_known v).design ≡ global_names k.design
  unfolding number_known
  number_names v = ap (λ xs. k.design.sorts ++ (map (λ (c : Constant). c.name) k.design.consts ++ (map (λ (r : Relation). r.name) k.design.relations ++ (xs ++ names_from_tokens k.design)))) (number_same (λ (c : Counter). c.name) (λ c v. refl) k.design.counters n v)

  number_well : (v : ℤ) → in_literal_range v ≡ true → Well k → Well (number_known v)
  unfolding number_known
  number_well v range w =
      let p = w.parts in
      let e = (number_known v).design in
      let old = kept k.design e (number_extends v) p in
      let same = number_length k.design.counters n v in
      record {
        parts = record {
          version = p.version;
          sorts = p.sorts;
          consts = p.consts;
          few_relations = p.few_relations;
          relations = old.relations;
          few_counters = (let few = tested_le (length k.design.counters) 8 p.few_counters in test_le (length (initial_number k.design.counters n v)) 8 (omega arith));
          counters = number_all (is_counter e) v (λ c h. and_from (are_sorts e 2 c.keys) (in_literal_range v) (and_parts (are_sorts e 2 c.keys) (in_literal_range c.initial) h).0 range) k.design.counters n old.counters;
          few_tokens = p.few_tokens;
          tokens = old.tokens;
          few_rules = p.few_rules;
          rules = old.rules;
          few_invariants = p.few_invariants;
          invariants = old.invariants;
          few_operations = p.few_operations;
          operations = old.operations;
          words = ap (list_all is_word_name) (number_names v) ∙ p.words;
          distinct = ap all_distinct (number_names v) ∙ p.distinct;
        };
        fit = fit_more k.design e (number_extends v) k.names w.fit;
        listed = same_listed k.design e k.names (number_names v) w.listed;
      }

-- whatever the initial value is
pub initial_well : (k : Known) (m : Mark) (v : Value) → Well k → Well (with_initial k m v)
unfolding truth_known number_known
initial_well k m v w = by (k.names m.text) (with_initial k m v).stated
  where
    by : (o : Option Meaning) (stated : Names) → Well (record { design = initial_design k.design o v; names = k.names; stated = stated })
    by None stated = record { parts = w.parts; fit = w.fit; listed = w.listed }
    by (Some (meaning.Sort n)) stated = record { parts = w.parts; fit = w.fit; listed = w.listed }
    by (Some (meaning.Const n)) stated = record { parts = w.parts; fit = w.fit; listed = w.listed }
    by (Some (meaning.Relation n)) stated = truth_well k stated n (truth_of v) w
    by (Some (meaning.Counter n)) stated = number_well k stated n (number_of v) (number_range v) w
    by (Some (meaning.Token n)) stated = record { parts = w.parts; fit = w.fit; listed = w.listed }
    by (Some meaning.Invariant) stated = record { parts = w.parts; fit = w.fit; listed = w.listed }
    by (Some meaning.Operation) stated = record { parts = w.parts; fit = w.fit; listed = w.listed }
