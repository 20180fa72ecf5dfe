-- The numbers of an obligation's formulas are small: a sum has few summands, whose coefficients are literals.
use Rattle.std.proofs.Common.{◌≡◌, ℕ, suc, ◌+◌, ◌≤◌, ◌==◌, ℤ, pos, negsuc, Bool, true, false, not, cond, ◌&&◌, List, [], ◌∷◌, ◌++◌, map, length, flat_map, filter, refl, ◌∙◌, ap, arith}
use Rattle.std.specs.Prelude.{◌^◌, ◌*◌, nat_lt, nat_le, unsigned_abs, get_or}
use Rattle.std.specs.List.{list_all}
use Rattle.std.proofs.lemmas.Bool.{and_parts, and_from}
use Rattle.std.proofs.lemmas.Bool.Decides.{nat_tests}
use Rattle.std.proofs.Math.Nat.{mul-le-mul_left}
use Rattle.std.proofs.lemmas.Int.{unsigned_abs-mul}
use Rattle.std.proofs.lemmas.List.Folds.{list_all-append}
use Rattle.spec_core.specs.Limits.{greatest_literal, most_summands}
use Rattle.spec_core.specs.declared.formula.Cmp.{Cmp}
use Rattle.spec_core.specs.declared.formula.Cmp.TheVariants.{Less, AtMost, Equal, Unequal, AtLeast, Greater}
use Rattle.spec_core.specs.declared.formula.Body.{Body}
use Rattle.spec_core.specs.declared.formula.Body.TheVariants as body
use Rattle.spec_core.specs.declared.formula.Summand.{Summand}
use Rattle.spec_core.specs.declared.formula.Term.{Term}
use Rattle.spec_core.specs.declared.operation.Operation.{Operation}
use Rattle.spec_core.specs.declared.operation.Param.{Param as Parameter}
use Rattle.spec_core.specs.declared.spec.Counter.{Counter}
use Rattle.spec_core.specs.declared.spec.Invariant.{Invariant}
use Rattle.spec_core.specs.declared.update.Thing.{Thing}
use Rattle.spec_core.specs.declared.update.Thing.TheVariants as thing
use Rattle.spec_core.specs.declared.update.Spot.{Spot}
use Rattle.spec_core.specs.declared.update.Spot.TheVariants.{Every, One}
use Rattle.spec_core.specs.declared.update.Change.{Change}
use Rattle.spec_core.specs.declared.update.Change.TheVariants.{Insert, Remove, Add, Set}
use Rattle.spec_core.specs.Form.{Form, true_form, false_form, not_form, and_form, or_form, implies_form, has_form, same_form, differ_form, compare_form}
use Rattle.spec_core.specs.Fits.{in_literal_range}
use Rattle.spec_core.specs.Line.{Line}
use Rattle.spec_core.specs.UpdateLine.{UpdateLine}
use Rattle.spec_core.specs.Specification.{Specification, op_of, no_counter, no_operation, no_line, no_invariant}
use Rattle.spec_core.specs.Truth.{is_exists}
use Rattle.spec_core.specs.Meaning.{invariant_line}
use Rattle.spec_core.specs.Typed.{summand_typed, term_typed, form_typed, is_formula, is_line, change_typed, is_update, is_operation, is_invariant, is_counter, is_specification}
use Rattle.spec_core.proofs.Lists.{list_all-get_or}
use Rattle.spec_core.proofs.Parts.{parts_of as parts_of_specification, operation_parts}
use Rattle.effectors.specs.Effect.{is_thing}
use Rattle.obligation_list.specs.Breaking.{requires_line}
use Rattle.ground_problem.specs.Symbols.{Stage, reading, Part, number, multiple, Symbolic, always, same, has, at_most, negated, both, either, both_and, all_parts, same_const, equal, unequal}
use Rattle.ground_problem.specs.Constants.{Constants, assignments}
use Rattle.ground_problem.specs.Formulas.{Caller, Readings, at_stage, at_start, const_of, consts_of, part_of_body, part_of, parts_of, comparison, formula, instances}
use Rattle.ground_problem.specs.Conclusion.{line_fails}
use Rattle.ground_problem.specs.Definitions.{updates_of, spots_hold, acts_on, has_then, has_updated, define_has, count_then, value_after, values_defined, value_stays, define_count}
use Rattle.ground_problem.proofs.Groups.{line_typed}
use Rattle.ground_numbers.specs.Sizes.{greatest_number}

-- ---- the size of a sum

abbrev pub part_size : Part → ℕ
part_size (number n) = unsigned_abs n
part_size (multiple k x) = unsigned_abs k

abbrev pub sum_size : List Part → ℕ
sum_size [] = 0
sum_size (p ∷ ps) = part_size p + sum_size ps

-- the sums of each comparison are together at most the greatest number
abbrev pub is_moderate : Symbolic → Bool
is_moderate (always b) = true
is_moderate (same a b) = true
is_moderate (has k r t) = true
is_moderate (at_most t u n) = nat_le (sum_size t + (sum_size u + unsigned_abs n)) greatest_number
is_moderate (negated f) = is_moderate f
is_moderate (both f g) = is_moderate f && is_moderate g
is_moderate (either f g) = is_moderate f && is_moderate g

abbrev pub all_moderate : List Symbolic → Bool
all_moderate fs = list_all is_moderate fs

-- how large a sum may be: many times what the limits allow
abbrev most_sum : ℕ
most_sum = 2 * 10 ^ 19

abbrev pub IsSum : List Part → Type 0
IsSum t = sum_size t ≤ most_sum

compared : (a b c : ℕ) → a ≤ most_sum → b ≤ most_sum → c ≤ 1 → nat_le (a + (b + c)) greatest_number ≡ true
compared a b c h k l = grind (arith, nat_tests)

sum-append : (t u : List Part) → sum_size (t ++ u) ≡ sum_size t + sum_size u
sum-append [] u = (let e : sum_size u ≡ 0 + sum_size u = omega arith in e)
sum-append (p ∷ t) u = ap (λ n. part_size p + n) (sum-append t u) ∙ grouped (part_size p) (sum_size t) (sum_size u)
  where
    grouped : (a b c : ℕ) → a + (b + c) ≡ a + b + c
    grouped a b c = omega arith

-- ---- lists of formulas

pub all-both : (fs gs : List Symbolic) → all_moderate fs ≡ true → all_moderate gs ≡ true → all_moderate (fs ++ gs) ≡ true
all-both fs gs h k = list_all-append is_moderate fs gs ∙ and_from (all_moderate fs) (all_moderate gs) h k

pub all-map : {X : Type 0} (g : X → Symbolic) (xs : List X) → ((x : X) → is_moderate (g x) ≡ true) → all_moderate (map g xs) ≡ true
all-map g [] h = refl
all-map g (x ∷ xs) h = and_from (is_moderate (g x)) _ (h x) (all-map g xs h)

pub all-flat_map : {X : Type 0} (g : X → List Symbolic) (xs : List X) → ((x : X) → all_moderate (g x) ≡ true) → all_moderate (flat_map g xs) ≡ true
all-flat_map g [] h = refl
all-flat_map g (x ∷ xs) h = all-both (g x) (flat_map g xs) (h x) (all-flat_map g xs h)

pub all-flat_map-of : {X : Type 0} (p : X → Bool) (g : X → List Symbolic) (xs : List X) → list_all p xs ≡ true → ((x : X) → p x ≡ true → all_moderate (g x) ≡ true) → all_moderate (flat_map g xs) ≡ true
all-flat_map-of p g [] a h = refl
all-flat_map-of p g (x ∷ xs) a h = (let k = and_parts (p x) (list_all p xs) a in all-both (g x) (flat_map g xs) (h x k.0) (all-flat_map-of p g xs k.1 h))

pub all-cond : (b : Bool) (fs gs : List Symbolic) → all_moderate fs ≡ true → all_moderate gs ≡ true → all_moderate (cond b fs gs) ≡ true
all-cond true fs gs h k = h
all-cond false fs gs h k = k

-- ---- formulas made of others

pub both-moderate : (f g : Symbolic) → is_moderate f ≡ true → is_moderate g ≡ true → (is_moderate f && is_moderate g) ≡ true
both-moderate f g h k = and_from (is_moderate f) (is_moderate g) h k

pub same_const-moderate : (a b : ℕ) → is_moderate (same_const a b) ≡ true
same_const-moderate a b = by_tests (a == b) (nat_lt a b)
  where
    by_tests : (p q : Bool) → is_moderate (cond p (always true) (cond q (same a b) (same b a))) ≡ true
    by_tests true q = refl
    by_tests false true = refl
    by_tests false false = refl

both_and-moderate : (f : Symbolic) (fs : List Symbolic) → is_moderate f ≡ true → all_moderate fs ≡ true → is_moderate (both_and f fs) ≡ true
both_and-moderate f [] h k = h
both_and-moderate f (g ∷ gs) h k = (let q = and_parts (is_moderate g) (all_moderate gs) k in both_and-moderate (both f g) gs (both-moderate f g h q.0) q.1)

pub all_parts-moderate : (fs : List Symbolic) → all_moderate fs ≡ true → is_moderate (all_parts fs) ≡ true
all_parts-moderate [] h = refl
all_parts-moderate (f ∷ fs) h = (let q = and_parts (is_moderate f) (all_moderate fs) h in both_and-moderate f fs q.0 q.1)

equal-moderate : (t u : List Part) → IsSum t → IsSum u → is_moderate (equal t u) ≡ true
equal-moderate t u h k = both-moderate (at_most t u (pos 0)) (at_most u t (pos 0)) (compared (sum_size t) (sum_size u) 0 h k (omega arith)) (compared (sum_size u) (sum_size t) 0 k h (omega arith))

unequal-moderate : (t u : List Part) → IsSum t → IsSum u → is_moderate (unequal t u) ≡ true
unequal-moderate t u h k = both-moderate (at_most t u (negsuc 0)) (at_most u t (negsuc 0)) (compared (sum_size t) (sum_size u) 1 h k (omega arith)) (compared (sum_size u) (sum_size t) 1 k h (omega arith))

comparison-moderate : (c : Cmp) (t u : List Part) → IsSum t → IsSum u → is_moderate (comparison c t u) ≡ true
comparison-moderate Less t u h k = compared (sum_size t) (sum_size u) 1 h k (omega arith)
comparison-moderate AtMost t u h k = compared (sum_size t) (sum_size u) 0 h k (omega arith)
comparison-moderate Equal t u h k = equal-moderate t u h k
comparison-moderate Unequal t u h k = unequal-moderate t u h k
comparison-moderate AtLeast t u h k = compared (sum_size u) (sum_size t) 0 k h (omega arith)
comparison-moderate Greater t u h k = compared (sum_size u) (sum_size t) 1 k h (omega arith)

-- ---- what the limits say

abbrev pub is_small_term : Term → Bool
is_small_term t = nat_le (length t.summands) most_summands && list_all (λ s. in_literal_range s.coef) t.summands

abbrev pub is_small_form : Form → Bool
is_small_form true_form = true
is_small_form false_form = true
is_small_form (not_form f) = is_small_form f
is_small_form (and_form f g) = is_small_form f && is_small_form g
is_small_form (or_form f g) = is_small_form f && is_small_form g
is_small_form (implies_form f g) = is_small_form f && is_small_form g
is_small_form (has_form k es) = true
is_small_form (same_form a b) = true
is_small_form (differ_form a b) = true
is_small_form (compare_form t c u) = is_small_term t && is_small_term u

abbrev pub is_small_change : Change → Bool
is_small_change Insert = true
is_small_change Remove = true
is_small_change (Add t) = is_small_term t
is_small_change (Set t) = is_small_term t

abbrev pub is_small_update : UpdateLine → Bool
is_small_update u = is_small_change u.change && is_small_form u.guard

abbrev pub is_small_line : Line → Bool
is_small_line l = is_small_form l.body

abbrev pub is_small_operation : Operation → Bool
is_small_operation o = list_all is_small_line o.requires_ && list_all is_small_update o.updates

-- one test gives another at each member
all-weaken : {X : Type 0} (p q : X → Bool) (xs : List X) → ((x : X) → p x ≡ true → q x ≡ true) → list_all p xs ≡ true → list_all q xs ≡ true
all-weaken p q [] h a = refl
all-weaken p q (x ∷ xs) h a = (let k = and_parts (p x) (list_all p xs) a in and_from (q x) (list_all q xs) (h x k.0) (all-weaken p q xs h k.1))

module _ (d : Specification) where
  term-small : (ps : List Parameter) (vars : List ℕ) (t : Term) → term_typed d ps vars t ≡ true → is_small_term t ≡ true
  term-small ps vars t h =
      let k = and_parts (nat_le (length t.summands) most_summands) (list_all (summand_typed d ps vars) t.summands) h in
      and_from (nat_le (length t.summands) most_summands) _ k.0 (all-weaken (summand_typed d ps vars) (λ s. in_literal_range s.coef) t.summands (λ s e. (and_parts (in_literal_range s.coef) _ e).0) k.1)

  form-small : (ps : List Parameter) (vars : List ℕ) (f : Form) → form_typed d ps vars f ≡ true → is_small_form f ≡ true
  form-small ps vars true_form h = refl
  form-small ps vars false_form h = refl
  form-small ps vars (not_form f) h = form-small ps vars f h
  form-small ps vars (and_form f g) h = (let k = and_parts (form_typed d ps vars f) (form_typed d ps vars g) h in and_from (is_small_form f) (is_small_form g) (form-small ps vars f k.0) (form-small ps vars g k.1))
  form-small ps vars (or_form f g) h = (let k = and_parts (form_typed d ps vars f) (form_typed d ps vars g) h in and_from (is_small_form f) (is_small_form g) (form-small ps vars f k.0) (form-small ps vars g k.1))
  form-small ps vars (implies_form f g) h = (let k = and_parts (form_typed d ps vars f) (form_typed d ps vars g) h in and_from (is_small_form f) (is_small_form g) (form-small ps vars f k.0) (form-small ps vars g k.1))
  form-small ps vars (has_form k es) h = refl
  form-small ps vars (same_form a b) h = refl
  form-small ps vars (differ_form a b) h = refl
  form-small ps vars (compare_form t c u) h = (let k = and_parts (term_typed d ps vars t) (term_typed d ps vars u) h in and_from (is_small_term t) (is_small_term u) (term-small ps vars t k.0) (term-small ps vars u k.1))

  line-small : (ps : List Parameter) (l : Line) → is_line d ps l ≡ true → is_small_line l ≡ true
  line-small ps l h = form-small ps l.vars l.body (line_typed d ps l h)

  change-small : (ps : List Parameter) (x : Thing) (c : Change) → change_typed d ps x c ≡ true → is_small_change c ≡ true
  change-small ps x Insert h = refl
  change-small ps x Remove h = refl
  change-small ps (thing.Relation k) (Add t) h = absurd cc
  change-small ps (thing.Relation k) (Set t) h = absurd cc
  change-small ps (thing.Counter k) (Add t) h = term-small ps [] t (and_parts (nat_lt k (length d.counters)) (term_typed d ps [] t) h).1
  change-small ps (thing.Counter k) (Set t) h = term-small ps [] t (and_parts (nat_lt k (length d.counters)) (term_typed d ps [] t) h).1

  update-small : (ps : List Parameter) (u : UpdateLine) → is_update d ps u ≡ true → is_small_update u ≡ true
  update-small ps u h =
      let k = and_parts _ (is_formula d ps [] u.guard) h in
      let c = and_parts (change_typed d ps u.thing u.change) _ k.0 in
      and_from (is_small_change u.change) (is_small_form u.guard) (change-small ps u.thing u.change c.0) (form-small ps [] u.guard (and_parts _ (form_typed d ps [] u.guard) k.1).1)

  operation-small : (o : Operation) → is_operation d o ≡ true → is_small_operation o ≡ true
  operation-small o h =
      let p = operation_parts d o h in
      and_from (list_all is_small_line o.requires_) _ (all-weaken (is_line d o.params) is_small_line o.requires_ (line-small o.params) p.requires_) (all-weaken (is_update d o.params) is_small_update o.updates (update-small o.params) p.updates)

  module _ (t : is_specification d ≡ true) where
    pub op_of-small : (n : ℕ) → is_small_operation (op_of d n) ≡ true
    op_of-small n = list_all-get_or is_small_operation d.operations (all-weaken (is_operation d) is_small_operation d.operations operation-small (parts_of_specification d t).operations) n no_operation refl

    invariant-small : (i : Invariant) → is_invariant d i ≡ true → is_small_line i.line ≡ true
    invariant-small i h = line-small [] i.line (and_parts (not (is_exists i.line.prefix)) (is_line d [] i.line) h).1

    pub invariants-small : list_all (λ (i : Invariant). is_small_line i.line) d.invariants ≡ true
    invariants-small = all-weaken (is_invariant d) (λ (i : Invariant). is_small_line i.line) d.invariants invariant-small (parts_of_specification d t).invariants

    pub invariant_line-small : (n : ℕ) → is_small_line (invariant_line d n) ≡ true
    invariant_line-small n = list_all-get_or (λ (i : Invariant). is_small_line i.line) d.invariants invariants-small n no_invariant refl

    pub requires_line-small : (o l : ℕ) → is_small_line (requires_line d o l) ≡ true
    requires_line-small o l = list_all-get_or is_small_line (op_of d o).requires_ (and_parts (list_all is_small_line (op_of d o).requires_) _ (op_of-small o)).0 l no_line refl

    pub initial-small : (n : ℕ) → in_literal_range (get_or d.counters n no_counter).initial ≡ true
    initial-small n = list_all-get_or (λ (c : Counter). in_literal_range c.initial) d.counters (all-weaken (is_counter d) (λ (c : Counter). in_literal_range c.initial) d.counters (λ c e. (and_parts _ (in_literal_range c.initial) e).1) (parts_of_specification d t).counters) n no_counter refl

-- ---- readings

-- readings of relations that are moderate, and of counters that are as large as their coefficients times a literal
pub record Moderate (r : Readings) : Type 0 where
  pub has : (k : ℕ) (t : List ℕ) → is_moderate (r.has k t) ≡ true
  pub count : (n : ℤ) (k : ℕ) (t : List ℕ) → part_size (r.count n k t) ≤ unsigned_abs n * greatest_literal

pub stage-moderate : (k : Stage) → Moderate (at_stage k)
stage-moderate k = record { has = λ r t. refl; count = λ n c t. once (unsigned_abs n) }
  where
    once : (a : ℕ) → a ≤ a * greatest_literal
    once a = omega arith

le_of : (a b : ℕ) → nat_le a b ≡ true → a ≤ b
le_of a b h = grind (arith, nat_tests)

pub start-moderate : (d : Specification) → is_specification d ≡ true → Moderate (at_start d)
start-moderate d t = record { has = λ r u. refl; count = λ n c u. product (unsigned_abs n) (unsigned_abs (get_or d.counters c no_counter).initial) _ (unsigned_abs-mul n (get_or d.counters c no_counter).initial) (le_of _ greatest_literal (initial-small d t c)) }
  where
    product : (a b p : ℕ) → p ≡ a * b → b ≤ greatest_literal → p ≤ a * greatest_literal
    product a b p e h = (let k = mul-le-mul_left a h in omega (arith, e, k))

-- ---- formulas

module _ (r : Readings) (m : Moderate r) (c : Caller) where
  abbrev most_part : ℕ
  most_part = 10 ^ 18

  part-size : (vars : List ℕ) (k : ℤ) (b : Body) → in_literal_range k ≡ true → part_size (part_of_body r c vars k b) ≤ most_part
  part-size vars k body.One h = (let e = le_of (unsigned_abs k) greatest_literal h in omega arith)
  part-size vars k (body.Param n) h = (let e = le_of (unsigned_abs k) greatest_literal h in omega arith)
  part-size vars k (body.Count i es) h = (let e = le_of (unsigned_abs k) greatest_literal h in let f = m.count k i (consts_of c vars es) in omega arith)

  parts-size : (vars : List ℕ) (ss : List Summand) → list_all (λ s. in_literal_range s.coef) ss ≡ true → sum_size (map (part_of r c vars) ss) ≤ length ss * most_part
  parts-size vars [] h = omega arith
  parts-size vars (s ∷ ss) h = (let k = and_parts (in_literal_range s.coef) _ h in joined (part_size (part_of r c vars s)) (sum_size (map (part_of r c vars) ss)) (length ss) (part-size vars s.coef s.body k.0) (parts-size vars ss k.1))
    where
      joined : (a b n : ℕ) → a ≤ most_part → b ≤ n * most_part → a + b ≤ suc n * most_part
      joined a b n h k = omega arith

  term-size : (vars : List ℕ) (t : Term) → is_small_term t ≡ true → sum_size (parts_of r c vars t) ≤ 16 * most_part
  term-size vars t h = (let k = and_parts (nat_le (length t.summands) most_summands) _ h in few _ (length t.summands) (parts-size vars t.summands k.1) (le_of (length t.summands) most_summands k.0))
    where
      few : (a n : ℕ) → a ≤ n * most_part → n ≤ most_summands → a ≤ 16 * most_part
      few a n h k = omega arith

  pub term-sum : (vars : List ℕ) (t : Term) → is_small_term t ≡ true → IsSum (parts_of r c vars t)
  term-sum vars t h = (let e = term-size vars t h in omega arith)

  pub formula-moderate : (vars : List ℕ) (f : Form) → is_small_form f ≡ true → is_moderate (formula r c vars f) ≡ true
  formula-moderate vars true_form h = refl
  formula-moderate vars false_form h = refl
  formula-moderate vars (not_form f) h = formula-moderate vars f h
  formula-moderate vars (and_form f g) h = (let k = and_parts (is_small_form f) (is_small_form g) h in both-moderate (formula r c vars f) (formula r c vars g) (formula-moderate vars f k.0) (formula-moderate vars g k.1))
  formula-moderate vars (or_form f g) h = (let k = and_parts (is_small_form f) (is_small_form g) h in both-moderate (formula r c vars f) (formula r c vars g) (formula-moderate vars f k.0) (formula-moderate vars g k.1))
  formula-moderate vars (implies_form f g) h = (let k = and_parts (is_small_form f) (is_small_form g) h in both-moderate (formula r c vars f) (formula r c vars g) (formula-moderate vars f k.0) (formula-moderate vars g k.1))
  formula-moderate vars (has_form k es) h = m.has k (consts_of c vars es)
  formula-moderate vars (same_form a b) h = same_const-moderate (const_of c vars a) (const_of c vars b)
  formula-moderate vars (differ_form a b) h = same_const-moderate (const_of c vars a) (const_of c vars b)
  formula-moderate vars (compare_form t o u) h = (let k = and_parts (is_small_term t) (is_small_term u) h in comparison-moderate o (parts_of r c vars t) (parts_of r c vars u) (term-sum vars t k.0) (term-sum vars u k.1))

  pub instances-moderate : (z : Constants) (vars : List ℕ) (f : Form) → is_small_form f ≡ true → all_moderate (instances z r c vars f) ≡ true
  instances-moderate z vars f h = all-map (λ vs. formula r c vs f) (assignments z vars) (λ vs. formula-moderate vs f h)

  pub fails-moderate : (z : Constants) (l : Line) → is_small_line l ≡ true → all_moderate (line_fails z r c l) ≡ true
  fails-moderate z l h = all-cond (is_exists l.prefix) (map negated (instances z r c l.vars l.body)) (negated (formula r c z.elements l.body) ∷ []) (all-negated (instances z r c l.vars l.body) (instances-moderate z l.vars l.body h)) (and_from (is_moderate (formula r c z.elements l.body)) true (formula-moderate z.elements l.body h) refl)
    where
      all-negated : (fs : List Symbolic) → all_moderate fs ≡ true → all_moderate (map negated fs) ≡ true
      all-negated [] h = refl
      all-negated (f ∷ fs) h = (let k = and_parts (is_moderate f) (all_moderate fs) h in and_from (is_moderate f) _ k.0 (all-negated fs k.1))

  -- ---- definitions

  spots-moderate : (ss : List Spot) (t : List ℕ) → all_moderate (spots_hold c ss t) ≡ true
  spots-moderate [] [] = refl
  spots-moderate [] (k ∷ ks) = refl
  spots-moderate (s ∷ ss) [] = refl
  spots-moderate (Every ∷ ss) (k ∷ ks) = spots-moderate ss ks
  spots-moderate (One e ∷ ss) (k ∷ ks) = and_from (is_moderate (same_const (const_of c [] e) k)) _ (same_const-moderate (const_of c [] e) k) (spots-moderate ss ks)

  acts-moderate : (t : List ℕ) (u : UpdateLine) → is_small_form u.guard ≡ true → is_moderate (acts_on r c t u) ≡ true
  acts-moderate t u h = all_parts-moderate (spots_hold c u.at t ++ formula r c [] u.guard ∷ []) (all-both (spots_hold c u.at t) (formula r c [] u.guard ∷ []) (spots-moderate u.at t) (and_from (is_moderate (formula r c [] u.guard)) true (formula-moderate [] u.guard h) refl))

  then-moderate : (ch : Change) (a e : Symbolic) → is_moderate a ≡ true → is_moderate e ≡ true → is_moderate (has_then ch a e) ≡ true
  then-moderate Insert a e h k = both-moderate a e h k
  then-moderate Remove a e h k = both-moderate a e h k
  then-moderate (Add n) a e h k = k
  then-moderate (Set n) a e h k = k

  updated-moderate : (t : List ℕ) (us : List UpdateLine) (e : Symbolic) → list_all is_small_update us ≡ true → is_moderate e ≡ true → is_moderate (has_updated r c t us e) ≡ true
  updated-moderate t [] e s h = h
  updated-moderate t (u ∷ us) e s h =
      let k = and_parts (is_small_update u) (list_all is_small_update us) s in
      let g = and_parts (is_small_change u.change) (is_small_form u.guard) k.0 in
      updated-moderate t us (has_then u.change (acts_on r c t u) e) k.1 (then-moderate u.change (acts_on r c t u) e (acts-moderate t u g.1) h)

  filtered : {X : Type 0} (p q : X → Bool) (xs : List X) → list_all p xs ≡ true → list_all p (filter q xs) ≡ true
  filtered p q [] h = refl
  filtered p q (x ∷ xs) h = (let k = and_parts (p x) (list_all p xs) h in by_test (q x) k.0 (filtered p q xs k.1))
    where
      by_test : (b : Bool) → p x ≡ true → list_all p (filter q xs) ≡ true → list_all p (cond b (x ∷ filter q xs) (filter q xs)) ≡ true
      by_test true h k = and_from (p x) _ h k
      by_test false h k = k

  pub define_has-moderate : (us : List UpdateLine) (h : Symbolic) (k : ℕ) (t : List ℕ) → list_all is_small_update us ≡ true → is_moderate h ≡ true → all_moderate (define_has r c us h k t) ≡ true
  define_has-moderate us h k t s a =
      let e = has_updated r c t (updates_of (thing.Relation k) us) (r.has k t) in
      let b = updated-moderate t (updates_of (thing.Relation k) us) (r.has k t) (filtered is_small_update (λ u. is_thing u.thing (thing.Relation k)) us s) (m.has k t) in
      and_from (is_moderate h && is_moderate e) _ (both-moderate h e a b) (and_from (is_moderate h && is_moderate e) true (both-moderate h e a b) refl)

  -- a value before an update
  abbrev IsValue : List Part → Type 0
  IsValue v = sum_size v ≤ greatest_literal

  count_then-sum : (ch : Change) (v : List Part) → is_small_change ch ≡ true → IsValue v → IsSum (count_then r c ch v)
  count_then-sum Insert v s h = omega arith
  count_then-sum Remove v s h = omega arith
  count_then-sum (Add n) v s h = plus _ (sum_size v) (sum_size (parts_of r c [] n)) (sum-append v (parts_of r c [] n)) h (term-size [] n s)
    where
      plus : (x a b : ℕ) → x ≡ a + b → a ≤ greatest_literal → b ≤ 16 * most_part → x ≤ most_sum
      plus x a b e h k = omega arith
  count_then-sum (Set n) v s h = term-sum [] n s

  next-value : (us : List UpdateLine) (n : ℕ) (k : Stage) (i : ℕ) (t : List ℕ) → IsValue (multiple (pos 1) (value_after us n k i t) ∷ [])
  next-value us n k i t = omega arith

  values-moderate : (k : Stage) (i : ℕ) (t : List ℕ) (n : ℕ) (v : List Part) (us : List UpdateLine) → list_all is_small_update us ≡ true → IsValue v → all_moderate (values_defined r c k i t n v us) ≡ true
  values-moderate k i t n v [] s h = refl
  values-moderate k i t n v (u ∷ us) s h =
      let p = and_parts (is_small_update u) (list_all is_small_update us) s in
      let g = and_parts (is_small_change u.change) (is_small_form u.guard) p.0 in
      let acting = acts_on r c t u in
      let a = acts-moderate t u g.1 in
      let next = multiple (pos 1) (value_after us n k i t) ∷ [] in
      let w = next-value us n k i t in
      let e = equal-moderate next (count_then r c u.change v) (larger (sum_size next) w) (count_then-sum u.change v g.0 h) in
      let f = equal-moderate next v (larger (sum_size next) w) (larger (sum_size v) h) in
      and_from (is_moderate acting && is_moderate (equal next (count_then r c u.change v))) _ (both-moderate acting (equal next (count_then r c u.change v)) a e)
      (and_from (is_moderate acting && is_moderate (equal next v)) _ (both-moderate acting (equal next v) a f) (values-moderate k i t (suc n) next us p.1 w))
    where
      larger : (a : ℕ) → a ≤ greatest_literal → a ≤ most_sum
      larger a h = omega arith

  first-value : (i : ℕ) (t : List ℕ) → IsValue (r.count (pos 1) i t ∷ [])
  first-value i t = (let e = m.count (pos 1) i t in one (part_size (r.count (pos 1) i t)) e)
    where
      one : (a : ℕ) → a ≤ 1 * greatest_literal → a + 0 ≤ greatest_literal
      one a h = omega arith

  stays-moderate : (k : Stage) (i : ℕ) (t : List ℕ) (us : List UpdateLine) → all_moderate (value_stays r k i t us) ≡ true
  stays-moderate k i t [] = and_from (is_moderate (equal (multiple (pos 1) (reading k i t) ∷ []) (r.count (pos 1) i t ∷ []))) true (equal-moderate (multiple (pos 1) (reading k i t) ∷ []) (r.count (pos 1) i t ∷ []) (omega arith) (larger _ (first-value i t))) refl
    where
      larger : (a : ℕ) → a ≤ greatest_literal → a ≤ most_sum
      larger a h = omega arith
  stays-moderate k i t (u ∷ us) = refl

  pub define_count-moderate : (us : List UpdateLine) (k : Stage) (i : ℕ) (t : List ℕ) → list_all is_small_update us ≡ true → all_moderate (define_count r c us k i t) ≡ true
  define_count-moderate us k i t s =
      let mine = updates_of (thing.Counter i) us in
      all-both (value_stays r k i t mine) (values_defined r c k i t 1 (r.count (pos 1) i t ∷ []) mine) (stays-moderate k i t mine)
      (values-moderate k i t 1 (r.count (pos 1) i t ∷ []) mine (filtered is_small_update (λ u. is_thing u.thing (thing.Counter i)) us s) (first-value i t))
