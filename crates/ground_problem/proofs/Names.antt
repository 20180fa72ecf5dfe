-- The stages at which the list of an obligation names readings: only its calls were made.
use Rattle.std.proofs.Common.{ℕ, suc, ◌<◌, ltb, ◌==◌, ℤ, pos, Bool, true, false, cond, List, [], ◌∷◌, ◌++◌, map, length, flat_map, filter, arith}
use Rattle.std.specs.List.{list_any}
use Rattle.spec_core.specs.declared.formula.Cmp.{Cmp}
use Rattle.spec_core.specs.declared.formula.Cmp.TheVariants.{Less, AtMost, Equal, Unequal, AtLeast, Greater}
use Rattle.spec_core.specs.declared.formula.Body.{Body}
use Rattle.spec_core.specs.declared.formula.Body.TheVariants as body
use Rattle.spec_core.specs.declared.formula.Summand.{Summand}
use Rattle.spec_core.specs.declared.operation.Take.{Take}
use Rattle.spec_core.specs.declared.spec.Rule.{Rule}
use Rattle.spec_core.specs.declared.update.Thing.{Thing}
use Rattle.spec_core.specs.declared.update.Thing.TheVariants as thing
use Rattle.spec_core.specs.declared.update.Spot.{Spot}
use Rattle.spec_core.specs.declared.update.Spot.TheVariants.{Every, One}
use Rattle.spec_core.specs.declared.update.Change.{Change}
use Rattle.spec_core.specs.declared.update.Change.TheVariants.{Insert, Remove, Add, Set}
use Rattle.spec_core.specs.Form.{Form, true_form, false_form, not_form, and_form, or_form, implies_form, has_form, same_form, differ_form, compare_form}
use Rattle.spec_core.specs.Line.{Line}
use Rattle.spec_core.specs.UpdateLine.{UpdateLine}
use Rattle.spec_core.specs.Specification.{Specification, op_of}
use Rattle.spec_core.specs.Truth.{is_exists}
use Rattle.spec_core.specs.Meaning.{invariant_line}
use Rattle.obligation_list.specs.declared.obligation.Obligation.{Obligation}
use Rattle.obligation_list.specs.declared.obligation.Obligation.TheVariants.{Init, Safety, Commute, Stable}
use Rattle.obligation_list.specs.Breaking.{operations_of, requires_line}
use Rattle.ground_problem.specs.Symbols.{Stage, argument, reading, partial, Part, number, multiple, Symbolic, always, same, has, negated, both, both_and, all_parts, same_const, equal}
use Rattle.ground_problem.specs.Constants.{Constants, constants_of, assignments}
use Rattle.ground_problem.specs.Formulas.{Caller, caller, nobody, Readings, at_stage, at_start, const_of, consts_of, part_of_body, part_of, parts_of, comparison, formula, instances}
use Rattle.ground_problem.specs.Entry.{invariants_hold, line_holds, lines_hold, calls_ready, same_later, one_element_each, are_ruled, unmatched, rule_unmatched, calls_free, entry, before_conclusion}
use Rattle.ground_problem.specs.Conclusion.{line_fails, differ, conclusion}
use Rattle.ground_problem.specs.Definitions.{updates_of, spots_hold, acts_on, has_then, has_updated, define_has, count_then, value_after, values_defined, value_stays, define_count, Reading, updates_at, define, definition, readings_of_part, readings, same_reading, distinct, readings_after, with_definitions}
use Rattle.ground_problem.specs.Problem.{stated}

abbrev pub Each : (Reading → Type 0) → List Reading → Type 0
Each P [] = Unit {0}
Each P (q ∷ qs) = P q × Each P qs

-- of each formula's readings
abbrev pub EachOf : (Reading → Type 0) → List Symbolic → Type 0
EachOf P [] = Unit {0}
EachOf P (f ∷ fs) = Each P (readings f) × EachOf P fs

-- the readings of a sum
abbrev pub of_sum : List Part → List Reading
of_sum ps = flat_map readings_of_part ps

module _ (P : Reading → Type 0) where
  pub each_append : (xs ys : List Reading) → Each P xs → Each P ys → Each P (xs ++ ys)
  each_append [] ys h k = k
  each_append (x ∷ xs) ys h k = (h.0, each_append xs ys h.1 k)

  pub of_append : (xs ys : List Symbolic) → EachOf P xs → EachOf P ys → EachOf P (xs ++ ys)
  of_append [] ys h k = k
  of_append (x ∷ xs) ys h k = (h.0, of_append xs ys h.1 k)

  pub of_map : (g : List ℕ → Symbolic) (ts : List (List ℕ)) → ((t : List ℕ) → Each P (readings (g t))) → EachOf P (map g ts)
  of_map g [] h = tt
  of_map g (t ∷ ts) h = (h t, of_map g ts h)

  pub of_flat_map : {X : Type 0} (g : X → List Symbolic) (xs : List X) → ((x : X) → EachOf P (g x)) → EachOf P (flat_map g xs)
  of_flat_map g [] h = tt
  of_flat_map g (x ∷ xs) h = of_append (g x) (flat_map g xs) (h x) (of_flat_map g xs h)

  pub of_readings : (fs : List Symbolic) → EachOf P fs → Each P (flat_map readings fs)
  of_readings [] h = tt
  of_readings (f ∷ fs) h = each_append (readings f) (flat_map readings fs) h.0 (of_readings fs h.1)

  pub each_distinct : (met qs : List Reading) → Each P qs → Each P (distinct met qs)
  each_distinct met [] h = tt
  each_distinct met (q ∷ qs) h = by_test (list_any (same_reading q) met) (each_distinct met qs h.1) (each_distinct (q ∷ met) qs h.1)
    where
      by_test : (b : Bool) → Each P (distinct met qs) → Each P (distinct (q ∷ met) qs) → Each P (cond b (distinct met qs) (q ∷ distinct (q ∷ met) qs))
      by_test true x y = x
      by_test false x y = (h.0, y)

  pub each_filter : (t : Reading → Bool) (qs : List Reading) → Each P qs → Each P (filter t qs)
  each_filter t [] h = tt
  each_filter t (q ∷ qs) h = by_test (t q) (each_filter t qs h.1)
    where
      by_test : (b : Bool) → Each P (filter t qs) → Each P (cond b (q ∷ filter t qs) (filter t qs))
      by_test true x = (h.0, x)
      by_test false x = x

  pub after_names : (n : ℕ) (fs : List Symbolic) → EachOf P fs → Each P (readings_after n fs)
  after_names n fs h = each_distinct [] _ (each_filter (λ q. length q.stage == n) _ (of_readings fs h))

  pub same_names : (a b : ℕ) → Each P (readings (same_const a b))
  same_names a b = by_tests (a == b) (ltb a b)
    where
      by_tests : (p q : Bool) → Each P (readings (cond p (always true) (cond q (same a b) (same b a))))
      by_tests true q = tt
      by_tests false true = tt
      by_tests false false = tt

  pub sums : (t u : List Part) → Each P (of_sum t) → Each P (of_sum u) → Each P (of_sum (t ++ u))
  sums [] u h k = k
  sums (number n ∷ t) u h k = sums t u h k
  sums (multiple n (argument c p) ∷ t) u h k = sums t u h k
  sums (multiple n (reading s i x) ∷ t) u h k = (h.0, sums t u h.1 k)
  sums (multiple n (partial j s i x) ∷ t) u h k = sums t u h k

  pair_names : (t u : List Part) → Each P (of_sum t) → Each P (of_sum u) → Each P (of_sum t ++ of_sum u)
  pair_names t u h k = each_append (of_sum t) (of_sum u) h k

  pub equal_names : (t u : List Part) → Each P (of_sum t) → Each P (of_sum u) → Each P ((of_sum t ++ of_sum u) ++ (of_sum u ++ of_sum t))
  equal_names t u h k = each_append (of_sum t ++ of_sum u) (of_sum u ++ of_sum t) (pair_names t u h k) (pair_names u t k h)

  pub comparison_names : (c : Cmp) (t u : List Part) → Each P (of_sum t) → Each P (of_sum u) → Each P (readings (comparison c t u))
  comparison_names Less t u h k = pair_names t u h k
  comparison_names AtMost t u h k = pair_names t u h k
  comparison_names Equal t u h k = equal_names t u h k
  comparison_names Unequal t u h k = equal_names t u h k
  comparison_names AtLeast t u h k = pair_names u t k h
  comparison_names Greater t u h k = pair_names u t k h

  both_and_names : (f : Symbolic) (fs : List Symbolic) → Each P (readings f) → EachOf P fs → Each P (readings (both_and f fs))
  both_and_names f [] h k = h
  both_and_names f (g ∷ gs) h k = both_and_names (both f g) gs (each_append (readings f) (readings g) h k.0) k.1

  pub parts_names : (fs : List Symbolic) → EachOf P fs → Each P (readings (all_parts fs))
  parts_names [] h = tt
  parts_names (f ∷ fs) h = both_and_names f fs h.0 h.1

  -- no conflict: only equalities
  later_names : (v a : ℕ) (vs cs : List ℕ) → EachOf P (same_later v a vs cs)
  later_names v a [] cs = tt
  later_names v a (u ∷ us) [] = tt
  later_names v a (u ∷ us) (c ∷ cs) = by_test (u == v) (later_names v a us cs)
    where
      by_test : (b : Bool) → EachOf P (same_later v a us cs) → EachOf P (cond b (same_const a c ∷ same_later v a us cs) (same_later v a us cs))
      by_test true x = (same_names a c, x)
      by_test false x = x

  one_element_names : (met vs cs : List ℕ) → EachOf P (one_element_each met vs cs)
  one_element_names met [] cs = tt
  one_element_names met (v ∷ vs) [] = tt
  one_element_names met (v ∷ vs) (c ∷ cs) = by_test (list_any (λ u. v == u) met) (one_element_names met vs cs) (one_element_names (v ∷ met) vs cs)
    where
      by_test : (b : Bool) → EachOf P (one_element_each met vs cs) → EachOf P (one_element_each (v ∷ met) vs cs) → EachOf P (cond b (one_element_each met vs cs) (same_later v c vs cs ++ one_element_each (v ∷ met) vs cs))
      by_test true x y = x
      by_test false x y = of_append (same_later v c vs cs) (one_element_each (v ∷ met) vs cs) (later_names v c vs cs) y

  unmatched_names : (rule : Rule) (a : Caller) (t : Take) (b : Caller) (u : Take) → EachOf P (unmatched rule a t b u)
  unmatched_names rule a t b u = by_test (are_ruled rule t u) (parts_names _ (one_element_names [] (rule.left.vars ++ rule.right.vars) (consts_of a [] t.args ++ consts_of b [] u.args)))
    where
      by_test : (o : Bool) → Each P (readings (all_parts (one_element_each [] (rule.left.vars ++ rule.right.vars) (consts_of a [] t.args ++ consts_of b [] u.args)))) → EachOf P (cond o (negated (all_parts (one_element_each [] (rule.left.vars ++ rule.right.vars) (consts_of a [] t.args ++ consts_of b [] u.args))) ∷ []) [])
      by_test true h = (h, tt)
      by_test false h = tt

  pub free_names : (d : Specification) (z : Constants) (os : List ℕ) → EachOf P (calls_free d z os)
  free_names d z [] = tt
  free_names d z (o ∷ []) = tt
  free_names d z (o ∷ p ∷ os) = of_flat_map (rule_unmatched (caller z 0) (op_of d o).takes (caller z 1) (op_of d p).takes) d.rules (λ rule.
      of_append (flat_map (λ t. flat_map (λ u. unmatched rule (caller z 0) t (caller z 1) u) (op_of d p).takes) (op_of d o).takes) (flat_map (λ t. flat_map (λ u. unmatched rule (caller z 1) u (caller z 0) t) (op_of d p).takes) (op_of d o).takes)
      (of_flat_map (λ t. flat_map (λ u. unmatched rule (caller z 0) t (caller z 1) u) (op_of d p).takes) (op_of d o).takes (λ t. of_flat_map (λ u. unmatched rule (caller z 0) t (caller z 1) u) (op_of d p).takes (λ u. unmatched_names rule (caller z 0) t (caller z 1) u)))
      (of_flat_map (λ t. flat_map (λ u. unmatched rule (caller z 1) u (caller z 0) t) (op_of d p).takes) (op_of d o).takes (λ t. of_flat_map (λ u. unmatched rule (caller z 1) u (caller z 0) t) (op_of d p).takes (λ u. unmatched_names rule (caller z 1) u (caller z 0) t))))

-- ---- formulas at readings that name only what P allows
pub record Allows (P : Reading → Type 0) (r : Readings) : Type 0 where
  pub has : (k : ℕ) (t : List ℕ) → Each P (readings (r.has k t))
  pub count : (n : ℤ) (i : ℕ) (t : List ℕ) → Each P (of_sum (r.count n i t ∷ []))

module _ (P : Reading → Type 0) (r : Readings) (a : Allows P r) (c : Caller) where
  part_names : (vars : List ℕ) (k : ℤ) (b : Body) → Each P (of_sum (part_of_body r c vars k b ∷ []))
  part_names vars k body.One = tt
  part_names vars k (body.Param n) = tt
  part_names vars k (body.Count i es) = a.count k i (consts_of c vars es)

  pub sum_names : (vars : List ℕ) (ss : List Summand) → Each P (of_sum (map (part_of r c vars) ss))
  sum_names vars [] = tt
  sum_names vars (s ∷ ss) = sums P (part_of r c vars s ∷ []) (map (part_of r c vars) ss) (part_names vars s.coef s.body) (sum_names vars ss)

  pub form_names : (vars : List ℕ) (f : Form) → Each P (readings (formula r c vars f))
  form_names vars true_form = tt
  form_names vars false_form = tt
  form_names vars (not_form f) = form_names vars f
  form_names vars (and_form f g) = each_append P (readings (formula r c vars f)) (readings (formula r c vars g)) (form_names vars f) (form_names vars g)
  form_names vars (or_form f g) = each_append P (readings (formula r c vars f)) (readings (formula r c vars g)) (form_names vars f) (form_names vars g)
  form_names vars (implies_form f g) = each_append P (readings (formula r c vars f)) (readings (formula r c vars g)) (form_names vars f) (form_names vars g)
  form_names vars (has_form k es) = a.has k (consts_of c vars es)
  form_names vars (same_form x y) = same_names P (const_of c vars x) (const_of c vars y)
  form_names vars (differ_form x y) = same_names P (const_of c vars x) (const_of c vars y)
  form_names vars (compare_form t o u) = comparison_names P o (parts_of r c vars t) (parts_of r c vars u) (sum_names vars t.summands) (sum_names vars u.summands)

  pub instances_names : (z : Constants) (vars : List ℕ) (f : Form) → EachOf P (instances z r c vars f)
  instances_names z vars f = of_map P (λ vs. formula r c vs f) (assignments z vars) (λ vs. form_names vs f)

  pub spots_names : (ss : List Spot) (t : List ℕ) → EachOf P (spots_hold c ss t)
  spots_names [] [] = tt
  spots_names [] (x ∷ t) = (tt, tt)
  spots_names (s ∷ ss) [] = (tt, tt)
  spots_names (Every ∷ ss) (x ∷ t) = spots_names ss t
  spots_names (One e ∷ ss) (x ∷ t) = (same_names P (const_of c [] e) x, spots_names ss t)

  pub acts_names : (t : List ℕ) (u : UpdateLine) → Each P (readings (acts_on r c t u))
  acts_names t u = parts_names P (spots_hold c u.at t ++ formula r c [] u.guard ∷ []) (of_append P (spots_hold c u.at t) (formula r c [] u.guard ∷ []) (spots_names u.at t) (form_names [] u.guard, tt))

  then_names : (ch : Change) (m e : Symbolic) → Each P (readings m) → Each P (readings e) → Each P (readings (has_then ch m e))
  then_names Insert m e h k = each_append P (readings m) (readings e) h k
  then_names Remove m e h k = each_append P (readings m) (readings e) h k
  then_names (Add n) m e h k = k
  then_names (Set n) m e h k = k

  pub updated_names : (t : List ℕ) (us : List UpdateLine) (e : Symbolic) → Each P (readings e) → Each P (readings (has_updated r c t us e))
  updated_names t [] e h = h
  updated_names t (u ∷ us) e h = updated_names t us (has_then u.change (acts_on r c t u) e) (then_names u.change (acts_on r c t u) e (acts_names t u) h)

  pub define_has_names : (us : List UpdateLine) (h : Symbolic) (k : ℕ) (t : List ℕ) → Each P (readings h) → EachOf P (define_has r c us h k t)
  define_has_names us h k t p =
      let e = updated_names t (updates_of (thing.Relation k) us) (r.has k t) (a.has k t) in
      (each_append P (readings h) _ p e, (each_append P (readings h) _ p e, tt))

  pub count_then_names : (ch : Change) (v : List Part) → Each P (of_sum v) → Each P (of_sum (count_then r c ch v))
  count_then_names Insert v h = h
  count_then_names Remove v h = h
  count_then_names (Add n) v h = sums P v (parts_of r c [] n) h (sum_names [] n.summands)
  count_then_names (Set n) v h = sum_names [] n.summands

  next_names : (us : List UpdateLine) (n : ℕ) (k : Stage) (i : ℕ) (t : List ℕ) → P (record { stage = k; thing = thing.Counter i; tuple = t }) → Each P (of_sum (multiple (pos 1) (value_after us n k i t) ∷ []))
  next_names [] n k i t p = (p, tt)
  next_names (u ∷ us) n k i t p = tt

  values_names : (k : Stage) (i : ℕ) (t : List ℕ) (n : ℕ) (v : List Part) (us : List UpdateLine) → P (record { stage = k; thing = thing.Counter i; tuple = t }) → Each P (of_sum v) → EachOf P (values_defined r c k i t n v us)
  values_names k i t n v [] p h = tt
  values_names k i t n v (u ∷ us) p h =
      let next = multiple (pos 1) (value_after us n k i t) ∷ [] in
      let q = next_names us n k i t p in (
        each_append P (readings (acts_on r c t u)) (readings (equal next (count_then r c u.change v))) (acts_names t u) (equal_names P next (count_then r c u.change v) q (count_then_names u.change v h)),
        (
          each_append P (readings (acts_on r c t u)) (readings (equal next v)) (acts_names t u) (equal_names P next v q h),
          values_names k i t (suc n) next us p q,
        ),
      )

  stays_names : (k : Stage) (i : ℕ) (t : List ℕ) (us : List UpdateLine) → P (record { stage = k; thing = thing.Counter i; tuple = t }) → EachOf P (value_stays r k i t us)
  stays_names k i t [] p = (equal_names P (multiple (pos 1) (reading k i t) ∷ []) (r.count (pos 1) i t ∷ []) (p, tt) (a.count (pos 1) i t), tt)
  stays_names k i t (u ∷ us) p = tt

  pub define_count_names : (us : List UpdateLine) (k : Stage) (i : ℕ) (t : List ℕ) → P (record { stage = k; thing = thing.Counter i; tuple = t }) → EachOf P (define_count r c us k i t)
  define_count_names us k i t p = of_append P (value_stays r k i t (updates_of (thing.Counter i) us)) (values_defined r c k i t 1 (r.count (pos 1) i t ∷ []) (updates_of (thing.Counter i) us)) (stays_names k i t (updates_of (thing.Counter i) us) p) (values_names k i t 1 (r.count (pos 1) i t ∷ []) (updates_of (thing.Counter i) us) p (a.count (pos 1) i t))

  pub fails_names : (z : Constants) (l : Line) → EachOf P (line_fails z r c l)
  fails_names z l = by_test (is_exists l.prefix)
    where
      negated_names : (fs : List Symbolic) → EachOf P fs → EachOf P (map negated fs)
      negated_names [] h = tt
      negated_names (f ∷ fs) h = (h.0, negated_names fs h.1)

      by_test : (b : Bool) → EachOf P (cond b (map negated (instances z r c l.vars l.body)) (negated (formula r c z.elements l.body) ∷ []))
      by_test true = negated_names (instances z r c l.vars l.body) (instances_names z l.vars l.body)
      by_test false = (form_names z.elements l.body, tt)

-- ---- which stages the list names
abbrev pub AllBelow : ℕ → List ℕ → Type 0
AllBelow n [] = Unit {0}
AllBelow n (k ∷ ks) = (k < n) × AllBelow n ks

abbrev pub StageIn : Obligation → Reading → Type 0
StageIn ob q = AllBelow (length (operations_of ob)) q.stage

pub allows_stage : (P : Reading → Type 0) (k : Stage) → ((x : Thing) (t : List ℕ) → P (record { stage = k; thing = x; tuple = t })) → Allows P (at_stage k)
allows_stage P k h = record { has = λ i t. (h (thing.Relation i) t, tt); count = λ n i t. (h (thing.Counter i) t, tt) }

pub allows_start : (P : Reading → Type 0) (d : Specification) → Allows P (at_start d)
allows_start P d = record { has = λ i t. tt; count = λ n i t. tt }

module _ (d : Specification) (ob : Obligation) where
  abbrev P : Reading → Type 0
  P = StageIn ob

  entry_allowed : Allows P (at_stage [])
  entry_allowed = allows_stage P [] (λ x t. tt)

  pub invariants_names : EachOf P (invariants_hold d (constants_of d ob))
  invariants_names = of_flat_map P (λ i. instances (constants_of d ob) (at_stage []) nobody i.line.vars i.line.body) d.invariants (λ i. instances_names P (at_stage []) entry_allowed nobody (constants_of d ob) i.line.vars i.line.body)

  line_names : (c : Caller) (l : Line) (own : List ℕ) → EachOf P (line_holds (constants_of d ob) c l own)
  line_names c l own = by_test (is_exists l.prefix)
    where
      by_test : (b : Bool) → EachOf (StageIn ob) (cond b (formula (at_stage []) c own l.body ∷ []) (instances (constants_of d ob) (at_stage []) c l.vars l.body))
      by_test true = (form_names P (at_stage []) entry_allowed c own l.body, tt)
      by_test false = instances_names P (at_stage []) entry_allowed c (constants_of d ob) l.vars l.body

  lines_names : (c : Caller) (ls : List Line) (owns : List (List ℕ)) → EachOf P (lines_hold (constants_of d ob) c ls owns)
  lines_names c [] owns = tt
  lines_names c (l ∷ ls) [] = tt
  lines_names c (l ∷ ls) (own ∷ owns) = of_append P (line_holds (constants_of d ob) c l own) (lines_hold (constants_of d ob) c ls owns) (line_names c l own) (lines_names c ls owns)

  pub calls_names : (n : ℕ) (os : List ℕ) (owns : List (List (List ℕ))) → EachOf P (calls_ready d (constants_of d ob) n os owns)
  calls_names n [] owns = tt
  calls_names n (o ∷ os) [] = tt
  calls_names n (o ∷ os) (own ∷ owns) = of_append P (lines_hold (constants_of d ob) (caller (constants_of d ob) n) (op_of d o).requires_ own) (calls_ready d (constants_of d ob) (suc n) os owns) (lines_names (caller (constants_of d ob) n) (op_of d o).requires_ own) (calls_names (suc n) os owns)

  define_names : (k : Stage) (x : Thing) (t : List ℕ) → StageIn ob (record { stage = k; thing = x; tuple = t }) → EachOf P (define d ob (constants_of d ob) k x t)
  define_names [] x t h = tt
  define_names (n ∷ k) (thing.Relation i) t h = define_has_names P (at_stage k) (allows_stage P k (λ x t. h.1)) (caller (constants_of d ob) n) (updates_at d ob n) (has (n ∷ k) i t) i t (h, tt)
  define_names (n ∷ k) (thing.Counter i) t h = define_count_names P (at_stage k) (allows_stage P k (λ x t. h.1)) (caller (constants_of d ob) n) (updates_at d ob n) (n ∷ k) i t h

  definitions_names : (qs : List Reading) → Each P qs → EachOf P (flat_map (definition d ob (constants_of d ob)) qs)
  definitions_names [] h = tt
  definitions_names (q ∷ qs) h = of_append P (definition d ob (constants_of d ob) q) (flat_map (definition d ob (constants_of d ob)) qs) (define_names q.stage q.thing q.tuple h.0) (definitions_names qs h.1)

  pub with_names : (n : ℕ) (list : List Symbolic) → EachOf P list → EachOf P (with_definitions d ob (constants_of d ob) n list)
  with_names n list h = of_append P list (flat_map (definition d ob (constants_of d ob)) (readings_after n list)) h (definitions_names (readings_after n list) (after_names P n list h))

entry_names : (d : Specification) (ob : Obligation) → EachOf (StageIn ob) (entry d ob (constants_of d ob))
entry_names d (Init i) = tt
entry_names d (Safety o i) = invariants_names d (Safety o i)
entry_names d (Commute o p x) = invariants_names d (Commute o p x)
entry_names d (Stable o l p) = invariants_names d (Stable o l p)

pub differ_names : (P : Reading → Type 0) (x : Thing) (j k : Stage) (t : List ℕ) → P (record { stage = j; thing = x; tuple = t }) → P (record { stage = k; thing = x; tuple = t }) → Each P (readings (differ x j k t))
differ_names P (thing.Relation i) j k t p q = (p, (q, (p, (q, tt))))
differ_names P (thing.Counter i) j k t p q = (p, (q, (q, (p, tt))))

conclusion_names : (d : Specification) (ob : Obligation) → EachOf (StageIn ob) (conclusion d ob (constants_of d ob))
conclusion_names d (Init i) = fails_names (StageIn (Init i)) (at_start d) (allows_start (StageIn (Init i)) d) nobody (constants_of d (Init i)) (invariant_line d i)
conclusion_names d (Safety o i) = fails_names (StageIn (Safety o i)) (at_stage (0 ∷ [])) (allows_stage (StageIn (Safety o i)) (0 ∷ []) (λ x t. (omega arith, tt))) nobody (constants_of d (Safety o i)) (invariant_line d i)
conclusion_names d (Commute o p x) = (differ_names (StageIn (Commute o p x)) x (1 ∷ 0 ∷ []) (0 ∷ 1 ∷ []) (constants_of d (Commute o p x)).elements (omega arith, (omega arith, tt)) (omega arith, (omega arith, tt)), tt)
conclusion_names d (Stable o l p) = fails_names (StageIn (Stable o l p)) (at_stage (1 ∷ [])) (allows_stage (StageIn (Stable o l p)) (1 ∷ []) (λ x t. (omega arith, tt))) (caller (constants_of d (Stable o l p)) 0) (constants_of d (Stable o l p)) (requires_line d o l)

pub stated_names : (d : Specification) (ob : Obligation) → EachOf (StageIn ob) (stated d ob (constants_of d ob))
stated_names d ob =
    let z = constants_of d ob in
    let ready = calls_ready d z 0 (operations_of ob) z.chosen in
    let free = calls_free d z (operations_of ob) in
    of_append (StageIn ob) (before_conclusion d ob z) (conclusion d ob z)
    (of_append (StageIn ob) (entry d ob z) (ready ++ free) (entry_names d ob) (of_append (StageIn ob) ready free (calls_names d ob 0 (operations_of ob) z.chosen) (free_names (StageIn ob) d z (operations_of ob))))
    (conclusion_names d ob)
