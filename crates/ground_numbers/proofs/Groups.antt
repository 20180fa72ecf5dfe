-- Every formula of an obligation is moderate, group by group.
use Rattle.std.proofs.Common.{◌≡◌, ℕ, suc, ◌==◌, true, List, [], ◌∷◌, ◌++◌, map, flat_map, filter, refl}
use Rattle.std.specs.Prelude.{slice_index}
use Rattle.std.specs.List.{list_all, list_any}
use Rattle.std.proofs.lemmas.Bool.{and_parts, and_from}
use Rattle.spec_core.specs.declared.operation.Take.{Take}
use Rattle.spec_core.specs.declared.spec.Invariant.{Invariant}
use Rattle.spec_core.specs.declared.spec.Rule.{Rule}
use Rattle.spec_core.specs.declared.update.Thing.{Thing}
use Rattle.spec_core.specs.declared.update.Thing.TheVariants as thing
use Rattle.spec_core.specs.Line.{Line}
use Rattle.spec_core.specs.Specification.{Specification, op_of}
use Rattle.spec_core.specs.Truth.{is_exists}
use Rattle.spec_core.specs.Meaning.{invariant_line}
use Rattle.spec_core.specs.Typed.{is_specification}
use Rattle.effectors.specs.Effect.{is_thing}
use Rattle.obligation_list.specs.declared.obligation.Obligation.{Obligation}
use Rattle.obligation_list.specs.declared.obligation.Obligation.TheVariants.{Init, Safety, Commute, Stable}
use Rattle.obligation_list.specs.Obligations.{things}
use Rattle.obligation_list.specs.Breaking.{operations_of, requires_line}
use Rattle.ground_problem.specs.Symbols.{Stage, Symbolic, has, negated, all_parts, same_const}
use Rattle.ground_problem.specs.Constants.{Constants, constants_of, of_sort}
use Rattle.ground_problem.specs.Formulas.{Caller, caller, nobody, at_stage, at_start, consts_of, formula, instances}
use Rattle.ground_problem.specs.Entry.{invariants_hold, line_holds, lines_hold, calls_ready, same_later, one_element_each, are_ruled, unmatched, rule_unmatched, calls_free, entry, before_conclusion}
use Rattle.ground_problem.specs.Conclusion.{differ, conclusion}
use Rattle.ground_problem.specs.Definitions.{Reading, updates_at, define, definition, readings_after, with_definitions}
use Rattle.ground_problem.specs.Equality.{three_agree, agree_with_pairs, equality, tuples_same, readings_same, congruent, congruent_pairs, rising, congruence}
use Rattle.ground_problem.specs.Problem.{stated, defined, formulas_of}
use Rattle.ground_numbers.proofs.Moderate.{is_moderate, all_moderate, all-both, all-map, all-flat_map, all-flat_map-of, all-cond, both-moderate, same_const-moderate, all_parts-moderate, is_small_line, is_small_update, op_of-small, invariants-small, invariant_line-small, requires_line-small, stage-moderate, start-moderate, formula-moderate, instances-moderate, fails-moderate, define_has-moderate, define_count-moderate}

-- ---- at the entry

module _ (z : Constants) where
  line_holds-moderate : (c : Caller) (l : Line) (own : List ℕ) → is_small_line l ≡ true → all_moderate (line_holds z c l own) ≡ true
  line_holds-moderate c l own h = all-cond (is_exists l.prefix) (formula (at_stage []) c own l.body ∷ []) (instances z (at_stage []) c l.vars l.body)
      (and_from (is_moderate (formula (at_stage []) c own l.body)) true (formula-moderate (at_stage []) (stage-moderate []) c own l.body h) refl)
      (instances-moderate (at_stage []) (stage-moderate []) c z l.vars l.body h)

  lines_hold-moderate : (c : Caller) (ls : List Line) (owns : List (List ℕ)) → list_all is_small_line ls ≡ true → all_moderate (lines_hold z c ls owns) ≡ true
  lines_hold-moderate c [] owns h = refl
  lines_hold-moderate c (l ∷ ls) [] h = refl
  lines_hold-moderate c (l ∷ ls) (own ∷ owns) h = (let k = and_parts (is_small_line l) (list_all is_small_line ls) h in all-both (line_holds z c l own) (lines_hold z c ls owns) (line_holds-moderate c l own k.0) (lines_hold-moderate c ls owns k.1))

  calls_ready-moderate : (d : Specification) → is_specification d ≡ true → (n : ℕ) (os : List ℕ) (chosen : List (List (List ℕ))) → all_moderate (calls_ready d z n os chosen) ≡ true
  calls_ready-moderate d t n [] chosen = refl
  calls_ready-moderate d t n (o ∷ os) [] = refl
  calls_ready-moderate d t n (o ∷ os) (own ∷ chosen) =
      all-both (lines_hold z (caller z n) (op_of d o).requires_ own) (calls_ready d z (suc n) os chosen)
      (lines_hold-moderate (caller z n) (op_of d o).requires_ own (and_parts (list_all is_small_line (op_of d o).requires_) _ (op_of-small d t o)).0)
      (calls_ready-moderate d t (suc n) os chosen)

same_later-moderate : (v a : ℕ) (us cs : List ℕ) → all_moderate (same_later v a us cs) ≡ true
same_later-moderate v a [] cs = refl
same_later-moderate v a (u ∷ us) [] = refl
same_later-moderate v a (u ∷ us) (c ∷ cs) = all-cond (u == v) (same_const a c ∷ same_later v a us cs) (same_later v a us cs) (and_from (is_moderate (same_const a c)) _ (same_const-moderate a c) (same_later-moderate v a us cs)) (same_later-moderate v a us cs)

one_element-moderate : (met vs cs : List ℕ) → all_moderate (one_element_each met vs cs) ≡ true
one_element-moderate met [] cs = refl
one_element-moderate met (v ∷ vs) [] = refl
one_element-moderate met (v ∷ vs) (c ∷ cs) = all-cond (list_any (λ u. v == u) met) (one_element_each met vs cs) (same_later v c vs cs ++ one_element_each (v ∷ met) vs cs) (one_element-moderate met vs cs) (all-both (same_later v c vs cs) (one_element_each (v ∷ met) vs cs) (same_later-moderate v c vs cs) (one_element-moderate (v ∷ met) vs cs))

unmatched-moderate : (rule : Rule) (a : Caller) (t : Take) (b : Caller) (u : Take) → all_moderate (unmatched rule a t b u) ≡ true
unmatched-moderate rule a t b u =
    let fs = one_element_each [] (rule.left.vars ++ rule.right.vars) (consts_of a [] t.args ++ consts_of b [] u.args) in
    all-cond (are_ruled rule t u) (negated (all_parts fs) ∷ []) [] (and_from (is_moderate (all_parts fs)) true (all_parts-moderate fs (one_element-moderate [] (rule.left.vars ++ rule.right.vars) (consts_of a [] t.args ++ consts_of b [] u.args))) refl) refl

rule-moderate : (a : Caller) (ts : List Take) (b : Caller) (us : List Take) (rule : Rule) → all_moderate (rule_unmatched a ts b us rule) ≡ true
rule-moderate a ts b us rule = all-both (flat_map (λ t. flat_map (λ u. unmatched rule a t b u) us) ts) (flat_map (λ t. flat_map (λ u. unmatched rule b u a t) us) ts)
    (all-flat_map (λ t. flat_map (λ u. unmatched rule a t b u) us) ts (λ t. all-flat_map (λ u. unmatched rule a t b u) us (λ u. unmatched-moderate rule a t b u)))
    (all-flat_map (λ t. flat_map (λ u. unmatched rule b u a t) us) ts (λ t. all-flat_map (λ u. unmatched rule b u a t) us (λ u. unmatched-moderate rule b u a t)))

calls_free-moderate : (d : Specification) (z : Constants) (os : List ℕ) → all_moderate (calls_free d z os) ≡ true
calls_free-moderate d z [] = refl
calls_free-moderate d z (o ∷ []) = refl
calls_free-moderate d z (o ∷ p ∷ os) = all-flat_map (rule_unmatched (caller z 0) (op_of d o).takes (caller z 1) (op_of d p).takes) d.rules (rule-moderate (caller z 0) (op_of d o).takes (caller z 1) (op_of d p).takes)

-- ---- equality

three-moderate : (a b c : ℕ) → all_moderate (three_agree a b c) ≡ true
three-moderate a b c = refl

pairs-moderate : (a : ℕ) (bs : List ℕ) → all_moderate (agree_with_pairs a bs) ≡ true
pairs-moderate a [] = refl
pairs-moderate a (b ∷ bs) = all-both (flat_map (three_agree a b) bs) (agree_with_pairs a bs) (all-flat_map (three_agree a b) bs (three-moderate a b)) (pairs-moderate a bs)

equality-moderate : (n : ℕ) (ss : List ℕ) → all_moderate (equality n ss) ≡ true
equality-moderate n [] = refl
equality-moderate n (s ∷ ss) = all-both (agree_with_pairs n (of_sort (suc n) ss s)) (equality (suc n) ss) (pairs-moderate n (of_sort (suc n) ss s)) (equality-moderate (suc n) ss)

tuples-moderate : (t u : List ℕ) → all_moderate (tuples_same t u) ≡ true
tuples-moderate [] [] = refl
tuples-moderate [] (u ∷ us) = refl
tuples-moderate (t ∷ ts) [] = refl
tuples-moderate (t ∷ ts) (u ∷ us) = and_from (is_moderate (same_const t u)) _ (same_const-moderate t u) (tuples-moderate ts us)

readings-moderate : (x : Thing) (t u : List ℕ) → is_moderate (readings_same x t u) ≡ true
readings-moderate (thing.Relation r) t u = refl
readings-moderate (thing.Counter i) t u = refl

congruent-moderate : (x : Thing) (t u : List ℕ) → is_moderate (congruent x t u) ≡ true
congruent-moderate x t u = both-moderate (all_parts (tuples_same t u)) (readings_same x t u) (all_parts-moderate (tuples_same t u) (tuples-moderate t u)) (readings-moderate x t u)

congruent_pairs-moderate : (x : Thing) (ts : List (List ℕ)) → all_moderate (congruent_pairs x ts) ≡ true
congruent_pairs-moderate x [] = refl
congruent_pairs-moderate x (t ∷ ts) = all-both (map (congruent x t) ts) (congruent_pairs x ts) (all-map (congruent x t) ts (congruent-moderate x t)) (congruent_pairs-moderate x ts)

congruence-moderate : (qs : List Reading) (xs : List Thing) → all_moderate (congruence qs xs) ≡ true
congruence-moderate qs xs = all-flat_map (λ x. congruent_pairs x (rising (filter (λ q. is_thing q.thing x) qs))) xs (λ x. congruent_pairs-moderate x (rising (filter (λ q. is_thing q.thing x) qs)))

-- ---- the whole list

module _ (d : Specification) (t : is_specification d ≡ true) (ob : Obligation) where
  abbrev z : Constants
  z = constants_of d ob

  invariants-moderate : all_moderate (invariants_hold d z) ≡ true
  invariants-moderate = all-flat_map-of (λ (i : Invariant). is_small_line i.line) (λ i. instances z (at_stage []) nobody i.line.vars i.line.body) d.invariants (invariants-small d t) (λ i h. instances-moderate (at_stage []) (stage-moderate []) nobody z i.line.vars i.line.body h)

  entry-moderate : (o : Obligation) → all_moderate (entry d o z) ≡ true
  entry-moderate (Init i) = refl
  entry-moderate (Safety o i) = invariants-moderate
  entry-moderate (Commute o p x) = invariants-moderate
  entry-moderate (Stable o l p) = invariants-moderate

  differ-moderate : (x : Thing) (j k : Stage) (u : List ℕ) → is_moderate (differ x j k u) ≡ true
  differ-moderate (thing.Relation r) j k u = refl
  differ-moderate (thing.Counter i) j k u = refl

  conclusion-moderate : (o : Obligation) → all_moderate (conclusion d o z) ≡ true
  conclusion-moderate (Init i) = fails-moderate (at_start d) (start-moderate d t) nobody z (invariant_line d i) (invariant_line-small d t i)
  conclusion-moderate (Safety o i) = fails-moderate (at_stage (0 ∷ [])) (stage-moderate (0 ∷ [])) nobody z (invariant_line d i) (invariant_line-small d t i)
  conclusion-moderate (Commute o p x) = and_from (is_moderate (differ x (1 ∷ 0 ∷ []) (0 ∷ 1 ∷ []) z.elements)) true (differ-moderate x (1 ∷ 0 ∷ []) (0 ∷ 1 ∷ []) z.elements) refl
  conclusion-moderate (Stable o l p) = fails-moderate (at_stage (1 ∷ [])) (stage-moderate (1 ∷ [])) (caller z 0) z (requires_line d o l) (requires_line-small d t o l)

  stated-moderate : all_moderate (stated d ob z) ≡ true
  stated-moderate =
      let ready = calls_ready d z 0 (operations_of ob) z.chosen in
      let free = calls_free d z (operations_of ob) in
      all-both (before_conclusion d ob z) (conclusion d ob z)
      (all-both (entry d ob z) (ready ++ free) (entry-moderate ob) (all-both ready free (calls_ready-moderate z d t 0 (operations_of ob) z.chosen) (calls_free-moderate d z (operations_of ob))))
      (conclusion-moderate ob)

  define-moderate : (k : Stage) (x : Thing) (u : List ℕ) → all_moderate (define d ob z k x u) ≡ true
  define-moderate [] x u = refl
  define-moderate (n ∷ k) (thing.Relation r) u = define_has-moderate (at_stage k) (stage-moderate k) (caller z n) (updates_at d ob n) (has (n ∷ k) r u) r u (and_parts _ (list_all is_small_update (updates_at d ob n)) (op_of-small d t (slice_index (operations_of ob) n))).1 refl
  define-moderate (n ∷ k) (thing.Counter i) u = define_count-moderate (at_stage k) (stage-moderate k) (caller z n) (updates_at d ob n) (n ∷ k) i u (and_parts _ (list_all is_small_update (updates_at d ob n)) (op_of-small d t (slice_index (operations_of ob) n))).1

  with_definitions-moderate : (n : ℕ) (list : List Symbolic) → all_moderate list ≡ true → all_moderate (with_definitions d ob z n list) ≡ true
  with_definitions-moderate n list h = all-both list (flat_map (definition d ob z) (readings_after n list)) h (all-flat_map (definition d ob z) (readings_after n list) (λ q. define-moderate q.stage q.thing q.tuple))

  defined-moderate : all_moderate (defined d ob z) ≡ true
  defined-moderate = with_definitions-moderate 1 (with_definitions d ob z 2 (stated d ob z)) (with_definitions-moderate 2 (stated d ob z) stated-moderate)

  -- Every formula of an obligation of a well-formed specification is moderate.
  pub formulas-moderate : all_moderate (formulas_of d ob) ≡ true
  formulas-moderate =
      let list = defined d ob z in
      all-both list (equality 0 z.sorts ++ congruence (readings_after 0 list) (things d)) defined-moderate
      (all-both (equality 0 z.sorts) (congruence (readings_after 0 list) (things d)) (equality-moderate 0 z.sorts) (congruence-moderate (readings_after 0 list) (things d)))
