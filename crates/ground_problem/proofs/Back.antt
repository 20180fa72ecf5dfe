-- Lines that an interpretation makes true at constants are true at their values.
use Rattle.std.proofs.Common.{◌≡◌, ℕ, suc, ◌+◌, nat_lt, ℤ, Bool, true, false, not, cond, ◌&&◌, ◌||◌, inl, inr, List, [], ◌∷◌, map, length, slice_get, refl, sym, ◌∙◌, ap, subst, arith}
use Rattle.std.specs.List.{list_all, list_any}
use Rattle.std.specs.Str.{bytes_eq}
use Rattle.std.proofs.lemmas.Bool.{ltb-true, and_parts, and_from, or_cases, or_left, or_right, not-true}
use Rattle.std.proofs.lemmas.Slice.Eq.{bytes_eq-Decides}
use Rattle.std.proofs.lemmas.List.Folds.{list_all-map}
use Rattle.spec_core.specs.declared.operation.Param.{Param as Parameter}
use Rattle.spec_core.specs.declared.update.Thing.{Thing}
use Rattle.spec_core.specs.Form.{Form}
use Rattle.spec_core.specs.Line.{Line}
use Rattle.spec_core.specs.Specification.{Specification}
use Rattle.spec_core.specs.World.{size_of, tuples}
use Rattle.spec_core.specs.State.{Reads, is_in}
use Rattle.spec_core.specs.Truth.{truth, is_exists, line_true, lines_true}
use Rattle.spec_core.specs.Fits.{fits_places}
use Rattle.spec_core.specs.Typed.{is_number, form_typed, is_line, is_specification}
use Rattle.spec_core.proofs.Members.{is_in-tuples}
use Rattle.spec_core.proofs.States.{list_all-from_is_in, list_all-is_in}
use Rattle.obligation_list.specs.declared.obligation.Obligation.{Obligation}
use Rattle.obligation_list.specs.Obligations.{IsObligation}
use Rattle.obligation_list.specs.Breaking.{elements_of, failing_vars, line_at}
use Rattle.ground_problem.specs.Symbols.{Stage, argument, Symbolic, negated, Interpretation, is_true, all_true}
use Rattle.ground_problem.specs.Constants.{of_sort, assignments, chosen_vars}
use Rattle.ground_problem.specs.Formulas.{Caller, Readings, at_stage, formula, instances}
use Rattle.ground_problem.specs.Entry.{line_holds, lines_hold}
use Rattle.ground_problem.specs.Conclusion.{line_fails}
use Rattle.ground_problem.specs.Definitions.{Reading, readings}
use Rattle.ground_problem.specs.Problem.{formulas_of}
use Rattle.ground_problem.proofs.Means.{StandsFor}
use Rattle.ground_problem.proofs.Choices.{one_of, members, in_choices, some_at}
use Rattle.ground_problem.proofs.First.{state_at}
use Rattle.ground_problem.proofs.Groups.{line_typed, means, shows}
use Rattle.ground_problem.proofs.Names.{Each, EachOf, allows_stage, form_names}
use Rattle.ground_problem.proofs.Closed.{of_left, of_right}
use Rattle.ground_problem.proofs.Worlds.{sort_one_of, append_left, append_right}
use Rattle.ground_problem.proofs.Rows.{HaveSorts}
use Rattle.ground_problem.proofs.Sorted.{OwnSorted, elements_sorted, assigned_sorted}
use Rattle.ground_problem.proofs.Deciding.{Same, Agreed, agree_form, both_of}
use Rattle.ground_problem.proofs.Placed.{NamesSorted}
use Rattle.ground_problem.proofs.Given as given
use Rattle.ground_problem.proofs.Carried.{o, pair, at_stage_agrees}

pub have_length : (sorts ss ns : List ℕ) → HaveSorts sorts ss ns → length ns ≡ length ss
have_length sorts [] [] k = refl
have_length sorts [] (n ∷ ns) k = absurd k
have_length sorts (s ∷ ss) [] k = absurd k
have_length sorts (s ∷ ss) (n ∷ ns) k = ap suc (have_length sorts ss ns k.1)

-- ---- one of some formulas
true_at : (m : Interpretation) (g : List ℕ → Symbolic) (ts : List (List ℕ)) (u : List ℕ) → is_in u ts ≡ true → all_true m (map g ts) ≡ true → is_true m (g u) ≡ true
true_at m g ts u k l = list_all-is_in (λ u. is_true m (g u)) ts u (sym (list_all-map (is_true m) g ts) ∙ l) k

false_at : (m : Interpretation) (g : List ℕ → Symbolic) (ts : List (List ℕ)) (u : List ℕ) → is_in u ts ≡ true → all_true m (map negated (map g ts)) ≡ true → is_true m (g u) ≡ false
false_at m g ts u k l = not-true (is_true m (g u)) (list_all-is_in (λ u. not (is_true m (g u))) ts u (sym (list_all-map (is_true m) negated (map g ts) ∙ list_all-map (λ f. not (is_true m f)) g ts) ∙ l) k)

named_at : (P : Reading → Type 0) (g : List ℕ → Symbolic) (ts : List (List ℕ)) (u : List ℕ) → is_in u ts ≡ true → EachOf P (map g ts) → Each P (readings (g u))
named_at P g [] u k l = absurd cc
named_at P g (x ∷ ts) u k l = elim (or_cases (bytes_eq u x) (is_in u ts) k) [
  | inl e ↦ subst (λ (v : List ℕ). Each P (readings (g v))) (sym ((bytes_eq-Decides u x).0 e)) l.0
  | inr q ↦ named_at P g ts u q l.1
]

named_under : (P : Reading → Type 0) (fs : List Symbolic) → EachOf P (map negated fs) → EachOf P fs
named_under P [] h = tt
named_under P (f ∷ fs) h = (h.0, named_under P fs h.1)

none_of : (p : List ℕ → Bool) (ts : List (List ℕ)) → ((u : List ℕ) → is_in u ts ≡ true → p u ≡ false) → list_any p ts ≡ false
none_of p [] h = refl
none_of p (u ∷ ts) h = neither (p u) (list_any p ts) (h u (or_left (bytes_eq u u) (is_in u ts) ((bytes_eq-Decides u u).1 refl))) (none_of p ts (λ v l. h v (or_right (bytes_eq v u) (is_in v ts) l)))
  where
    neither : (a b : Bool) → a ≡ false → b ≡ false → (a || b) ≡ false
    neither a b p q = grind arith

true_alone : (a b : Bool) → a ≡ b → (a && true) ≡ true → b ≡ true
true_alone a b e k = grind arith

false_alone : (a b : Bool) → a ≡ b → (not a && true) ≡ true → b ≡ false
false_alone a b e k = grind arith

module _ (d : Specification) (ob : Obligation) (m : Interpretation) (h : all_true m (formulas_of d ob) ≡ true) (t : is_specification d ≡ true) (io : IsObligation d ob) where
  abbrev sorts : List ℕ
  sorts = (given.z d ob m h t io).sorts

  -- each choice of elements is an assignment's
  onto_members : (vars u : List ℕ) → fits_places (given.w d ob m h t io) vars u ≡ true → (vs : List ℕ) × (members (map (of_sort 0 sorts) vars) vs ≡ true) × (map (given.val d ob m h t io) vs ≡ u)
  onto_members [] [] k = ([], refl, refl)
  onto_members [] (x ∷ u) k = absurd cc
  onto_members (s ∷ vars) [] k = absurd cc
  onto_members (s ∷ vars) (x ∷ u) k =
      let k2 = and_parts (nat_lt x (size_of (given.w d ob m h t io) s)) (fits_places (given.w d ob m h t io) vars u) k in
      let c = given.element_of d ob m h t io s x (ltb-true x (size_of (given.w d ob m h t io) s) k2.0) in
      let more = onto_members vars u k2.1 in
      (c.0 ∷ more.0, and_from (one_of c.0 (of_sort 0 sorts s)) (members (map (of_sort 0 sorts) vars) more.0) (let e : 0 + c.0 ≡ c.0 = omega arith in subst (λ (y : ℕ). one_of y (of_sort 0 sorts s) ≡ true) e (sort_one_of 0 sorts s c.0 c.1)) more.1, (let a = c.2 in let b = more.2 in cc))

  onto : (vars u : List ℕ) → is_in u (tuples (given.w d ob m h t io) vars) ≡ true → (vs : List ℕ) × (is_in vs (assignments (given.z d ob m h t io) vars) ≡ true) × (map (given.val d ob m h t io) vs ≡ u)
  onto vars u k = (let v = onto_members vars u (sym (is_in-tuples (given.w d ob m h t io) vars u) ∙ k) in (v.0, in_choices (map (of_sort 0 sorts) vars) v.0 ∙ v.1, v.2))

  -- ---- where a formula at constants is true exactly where it is at their values
  module _ (ps : List Parameter) (c : Caller) (args : List ℤ) (rs : Readings) (s : Reads) (Q : Reading → Type 0)
      (same : (vars vs : List ℕ) → HaveSorts sorts vars vs → (f : Form) → form_typed d ps vars f ≡ true → Each Q (readings (formula rs c vs f)) → is_true m (formula rs c vs f) ≡ truth (given.w d ob m h t io) s args (map (given.val d ob m h t io) vs) f) where
    instances_back : (vars : List ℕ) (f : Form) → form_typed d ps vars f ≡ true → EachOf Q (instances (given.z d ob m h t io) rs c vars f) → all_true m (instances (given.z d ob m h t io) rs c vars f) ≡ true → list_all (λ vs. truth (given.w d ob m h t io) s args vs f) (tuples (given.w d ob m h t io) vars) ≡ true
    instances_back vars f ft nf l = list_all-from_is_in (λ vs. truth (given.w d ob m h t io) s args vs f) (tuples (given.w d ob m h t io) vars) (λ u q.
        let v = onto vars u q in
        let ts = assignments (given.z d ob m h t io) vars in
        subst (λ (x : List ℕ). truth (given.w d ob m h t io) s args x f ≡ true) v.2
        (sym (same vars v.0 (assigned_sorted d ob vars v.0 v.1) f ft (named_at Q (λ vs. formula rs c vs f) ts v.0 v.1 nf)) ∙ true_at m (λ vs. formula rs c vs f) ts v.0 v.1 l))

    none_back : (vars : List ℕ) (f : Form) → form_typed d ps vars f ≡ true → EachOf Q (map negated (instances (given.z d ob m h t io) rs c vars f)) → all_true m (map negated (instances (given.z d ob m h t io) rs c vars f)) ≡ true → list_any (λ vs. truth (given.w d ob m h t io) s args vs f) (tuples (given.w d ob m h t io) vars) ≡ false
    none_back vars f ft nf l = none_of (λ vs. truth (given.w d ob m h t io) s args vs f) (tuples (given.w d ob m h t io) vars) (λ u q.
        let v = onto vars u q in
        let ts = assignments (given.z d ob m h t io) vars in
        subst (λ (x : List ℕ). truth (given.w d ob m h t io) s args x f ≡ false) v.2
        (sym (same vars v.0 (assigned_sorted d ob vars v.0 v.1) f ft (named_at Q (λ vs. formula rs c vs f) ts v.0 v.1 (named_under Q (instances (given.z d ob m h t io) rs c vars f) nf))) ∙ false_at m (λ vs. formula rs c vs f) ts v.0 v.1 l))

    -- a line that fails
    pub fails_back : (l : Line) → elements_of d ob ≡ failing_vars l → is_line d ps l ≡ true → EachOf Q (line_fails (given.z d ob m h t io) rs c l) → all_true m (line_fails (given.z d ob m h t io) rs c l) ≡ true → line_at (given.w d ob m h t io) s args l (given.es d ob m h t io) ≡ false
    fails_back l e lt nf hl = by_test (is_exists l.prefix) (subst (λ (ss : List ℕ). HaveSorts sorts ss (given.z d ob m h t io).elements) e (elements_sorted d ob)) nf hl
      where
        by_test : (b : Bool) → HaveSorts sorts (cond b [] l.vars) (given.z d ob m h t io).elements → EachOf Q (cond b (map negated (instances (given.z d ob m h t io) rs c l.vars l.body)) (negated (formula rs c (given.z d ob m h t io).elements l.body) ∷ []))
            → all_true m (cond b (map negated (instances (given.z d ob m h t io) rs c l.vars l.body)) (negated (formula rs c (given.z d ob m h t io).elements l.body) ∷ [])) ≡ true
            → cond b (cond b (list_any (λ vs. truth (given.w d ob m h t io) s args vs l.body) (tuples (given.w d ob m h t io) l.vars)) (list_all (λ vs. truth (given.w d ob m h t io) s args vs l.body) (tuples (given.w d ob m h t io) l.vars))) (truth (given.w d ob m h t io) s args (given.es d ob m h t io) l.body) ≡ false
        by_test true so nf hl = none_back l.vars l.body (line_typed d ps l lt) nf hl
        by_test false so nf hl = false_alone _ _ (same l.vars (given.z d ob m h t io).elements so l.body (line_typed d ps l lt) nf.0) hl

    -- a line at every assignment
    pub forall_back : (l : Line) → is_exists l.prefix ≡ false → is_line d ps l ≡ true → EachOf Q (instances (given.z d ob m h t io) rs c l.vars l.body) → all_true m (instances (given.z d ob m h t io) rs c l.vars l.body) ≡ true → line_true (given.w d ob m h t io) s args l ≡ true
    forall_back l e lt nf hl = ap (λ (b : Bool). cond b (list_any (λ vs. truth (given.w d ob m h t io) s args vs l.body) (tuples (given.w d ob m h t io) l.vars)) (list_all (λ vs. truth (given.w d ob m h t io) s args vs l.body) (tuples (given.w d ob m h t io) l.vars))) e ∙ instances_back l.vars l.body (line_typed d ps l lt) nf hl

    -- a requires line
    holds_back : rs ≡ at_stage [] → (l : Line) (own : List ℕ) → is_line d ps l ≡ true → HaveSorts sorts (chosen_vars l) own → EachOf Q (line_holds (given.z d ob m h t io) c l own) → all_true m (line_holds (given.z d ob m h t io) c l own) ≡ true → line_true (given.w d ob m h t io) s args l ≡ true
    holds_back e l own lt so nf hl = by_test (is_exists l.prefix) so (subst (λ (x : Readings). EachOf Q (holding x (is_exists l.prefix))) (sym e) nf) (subst (λ (x : Readings). all_true m (holding x (is_exists l.prefix)) ≡ true) (sym e) hl)
      where
        holding : Readings → Bool → List Symbolic
        holding x b = cond b (formula x c own l.body ∷ []) (instances (given.z d ob m h t io) x c l.vars l.body)

        by_test : (b : Bool) → HaveSorts sorts (cond b l.vars []) own → EachOf Q (cond b (formula rs c own l.body ∷ []) (instances (given.z d ob m h t io) rs c l.vars l.body)) → all_true m (cond b (formula rs c own l.body ∷ []) (instances (given.z d ob m h t io) rs c l.vars l.body)) ≡ true
            → cond b (list_any (λ vs. truth (given.w d ob m h t io) s args vs l.body) (tuples (given.w d ob m h t io) l.vars)) (list_all (λ vs. truth (given.w d ob m h t io) s args vs l.body) (tuples (given.w d ob m h t io) l.vars)) ≡ true
        by_test true so nf hl = some_at (λ vs. truth (given.w d ob m h t io) s args vs l.body) (tuples (given.w d ob m h t io) l.vars) (map (given.val d ob m h t io) own) (is_in-tuples (given.w d ob m h t io) l.vars (map (given.val d ob m h t io) own) ∙ given.sorted_fit d ob m h t io l.vars own so)
            (true_alone _ _ (same l.vars own so l.body (line_typed d ps l lt) nf.0) hl)
        by_test false so nf hl = instances_back l.vars l.body (line_typed d ps l lt) nf hl

    pub lines_back : rs ≡ at_stage [] → (ls : List Line) (owns : List (List ℕ)) → list_all (is_line d ps) ls ≡ true → OwnSorted sorts (map chosen_vars ls) owns → EachOf Q (lines_hold (given.z d ob m h t io) c ls owns) → all_true m (lines_hold (given.z d ob m h t io) c ls owns) ≡ true → lines_true (given.w d ob m h t io) s args ls ≡ true
    lines_back e [] owns lt so nf hl = refl
    lines_back e (l ∷ ls) [] lt so nf hl = absurd so
    lines_back e (l ∷ ls) (own ∷ owns) lt so nf hl =
        let lt2 = and_parts (is_line d ps l) (list_all (is_line d ps) ls) lt in
        let here = line_holds (given.z d ob m h t io) c l own in
        let more = lines_hold (given.z d ob m h t io) c ls owns in
        and_from (line_true (given.w d ob m h t io) s args l) (lines_true (given.w d ob m h t io) s args ls) (holds_back e l own lt2.0 so.0 (of_left Q here more nf) (append_left m here more hl)) (lines_back e ls owns lt2.1 so.1 (of_right Q here more nf) (append_right m here more hl))

  -- ---- a formula at one caller and one stage
  pub same_truth : (ps : List Parameter) (c : Caller) (args : List ℤ) → StandsFor (o d ob m h t io) (given.val d ob m h t io) ps c args → ((p : ℕ) → is_number (slice_get ps p) ≡ true → m.int (argument c.call p) ≡ (o d ob m h t io).int (argument c.call p)) → NamesSorted d ob ps c
      → (k : Stage) (Q : Reading → Type 0) → ((x : Thing) (u : List ℕ) → Q (record { stage = k; thing = x; tuple = u }) → Same m (o d ob m h t io) k x u)
      → (vars vs : List ℕ) → HaveSorts sorts vars vs → (f : Form) → form_typed d ps vars f ≡ true → Each Q (readings (formula (at_stage k) c vs f))
      → is_true m (formula (at_stage k) c vs f) ≡ truth (given.w d ob m h t io) (state_at d (given.w d ob m h t io) (given.cs d ob m h t io) (given.r d ob m h t io) k) args (map (given.val d ob m h t io) vs) f
  same_truth ps c args sf ints named k Q agree vars vs so f ft nf =
      let fs = readings (formula (at_stage k) c vs f) in
      agree_form d sorts m (o d ob m h t io) (pair d ob m h t io) k ps c ints vars vs (named vars vs so) f ft
      (both_of (λ q. q.stage ≡ k) (Agreed m (o d ob m h t io)) fs (form_names (λ q. q.stage ≡ k) (at_stage k) (allows_stage (λ q. q.stage ≡ k) k (λ x t. refl)) c vs f) (at_stage_agrees m (o d ob m h t io) Q k agree fs nf))
      ∙ means d ob (given.w d ob m h t io) (given.r d ob m h t io) (given.cs d ob m h t io) (given.val d ob m h t io) (given.setting d ob m h t io) ps c args sf (at_stage k) (state_at d (given.w d ob m h t io) (given.cs d ob m h t io) (given.r d ob m h t io) k)
      (shows d ob (given.w d ob m h t io) (given.r d ob m h t io) (given.cs d ob m h t io) (given.val d ob m h t io) (given.setting d ob m h t io) k) vars vs f (have_length sorts vars vs so) ft
