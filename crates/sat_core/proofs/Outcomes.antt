use Rattle.std.proofs.Common.{◌≡◌, ℕ, zero, suc, ◌+◌, ◌-◌, ◌*◌, ◌^◌, ◌<◌, ◌≤◌, ℤ, Bool, true, false, ◌||◌, ◌==◌, ◌⊎◌, inl, inr, List, [], ◌∷◌, ◌++◌, length, map, get_or, refl, sym, ◌∙◌, ap, subst, arith, Option, Some, None, length-append, nat_lt}
use Rattle.std.specs.Prelude.{is_none}
use Rattle.std.specs.List.{list_any, list_all}
use Rattle.std.proofs.Math.Nat.{mul-le-mul_right}
use Rattle.lin_rows.specs.Rows.{Row}
use Rattle.proof_lines.specs.declared.clause.Lit.{Lit}
use Rattle.proof_lines.specs.declared.problem.AtomKind.{AtomKind}
use Rattle.proof_lines.specs.declared.problem.AtomKind.TheVariants.{Row as OfRow}
use Rattle.proof_lines.specs.declared.line.RowStep.{RowStep}
use Rattle.proof_lines.specs.declared.line.RangeWhat.{RangeWhat}
use Rattle.proof_lines.specs.declared.line.Line.{Line}
use Rattle.proof_lines.specs.declared.line.Line.TheVariants.{Split as SplitLine}
use Rattle.proof_lines.specs.Clauses.{same_lit, is_empty}
use Rattle.proof_lines.specs.Forced.{Forced}
use Rattle.proof_lines.specs.Problems.{PlainProblem, fits, names_below, atoms_below}
use Rattle.line_rows.specs.Splits.{at_most}
use Rattle.std.proofs.lemmas.Bool.{and_parts, or_cases, or_parts, eqb-true}
use Rattle.proof_lines.proofs.Sets.{same_lit-is}
use Rattle.theory_api.specs.Laws.{all_below, are_given, IsConflict, IsSplit, IsTooMany, IsBeyond}
use Rattle.theory_api.proofs.Standing.{lit_at}
use Rattle.sat_core.specs.declared.trail.Entry.{Entry}
use Rattle.sat_core.specs.Trails.{in_trail, is_assigned, is_false, is_unit, has_decision, Settled, NoneFalse, IsStep}
use Rattle.sat_core.specs.Forcing.{AreRefuted}
use Rattle.sat_core.specs.SearchLogs.{none, with_row}
use Rattle.sat_core.proofs.Free.{free-top, free-falls}
use Rattle.sat_core.proofs.Forcing.{refuted_none, unit_forced, unit_parts}
use Rattle.sat_core.proofs.Taken.{farkas_taken}
use Rattle.sat_core.proofs.Valued.{stand-of}
use Rattle.sat_core.specs.declared.checking.Outcome.{Outcome}
use Rattle.sat_core.specs.declared.checking.Outcome.TheVariants.{Continue, Refuted, Found, BudgetExhausted, Rows, Range, Memory}
use Rattle.sat_core.specs.declared.analyzing.Analyzed.{Analyzed}
use Rattle.sat_core.specs.declared.analyzing.Analyzed.TheVariants.{Empty, Cut, BudgetExhausted as ExhaustedThere, Memory as NoMemory}
use Rattle.sat_core.specs.Answers.{AreRowsOf, IsExhausted, IsTooLong, IsTooLarge}
use Rattle.sat_core.specs.declared.state.SearchState.{SearchState}
use Rattle.sat_core.specs.Searching.{with_trail, Aim, Keeps, InSearch, InChain, IsRowAssignment, IsAnalyzed, IsLearned, IsRefutation, work}
use Rattle.sat_core.specs.Outcomes.{IsOutcome, IsPushed, outcome_of, IfContinue, IsStay, IsSplitOff}
use Rattle.sat_core.proofs.Keeping.{clause-below, keeps_first}
use Rattle.sat_core.proofs.Ends.{search_exhausts}
use Rattle.sat_core.proofs.Resolving.{state-so}
use Rattle.sat_core.proofs.Checked.{none_false, stand-places, given-lits, picked_in, uneasy_given, search_splits, too_long, too_large}

-- What a step of a search comes to.

-- WHAT IS LEFT TO DO.

few_splits : (a : Aim) (budget : ℕ) (q : PlainProblem) (ls : List Line) → Keeps a budget q ls → length q.atoms ≤ length a.problem.atoms + budget
few_splits a budget q ls k = let c = k.clause_count in let f = k.first.long in let n = k.atom_count in let r = k.room in omega (arith, c, f, n, r)

pub work-line : (a : Aim) (budget : ℕ) (s r : SearchState) → Keeps a budget r.grown r.log → length s.log < length r.log → work a budget r < work a budget s
work-line a budget s r k h =
    let n : ℕ = length a.problem.atoms + budget + 1 in
    let m = k.room in
    let x : (budget - length r.log) + 1 ≤ budget - length s.log = omega (arith, m, h) in
    let b = mul-le-mul_right n x in
    let c : ((budget - length r.log) + 1) * n ≡ (budget - length r.log) * n + n = grind arith in
    let d = free-top (length r.grown.atoms) r.trail in
    let f = few_splits a budget r.grown r.log k in omega (arith, b, c, d, f)

pub work-atom : (a : Aim) (budget : ℕ) (s : SearchState) (e : Entry) → e.lit.atom < length s.grown.atoms → is_assigned s.trail e.lit.atom ≡ false → work a budget (with_trail s (e ∷ s.trail)) < work a budget s
work-atom a budget s e h k = let f = free-falls (length s.grown.atoms) e s.trail h k in omega arith

-- THE FIRST TRAIL, AND ONE MORE LITERAL.

pub search_begins : (a : Aim) (budget : ℕ) → fits a.problem ≡ true → length a.problem.clauses < 2 ^ 32 → length a.problem.atoms < 2 ^ 32 → list_any is_empty a.problem.clauses ≡ false → InSearch a budget (record { grown = a.problem; trail = []; log = [] })
search_begins a budget f cs ks h = record {
  keeps = keeps_first a budget f cs ks;
  trail = tt;
  calm = λ k l. full a.problem.clauses h k l;
  below = λ x k. absurd cc;
  search = none;
  early = λ r. (refl, refl, refl);
  easy = λ r. (refl, refl, λ d l k. absurd cc);
}
  where
    full_one : (c : List Lit) → is_empty c ≡ false → is_false [] c ≡ false
    full_one [] h = absurd cc
    full_one (l ∷ c) h = refl

    full : (cs : List (List Lit)) → list_any is_empty cs ≡ false → (k : ℕ) → k < length cs → is_false [] (get_or cs k []) ≡ false
    full [] h k l = absurd (omega arith)
    full (c ∷ cs) h zero l = full_one c (or_parts (is_empty c) (list_any is_empty cs) h).0
    full (c ∷ cs) h (suc k) l = full cs (or_parts (is_empty c) (list_any is_empty cs) h).1 k (omega arith)

pub search_pushes : (a : Aim) (budget : ℕ) (s : SearchState) (e : Entry) → InSearch a budget s → NoneFalse s.trail s.grown.clauses → is_assigned s.trail e.lit.atom ≡ false → e.lit.atom < length s.grown.atoms → IsStep s.grown.clauses s.trail e.lit e.reason → InSearch a budget (with_trail s (e ∷ s.trail))
search_pushes a budget s e x n u b w = record {
  keeps = x.keeps;
  trail = (u, w, x.trail);
  calm = n;
  below = λ y h. elim (or_cases (e.lit.atom == y) (is_assigned s.trail y) h) [ inl k ↦ subst (λ (z : ℕ). z < length s.grown.atoms) (eqb-true e.lit.atom y k) b | inr k ↦ x.below y k ];
  search = x.search;
  early = λ r. (let y = x.early r in (pushed_early r (e.reason) w y, y.1, y.2));
  easy = λ r. (let y = x.easy r in (y.0, y.1, λ d l h. pushed_easy e.reason w y d l (or_cases (same_lit e.lit l) (in_trail s.trail l) h)));
}
  where
    pushed_early : AreRefuted a.problem.clauses → (r : Option ℕ) → IsStep s.grown.clauses s.trail e.lit r → (has_decision s.trail ≡ false) × (s.log ≡ []) × (s.grown.clauses ≡ a.problem.clauses) → (is_none r || has_decision s.trail) ≡ false
    pushed_early h None w y = absurd (refuted_none a.problem.clauses s.trail h (subst (λ (c : List (List Lit)). Settled s.trail c) y.2 w) (subst (λ (c : List (List Lit)). NoneFalse s.trail c) y.2 n))
    pushed_early h (Some r) w y = y.0

    pushed_easy : (r : Option ℕ) → IsStep s.grown.clauses s.trail e.lit r → (s.log ≡ []) × (s.grown.clauses ≡ a.problem.clauses) × (has_decision s.trail ≡ false → (l : Lit) → in_trail s.trail l ≡ true → Forced a.problem.clauses l) → (is_none r || has_decision s.trail) ≡ false → (l : Lit) → (same_lit e.lit l ≡ true) ⊎ (in_trail s.trail l ≡ true) → Forced a.problem.clauses l
    pushed_easy None w y d l h = absurd cc
    pushed_easy (Some r) w y d l (inr h) = y.2 d l h
    pushed_easy (Some r) w y d l (inl h) =
        let v = subst (λ (c : List (List Lit)). (r < length c) × (is_unit s.trail (get_or c r []) e.lit ≡ true)) y.1 w in
        subst (λ (z : Lit). Forced a.problem.clauses z) (same_lit-is e.lit l h) (unit_forced a.problem.clauses s.trail r e.lit v.0 v.1 (y.2 d))

abbrev pub aim_of : PlainProblem → Bool → Aim
aim_of p split = record { problem = p; split = split }

pub pushed-outcome : (o : Outcome) (a : Aim) (stop : Bool) (budget : ℕ) (s : SearchState) (l : Lit) (reason : Option ℕ) (u : List Entry) → InSearch a budget s → NoneFalse s.trail s.grown.clauses
    → is_assigned s.trail l.atom ≡ false → l.atom < length s.grown.atoms → IsStep s.grown.clauses s.trail l reason → IsPushed o s.trail l reason u → IsOutcome o a stop budget s (with_trail s u)
pushed-outcome Continue a stop budget s l reason u x n f b w h =
    subst (λ (z : List Entry). InSearch a budget (with_trail s z) × (work a budget (with_trail s z) < work a budget s)) (sym h)
    (search_pushes a budget s (record { lit = l; reason = reason }) x n f b w, work-atom a budget s (record { lit = l; reason = reason }) b f)
pushed-outcome Memory a stop budget s l reason u x n f b w h = tt
pushed-outcome Refuted a stop budget s l reason u x n f b w h = absurd h
pushed-outcome (Found i) a stop budget s l reason u x n f b w h = absurd h
pushed-outcome BudgetExhausted a stop budget s l reason u x n f b w h = absurd h
pushed-outcome (Rows used steps) a stop budget s l reason u x n f b w h = absurd h
pushed-outcome (Range used steps what) a stop budget s l reason u x n f b w h = absurd h

pub forced-step : (a : Aim) (budget : ℕ) (s : SearchState) (r : ℕ) (l : Lit) → InSearch a budget s → (r < length s.grown.clauses) × (is_unit s.trail (get_or s.grown.clauses r []) l ≡ true) × NoneFalse s.trail s.grown.clauses → (is_assigned s.trail l.atom ≡ false) × (l.atom < length s.grown.atoms)
forced-step a budget s r l x h = let u = unit_parts s.trail (get_or s.grown.clauses r []) l h.1 in (u.1, clause-below s.grown x.keeps.fits r l h.0 u.0)

-- CONFLICTS.

pub analyzed-outcome : (e : Analyzed) (a : Aim) (stop : Bool) (budget : ℕ) (s : SearchState) (i : ℕ) (r : SearchState) → InChain a budget (length s.log) s i → IsAnalyzed e budget s i r → IsOutcome (outcome_of e) a stop budget s r
analyzed-outcome Empty a stop budget s i r x h = h a (length s.log) x
analyzed-outcome Cut a stop budget s i r x h = let y = h a (length s.log) x in (y.0, work-line a budget s r y.0.keeps y.1)
analyzed-outcome ExhaustedThere a stop budget s i r x h = h a (length s.log) x
analyzed-outcome NoMemory a stop budget s i r x h = tt

pub learned-outcome : (e : Analyzed) (a : Aim) (stop : Bool) (budget : ℕ) (s r : SearchState) → InSearch a budget s → IsLearned e budget s r → IsOutcome (outcome_of e) a stop budget s r
learned-outcome Empty a stop budget s r x h = h a x
learned-outcome Cut a stop budget s r x h = let y = h a x in (y.0, work-line a budget s r y.0.keeps y.1)
learned-outcome ExhaustedThere a stop budget s r x h = h a x
learned-outcome NoMemory a stop budget s r x h = tt

pub learned-stays : (e : Analyzed) (a : Aim) (budget : ℕ) (s r : SearchState) → InSearch a budget s → IsLearned e budget s r → IfContinue (outcome_of e) (IsStay s r)
learned-stays Empty a budget s r x h = tt
learned-stays Cut a budget s r x h = inr (h a x).2
learned-stays ExhaustedThere a budget s r x h = tt
learned-stays NoMemory a budget s r x h = tt

-- ASKING.

pub places-so : (q : PlainProblem) (t : List Entry) (k : ℕ) (lits : List Lit) (rows rows2 : List Row) (ints : ℕ) → fits q ≡ true → IsRowAssignment q.atoms t k lits rows → rows2 ≡ rows → ints ≡ q.ints → all_below ints rows2 ≡ true
places-so q t k lits rows rows2 ints f d e i =
    let p = and_parts (list_all (names_below q.ints) q.atoms) (list_all (atoms_below (length q.atoms)) q.clauses) f in
    (λ j. all_below (i j) (e j)) ∙ stand-places q.ints q.atoms lits rows p.0 (stand-of q.atoms lits rows d.stand)

pub takes-so : (split : Bool) (takes : List Row → ℕ → Type 0) (p : PlainProblem) (budget : ℕ) (s : SearchState) (k : ℕ) (lits : List Lit) (rows rows2 : List Row) (ints : ℕ)
    → (split ≡ true → (rows : List Row) (ints : ℕ) → all_below ints rows ≡ true → takes rows ints) → (split ≡ false → (lits : List Lit) (rows : List Row) → AreRowsOf p.atoms lits rows → takes rows p.ints)
    → InSearch (aim_of p split) budget s → IsRowAssignment s.grown.atoms s.trail k lits rows → rows2 ≡ rows → ints ≡ s.grown.ints → all_below ints rows2 ≡ true → takes rows2 ints
takes-so split takes p budget s k lits rows rows2 ints all some x d e i b = by_case split refl
  where
    by_case : (s : Bool) → split ≡ s → takes rows2 ints
    by_case true h = all h rows2 ints b
    by_case false h =
        let o = subst (λ (z : List AtomKind). AreRowsOf z lits rows) (x.keeps.unsplit h) d.stand in
        let y = some h lits rows o in
        subst (λ (n : ℕ). takes rows2 n) (sym (i ∙ x.keeps.ints)) (subst (λ (z : List Row). takes z p.ints) (sym e) y)

pub picks-so : (q : PlainProblem) (t : List Entry) (k : ℕ) (lits lits2 : List Lit) (rows : List Row) (used used2 : List ℕ) → IsRowAssignment q.atoms t k lits rows → are_given rows used ≡ true → lits2 ≡ lits → used2 ≡ used → list_all (λ u. nat_lt u (length lits2)) used2 ≡ true
picks-so q t k lits lits2 rows used used2 d g e f = (λ i. list_all (λ u. nat_lt u (length (e i))) (f i)) ∙ given-lits q.atoms lits rows used (stand-of q.atoms lits rows d.stand) g

module _ (a : Aim) (stop : Bool) (budget : ℕ) (s : SearchState) (lits : List Lit) (rows : List Row) (used : List ℕ) (used2 : List Lit) (x : InSearch a budget s) (w : Settled s.trail s.grown.clauses) (d : IsRowAssignment s.grown.atoms s.trail (length s.grown.atoms) lits rows) (g : are_given rows used ≡ true) (e : used2 ≡ map (lit_at lits) used) where
  pub refutation-so : (steps : List RowStep) → IsConflict rows used steps → IsRefutation budget s used2 steps
  refutation-so steps c = subst (λ (z : List Lit). IsRefutation budget s z steps) (sym e) (record {
    aim = a;
    search = x;
    settled = w;
    in_it = picked_in a budget s lits rows used x w d g;
    taken = λ given. farkas_taken given s.grown lits rows used steps (stand-of s.grown.atoms lits rows d.stand) c;
    uneasy = λ b y. uneasy_given b budget s lits rows used y w d g;
  })

  pub split-so : (place : ℕ) (at : ℤ) (steps : List RowStep) (low high : ℕ) (values : List ℤ) (r : SearchState) → IsSplit s.grown.ints rows place at used steps low high values → a.split ≡ true → length s.log < budget
      → (r.grown ≡ with_row s.grown (at_most place at)) × (r.trail ≡ s.trail) × (r.log ≡ s.log ++ SplitLine place at used2 steps low high values ∷ []) × (length r.grown.atoms < 2 ^ 32) → InSearch a budget r × (work a budget r < work a budget s)
  split-so place at steps low high values r c h room o =
      let m : length (s.grown.atoms ++ OfRow (at_most place at) ∷ []) ≡ length s.grown.atoms + 1 = length-append s.grown.atoms (OfRow (at_most place at) ∷ []) in
      let k : length (s.grown.atoms ++ OfRow (at_most place at) ∷ []) < 2 ^ 32 = subst (λ (z : PlainProblem). length z.atoms < 2 ^ 32) o.0 o.3 in
      let y = search_splits a budget s lits rows used x w d g place at steps low high values c (λ f. absurd cc) room (omega (arith, m, k)) in
      let log_is : r.log ≡ s.log ++ SplitLine place at (map (lit_at lits) used) steps low high values ∷ [] = o.2 ∙ ap (λ (z : List Lit). s.log ++ SplitLine place at z steps low high values ∷ []) e in
      let z = subst (λ (n : SearchState). InSearch a budget n) (sym (state-so r _ _ _ o.0 o.1 log_is)) y in
      let n : length r.log ≡ length s.log + 1 = ap (λ (z : List Line). length z) log_is ∙ length-append s.log (SplitLine place at (map (lit_at lits) used) steps low high values ∷ []) in
      (z, work-line a budget s r z.keeps (omega (arith, n)))

  pub splits-outcome : (o : Outcome) (place : ℕ) (at : ℤ) (steps : List RowStep) (low high : ℕ) (values : List ℤ) (r : SearchState) → IsSplit s.grown.ints rows place at used steps low high values → a.split ≡ true
      → IsSplitOff o budget s (at_most place at) (SplitLine place at used2 steps low high values) r → IsOutcome o a stop budget s r
  splits-outcome Continue place at steps low high values r c f h = split-so place at steps low high values r c f h.0 (h.1, h.2, h.3, h.4)
  splits-outcome Refuted place at steps low high values r c f h = absurd h
  splits-outcome (Found i) place at steps low high values r c f h = absurd h
  splits-outcome BudgetExhausted place at steps low high values r c f h =
      let z = search_exhausts a budget s x w (none_false s.grown.clauses s.trail w) h.0 (uneasy_given a budget s lits rows used x w d g) in
      subst (λ (n : SearchState). IsExhausted a.split a.problem budget n.log) (sym h.1) z
  splits-outcome (Rows taken ended) place at steps low high values r c f h = absurd h
  splits-outcome (Range taken ended what) place at steps low high values r c f h = absurd h
  splits-outcome Memory place at steps low high values r c f h = absurd h

  pub rows-so : (steps : List RowStep) → IsTooMany rows used steps → IsTooLong a.split a.problem budget (record { log = s.log; used = used2; steps = steps })
  rows-so steps c = subst (λ (z : List Lit). IsTooLong a.split a.problem budget (record { log = s.log; used = z; steps = steps })) (sym e) (too_long a budget s lits rows used x w d g steps c)

  pub range-so : (steps : List RowStep) (what : RangeWhat) → IsBeyond rows used steps what → IsTooLarge a.split a.problem budget (record { log = s.log; used = used2; steps = steps; what = what })
  range-so steps what c = subst (λ (z : List Lit). IsTooLarge a.split a.problem budget (record { log = s.log; used = z; steps = steps; what = what })) (sym e) (too_large a budget s lits rows used x w d g steps what c)

-- a Split line leaves trail and clauses as they were
pub splits-stay : (o : Outcome) (budget : ℕ) (s : SearchState) (row : Row) (line : Line) (r : SearchState) → IsSplitOff o budget s row line r → IfContinue o (IsStay s r)
splits-stay Continue budget s row line r h = inl (h.2, ap (λ (z : PlainProblem). z.clauses) h.1)
splits-stay Refuted budget s row line r h = tt
splits-stay (Found i) budget s row line r h = tt
splits-stay BudgetExhausted budget s row line r h = tt
splits-stay (Rows used steps) budget s row line r h = tt
splits-stay (Range used steps what) budget s row line r h = tt
splits-stay Memory budget s row line r h = tt
